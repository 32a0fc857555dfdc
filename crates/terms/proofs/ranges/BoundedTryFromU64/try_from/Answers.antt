-- A number in its range is read as itself. Assumes nothing.
use Rattle.std.proofs.Common.{sym, ap, rules}
use Rattle.terms.specs.Ranges.{or_field}
use Rattle.terms.proofs.Reading.{read_inside}
use Rattle.terms.proofs.ranges.BoundedTryFromU64.try_from.Goals as goal

pub returns : goal.returns
returns g c =
    record { value = ap or_field (sym (read_inside g.row.LOW g.row.HIGH c.args.n _ _)); reads = search rules }
