-- An item that was appended is one item more in all.
use Rattle.std.proofs.Common.{◌<◌, length, ap, ◌∙◌, arith}
use Rattle.chains.specs.Lists.{lists, total}
use Rattle.chains.proofs.Totals.{lists_count, total_appended}
use Rattle.chains_drive.proofs.drive.Pair.fill.Goals as goal

pub loop-n-preserved : goal.loop-n-preserved
loop-n-preserved g c =
    let s = c.loop-n.self.chains in
    let lt : c.args.k < length (lists s) = omega (arith, c.requires, lists_count s) in
    (c.in-Ok.ensures.places ∙ c.loop-n.invariant.0, omega (arith, c.loop-n.invariant.1, ap total c.in-Ok.ensures.pushed ∙ total_appended (lists s) c.args.k c.args.item lt))
