-- The best of the series on its side.
use Rattle.std.proofs.Common.{◌∙◌, arith}
use Rattle.chains.specs.Lists.{lists}
use Rattle.terms.specs.Kinds.{side_number}
use Rattle.tables.specs.Cross.{beats, on_side}
use Rattle.tables.proofs.Meeting.{best_in, best_by_side}
use Rattle.tables.proofs.state.Tables.best.Goals as goal

pub returns : goal.returns
returns c =
    best_in (beats c.args.side) (on_side (side_number c.args.side)) (lists c.args.self.now.entries) c.index.result c.args.series.value _ c.index.ensures.place
    (omega (arith, c.facts.ensures.count, c.index.ensures.bound)) c.best.ensures.best
    ∙ best_by_side c.args.side _
