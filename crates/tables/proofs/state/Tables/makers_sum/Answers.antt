-- The sum of the chain is small enough to be exact.
use Rattle.std.proofs.Common.{arith}
use Rattle.chains.specs.Lists.{lists}
use Rattle.terms.specs.Kinds.{side_number}
use Rattle.tables.specs.Cross.{at_price}
use Rattle.tables.proofs.Makers.{sum_in}
use Rattle.tables.proofs.state.Tables.makers_sum.Goals as goal

pub returns : goal.returns
returns c =
    let t = c.args.self.now in
    let d = sum_in (at_price (side_number c.args.side) c.args.price.value) (lists t.entries) c.index.result c.args.series.value _ t.few c.index.ensures.place
    (omega (arith, c.facts.ensures.count, c.index.ensures.bound)) c.sum_of.ensures in
    record { sum = d.sum; bound = d.bound }
