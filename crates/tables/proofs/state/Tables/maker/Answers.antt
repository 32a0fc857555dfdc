-- The item after n others of the chain, in plain numbers.
use Rattle.std.proofs.Common.{arith}
use Rattle.chains.specs.Lists.{lists}
use Rattle.terms.specs.Kinds.{side_number}
use Rattle.tables.specs.Cross.{at_price}
use Rattle.tables.proofs.Makers.{nth_in}
use Rattle.tables.proofs.state.Tables.maker.Goals as goal

pub returns : goal.returns
returns c =
    nth_in (at_price (side_number c.args.side) c.args.price.value) (lists c.args.self.now.entries) c.index.result c.args.series.value c.args.n _ c.index.ensures.place
    (omega (arith, c.facts.ensures.count, c.index.ensures.bound)) c.nth_of.ensures
