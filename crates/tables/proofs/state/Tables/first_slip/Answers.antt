-- The first of the login's chain.
use Rattle.std.proofs.Common.{arith}
use Rattle.tables.proofs.Slips.{shown}
use Rattle.tables.proofs.state.Tables.first_slip.Goals as goal

pub returns : goal.returns
returns c =
    let t = c.args.self.now in
    shown t.entries t.slips c.index.result c.args.login.value _ c.index.ensures.place (omega (arith, c.facts.ensures.count, c.index.ensures.bound)) c.front.ensures
