-- The first of the login's chain goes.
use Rattle.std.proofs.Common.{arith}
use Rattle.tables.proofs.Slips.{one_gone}
use Rattle.tables.proofs.state.Tables.drop_slip.Goals as goal

pub returns : goal.returns
returns c =
    let t = c.args.self.now in
    one_gone t.entries t.slips c.pop_front.new.self c.index.result c.args.login.value _ c.index.ensures.place
    (omega (arith, c.facts.ensures.count, c.index.ensures.bound)) c.pop_front.ensures.oldest c.pop_front.ensures.left c.pop_front.ensures.places
