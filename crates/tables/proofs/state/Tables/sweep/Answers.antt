-- What is taken off is of one login.
use Rattle.std.proofs.Common.{arith}
use Rattle.terms.specs.Kinds.{reach_number}
use Rattle.market.specs.Book.{in_reach}
use Rattle.tables.proofs.Books.{in_reach_login}
use Rattle.tables.proofs.Less.{Less, taken}
use Rattle.tables.proofs.state.Tables.sweep.Goals as goal
use Rattle.tables.proofs.state.Tables.sweep.Goals.{After-take_off}

off : (c : goal.After-take_off) → Less (in_reach c.args.login.value (reach_number c.args.reach)) c.args.self.now.entries c.take_off.new.entries c.args.self.now.slips c.take_off.result
off c =
    let t = c.args.self.now in
    taken (in_reach c.args.login.value (reach_number c.args.reach)) c.args.login.value (in_reach_login c.args.login.value (reach_number c.args.reach))
    t.entries c.take_off.new.entries t.slips c.take_off.result t.few t.apart c.take_off.ensures.sum c.take_off.ensures.left

pub invariant_of-self-clause-few : goal.invariant_of-self-clause-few
invariant_of-self-clause-few c = (off c).few

pub invariant_of-self-clause-apart : goal.invariant_of-self-clause-apart
invariant_of-self-clause-apart c = (off c).apart

pub overflow_cast-result : goal.overflow_cast-result
overflow_cast-result c = omega (arith, (off (goal.at.overflow_cast-result c).After-take_off).bound)

pub returns : goal.returns
returns c = let d = off (goal.at.returns c).After-take_off in record { swept = (d.sum, d.left); bound = d.bound }
