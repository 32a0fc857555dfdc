-- Not there, or taken off.
use Rattle.std.proofs.Common.{arith}
use Rattle.chains.specs.Lists.{lists}
use Rattle.market.specs.Book.{is_for}
use Rattle.tables.specs.Held.{book_of}
use Rattle.tables.proofs.Listed.{counts_seen}
use Rattle.tables.proofs.Books.{is_for_login}
use Rattle.tables.proofs.Less.{Less, taken, none_found, one_found}
use Rattle.tables.proofs.state.Tables.withdraw.Goals as goal
use Rattle.tables.proofs.state.Tables.withdraw.Goals.{After-take_off}

pub returns-then-found-eq0 : goal.returns-then-found-eq0
returns-then-found-eq0 c =
    let n = counts_seen (is_for c.args.login.value c.args.number.value) (lists c.args.self.now.entries) in
    none_found (book_of c.args.self.now) c.args.login.value c.args.number.value (omega (arith, n, c.count_of-found.ensures, c.if-found-eq0.true))

off : (c : goal.After-take_off) → Less (is_for c.args.login.value c.args.number.value) c.args.self.now.entries c.take_off.new.entries c.args.self.now.slips c.take_off.result
off c =
    let t = c.args.self.now in
    taken (is_for c.args.login.value c.args.number.value) c.args.login.value (is_for_login c.args.login.value c.args.number.value)
    t.entries c.take_off.new.entries t.slips c.take_off.result t.few t.apart c.take_off.ensures.sum c.take_off.ensures.left

pub invariant_of-self-clause-few : goal.invariant_of-self-clause-few
invariant_of-self-clause-few c = (off c).few

pub invariant_of-self-clause-apart : goal.invariant_of-self-clause-apart
invariant_of-self-clause-apart c = (off c).apart

pub overflow_cast-result : goal.overflow_cast-result
overflow_cast-result c = omega (arith, (off (goal.at.overflow_cast-result c).After-take_off).bound)

pub returns : goal.returns
returns c =
    let n = counts_seen (is_for c.args.login.value c.args.number.value) (lists c.args.self.now.entries) in
    let d = off (goal.at.returns c).After-take_off in
    one_found (book_of c.args.self.now) _ c.args.login.value c.args.number.value _ (omega (arith, n, c.count_of-found.ensures, c.if-found-eq0.false)) d.sum d.left
