-- In use, at 16, or one more.
use Rattle.std.proofs.Common.{eqb, arith}
use Rattle.chains.specs.Lists.{lists}
use Rattle.market.specs.Book.{is_for}
use Rattle.market.specs.Seen.{seen}
use Rattle.tables.specs.Held.{book_of}
use Rattle.tables.proofs.Listed.{counts_seen}
use Rattle.tables.proofs.Rest.{More, in_use, at_16, room_for, one_more}
use Rattle.tables.proofs.state.Tables.rest.Goals as goal
use Rattle.tables.proofs.state.Tables.rest.Goals.{After-append}

pub returns-then-used-gt0 : goal.returns-then-used-gt0
returns-then-used-gt0 c =
    let x = c.args.entry in
    let n = counts_seen (is_for x.login.value x.number.value) (lists c.args.self.now.entries) in
    in_use (book_of c.args.self.now) c.args.series.value (seen x) (omega (arith, n, c.count_of-used.ensures, c.if-used-gt0.true))

pub returns-then-resting-ge-ALLOTMENT : goal.returns-then-resting-ge-ALLOTMENT
returns-then-resting-ge-ALLOTMENT c =
    let x = c.args.entry in
    let n = counts_seen (is_for x.login.value x.number.value) (lists c.args.self.now.entries) in
    let m = counts_seen (λ e. eqb e.login x.login.value) (lists c.args.self.now.entries) in
    at_16 (book_of c.args.self.now) c.args.series.value (seen x) (omega (arith, n, c.count_of-used.ensures, c.if-used-gt0.false))
    (omega (arith, m, c.count_of-resting.ensures, c.if-resting-ge-ALLOTMENT.true))

pub append-requires : goal.append-requires
append-requires c =
    let t = c.args.self.now in
    let x = c.args.entry in
    let m = counts_seen (λ e. eqb e.login x.login.value) (lists t.entries) in
    let room = room_for t.entries x t.few t.room (omega (arith, m, c.count_of-resting.ensures, c.if-resting-ge-ALLOTMENT.false)) in
    (omega arith, (omega (arith, c.index.ensures.bound), room))

more : (c : goal.After-append) → More c.args.self.now.entries c.append.new.chains c.args.self.now.slips c.args.series.value c.args.entry
more c =
    let t = c.args.self.now in
    let x = c.args.entry in
    let n = counts_seen (is_for x.login.value x.number.value) (lists t.entries) in
    let m = counts_seen (λ e. eqb e.login x.login.value) (lists t.entries) in
    one_more t.entries c.append.new.chains t.slips c.index.result c.args.series.value x t.few t.apart c.index.ensures.place
    (omega (arith, c.facts.ensures.count, c.index.ensures.bound)) (omega (arith, n, c.count_of-used.ensures, c.if-used-gt0.false))
    (omega (arith, m, c.count_of-resting.ensures, c.if-resting-ge-ALLOTMENT.false)) c.append.ensures.appended

pub invariant_of-self-clause-few : goal.invariant_of-self-clause-few
invariant_of-self-clause-few c = (more c).few

pub invariant_of-self-clause-apart : goal.invariant_of-self-clause-apart
invariant_of-self-clause-apart c = (more c).apart

pub returns : goal.returns
returns c = (more (goal.at.returns c).After-append).does
