-- The first that meets either test is the one that comes before the other.
use Rattle.std.proofs.Common.{◌||◌, sym, ap, ◌∙◌, arith}
use Rattle.chains.specs.Lists.{lists}
use Rattle.market.specs.Book.{Entry, is_for}
use Rattle.market.specs.Seen.{seen}
use Rattle.tables.specs.Held.{series_of}
use Rattle.tables.proofs.Meeting.{first_is, before_first, first_in}
use Rattle.tables.proofs.state.Tables.is_before.Goals as goal

pub returns-in-Some : goal.returns-in-Some
returns-in-Some c =
    let a = seen c.args.one in
    let b = seen c.args.other in
    let p = λ (e : Entry). is_for a.login a.number e || is_for b.login b.number e in
    let f = first_in p (lists c.args.self.now.entries) c.index.result c.args.series.value _ c.index.ensures.place (omega (arith, c.facts.ensures.count, c.index.ensures.bound)) c.in-Some.ensures in
    c.meets.ensures ∙ ap (first_is a) f ∙ sym (before_first a b (series_of c.args.self.now c.args.series))

pub returns-in-None : goal.returns-in-None
returns-in-None c =
    let a = seen c.args.one in
    let b = seen c.args.other in
    let p = λ (e : Entry). is_for a.login a.number e || is_for b.login b.number e in
    let f = first_in p (lists c.args.self.now.entries) c.index.result c.args.series.value _ c.index.ensures.place (omega (arith, c.facts.ensures.count, c.index.ensures.bound)) c.in-None.ensures in
    ap (first_is a) f ∙ sym (before_first a b (series_of c.args.self.now c.args.series))
