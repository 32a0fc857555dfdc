-- The filtered walk yields the items of the chain that meet the test.
use Rattle.std.proofs.Common.{drop, filter, sym, ap, ◌∙◌, rules, tests}
use Rattle.std.proofs.lemmas.Iterator.Consumers.{nth_from_yields_List, YieldsList-from_filter, YieldsList-at}
use Rattle.chains.specs.Asks.{oldest}
use Rattle.chains.proofs.Questions.{oldest_drop}
use Rattle.chains.proofs.Walk.{yields}
use Rattle.chains.proofs.table.Chains.nth_of.Goals as goal

pub returns : goal.returns
returns g c =
    let p = g.P.Test.meets c.args.test.now in
    c.copied.ensures ∙ nth_from_yields_List _ _ _ c.nth.ensures.ran
    (YieldsList-from_filter _ p (YieldsList-at c.filter.ensures.source (yields c.walk.result)) c.filter.ensures.closure (λ x r q k. search (rules, tests)))
    ∙ sym (oldest_drop c.args.n _) ∙ ap (λ v. oldest (drop c.args.n (filter p v))) c.walk.ensures.along
