-- The reduction of the filtered walk is the best; under an order that ranks it is first among equals.
use Rattle.std.proofs.Common.{filter, ap, ◌∙◌, rules, tests}
use Rattle.std.proofs.lemmas.Iterator.Consumers.{YieldsList-from_filter, YieldsList-from_copied, YieldsList-at}
use Rattle.chains.specs.Asks.{best}
use Rattle.chains.proofs.Questions.{better, best_leads, reduced_best}
use Rattle.chains.proofs.Reduce.{reduced}
use Rattle.chains.proofs.Walk.{yields}
use Rattle.chains.proofs.table.Chains.best.Goals as goal

pub returns : goal.returns
returns g c =
    let b = g.O.Order.better c.args.order.now in
    let p = g.P.Test.meets c.args.test.now in
    let e = reduced _ (better b) _ _ c.reduce.ensures.ran
    (YieldsList-from_filter _ p (YieldsList-at c.filter.ensures.source (YieldsList-from_copied (YieldsList-at c.copied.ensures.source (yields c.walk.result)))) c.filter.ensures.closure (λ x r q k. search (rules, tests)))
    (λ a x r q k. search (rules, tests))
    ∙ reduced_best b _ ∙ ap (λ v. best b (filter p v)) c.walk.ensures.along in
    record { best = e; leads = λ o. best_leads b o _ _ e }
