-- Each turn of the fold adds the number of an item that meets the test.
use Rattle.std.proofs.Common.{◌+◌, sum_by, filter, ap, ◌∙◌, rules, tests}
use Rattle.std.proofs.lemmas.Iterator.Consumers.{fold_from_yields_List, YieldsList-from_filter, YieldsList-at}
use Rattle.chains.specs.Asks.{saturated}
use Rattle.chains.specs.Walks.{left}
use Rattle.chains.proofs.Questions.{sum_all}
use Rattle.chains.proofs.Walk.{yields}
use Rattle.chains.proofs.table.Chains.sum_of.Goals as goal

pub returns : goal.returns
returns g c =
    let w = g.W.Weight.weight c.args.weight.now in
    let p = g.P.Test.meets c.args.test.now in
    fold_from_yields_List _ (λ a x. saturated (a + w x)) 0 _ c.fold.ensures.ran
    (YieldsList-from_filter _ p (YieldsList-at c.filter.ensures.source (yields c.walk.result)) c.filter.ensures.closure (λ x r q k. search (rules, tests)))
    (λ a x b q k. search (rules, tests))
    ∙ sum_all w (filter p (left c.walk.result)) ∙ ap (λ v. saturated (sum_by w (filter p v))) c.walk.ensures.along
