-- The filtered walk yields the items of the chain that meet the test.
use Rattle.std.proofs.Common.{length, filter, ap, ◌∙◌, rules, tests}
use Rattle.std.proofs.lemmas.Iterator.Consumers.{count_from_yields_List, YieldsList-from_filter, YieldsList-at}
use Rattle.chains.proofs.Walk.{yields}
use Rattle.chains.proofs.table.Chains.count_of.Goals as goal

pub returns : goal.returns
returns g c =
    count_from_yields_List _ _ c.count.ensures.ran
    (YieldsList-from_filter _ (g.P.Test.meets c.args.test.now) (YieldsList-at c.filter.ensures.source (yields c.walk.result)) c.filter.ensures.closure (λ x r q k. search (rules, tests)))
    ∙ ap (λ v. length (filter (g.P.Test.meets c.args.test.now) v)) c.walk.ensures.along
