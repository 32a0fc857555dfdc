-- The walk yields the list of the chain.
use Rattle.std.proofs.Common.{length, ap, ◌∙◌}
use Rattle.std.proofs.lemmas.Iterator.Consumers.{count_from_yields_List}
use Rattle.chains.proofs.Walk.{yields}
use Rattle.chains.proofs.table.Chains.count.Goals as goal

pub returns : goal.returns
returns g c = count_from_yields_List _ _ c.count.ensures.ran (yields c.walk.result) ∙ ap length c.walk.ensures.along
