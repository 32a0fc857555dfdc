-- The first item that the walk yields is the first of the list.
use Rattle.std.proofs.Common.{ap, ◌∙◌}
use Rattle.chains.specs.Asks.{oldest}
use Rattle.chains.proofs.Walk.{yields_first}
use Rattle.chains.proofs.table.Chains.front.Goals as goal

pub returns : goal.returns
returns g c = c.copied.ensures ∙ yields_first _ _ _ c.next.ensures.steps ∙ ap oldest c.walk.ensures.along
