-- As far as the walk has come, the items that meet the test are off, and fewer are ahead each turn.
use Rattle.std.proofs.Common.{◌≡◌, length}
use Rattle.chains.specs.Lists.{parts, places}
use Rattle.chains.specs.Steps.{ahead}
use Rattle.chains.proofs.Clear.{Cleared}
use Rattle.chains.proofs.table.Chains.remove_all.Given as goal

abbrev pub invariant-loop-here : goal.invariant-loop-here
invariant-loop-here g l =
    Cleared (g.P.Test.meets l.test) (g.W.Weight.weight l.weight) (parts l.initial.self) (parts l.self) l.k l.prev l.here l.sum
    × (places l.self ≡ places l.initial.self)

abbrev pub decreases-loop-here : goal.decreases-loop-here
decreases-loop-here g l = length (ahead (parts l.self) l.here)
