-- The makers passed so far have no share; what those ahead have falls.
use Rattle.tables.specs.Held.{resting_of}
use Rattle.size_market.proofs.Passing.{Moved}
use Rattle.size_market.proofs.strikes.next_due.Given as goal

abbrev pub invariant-loop-maker : goal.invariant-loop-maker
invariant-loop-maker l = Moved (resting_of l.tables) l.round l.passed l.rest

abbrev pub decreases-loop-maker : goal.decreases-loop-maker
decreases-loop-maker l = l.rest
