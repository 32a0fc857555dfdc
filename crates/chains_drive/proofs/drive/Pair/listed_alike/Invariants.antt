-- The chains stay over the same places.
use Rattle.std.proofs.Common.{◌≡◌}
use Rattle.chains.specs.Lists.{places}
use Rattle.chains_drive.proofs.drive.Pair.listed_alike.Given as goal

abbrev pub invariant-loop-entry : goal.invariant-loop-entry
invariant-loop-entry g l = places l.chains ≡ places l.initial.chains
