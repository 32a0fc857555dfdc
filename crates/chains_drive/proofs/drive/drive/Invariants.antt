-- The chains stay over the same places.
use Rattle.std.proofs.Common.{◌≡◌}
use Rattle.chains.specs.Lists.{places}
use Rattle.chains_drive.proofs.drive.drive.Given as goal

abbrev pub invariant-loop-serial : goal.invariant-loop-serial
invariant-loop-serial g l = places l.pair.chains ≡ places l.initial.pair.chains
