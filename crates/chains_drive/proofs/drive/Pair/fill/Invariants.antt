-- As many items are in as were appended, over the same places.
use Rattle.std.proofs.Common.{◌≡◌, ◌+◌}
use Rattle.chains.specs.Lists.{lists, total, places}
use Rattle.chains_drive.proofs.drive.Pair.fill.Given as goal

abbrev pub invariant-loop-n : goal.invariant-loop-n
invariant-loop-n g l = (places l.self.chains ≡ places l.initial.self.chains) × (l.n + total (lists l.initial.self.chains) ≡ total (lists l.self.chains))
