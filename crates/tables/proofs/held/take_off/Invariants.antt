-- The series passed are cleared, and their contracts added up.
use Rattle.std.proofs.Common.{◌≡◌, take}
use Rattle.chains.specs.Asks.{without_all, saturated}
use Rattle.chains.specs.Lists.{lists, places}
use Rattle.tables.specs.Tally.{weighed}
use Rattle.tables.proofs.Listed.{done_to}
use Rattle.tables.proofs.held.take_off.Given as goal

abbrev pub invariant-loop-k : goal.invariant-loop-k
invariant-loop-k g l =
    (l.sum ≡ saturated (weighed (λ e. e.contracts.value) (g.P.Test.meets l.test) (take l.k (lists l.initial.entries))))
    × (lists l.entries ≡ done_to (without_all (g.P.Test.meets l.test)) l.k (lists l.initial.entries))
    × (places l.entries ≡ places l.initial.entries)
