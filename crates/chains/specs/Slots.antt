-- The two lists in a table: the next index of every place, and its item.
use Rattle.std.specs.Prelude.{ℕ, List, map}
use Rattle.chains.specs.declared.slots.Slot.{Slot}

abbrev pub nexts : {X : Type 0} → List (Slot X) → List ℕ
nexts xs = map (λ s. s.next) xs

abbrev pub items : {X : Type 0} → List (Slot X) → List X
items xs = map (λ s. s.item) xs
