-- A walk along one chain: what it has left, and one step of it.
use Rattle.std.specs.Prelude.{◌≡◌, ℕ, ◌<◌, List, [], ◌∷◌, Option, MatchOption, slice_index}
use denote.Ref.{Bor}
use Rattle.chains.specs.declared.slots.Slot.{Slot}
use Rattle.chains.specs.declared.walks.Walk.{Walk}
use Rattle.chains.specs.Slots.{nexts, items}
use Rattle.chains.specs.Chain.{at, items_from}

-- the items that a walk has left
abbrev pub left : {X : Type 0} → Walk X → List X
left w = items_from (nexts w.table.now) (items w.table.now) w.next

-- a walk that begins at place h
pub record Starts {X : Type 0} (w : Walk X) (slots : List (Slot X)) (h : ℕ) : Type 0 where
  pub table : w.table.now ≡ slots
  pub next : w.next ≡ h
  pub spot : w.spot.here ≡ 0

-- a walk comes from s to t by an item x that stands at its next place
pub record Passes {X : Type 0} (s : Walk X) (x : X) (t : Walk X) : Type 0 where
  pub some : 0 < s.next
  pub item : at (items s.table.now) s.next ≡ x ∷ []
  pub table : t.table.now ≡ s.table.now
  pub prev : t.spot.prev ≡ s.spot.here
  pub here : t.spot.here ≡ s.next
  pub next : t.next ≡ slice_index (nexts s.table.now) s.next

-- what one call of `next` does
abbrev pub Strides : {X : Type 0} → Walk X → Option (Bor X) → Walk X → Type 0
Strides s r t = MatchOption r ((s.next ≡ 0) × (t ≡ s)) (λ x. Passes s x.now t)
