-- What the inner operations promise: a walk of one chain of the struct, a search along it, and a place taken off it.
use Rattle.std.specs.Prelude.{◌≡◌, ℕ, Bool, List, ◌++◌, slice_index, slice_set}
use Rattle.chains.specs.Slots.{nexts, items}
use Rattle.chains.specs.Chain.{items_from, Passed, Sought}
use Rattle.chains.specs.Sound.{Parts, listed}

-- a walk of chain k has come to the place here
abbrev pub Walked : {X : Type 0} → Parts X → ℕ → ℕ → ℕ → List X → Type 0
Walked c k prev here xs = Passed (nexts c.slots) (items c.slots) (slice_index c.heads k) prev here xs

-- a walk of chain k has come to the first place whose item meets the test p
abbrev pub Found : {X : Type 0} → (X → Bool) → Parts X → ℕ → ℕ → ℕ → Type 0
Found p c k prev here = Sought p (nexts c.slots) (items c.slots) (slice_index c.heads k) prev here

-- the items of a chain from the place here on
abbrev pub ahead : {X : Type 0} → Parts X → ℕ → List X
ahead c here = items_from (nexts c.slots) (items c.slots) here

-- the place after a place
abbrev pub after : {X : Type 0} → Parts X → ℕ → ℕ
after c here = slice_index (nexts c.slots) here

-- c is before with the item at the place here taken off chain k, of which a walk had passed the items xs: the walk can go on
pub record Unlinked {X : Type 0} (before c : Parts X) (k prev here : ℕ) (xs : List X) : Type 0 where
  pub holds : listed c ≡ slice_set (listed before) k (xs ++ ahead before (after before here))
  pub walked : Walked c k prev (after before here) xs
  pub same : ahead c (after before here) ≡ ahead before (after before here)
