-- Places in tables that are numbered from 1. Assumes nothing.
use Rattle.std.specs.Prelude.{◌≡◌, ℕ, suc, ◌<◌, ◌≤◌, List, [], ◌∷◌, Some, None, Option}

-- the place i from 0 of the n-th from 1, and none where a table of that length has no n-th
abbrev pub Placed : (n length : ℕ) → Option ℕ → Type 0
Placed n length None = 1 ≤ n → length < n
Placed n length (Some i) = (n ≡ suc i) × (i < length)

-- each changed by its number and itself, where the first has the number n
abbrev pub numbered : {X : Type 0} → (ℕ → X → X) → (n : ℕ) → List X → List X
numbered f n [] = []
numbered f n (x ∷ xs) = f n x ∷ numbered f (suc n) xs
