-- Tables numbered from 1, as logins, acronyms and series are, and tests and sums over lists. Assumes nothing.
use Rattle.std.specs.Prelude.{ℕ, zero, suc, ◌+◌, Bool, true, false, ◌&&◌, ◌||◌, List, [], ◌∷◌, slice_index_or, slice_set}

-- the n-th of a table, or d where there is none
abbrev pub at : {X : Type 0} → X → List X → ℕ → X
at d xs zero = d
at d xs (suc i) = slice_index_or xs i d

-- the same table with x for its n-th
abbrev pub put : {X : Type 0} → List X → ℕ → X → List X
put xs zero x = xs
put xs (suc i) x = slice_set xs i x

-- one of them passes the test
abbrev pub any_of : {X : Type 0} → (X → Bool) → List X → Bool
any_of p [] = false
any_of p (x ∷ xs) = p x || any_of p xs

-- all of the tests are passed
abbrev pub all_of : List Bool → Bool
all_of [] = true
all_of (b ∷ bs) = b && all_of bs

-- added up over 1 to n
abbrev pub up_to : ℕ → (ℕ → ℕ) → ℕ
up_to zero f = 0
up_to (suc n) f = f (suc n) + up_to n f
