-- Counts and sums over the lists of a table. Assumes nothing.
use Rattle.std.specs.Prelude.{ℕ, Bool, List, length, sum_by, filter}

-- how many items meet p
abbrev pub tally : {X : Type 0} → (X → Bool) → List (List X) → ℕ
tally p ls = sum_by (λ xs. length (filter p xs)) ls

-- what the items that meet p weigh together
abbrev pub weighed : {X : Type 0} → (X → ℕ) → (X → Bool) → List (List X) → ℕ
weighed w p ls = sum_by (λ xs. sum_by w (filter p xs)) ls
