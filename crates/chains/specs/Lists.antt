-- What the chains hold: the list of each, oldest first, how many items together, and for how many there are places.
use Rattle.std.specs.Prelude.{◌≡◌, ℕ, ◌-◌, Bool, true, List, [], ◌∷◌, ◌++◌, length, sum_by, slice_index_or, slice_set, codes}
use Rattle.chains.specs.declared.table.Chains.{Chains}
use Rattle.chains.specs.Sound.{Parts, parts_of, listed}
use Rattle.chains.specs.Asks.{NoneOf}

abbrev pub parts : {X : Type 0} {N : ℕ} → Chains X N → Parts X
parts c = parts_of c.table.now c.ends c.free c.room

-- the items of each chain, oldest first
unfoldable pub lists : {X : Type 0} {N : ℕ} → Chains X N → List (List X)
lists c = listed (parts c)

-- how many items the chains can hold together: one for each place but place 0
unfoldable pub places : {X : Type 0} {N : ℕ} → Chains X N → ℕ
places c = length c.table.now - 1

-- how many items some lists have together
abbrev pub total : {X : Type 0} → List (List X) → ℕ
total ls = sum_by length ls

-- the lists with list k changed by f, and every other as it was
abbrev pub changed : {X : Type 0} → (List X → List X) → List (List X) → ℕ → List (List X)
changed f ls k = slice_set ls k (f (slice_index_or ls k []))

-- the lists with x at the end of list k
abbrev pub appended : {X : Type 0} → List (List X) → ℕ → X → List (List X)
appended ls k x = changed (λ xs. xs ++ x ∷ []) ls k

-- what was just appended is taken off again: where x was appended to old, and is the first item that meets p, old is what is left
abbrev pub Undoes : {X : Type 0} → (X → Bool) → ℕ → List (List X) → List (List X) → Type 0
Undoes {X} p k before after = (old : List (List X)) (x : X) → before ≡ appended old k x → NoneOf p (slice_index_or old k []) → p x ≡ true → after ≡ old

-- what is said of a table that has no place left
abbrev pub full_text : List ℕ
full_text = codes "no place is left"
