-- What the questions and changes mean, on the list of one chain: p is a test, beats an order.
-- The items that meet p are filter p xs.
use Rattle.std.specs.Prelude.{◌≡◌, ℕ, ◌-◌, ◌^◌, min, Bool, true, false, cond, not, List, [], ◌∷◌, ◌++◌, length, Some, None, fold, filter, Option, slice_index_or}
use Rattle.std.specs.List.{IsFirstBest, AllByRecursion}

-- no item meets the test
abbrev pub NoneOf : {X : Type 0} → (X → Bool) → List X → Type 0
NoneOf p xs = AllByRecursion (λ x. p x ≡ false) xs

-- the first item
abbrev pub oldest : {X : Type 0} → List X → Option X
oldest [] = None
oldest (x ∷ xs) = Some x

-- the first item that meets the test becomes zs, and every other stays
abbrev pub first_becomes : {X : Type 0} → (X → Bool) → List X → List X → List X
first_becomes p zs [] = []
first_becomes p zs (x ∷ xs) = cond (p x) (zs ++ xs) (x ∷ first_becomes p zs xs)

-- what that means: the answer is the item, none before it meets the test, and of all items only it has changed; or none meets it
abbrev pub Became : {X : Type 0} → (X → Bool) → List X → List X → List X → Option X → Type 0
Became p zs before after None = NoneOf p before × (after ≡ before)
Became {X} p zs before after (Some x) = (ys : List X) × (us : List X) × (before ≡ ys ++ x ∷ us) × (after ≡ ys ++ (zs ++ us)) × NoneOf p ys × (p x ≡ true)

-- without the first item that meets the test
abbrev pub without_first : {X : Type 0} → (X → Bool) → List X → List X
without_first p xs = first_becomes p [] xs

-- y in the place of the first item that meets the test
abbrev pub replaced_first : {X : Type 0} → (X → Bool) → X → List X → List X
replaced_first p y xs = first_becomes p (y ∷ []) xs

-- without all the items that meet the test
abbrev pub without_all : {X : Type 0} → (X → Bool) → List X → List X
without_all p xs = filter (λ x. not (p x)) xs

-- of the best so far and the next item: the next one only if it is better
abbrev pub preferred : {X : Type 0} → (X → X → Bool) → Option X → X → Option X
preferred beats None x = Some x
preferred beats (Some y) x = Some (cond (beats x y) x y)

-- the best item, the first among equals
abbrev pub best : {X : Type 0} → (X → X → Bool) → List X → Option X
best beats xs = fold (preferred beats) None xs

-- a best item that is first among its equals: none is better, and it is better than each before it
abbrev pub Leads : {X : Type 0} → (X → X → Bool) → List X → Option X → Type 0
Leads beats xs None = xs ≡ []
Leads beats xs (Some y) = (i : ℕ) × IsFirstBest beats xs (length xs) i × (slice_index_or xs i y ≡ y)

-- a sum as a u64 has it: the largest number stands for every sum above it
abbrev pub saturated : ℕ → ℕ
saturated n = min n (2 ^ 64 - 1)
