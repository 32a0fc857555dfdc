-- One chain of a table. Of every place the list nx has the next index, and the list its the item.
-- Place 0 is in no chain: index 0 says that there is no next place.
use Rattle.std.specs.Prelude.{◌≡◌, ℕ, zero, suc, ◌<◌, Bool, true, ◌⊎◌, List, [], ◌∷◌, ◌++◌, length, slice_index}
use Rattle.chains.specs.Asks.{NoneOf}

-- the places from h on, at most f of them
unfoldable pub walk : ℕ → List ℕ → ℕ → List ℕ
walk zero nx h = []
walk (suc f) nx zero = []
walk (suc f) nx (suc h) = suc h ∷ walk f nx (slice_index nx (suc h))

-- the places from h on: no chain has more than the table
abbrev pub places_from : List ℕ → ℕ → List ℕ
places_from nx h = walk (length nx) nx h

-- what stands at a place: one item, or none past the end
unfoldable pub at : {X : Type 0} → List X → ℕ → List X
at [] i = []
at (x ∷ xs) zero = x ∷ []
at (x ∷ xs) (suc i) = at xs i

-- the items at some places
unfoldable pub pick : {X : Type 0} → List X → List ℕ → List X
pick its [] = []
pick its (i ∷ is) = at its i ++ pick its is

-- the items from place h on
abbrev pub items_from : {X : Type 0} → List ℕ → List X → ℕ → List X
items_from nx its h = pick its (places_from nx h)

-- from h the next indexes lead through these places, and then to 0
abbrev pub Linked : List ℕ → ℕ → List ℕ → Type 0
Linked nx h [] = h ≡ 0
Linked nx h (i ∷ is) = (h ≡ i) × (0 < i) × (i < length nx) × Linked nx (slice_index nx i) is

-- from h the next indexes lead to 0
abbrev pub Chained : List ℕ → ℕ → Type 0
Chained nx h = Linked nx h (places_from nx h)

-- i is one of some places
abbrev pub In : ℕ → List ℕ → Type 0
In i [] = ⊥
In i (x ∷ xs) = (i ≡ x) ⊎ In i xs

-- the last of some places, 0 if there is none
abbrev pub last0 : List ℕ → ℕ
last0 [] = 0
last0 (i ∷ []) = i
last0 (i ∷ (j ∷ is)) = last0 (j ∷ is)

-- n, n - 1 and so on down to 1
abbrev pub down : ℕ → List ℕ
down zero = []
down (suc n) = suc n ∷ down n

-- a walk from h has come to the place here, 0 at the end; prev is the place before it, 0 if there is none, and xs are the items passed
pub record Passed {X : Type 0} (nx : List ℕ) (its : List X) (h prev here : ℕ) (xs : List X) : Type 0 where
  pub done : List ℕ
  pub split : places_from nx h ≡ done ++ places_from nx here
  pub before : prev ≡ last0 done
  pub holds : pick its done ≡ xs
  pub ahead : Chained nx here

-- a walk from h has come to the place here, whose item is the first that meets the test p
pub record Sought {X : Type 0} (p : X → Bool) (nx : List ℕ) (its : List X) (h prev here : ℕ) : Type 0 where
  pub passed : List X
  pub walked : Passed nx its h prev here passed
  pub missed : NoneOf p passed
  pub some : 0 < here
  pub met : (x : X) → at its here ≡ x ∷ [] → p x ≡ true
