-- Shares by size: R contracts given out over makers, oldest first, and the laws of it. Assumes nothing.
use Rattle.std.specs.Prelude.{◌≡◌, List, [], ◌∷◌, ◌++◌, ℕ, zero, suc, ◌+◌, ◌-◌, ◌*◌, ◌/◌, ◌≤◌, ◌<◌, length, get_or, drop, replicate}

-- the sum of a list
abbrev pub sum_of : List ℕ → ℕ
sum_of [] = 0
sum_of (x ∷ xs) = x + sum_of xs

-- R × c ÷ t, with a half rounded up; 0 where t is 0
unfoldable pub share : ℕ → ℕ → ℕ → ℕ
share r c t = (2 * (r * c) + t) / (2 * t)

-- each maker's share, of what is left, by its part of its own contracts and those after it
abbrev pub shares : ℕ → List ℕ → List ℕ
shares r [] = []
shares r (c ∷ cs) = share r c (c + sum_of cs) ∷ shares (r - share r c (c + sum_of cs)) cs

-- x before l, unless x is 0
abbrev pub put : ℕ → List ℕ → List ℕ
put zero l = l
put (suc n) l = suc n ∷ l

-- the list without its zeros
abbrev pub positive : List ℕ → List ℕ
positive [] = []
positive (x ∷ xs) = put x (positive xs)

-- ---- laws
abbrev pub SharesSum : Type 0
SharesSum = (r : ℕ) (cs : List ℕ) → r ≤ sum_of cs → sum_of (shares r cs) ≡ r

abbrev pub SharesWithin : Type 0
SharesWithin = (r : ℕ) (cs : List ℕ) → r ≤ sum_of cs → (k : ℕ) → get_or (shares r cs) k 0 ≤ get_or cs k 0

abbrev pub SharesLength : Type 0
SharesLength = (r : ℕ) (cs : List ℕ) → length (shares r cs) ≡ length cs

-- s is the first share above 0, and maker i's; left is what is left after it, and goes to the makers after i
abbrev pub First : ℕ → List ℕ → ℕ → ℕ → ℕ → Type 0
First r cs i s left =
    (i < length cs) × (0 < s) × (left ≡ r - s) × (shares r cs ≡ replicate i 0 ++ (s ∷ shares left (drop (suc i) cs)))

-- worked cases
abbrev pub SharesWorked : Type 0
SharesWorked =
    (shares 10 (10 ∷ 10 ∷ 10 ∷ []) ≡ 3 ∷ 4 ∷ 3 ∷ [])
    × (shares 1 (1 ∷ 1 ∷ 1 ∷ []) ≡ 0 ∷ 1 ∷ 0 ∷ [])
    × (shares 15 (30 ∷ 20 ∷ 10 ∷ []) ≡ 8 ∷ 5 ∷ 2 ∷ [])
    × (shares 15 (10 ∷ 20 ∷ 30 ∷ []) ≡ 3 ∷ 5 ∷ 7 ∷ [])
    × (shares 100 (50 ∷ 50 ∷ 50 ∷ []) ≡ 33 ∷ 34 ∷ 33 ∷ [])
