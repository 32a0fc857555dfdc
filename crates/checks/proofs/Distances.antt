-- The distances grow with the reference, are at most 400, and class 3 has twice those of class 1. Assumes nothing.
use Rattle.std.proofs.Common.{◌≡◌, ℕ, zero, suc, ◌+◌, ◌<◌, ◌≤◌, Bool, true, ◌&&◌, T, leb, List, [], ◌∷◌, map, length, get_or, refl, ap, ◌∙◌, zero-le, le_trans, le_refl, le_of_suc-le-suc, not-suc-le-zero, arith, leb→le}
use Rattle.terms.specs.declared.kinds.Class.{Class}
use Rattle.terms.specs.declared.kinds.Class.TheVariants.{One, Two, Three, Four}
use Rattle.terms.specs.Ranges.{first_test, second_test}
use Rattle.checks.specs.LimitPrice.{tops, above, band, distances, distance, Scaled}

above_mono : (p q : ℕ) (ts : List ℕ) → p ≤ q → above p ts ≤ above q ts
above_mono p q [] h = zero-le
above_mono p q (t ∷ ts) h = let ih = above_mono p q ts h in grind arith

above_length : (p : ℕ) (ts : List ℕ) → above p ts ≤ length ts
above_length p [] = zero-le
above_length p (t ∷ ts) = let ih = above_length p ts in grind arith

-- none is below the one before it
abbrev rising : ℕ → List ℕ → Bool
rising low [] = true
rising low (x ∷ xs) = leb low x && rising x xs

at_least : (low : ℕ) (xs : List ℕ) → T (rising low xs) → (j : ℕ) → j < length xs → low ≤ get_or xs j 0
at_least low [] t j h = absurd (not-suc-le-zero h)
at_least low (x ∷ xs) t zero h = leb→le low x (first_test (leb low x) (rising x xs) t)
at_least low (x ∷ xs) t (suc j) h =
    le_trans (leb→le low x (first_test (leb low x) (rising x xs) t))
    (at_least x xs (second_test (leb low x) (rising x xs) t) j (le_of_suc-le-suc h))

rises : (low : ℕ) (xs : List ℕ) → T (rising low xs) → (i j : ℕ) → i ≤ j → j < length xs → get_or xs i 0 ≤ get_or xs j 0
rises low [] t i j h g = absurd (not-suc-le-zero g)
rises low (x ∷ xs) t zero zero h g = le_refl x
rises low (x ∷ xs) t zero (suc j) h g = at_least x xs (second_test (leb low x) (rising x xs) t) j (le_of_suc-le-suc g)
rises low (x ∷ xs) t (suc i) zero h g = absurd (not-suc-le-zero h)
rises low (x ∷ xs) t (suc i) (suc j) h g =
    rises x xs (second_test (leb low x) (rising x xs) t) i j (le_of_suc-le-suc h) (le_of_suc-le-suc g)

all_rise : (c : Class) → T (rising 0 (distances c)) × (length (distances c) ≡ 6)
all_rise One = (tt, refl)
all_rise Two = (tt, refl)
all_rise Three = (tt, refl)
all_rise Four = (tt, refl)

wider : (c : Class) (p q : ℕ) → p ≤ q → distance c p ≤ distance c q
wider c p q h =
    let inside : band q < length (distances c) = omega (arith, above_length q tops, (all_rise c).1) in
    rises 0 (distances c) (all_rise c).0 (band p) (band q) (above_mono p q tops h) inside

twice : (xs : List ℕ) (i : ℕ) → get_or (map (λ d. d + d) xs) i 0 ≡ get_or xs i 0 + get_or xs i 0
twice [] i = refl
twice (x ∷ xs) zero = refl
twice (x ∷ xs) (suc i) = twice xs i

double : (p : ℕ) → distance Three p ≡ distance One p + distance One p
double p = twice (distances One) (band p)

pub scaled : (c : Class) (p d : ℕ) → d ≡ distance c p → Scaled c p d
scaled c p d e = record { wider = λ q h. rw e (wider c q p h); double = λ one. e ∙ ap (λ k. distance k p) one ∙ double p }
