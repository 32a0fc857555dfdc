-- Tables numbered from 1: places that are none, and a change at one place alone. Assumes nothing.
use Rattle.std.proofs.Common.{◌≡◌, ℕ, zero, suc, ◌+◌, ◌<◌, ◌≤◌, List, [], ◌∷◌, length, get_or, set, sym, refl, ap, ◌∙◌, arith}
use Rattle.std.proofs.lemmas.List.{get_or_past, set_past, get_or_default}
use Rattle.terms.specs.Tables.{at, put}
use Rattle.checks.specs.Places.{numbered}

pub at_past : {X : Type 0} (d : X) (xs : List X) (n : ℕ) → (1 ≤ n → length xs < n) → at d xs n ≡ d
at_past d xs zero h = refl
at_past d xs (suc i) h = get_or_past xs i d (omega arith)

pub put_past : {X : Type 0} (xs : List X) (n : ℕ) (x : X) → (1 ≤ n → length xs < n) → put xs n x ≡ xs
put_past xs zero x h = refl
put_past xs (suc i) x h = set_past xs i x (omega arith)

-- what is read at the place i is the n-th, whatever stands for none
pub at_place : {X : Type 0} (d e : X) (xs : List X) (n i : ℕ) → n ≡ suc i → i < length xs → get_or xs i e ≡ at d xs n
at_place d e xs n i is lt = get_or_default xs i e d lt ∙ ap (at d xs) (sym is)

module _ {X : Type 0} (f : ℕ → X → X) where
  -- the n-th is changed by f, where there is one
  numbered_from : (a : ℕ) (xs : List X) (k : ℕ) (d : X) → k < length xs → get_or (numbered f a xs) k d ≡ f (a + k) (get_or xs k d)
  numbered_from a [] k d h = absurd (omega arith)
  numbered_from a (x ∷ xs) zero d h = let e : a ≡ a + 0 = omega arith in ap (λ n. f n x) e
  numbered_from a (x ∷ xs) (suc k) d h =
      let e : suc a + k ≡ a + suc k = omega arith in
      numbered_from (suc a) xs k d (omega arith) ∙ ap (λ n. f n (get_or xs k d)) e

  pub at_numbered : (xs : List X) (n : ℕ) (d : X) → 1 ≤ n → n ≤ length xs → at d (numbered f 1 xs) n ≡ f n (at d xs n)
  at_numbered xs zero d h g = absurd (omega arith)
  at_numbered xs (suc k) d h g = let e : 1 + k ≡ suc k = omega arith in numbered_from 1 xs k d (omega arith) ∙ ap (λ n. f n (get_or xs k d)) e

  pub length_numbered : (a : ℕ) (xs : List X) → length (numbered f a xs) ≡ length xs
  length_numbered a [] = refl
  length_numbered a (x ∷ xs) = let e = length_numbered (suc a) xs in omega arith

  module _ (w : ℕ) (others : (n : ℕ) (x : X) → 1 ≤ n → (w ≡ n → ⊥) → f n x ≡ x) where
    past : (a : ℕ) (xs : List X) → 1 ≤ a → w < a → numbered f a xs ≡ xs
    past a [] p h = refl
    past a (x ∷ xs) p h =
        ap (λ (y : X). y ∷ numbered f (suc a) xs) (others a x p (λ e. omega arith))
        ∙ ap (λ (ys : List X). x ∷ ys) (past (suc a) xs (omega arith) (omega arith))

    from : (a k : ℕ) (xs : List X) (d : X) → 1 ≤ a → w ≡ a + k → numbered f a xs ≡ set xs k (f w (get_or xs k d))
    from a k [] d p h = refl
    from a zero (x ∷ xs) d p h =
        let e : a ≡ w = omega arith in
        ap (λ n. f n x ∷ numbered f (suc a) xs) e ∙ ap (λ (ys : List X). f w x ∷ ys) (past (suc a) xs (omega arith) (omega arith))
    from a (suc k) (x ∷ xs) d p h =
        ap (λ (y : X). y ∷ numbered f (suc a) xs) (others a x p (λ e. omega arith))
        ∙ ap (λ (ys : List X). x ∷ ys) (from (suc a) k xs d (omega arith) (omega arith))

    placed : (v : ℕ) (xs : List X) (d : X) → w ≡ v → numbered f 1 xs ≡ put xs v (f w (at d xs v))
    placed zero xs d h = past 1 xs (omega arith) (omega arith)
    placed (suc k) xs d h = from 1 k xs d (omega arith) (omega arith)

    -- what leaves all but the w-th alone is one change at w
    pub numbered_at : (xs : List X) (d : X) → numbered f 1 xs ≡ put xs w (f w (at d xs w))
    numbered_at xs d = placed w xs d refl

pub numbered_same : {X : Type 0} (f : ℕ → X → X) → ((n : ℕ) (x : X) → f n x ≡ x) → (a : ℕ) (xs : List X) → numbered f a xs ≡ xs
numbered_same f h a [] = refl
numbered_same {X} f h a (x ∷ xs) = ap (λ (y : X). y ∷ numbered f (suc a) xs) (h a x) ∙ ap (λ (ys : List X). x ∷ ys) (numbered_same f h (suc a) xs)
