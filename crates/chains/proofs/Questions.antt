-- The questions and changes of one list: what an item more at its front or in its middle does to them.
use Rattle.std.proofs.Common.{◌≡◌, ℕ, zero, suc, ◌+◌, ◌-◌, ◌^◌, ◌<◌, Bool, true, false, cond, List, [], ◌∷◌, ◌++◌, length, get_or, drop, Some, None, fold, sum_by, filter, Option, sym, refl, ap, ◌∙◌, subst, ⊎_elim, arith}
use Rattle.std.specs.Cmp.{IsStrictWeakOrder}
use Rattle.std.specs.List.{best_of, slice_get, reduce}
use Rattle.std.proofs.lemmas.List.MinMax.{IsFirstBest-from_best_of}
use Rattle.std.proofs.lemmas.List.{get_or_default}
use Rattle.std.proofs.lemmas.List.Sums.{sum_by-cons}
use Rattle.std.proofs.lemmas.Bool.{cond-true, cond-false, cases_Bool}
use Rattle.chains.specs.Asks.{NoneOf, oldest, first_becomes, Became, preferred, best, Leads, saturated}

pub kept_yes : {X : Type 0} (p : X → Bool) (x : X) (xs : List X) → p x ≡ true → filter p (x ∷ xs) ≡ x ∷ filter p xs
kept_yes p x xs e = cond-true (p x) (x ∷ filter p xs) (filter p xs) e

pub kept_no : {X : Type 0} (p : X → Bool) (x : X) (xs : List X) → p x ≡ false → filter p (x ∷ xs) ≡ filter p xs
kept_no p x xs e = cond-false (p x) (x ∷ filter p xs) (filter p xs) e

-- ---- the first item that meets the test

pub kept_none : {X : Type 0} (p : X → Bool) (xs : List X) → NoneOf p xs → filter p xs ≡ []
kept_none p [] m = refl
kept_none p (y ∷ xs) m = kept_no p y xs m.0 ∙ kept_none p xs m.1

pub kept_first : {X : Type 0} (p : X → Bool) (xs ys : List X) (x : X) → NoneOf p xs → p x ≡ true → filter p (xs ++ x ∷ ys) ≡ x ∷ filter p ys
kept_first p [] ys x m e = kept_yes p x ys e
kept_first p (y ∷ xs) ys x m e = kept_no p y (xs ++ x ∷ ys) m.0 ∙ kept_first p xs ys x m.1 e

pub becomes_none : {X : Type 0} (p : X → Bool) (zs xs : List X) → NoneOf p xs → first_becomes p zs xs ≡ xs
becomes_none p zs [] m = refl
becomes_none p zs (y ∷ xs) m = cond-false (p y) (zs ++ xs) (y ∷ first_becomes p zs xs) m.0 ∙ ap (λ v. y ∷ v) (becomes_none p zs xs m.1)

pub becomes_first : {X : Type 0} (p : X → Bool) (zs xs ys : List X) (x : X) → NoneOf p xs → p x ≡ true → first_becomes p zs (xs ++ x ∷ ys) ≡ xs ++ (zs ++ ys)
becomes_first p zs [] ys x m e = cond-true (p x) (zs ++ ys) (x ∷ first_becomes p zs ys) e
becomes_first p zs (y ∷ xs) ys x m e = cond-false (p y) (zs ++ (xs ++ x ∷ ys)) (y ∷ first_becomes p zs (xs ++ x ∷ ys)) m.0 ∙ ap (λ v. y ∷ v) (becomes_first p zs xs ys x m.1 e)

became_later : {X : Type 0} (p : X → Bool) (zs : List X) (y : X) (xs after : List X) (r : Option X) → p y ≡ false → Became p zs xs after r → Became p zs (y ∷ xs) (y ∷ after) r
became_later p zs y xs after None e b = ((e, b.0), ap (λ v. y ∷ v) b.1)
became_later p zs y xs after (Some x) e b = (y ∷ b.0, b.1, ap (λ v. y ∷ v) b.2, ap (λ v. y ∷ v) b.3, (e, b.4), b.5)

pub became : {X : Type 0} (p : X → Bool) (zs xs after : List X) (r : Option X) → after ≡ first_becomes p zs xs → r ≡ oldest (filter p xs) → Became p zs xs after r
became p zs xs after r ea er = rw (ea, er) (as_defined xs)
  where
    as_defined : (xs : List _) → Became p zs xs (first_becomes p zs xs) (oldest (filter p xs))
    as_defined [] = (tt, refl)
    as_defined (y ∷ ys) = ⊎_elim
        (λ (e : p y ≡ true). rw (kept_yes p y ys e, cond-true (p y) (zs ++ ys) (y ∷ first_becomes p zs ys) e) ([], ys, refl, refl, tt, e))
        (λ (e : p y ≡ false). rw (kept_no p y ys e, cond-false (p y) (zs ++ ys) (y ∷ first_becomes p zs ys) e) (became_later p zs y ys _ _ e (as_defined ys)))
        (cases_Bool (p y))

-- ---- the test that every item meets

pub kept_any : {X : Type 0} (xs : List X) → filter (λ _. true) xs ≡ xs
kept_any [] = refl
kept_any (x ∷ xs) = ap (λ v. x ∷ v) (kept_any xs)

-- ---- sums: n is the sum so far

pub sum_ones : {X : Type 0} (xs : List X) → sum_by (λ _. 1) xs ≡ length xs
sum_ones [] = refl
sum_ones (x ∷ xs) = sum_by-cons (λ _. 1) x xs ∙ omega (arith, sum_ones xs)

pub sum_yes : {X : Type 0} (w : X → ℕ) (p : X → Bool) (n n' : ℕ) (x : X) (ys : List X) → p x ≡ true → n' ≡ saturated (n + w x) → saturated (n' + sum_by w (filter p ys)) ≡ saturated (n + sum_by w (filter p (x ∷ ys)))
sum_yes w p n n' x ys e en = omega (arith, en, ap (sum_by w) (kept_yes p x ys e), sum_by-cons w x (filter p ys))

sum_folded : {X : Type 0} (w : X → ℕ) (n : ℕ) (xs : List X) → n < 2 ^ 64 → fold (λ a x. saturated (a + w x)) n xs ≡ saturated (n + sum_by w xs)
sum_folded w n [] lt = omega arith
sum_folded w n (x ∷ xs) lt = sum_folded w (saturated (n + w x)) xs (omega arith) ∙ omega (arith, sum_by-cons w x xs)

pub sum_all : {X : Type 0} (w : X → ℕ) (xs : List X) → fold (λ a x. saturated (a + w x)) 0 xs ≡ saturated (sum_by w xs)
sum_all w xs = sum_folded w 0 xs (omega arith) ∙ ap saturated (omega arith)

pub sum_no : {X : Type 0} (w : X → ℕ) (p : X → Bool) (n : ℕ) (x : X) (ys : List X) → p x ≡ false → saturated (n + sum_by w (filter p ys)) ≡ saturated (n + sum_by w (filter p (x ∷ ys)))
sum_no w p n x ys e = ap (λ v. saturated (n + sum_by w v)) (sym (kept_no p x ys e))

-- ---- the best: of two, the later only if it is better

abbrev pub better : {X : Type 0} → (X → X → Bool) → X → X → X
better b y x = cond (b x y) x y

folded_best : {X : Type 0} (b : X → X → Bool) (x : X) (xs : List X) → fold (preferred b) (Some x) xs ≡ Some (best_of b x xs)
folded_best b x [] = refl
folded_best b x (y ∷ xs) = folded_best b (cond (b y x) y x) xs

pub reduced_best : {X : Type 0} (b : X → X → Bool) (xs : List X) → reduce (better b) xs ≡ best b xs
reduced_best b [] = refl
reduced_best b (x ∷ xs) = sym (folded_best b x xs)

pub best_leads : {X : Type 0} (b : X → X → Bool) → IsStrictWeakOrder b → (xs : List X) (r : Option X) → r ≡ best b xs → Leads b xs r
best_leads {X} b o [] r e = let P : Option X → Type 0 = Leads b [] in subst P (sym e) refl
best_leads {X} b o (x ∷ xs) r e =
    let P : Option X → Type 0 = Leads b (x ∷ xs) in
    let f = IsFirstBest-from_best_of o x xs in
    let place : get_or (x ∷ xs) f.0 (best_of b x xs) ≡ best_of b x xs = get_or_default (x ∷ xs) f.0 (best_of b x xs) x f.1.0 ∙ f.2 in
    subst P (sym (e ∙ folded_best b x xs)) (f.0, f.1, place)

-- ---- the item after n others

pub oldest_drop : {X : Type 0} (n : ℕ) (xs : List X) → oldest (drop n xs) ≡ slice_get xs n
oldest_drop zero [] = refl
oldest_drop zero (x ∷ xs) = refl
oldest_drop (suc n) [] = refl
oldest_drop (suc n) (x ∷ xs) = oldest_drop n xs

-- ---- the item after n others

pub drop_less : {X : Type 0} (n : ℕ) (x : X) (xs : List X) → 0 < n → drop n (x ∷ xs) ≡ drop (n - 1) xs
drop_less zero x xs h = absurd (omega arith)
drop_less (suc n) x xs h = ap (λ m. drop m xs) (omega arith)
