-- Contracts of what rests, added up: by tests that agree, after entries are taken off, after one more rests. Assumes nothing.
use Rattle.std.proofs.Common.{◌≡◌, ℕ, zero, suc, ◌+◌, ◌≤◌, Bool, true, false, cond, ◌||◌, ◌⊎◌, List, [], ◌∷◌, ◌++◌, map, length, refl, ap, inl, inr, arith}
use Rattle.std.specs.List.{AllByRecursion}
use Rattle.terms.specs.Tables.{any_of, at, put}
use Rattle.terms.proofs.Tables.{all_from_each, never, or_so}
use Rattle.market.specs.Book.{Entry, any_in, total, totals, without}

total_same : (p q : Entry → Bool) (es : List Entry) → AllByRecursion (λ e. p e ≡ q e) es → total p es ≡ total q es
total_same p q [] a = refl
total_same p q (e ∷ es) a = omega (arith, ap (λ b. cond b e.contracts 0) a.0, total_same p q es a.1)

pub totals_same : (p q : Entry → Bool) (ess : List (List Entry)) → AllByRecursion (AllByRecursion (λ e. p e ≡ q e)) ess → totals p ess ≡ totals q ess
totals_same p q [] a = refl
totals_same p q (es ∷ ess) a = omega (arith, total_same p q es a.0, totals_same p q ess a.1)

pub totals_ext : (p q : Entry → Bool) → ((e : Entry) → p e ≡ q e) → (ess : List (List Entry)) → totals p ess ≡ totals q ess
totals_ext p q h ess = totals_same p q ess (all_from_each (AllByRecursion (λ e. p e ≡ q e)) (all_from_each (λ e. p e ≡ q e) h) ess)

-- ---- what is taken off

total_in : (p q : Entry → Bool) → ((e : Entry) → q e ≡ true → p e ≡ true) → (es : List Entry) → total p (without q es) + total q es ≡ total p es
total_in p q h [] = refl
total_in p q h (e ∷ es) = go (q e) (h e) (total_in p q h es)
  where
    go :
        (b : Bool) → (b ≡ true → p e ≡ true) → total p (without q es) + total q es ≡ total p es
        → total p (cond b (without q es) (e ∷ without q es)) + (cond b e.contracts 0 + total q es) ≡ cond (p e) e.contracts 0 + total p es
    go true k ih = omega (arith, ih, ap (λ c. cond c e.contracts 0) (k refl))
    go false k ih = omega (arith, ih)

pub totals_in : (p q : Entry → Bool) → ((e : Entry) → q e ≡ true → p e ≡ true) → (ess : List (List Entry))
    → totals p (map (without q) ess) + totals q ess ≡ totals p ess
totals_in p q h [] = refl
totals_in p q h (es ∷ ess) = omega (arith, total_in p q h es, totals_in p q h ess)

total_out : (p q : Entry → Bool) → ((e : Entry) → q e ≡ true → p e ≡ false) → (es : List Entry) → total p (without q es) ≡ total p es
total_out p q h [] = refl
total_out p q h (e ∷ es) = go (q e) (h e) (total_out p q h es)
  where
    go :
        (b : Bool) → (b ≡ true → p e ≡ false) → total p (without q es) ≡ total p es
        → total p (cond b (without q es) (e ∷ without q es)) ≡ cond (p e) e.contracts 0 + total p es
    go true k ih = omega (arith, ih, ap (λ c. cond c e.contracts 0) (k refl))
    go false k ih = omega (arith, ih)

pub totals_out : (p q : Entry → Bool) → ((e : Entry) → q e ≡ true → p e ≡ false) → (ess : List (List Entry))
    → totals p (map (without q) ess) ≡ totals p ess
totals_out p q h [] = refl
totals_out p q h (es ∷ ess) = omega (arith, total_out p q h es, totals_out p q h ess)

-- what q picks is all of one kind to p: what is taken off counts, or does not
pub totals_off :
    (p q : Entry → Bool) (b : Bool) → ((e : Entry) → q e ≡ true → p e ≡ b) → (ess : List (List Entry))
    → totals p (map (without q) ess) + cond b (totals q ess) 0 ≡ totals p ess
totals_off p q true h ess = totals_in p q h ess
totals_off p q false h ess = omega (arith, totals_out p q h ess)

-- ---- one more rests

total_joined : (p : Entry → Bool) (es fs : List Entry) → total p (es ++ fs) ≡ total p es + total p fs
total_joined p [] fs = omega arith
total_joined p (e ∷ es) fs = omega (arith, total_joined p es fs)

pub totals_rest :
    (p : Entry → Bool) (ess : List (List Entry)) (n : ℕ) (e : Entry) → 1 ≤ n → n ≤ length ess
    → totals p (put ess n (at [] ess n ++ (e ∷ []))) ≡ totals p ess + cond (p e) e.contracts 0
totals_rest p ess zero e low high = never _ (omega arith)
totals_rest p [] (suc i) e low high = never _ (omega arith)
totals_rest p (es ∷ ess) (suc zero) e low high = omega (arith, total_joined p es (e ∷ []))
totals_rest p (es ∷ ess) (suc (suc i)) e low high = omega (arith, totals_rest p ess (suc i) e (omega arith) (omega arith))

-- ---- an entry that rests, and is then taken off or not

any_last : (p q : Entry → Bool) (es : List Entry) (e : Entry) → p e ≡ true → q e ≡ false → any_of p (without q (es ++ (e ∷ []))) ≡ true
any_last p q [] e h k = rw (k, h)
any_last p q (x ∷ es) e h k = go (q x) (any_last p q es e h k)
  where
    rest : List Entry
    rest = without q (es ++ (e ∷ []))

    go : (b : Bool) → any_of p rest ≡ true → any_of p (cond b rest (x ∷ rest)) ≡ true
    go true ih = ih
    go false ih = or_so (p x) (any_of p rest) ih

any_rest :
    (p q : Entry → Bool) (ess : List (List Entry)) (n : ℕ) (e : Entry) → 1 ≤ n → n ≤ length ess → p e ≡ true → q e ≡ false
    → any_in p (map (without q) (put ess n (at [] ess n ++ (e ∷ [])))) ≡ true
any_rest p q ess zero e low high h k = never _ (omega arith)
any_rest p q [] (suc i) e low high h k = never _ (omega arith)
any_rest p q (es ∷ ess) (suc zero) e low high h k = ap (λ b. b || any_in p (map (without q) ess)) (any_last p q es e h k)
any_rest p q (es ∷ ess) (suc (suc i)) e low high h k = or_so (any_of p (without q es)) _ (any_rest p q ess (suc i) e (omega arith) (omega arith) h k)

pub rest_or_off :
    (p q : Entry → Bool) (ess : List (List Entry)) (n : ℕ) (e : Entry) → 1 ≤ n → n ≤ length ess → p e ≡ true
    → (any_in p (map (without q) (put ess n (at [] ess n ++ (e ∷ [])))) ≡ true) ⊎ (e.contracts ≤ totals q (put ess n (at [] ess n ++ (e ∷ []))))
rest_or_off p q ess n e low high h = go (q e) refl
  where
    go : (b : Bool) → q e ≡ b → (any_in p (map (without q) (put ess n (at [] ess n ++ (e ∷ [])))) ≡ true)
        ⊎ (e.contracts ≤ totals q (put ess n (at [] ess n ++ (e ∷ []))))
    go true k = inr (omega (arith, totals_rest q ess n e low high, ap (λ b. cond b e.contracts 0) k))
    go false k = inl (any_rest p q ess n e low high h k)
