-- How many entries rest: after entries are taken off, after one more rests, none. Assumes nothing.
use Rattle.std.proofs.Common.{◌≡◌, ℕ, zero, suc, ◌+◌, ◌≤◌, Bool, true, false, cond, ◌||◌, List, [], ◌∷◌, ◌++◌, map, sym, refl, ap, ◌∙◌, inl, inr, ⊎_elim, arith}
use Rattle.std.proofs.lemmas.Bool.{or_cases}
use Rattle.std.proofs.lemmas.Bool.Decides.{leb_tells}
use Rattle.terms.specs.Tables.{any_of, at, put}
use Rattle.terms.proofs.Tables.{any_less, mixed, never, or_so}
use Rattle.market.specs.Book.{Entry, any_in, count, counts, without}

count_joined : (p : Entry → Bool) (es fs : List Entry) → count p (es ++ fs) ≡ count p es + count p fs
count_joined p [] fs = omega arith
count_joined p (e ∷ es) fs = omega (arith, count_joined p es fs)

pub counts_rest :
    (p : Entry → Bool) (ess : List (List Entry)) (n : ℕ) (e : Entry) → counts p (put ess n (at [] ess n ++ (e ∷ []))) ≤ counts p ess + cond (p e) 1 0
counts_rest p ess zero e = omega arith
counts_rest p [] (suc i) e = omega arith
counts_rest p (es ∷ ess) (suc zero) e = omega (arith, count_joined p es (e ∷ []))
counts_rest p (es ∷ ess) (suc (suc i)) e = omega (arith, counts_rest p ess (suc i) e)

count_off : (p q : Entry → Bool) (es : List Entry) → count p (without q es) ≤ count p es
count_off p q [] = omega arith
count_off p q (e ∷ es) = go (q e) (count_off p q es)
  where
    go : (b : Bool) → count p (without q es) ≤ count p es → count p (cond b (without q es) (e ∷ without q es)) ≤ cond (p e) 1 0 + count p es
    go true ih = omega (arith, ih)
    go false ih = omega (arith, ih)

pub counts_off : (p q : Entry → Bool) (ess : List (List Entry)) → counts p (map (without q) ess) ≤ counts p ess
counts_off p q [] = omega arith
counts_off p q (es ∷ ess) = omega (arith, count_off p q es, counts_off p q ess)

count_less : (p q : Entry → Bool) → ((e : Entry) → q e ≡ true → p e ≡ true) → (es : List Entry) → count q es ≤ count p es
count_less p q h [] = omega arith
count_less p q h (e ∷ es) = go (q e) (h e) (count_less p q h es)
  where
    go : (b : Bool) → (b ≡ true → p e ≡ true) → count q es ≤ count p es → cond b 1 0 + count q es ≤ cond (p e) 1 0 + count p es
    go true k ih = omega (arith, ih, ap {B = ℕ} (λ c. cond c 1 0) (k refl))
    go false k ih = omega (arith, ih)

pub counts_less : (p q : Entry → Bool) → ((e : Entry) → q e ≡ true → p e ≡ true) → (ess : List (List Entry)) → counts q ess ≤ counts p ess
counts_less p q h [] = omega arith
counts_less p q h (es ∷ ess) = omega (arith, count_less p q h es, counts_less p q h ess)

-- ---- none

count_none : (p : Entry → Bool) (es : List Entry) → any_of p es ≡ false → count p es ≡ 0
count_none p [] e = refl
count_none p (x ∷ es) e = go (p x) e (count_none p es)
  where
    go : (b : Bool) → (b || any_of p es) ≡ false → (any_of p es ≡ false → count p es ≡ 0) → cond b 1 0 + count p es ≡ 0
    go true k ih = mixed _ k
    go false k ih = omega (arith, ih k)

pub counts_none : (p : Entry → Bool) (ess : List (List Entry)) → any_in p ess ≡ false → counts p ess ≡ 0
counts_none p [] e = refl
counts_none p (es ∷ ess) e = go (any_of p es) refl e (counts_none p ess)
  where
    go : (b : Bool) → any_of p es ≡ b → (b || any_of (any_of p) ess) ≡ false → (any_in p ess ≡ false → counts p ess ≡ 0) → count p es + counts p ess ≡ 0
    go true h k ih = mixed _ k
    go false h k ih = omega (arith, count_none p es h, ih k)

pub none_count : (p : Entry → Bool) (es : List Entry) → count p es ≡ 0 → any_of p es ≡ false
none_count p [] e = refl
none_count p (x ∷ es) e = go (p x) e (none_count p es)
  where
    go : (b : Bool) → cond b 1 0 + count p es ≡ 0 → (count p es ≡ 0 → any_of p es ≡ false) → (b || any_of p es) ≡ false
    go true k ih = never _ (omega arith)
    go false k ih = ih (omega arith)

pub nones_count : (p : Entry → Bool) (ess : List (List Entry)) → counts p ess ≡ 0 → any_in p ess ≡ false
nones_count p [] e = refl
nones_count p (es ∷ ess) e = rw (none_count p es (omega arith)) (nones_count p ess (omega arith))

-- an entry that is picked is counted
pub some_count : (p q : Entry → Bool) → ((e : Entry) → q e ≡ true → p e ≡ true) → (es : List Entry) → any_of q es ≡ true → 1 ≤ count p es
some_count p q h es k = elim (leb_tells 1 (count p es)) [ inl y ↦ y.1 | inr y ↦ mixed _ (sym (any_less p q h es k) ∙ none_count p es (omega arith)) ]

pub somes_count : (p q : Entry → Bool) → ((e : Entry) → q e ≡ true → p e ≡ true) → (ess : List (List Entry)) → any_in q ess ≡ true → 1 ≤ counts p ess
somes_count p q h ess k =
    elim (leb_tells 1 (counts p ess)) [
      | inl y ↦ y.1
      | inr y ↦ mixed _ (sym (any_less (any_of p) (any_of q) (any_less p q h) ess k) ∙ nones_count p ess (omega arith))
    ]

-- what is found once entries are taken off was there before
any_off : (p q : Entry → Bool) (es : List Entry) → any_of p (without q es) ≡ true → any_of p es ≡ true
any_off p q [] e = e
any_off p q (x ∷ es) e = go (q x) e (any_off p q es)
  where
    go : (b : Bool) → any_of p (cond b (without q es) (x ∷ without q es)) ≡ true → (any_of p (without q es) ≡ true → any_of p es ≡ true)
        → (p x || any_of p es) ≡ true
    go true k ih = or_so (p x) (any_of p es) (ih k)
    go false k ih = ⊎_elim (λ y. ap (λ b. b || any_of p es) y) (λ y. or_so (p x) (any_of p es) (ih y)) (or_cases (p x) (any_of p (without q es)) k)

pub anys_off : (p q : Entry → Bool) (ess : List (List Entry)) → any_in p (map (without q) ess) ≡ true → any_in p ess ≡ true
anys_off p q [] e = e
anys_off p q (es ∷ ess) e = ⊎_elim
    (λ y. ap (λ b. b || any_in p ess) (any_off p q es y))
    (λ y. or_so (any_of p es) (any_in p ess) (anys_off p q ess y))
    (or_cases (any_of p (without q es)) (any_in p (map (without q) ess)) e)
