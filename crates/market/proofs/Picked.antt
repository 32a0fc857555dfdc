-- The entries that a test picks, apart from all others: what is done to a book is done to them alike. Assumes nothing.
use Rattle.std.proofs.Common.{◌≡◌, ℕ, ◌+◌, Bool, true, false, cond, not, ◌||◌, List, [], ◌∷◌, ◌++◌, map, sym, refl, ap, ◌∙◌, ap₂, arith}
use Rattle.std.specs.List.{AllByRecursion}
use Rattle.terms.specs.Tables.{any_of, at, put}
use Rattle.terms.specs.declared.messages.Fill.{Fill}
use Rattle.terms.proofs.Tables.{at_map, mixed, put_map}
use Rattle.market.specs.Book.{Entry, any_in, count, counts, total, totals, without}
use Rattle.market.specs.Market.{filled_in, fills}
use Rattle.market.proofs.Fills.{Steady, fills_off}

-- the entries that p picks
abbrev pub only : (Entry → Bool) → List Entry → List Entry
only p es = without (λ e. not (p e)) es

-- ---- entries that p picks, of entries that q leaves

only_off : (p q : Entry → Bool) (es : List Entry) → only p (without q es) ≡ without q (only p es)
only_off p q [] = refl
only_off p q (e ∷ es) = go (p e) (q e) refl refl (only_off p q es)
  where
    go : (b c : Bool) → p e ≡ b → q e ≡ c → only p (without q es) ≡ without q (only p es)
        → only p (cond c (without q es) (e ∷ without q es)) ≡ without q (cond (not b) (only p es) (e ∷ only p es))
    go true true h k ih = rw k ih
    go true false h k ih = rw (k, h) (ap (λ (xs : List Entry). e ∷ xs) ih)
    go false true h k ih = ih
    go false false h k ih = rw h ih

-- the same picked, by tests that agree
only_same : (p q : Entry → Bool) (es : List Entry) → AllByRecursion (λ e. p e ≡ q e) es → only p es ≡ only q es
only_same p q [] a = refl
only_same p q (e ∷ es) a = ap₂ (λ (b : Bool) (xs : List Entry). cond (not b) xs (e ∷ xs)) a.0 (only_same p q es a.1)

-- what is taken off is not picked
off_others : (p q : Entry → Bool) → ((e : Entry) → q e ≡ true → p e ≡ false) → (es : List Entry) → only p (without q es) ≡ only p es
off_others p q h [] = refl
off_others p q h (e ∷ es) = go (q e) (h e) (off_others p q h es)
  where
    go : (b : Bool) → (b ≡ true → p e ≡ false) → only p (without q es) ≡ only p es
        → only p (cond b (without q es) (e ∷ without q es)) ≡ cond (not (p e)) (only p es) (e ∷ only p es)
    go true k ih = rw (k refl) ih
    go false k ih = ap (λ (xs : List Entry). cond (not (p e)) xs (e ∷ xs)) ih

only_joined : (p : Entry → Bool) (es fs : List Entry) → only p (es ++ fs) ≡ only p es ++ only p fs
only_joined p [] fs = refl
only_joined p (e ∷ es) fs = go (not (p e)) (only_joined p es fs)
  where
    go : (b : Bool) → only p (es ++ fs) ≡ only p es ++ only p fs
        → cond b (only p (es ++ fs)) (e ∷ only p (es ++ fs)) ≡ cond b (only p es) (e ∷ only p es) ++ only p fs
    go true ih = ih
    go false ih = ap (λ (xs : List Entry). e ∷ xs) ih

-- over all series

pub onlys_off : (p q : Entry → Bool) (ess : List (List Entry)) → map (only p) (map (without q) ess) ≡ map (without q) (map (only p) ess)
onlys_off p q [] = refl
onlys_off p q (es ∷ ess) = ap₂ (λ x xs. x ∷ xs) (only_off p q es) (onlys_off p q ess)

pub onlys_same : (p q : Entry → Bool) (ess : List (List Entry)) → AllByRecursion (AllByRecursion (λ e. p e ≡ q e)) ess → map (only p) ess ≡ map (only q) ess
onlys_same p q [] a = refl
onlys_same p q (es ∷ ess) a = ap₂ (λ x xs. x ∷ xs) (only_same p q es a.0) (onlys_same p q ess a.1)

pub offs_others : (p q : Entry → Bool) → ((e : Entry) → q e ≡ true → p e ≡ false) → (ess : List (List Entry))
    → map (only p) (map (without q) ess) ≡ map (only p) ess
offs_others p q h [] = refl
offs_others p q h (es ∷ ess) = ap₂ (λ x xs. x ∷ xs) (off_others p q h es) (offs_others p q h ess)

-- tests that agree on what is picked take off the same of it
without_agree : (p q r : Entry → Bool) → ((e : Entry) → p e ≡ true → q e ≡ r e) → (es : List Entry) → without q (only p es) ≡ without r (only p es)
without_agree p q r h [] = refl
without_agree p q r h (e ∷ es) = go (p e) (h e) (without_agree p q r h es)
  where
    go : (b : Bool) → (b ≡ true → q e ≡ r e) → without q (only p es) ≡ without r (only p es)
        → without q (cond (not b) (only p es) (e ∷ only p es)) ≡ without r (cond (not b) (only p es) (e ∷ only p es))
    go true k ih = ap₂ (λ (b : Bool) (xs : List Entry). cond b xs (e ∷ xs)) (k refl) ih
    go false k ih = ih

pub withouts_agree : (p q r : Entry → Bool) → ((e : Entry) → p e ≡ true → q e ≡ r e) → (ess : List (List Entry))
    → map (without q) (map (only p) ess) ≡ map (without r) (map (only p) ess)
withouts_agree p q r h [] = refl
withouts_agree p q r h (es ∷ ess) = ap₂ (λ x xs. x ∷ xs) (without_agree p q r h es) (withouts_agree p q r h ess)

-- sums, counts and tests that look at nothing else see all that is picked
total_only : (p q : Entry → Bool) → ((e : Entry) → q e ≡ true → p e ≡ true) → (es : List Entry) → total q (only p es) ≡ total q es
total_only p q h [] = refl
total_only p q h (e ∷ es) = go (p e) (q e) (h e) refl (total_only p q h es)
  where
    go : (b c : Bool) → (c ≡ true → b ≡ true) → q e ≡ c → total q (only p es) ≡ total q es
        → total q (cond (not b) (only p es) (e ∷ only p es)) ≡ cond c e.contracts 0 + total q es
    go true c k w ih = ap₂ (λ (x : Bool) (y : ℕ). cond x e.contracts 0 + y) w ih
    go false true k w ih = mixed _ (sym (k refl))
    go false false k w ih = omega (arith, ih)

pub totals_only : (p q : Entry → Bool) → ((e : Entry) → q e ≡ true → p e ≡ true) → (ess : List (List Entry))
    → totals q (map (only p) ess) ≡ totals q ess
totals_only p q h [] = refl
totals_only p q h (es ∷ ess) = ap₂ (λ (x y : ℕ). x + y) (total_only p q h es) (totals_only p q h ess)

count_only : (p q : Entry → Bool) → ((e : Entry) → q e ≡ true → p e ≡ true) → (es : List Entry) → count q (only p es) ≡ count q es
count_only p q h [] = refl
count_only p q h (e ∷ es) = go (p e) (q e) (h e) refl (count_only p q h es)
  where
    go : (b c : Bool) → (c ≡ true → b ≡ true) → q e ≡ c → count q (only p es) ≡ count q es
        → count q (cond (not b) (only p es) (e ∷ only p es)) ≡ cond c 1 0 + count q es
    go true c k w ih = ap₂ (λ (x : Bool) (y : ℕ). cond x 1 0 + y) w ih
    go false true k w ih = mixed _ (sym (k refl))
    go false false k w ih = omega (arith, ih)

pub counts_only : (p q : Entry → Bool) → ((e : Entry) → q e ≡ true → p e ≡ true) → (ess : List (List Entry))
    → counts q (map (only p) ess) ≡ counts q ess
counts_only p q h [] = refl
counts_only p q h (es ∷ ess) = ap₂ (λ (x y : ℕ). x + y) (count_only p q h es) (counts_only p q h ess)

any_only : (p q : Entry → Bool) → ((e : Entry) → q e ≡ true → p e ≡ true) → (es : List Entry) → any_of q (only p es) ≡ any_of q es
any_only p q h [] = refl
any_only p q h (e ∷ es) = go (p e) (q e) (h e) refl (any_only p q h es)
  where
    go : (b c : Bool) → (c ≡ true → b ≡ true) → q e ≡ c → any_of q (only p es) ≡ any_of q es
        → any_of q (cond (not b) (only p es) (e ∷ only p es)) ≡ (c || any_of q es)
    go true c k w ih = ap₂ (λ (x y : Bool). x || y) w ih
    go false true k w ih = mixed _ (sym (k refl))
    go false false k w ih = ih

pub anys_only : (p q : Entry → Bool) → ((e : Entry) → q e ≡ true → p e ≡ true) → (ess : List (List Entry)) → any_in q (map (only p) ess) ≡ any_in q ess
anys_only p q h [] = refl
anys_only p q h (es ∷ ess) = ap₂ (λ (x y : Bool). x || y) (any_only p q h es) (anys_only p q h ess)

-- one more at the end of a series
pub onlys_rest : (p : Entry → Bool) (ess : List (List Entry)) (n : ℕ) (e : Entry)
    → map (only p) (put ess n (at [] ess n ++ (e ∷ []))) ≡ put (map (only p) ess) n (at [] (map (only p) ess) n ++ only p (e ∷ []))
onlys_rest p ess n e = put_map (only p) ess n (at [] ess n ++ (e ∷ []))
    ∙ ap (put (map (only p) ess) n)
    (only_joined p (at [] ess n) (e ∷ []) ∙ ap (λ (xs : List Entry). xs ++ only p (e ∷ [])) (sym (at_map (only p) [] ess n)))

-- ---- fills

pub onlys_filled : (p : Entry → Bool) → Steady p → (f : Fill) (ess : List (List Entry))
    → map (only p) (map (filled_in f) ess) ≡ map (filled_in f) (map (only p) ess)
onlys_filled p st f ess = fills_off (λ e. not (p e)) (λ e n. ap not (st e n)) f ess

not_filled : (p : Entry → Bool) (f : Fill) → ((e : Entry) → p e ≡ true → fills f e ≡ false) → (es : List Entry) → filled_in f (only p es) ≡ only p es
not_filled p f h [] = refl
not_filled p f h (e ∷ es) = go (p e) (h e) (not_filled p f h es)
  where
    go : (b : Bool) → (b ≡ true → fills f e ≡ false) → filled_in f (only p es) ≡ only p es
        → filled_in f (cond (not b) (only p es) (e ∷ only p es)) ≡ cond (not b) (only p es) (e ∷ only p es)
    go true k ih = rw (k refl) (ap (λ (xs : List Entry). e ∷ xs) ih)
    go false k ih = ih

pub nots_filled : (p : Entry → Bool) (f : Fill) → ((e : Entry) → p e ≡ true → fills f e ≡ false) → (ess : List (List Entry))
    → map (filled_in f) (map (only p) ess) ≡ map (only p) ess
nots_filled p f h [] = refl
nots_filled p f h (es ∷ ess) = ap₂ (λ x xs. x ∷ xs) (not_filled p f h es) (nots_filled p f h ess)

-- ---- what holds of each entry

pub all_without : (P : Entry → Type 0) (q : Entry → Bool) (es : List Entry) → AllByRecursion P es → AllByRecursion (λ e. P e × (q e ≡ false)) (without q es)
all_without P q [] a = tt
all_without P q (e ∷ es) a = go (q e) refl (all_without P q es a.1)
  where
    go : (b : Bool) → q e ≡ b → AllByRecursion (λ e. P e × (q e ≡ false)) (without q es)
        → AllByRecursion (λ e. P e × (q e ≡ false)) (cond b (without q es) (e ∷ without q es))
    go true h k = k
    go false h k = ((a.0, h), k)

-- a test that is so of the entries that p picks is so of each of those
pub picked_so : (P : Entry → Type 0) (p : Entry → Bool) → ((e : Entry) → p e ≡ true → P e) → (ess : List (List Entry))
    → AllByRecursion (AllByRecursion P) (map (only p) ess)
picked_so P p h [] = tt
picked_so P p h (es ∷ ess) = (each es, picked_so P p h ess)
  where
    each : (es : List Entry) → AllByRecursion P (only p es)
    each [] = tt
    each (e ∷ es) = go (p e) refl (each es)
      where
        go : (b : Bool) → p e ≡ b → AllByRecursion P (only p es) → AllByRecursion P (cond (not b) (only p es) (e ∷ only p es))
        go true w r = (h e w, r)
        go false w r = r
