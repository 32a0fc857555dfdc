-- What a fill leaves of the entries that a test picks, where the test does not look at contracts.
use Rattle.std.proofs.Common.{◌≡◌, ℕ, zero, suc, ◌+◌, ◌-◌, ◌<◌, ◌≤◌, Bool, true, false, cond, eqb, List, [], ◌∷◌, ◌++◌, length, take, drop, Some, filter, refl, ap, ◌∙◌, ⊎_elim, arith}
use Rattle.std.proofs.lemmas.Bool.{cases_Bool, cond-true, cond-false, and_from, eq-eqb, ne_eqb}
use Rattle.chains.specs.Asks.{oldest}
use Rattle.terms.specs.declared.messages.Fill.{Fill}
use Rattle.market.specs.Book.{Entry, count}
use Rattle.market.specs.Market.{fills, less, keep, filled_in}
use Rattle.market.proofs.Fills.{Steady}
use Rattle.tables.specs.Cross.{fill_of, names, Stands}
use Rattle.tables.proofs.Pairs.{is_for_self}
use Rattle.tables.proofs.Trades.{fill_none}

kept_filled : (q : Entry → Bool) → Steady q → (f : Fill) (es : List Entry) → filter q (filled_in f es) ≡ filled_in f (filter q es)
kept_filled q st f [] = refl
kept_filled q st f (e ∷ es) = go (q e) (fills f e) (eqb (e.contracts - f.contracts) 0) refl refl refl (kept_filled q st f es)
  where
    n : ℕ
    n = f.contracts

    go :
        (b c z : Bool) → q e ≡ b → fills f e ≡ c → eqb (e.contracts - n) 0 ≡ z → filter q (filled_in f es) ≡ filled_in f (filter q es)
        → filter q (cond c (cond z (filled_in f es) (less n e ∷ filled_in f es)) (e ∷ filled_in f es)) ≡ filled_in f (cond b (e ∷ filter q es) (filter q es))
    go false true true h c z ih = ih
    go false true false h c z ih = rw (st e n, h) ih
    go false false z h c w ih = rw h ih
    go true true true h c z ih = rw (c, z) ih
    go true true false h c z ih = rw (c, z, st e n, h) (ap (λ (xs : List Entry). less n e ∷ xs) ih)
    go true false z h c w ih = rw (c, h) (ap (λ (xs : List Entry). e ∷ xs) ih)

-- a fill that names none of them
none_filled : (q : Entry → Bool) (f : Fill) → ((e : Entry) → q e ≡ true → fills f e ≡ false) → (es : List Entry) → filled_in f (filter q es) ≡ filter q es
none_filled q f h [] = refl
none_filled q f h (e ∷ es) = go (q e) refl (none_filled q f h es)
  where
    go : (b : Bool) → q e ≡ b → filled_in f (filter q es) ≡ filter q es → filled_in f (cond b (e ∷ filter q es) (filter q es)) ≡ cond b (e ∷ filter q es) (filter q es)
    go true w ih = rw (h e w) (ap (λ (xs : List Entry). e ∷ xs) ih)
    go false w ih = ih

-- ---- the one of them that a fill names

later : (p : Entry → Bool) (xs : List Entry) (m : Entry) (ys : List Entry) → p m ≡ true → 1 ≤ count p (xs ++ m ∷ ys)
later p [] m ys y = omega (arith, cond-true {A = ℕ} (p m) 1 0 y)
later p (x ∷ xs) m ys y = omega (arith, later p xs m ys y)

fill_at : (f : Fill) (xs : List Entry) (m : Entry) (ys : List Entry) → fills f m ≡ true → count (fills f) (xs ++ m ∷ ys) ≤ 1 →
    filled_in f (xs ++ m ∷ ys) ≡ xs ++ keep (less f.contracts m) ys
fill_at f [] m ys y one =
    cond-true (fills f m) _ _ y ∙ ap (keep (less f.contracts m)) (fill_none f ys (omega (arith, one, cond-true {A = ℕ} (fills f m) 1 0 y)))
fill_at f (x ∷ xs) m ys y one =
    ⊎_elim
    (λ t. absurd (omega (arith, one, later (fills f) xs m ys y, cond-true {A = ℕ} (fills f x) 1 0 t)))
    (λ n. cond-false (fills f x) _ _ n ∙ ap (λ (v : List Entry). x ∷ v) (fill_at f xs m ys y (omega (arith, one))))
    (cases_Bool (fills f x))

fewer : (p q : Entry → Bool) (es : List Entry) → count p (filter q es) ≤ count p es
fewer p q [] = omega arith
fewer p q (e ∷ es) = go (q e) (fewer p q es)
  where
    go : (b : Bool) → count p (filter q es) ≤ count p es → count p (cond b (e ∷ filter q es) (filter q es)) ≤ cond (p e) 1 0 + count p es
    go true h = omega (arith, h)
    go false h = omega (arith, h)

-- the item after n others parts a list
pub record Parted {X : Type 0} (xs : List X) (n : ℕ) (x : X) : Type 0 where
  pub split : xs ≡ take n xs ++ x ∷ drop (suc n) xs
  pub front : length (take n xs) ≡ n
  pub rest : drop n xs ≡ x ∷ drop (suc n) xs

pub parted : {X : Type 0} (xs : List X) (n : ℕ) (x : X) → oldest (drop n xs) ≡ Some x → Parted xs n x
parted [] zero x e = let z : ◌≡◌ {A = ℕ} 0 1 = cc in absurd (omega arith)
parted [] (suc n) x e = let z : ◌≡◌ {A = ℕ} 0 1 = cc in absurd (omega arith)
parted {X} (y ∷ ys) zero x e = let q : y ≡ x = cc in record { split = ap (λ (v : X). v ∷ ys) q; front = refl; rest = ap (λ (v : X). v ∷ ys) q }
parted {X} (y ∷ ys) (suc n) x e = let r = parted ys n x e in record { split = ap (λ (v : List X). y ∷ v) r.split; front = ap suc r.front; rest = r.rest }

-- a trade fills one of those that are picked, the item after n others, and one that is not; whichever is filled first
pub record Left (q : Entry → Bool) (other own : Fill) (es : List Entry) (n : ℕ) (m : Entry) : Type 0 where
  pub own_last : filter q (filled_in own (filled_in other es)) ≡ take n (filter q es) ++ keep (less own.contracts m) (drop (suc n) (filter q es))
  pub own_first : filter q (filled_in other (filled_in own es)) ≡ take n (filter q es) ++ keep (less own.contracts m) (drop (suc n) (filter q es))

pub left : (q : Entry → Bool) → Steady q → (other own : Fill) (es : List Entry) (n : ℕ) (m : Entry) → ((e : Entry) → q e ≡ true → fills other e ≡ false) → fills own m ≡ true → count (fills own) es ≤ 1 →
    oldest (drop n (filter q es)) ≡ Some m → Left q other own es n m
left q st other own es n m apart names one o =
    let ms = filter q es in
    let p = parted ms n m o in
    let few : count (fills own) (take n ms ++ m ∷ drop (suc n) ms) ≤ 1 = omega (arith, fewer (fills own) q es, one, ap (count (fills own)) p.split) in
    let filled : filled_in own ms ≡ take n ms ++ keep (less own.contracts m) (drop (suc n) ms) =
    ap (filled_in own) p.split ∙ fill_at own (take n ms) m (drop (suc n) ms) names few in
    record {
      own_last = kept_filled q st own (filled_in other es) ∙ ap (filled_in own) (kept_filled q st other es ∙ none_filled q other apart es) ∙ filled;
      own_first = kept_filled q st other (filled_in own es) ∙ none_filled q other apart (filled_in own es) ∙ kept_filled q st own es ∙ filled;
    }

-- ---- the entry that is filled, if something is left of it

pub filled_stands : (es : List Entry) (e : Entry) (n price : ℕ) → n < e.contracts → Stands es e → Stands (filled_in (fill_of e n price) es) (less n e)
filled_stands es e n price h o = ap oldest (kept_filled (names e) (λ x k. refl) (fill_of e n price) es) ∙ first (filter (names e) es) o
  where
    f : Fill
    f = fill_of e n price

    named : fills f e ≡ true
    named = and_from _ _ (is_for_self e) (eq-eqb e.side e.side refl)

    first : (xs : List Entry) → oldest xs ≡ Some e → oldest (filled_in f xs) ≡ Some (less n e)
    first [] q = let z : ◌≡◌ {A = ℕ} 0 1 = cc in absurd (omega arith)
    first (x ∷ xs) q =
        let s : x ≡ e = cc in
        ap oldest (cond-true (fills f x) _ _ (ap (fills f) s ∙ named)) ∙
        ap oldest (cond-false (eqb (x.contracts - n) 0) _ _ (ne_eqb (x.contracts - n) 0 (λ z. omega (arith, z, h, ap (λ v. v.contracts) s)))) ∙ ap (λ v. Some (less n v)) s
