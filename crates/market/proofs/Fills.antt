-- What a side of a trade does to what rests: its entry loses the contracts and nothing else changes. Assumes nothing.
use Rattle.std.proofs.Common.{◌≡◌, ℕ, ◌+◌, ◌-◌, ◌≤◌, Bool, true, false, cond, ◌&&◌, ◌||◌, eqb, leb, List, [], ◌∷◌, map, sym, refl, ap, ◌∙◌, ap₂, arith}
use Rattle.std.specs.List.{AllByRecursion}
use Rattle.std.proofs.lemmas.Bool.{and_parts, eqb-true, leb-true, ne_eqb}
use Rattle.terms.specs.Tables.{any_of}
use Rattle.terms.specs.declared.messages.Fill.{Fill}
use Rattle.terms.proofs.Tables.{any_less, mixed, never, or_so}
use Rattle.market.specs.Book.{Book, Entry, Trade, any_in, count, counts, is_for, total, totals, without}
use Rattle.market.specs.Market.{buy_side, fillable, filled_in, fills, keep, less, sell_side, tradeable}
use Rattle.market.proofs.Counts.{none_count, some_count, somes_count}

-- p does not look at the contracts
abbrev pub Steady : (Entry → Bool) → Type 0
Steady p = (e : Entry) (n : ℕ) → p (less n e) ≡ p e

-- ---- what holds of each entry

pub all_filled :
    (P : Entry → Type 0) (f : Fill) (es : List Entry) → ((e : Entry) (n : ℕ) → eqb (e.contracts - n) 0 ≡ false → P e → P (less n e)) → AllByRecursion P es
    → AllByRecursion P (filled_in f es)
all_filled P f [] h a = tt
all_filled P f (e ∷ es) h a = go (fills f e) (eqb (e.contracts - f.contracts) 0) refl (all_filled P f es h a.1)
  where
    go :
        (b z : Bool) → eqb (e.contracts - f.contracts) 0 ≡ z → AllByRecursion P (filled_in f es)
        → AllByRecursion P (cond b (cond z (filled_in f es) (less f.contracts e ∷ filled_in f es)) (e ∷ filled_in f es))
    go true true w k = k
    go true false w k = (h e _ w a.0, k)
    go false z w k = (a.0, k)

-- ---- how many

count_filled : (p : Entry → Bool) → Steady p → (f : Fill) (es : List Entry) → count p (filled_in f es) ≤ count p es
count_filled p st f [] = omega arith
count_filled p st f (e ∷ es) = go (fills f e) (eqb (e.contracts - f.contracts) 0) (count_filled p st f es)
  where
    go :
        (b z : Bool) → count p (filled_in f es) ≤ count p es
        → count p (cond b (cond z (filled_in f es) (less f.contracts e ∷ filled_in f es)) (e ∷ filled_in f es)) ≤ cond (p e) 1 0 + count p es
    go true true ih = omega (arith, ih)
    go true false ih = omega (arith, ih, ap {B = ℕ} (λ c. cond c 1 0) (st e f.contracts))
    go false z ih = omega (arith, ih)

pub counts_filled : (p : Entry → Bool) → Steady p → (f : Fill) (ess : List (List Entry)) → counts p (map (filled_in f) ess) ≤ counts p ess
counts_filled p st f [] = omega arith
counts_filled p st f (es ∷ ess) = omega (arith, count_filled p st f es, counts_filled p st f ess)

-- ---- how much

total_unfilled : (p : Entry → Bool) (f : Fill) (es : List Entry) → count (fills f) es ≡ 0 → total p (filled_in f es) ≡ total p es
total_unfilled p f [] e = refl
total_unfilled p f (x ∷ es) e = go (fills f x) e (total_unfilled p f es)
  where
    go :
        (b : Bool) → cond b 1 0 + count (fills f) es ≡ 0 → (count (fills f) es ≡ 0 → total p (filled_in f es) ≡ total p es)
        → total p (cond b (keep (less f.contracts x) (filled_in f es)) (x ∷ filled_in f es)) ≡ cond (p x) x.contracts 0 + total p es
    go true k ih = never _ (omega arith)
    go false k ih = omega (arith, ih (omega arith))

totals_unfilled : (p : Entry → Bool) (f : Fill) (ess : List (List Entry)) → counts (fills f) ess ≡ 0 → totals p (map (filled_in f) ess) ≡ totals p ess
totals_unfilled p f [] e = refl
totals_unfilled p f (es ∷ ess) e = omega (arith, total_unfilled p f es (omega arith), totals_unfilled p f ess (omega arith))

-- what an entry that is filled loses
kept_total :
    (p : Entry → Bool) → Steady p → (q : ℕ) (e : Entry) (es : List Entry) (b : Bool) → p e ≡ b → q ≤ e.contracts
    → total p (keep (less q e) es) + cond b q 0 ≡ cond (p e) e.contracts 0 + total p es
kept_total p st q e es b h k = go (eqb (e.contracts - q) 0) refl b h
  where
    go :
        (z : Bool) → eqb (e.contracts - q) 0 ≡ z → (b : Bool) → p e ≡ b
        → total p (cond z es (less q e ∷ es)) + cond b q 0 ≡ cond (p e) e.contracts 0 + total p es
    go true w true h = omega (arith, eqb-true (e.contracts - q) 0 w, ap (λ c. cond c e.contracts 0) h)
    go true w false h = omega (arith, ap (λ c. cond c e.contracts 0) h)
    go false w true h = omega (arith, ap (λ c. cond c (e.contracts - q) 0) (st e q ∙ h), ap (λ c. cond c e.contracts 0) h)
    go false w false h = omega (arith, ap (λ c. cond c (e.contracts - q) 0) (st e q ∙ h), ap (λ c. cond c e.contracts 0) h)

total_filled :
    (p : Entry → Bool) → Steady p → (f : Fill) (b : Bool) → ((e : Entry) → fills f e ≡ true → p e ≡ b)
    → (es : List Entry) → count (fills f) es ≤ 1 → any_of (fillable f) es ≡ true → total p (filled_in f es) + cond b f.contracts 0 ≡ total p es
total_filled p st f b h [] one any = mixed _ (sym any)
total_filled p st f b h (e ∷ es) one any = go (fills f e) refl one any (total_filled p st f b h es)
  where
    q : ℕ
    q = f.contracts

    rest : count (fills f) es ≡ 0 → any_of (fillable f) es ≡ true → ⊥
    rest n k = mixed ⊥ (sym (any_less (fills f) (fillable f) (λ x y. (and_parts _ _ y).0) es k) ∙ none_count (fills f) es n)

    enough : (w : Bool) → (w || any_of (fillable f) es) ≡ true → count (fills f) es ≡ 0 → w ≡ true
    enough true k n = refl
    enough false k n = never _ (rest n k)

    go :
        (c : Bool) → fills f e ≡ c → cond c 1 0 + count (fills f) es ≤ 1 → ((c && leb q e.contracts) || any_of (fillable f) es) ≡ true
        → (count (fills f) es ≤ 1 → any_of (fillable f) es ≡ true → total p (filled_in f es) + cond b q 0 ≡ total p es)
        → total p (cond c (keep (less q e) (filled_in f es)) (e ∷ filled_in f es)) + cond b q 0 ≡ cond (p e) e.contracts 0 + total p es
    go true w one any ih =
        let n : count (fills f) es ≡ 0 = omega arith in
        omega (
          arith,
          kept_total p st q e (filled_in f es) b (h e w)
              (leb-true q e.contracts (enough (leb q e.contracts) any n)),
          total_unfilled p f es n,
        )
    go false w one any ih = omega (arith, ih (omega arith) any)

pub totals_filled :
    (p : Entry → Bool) → Steady p → (f : Fill) (b : Bool) → ((e : Entry) → fills f e ≡ true → p e ≡ b)
    → (ess : List (List Entry)) → counts (fills f) ess ≤ 1 → any_in (fillable f) ess ≡ true
    → totals p (map (filled_in f) ess) + cond b f.contracts 0 ≡ totals p ess
totals_filled p st f b h [] one any = mixed _ (sym any)
totals_filled p st f b h (es ∷ ess) one any = go (any_of (fillable f) es) refl any (totals_filled p st f b h ess)
  where
    named : (e : Entry) → fillable f e ≡ true → fills f e ≡ true
    named e z = (and_parts _ _ z).0

    go :
        (c : Bool) → any_of (fillable f) es ≡ c → (c || any_of (any_of (fillable f)) ess) ≡ true
        → (counts (fills f) ess ≤ 1 → any_in (fillable f) ess ≡ true → totals p (map (filled_in f) ess) + cond b f.contracts 0 ≡ totals p ess)
        → (total p (filled_in f es) + totals p (map (filled_in f) ess)) + cond b f.contracts 0 ≡ total p es + totals p ess
    go true w k ih =
        let n = some_count (fills f) (fillable f) named es w in
        omega (arith, total_filled p st f b h es (omega arith) w, totals_unfilled p f ess (omega (arith, n)))
    go false w k ih =
        let n = somes_count (fills f) (fillable f) named ess k in
        omega (arith, total_unfilled p f es (omega (arith, n)), ih (omega (arith, n)) k)

-- ---- both sides

-- the sell side's entry is still there once the buy side's is filled
any_filled : (q : Entry → Bool) (f : Fill) → ((e : Entry) → q e ≡ true → fills f e ≡ false) → (es : List Entry) → any_of q es ≡ true
    → any_of q (filled_in f es) ≡ true
any_filled q f h [] e = e
any_filled q f h (x ∷ es) e = go (q x) refl e (any_filled q f h es)
  where
    rest : (b z : Bool) → any_of q (filled_in f es) ≡ true
        → any_of q (cond b (cond z (filled_in f es) (less f.contracts x ∷ filled_in f es)) (x ∷ filled_in f es)) ≡ true
    rest true true k = k
    rest true false k = or_so _ _ k
    rest false z k = or_so _ _ k

    go : (b : Bool) → q x ≡ b → (b || any_of q es) ≡ true → (any_of q es ≡ true → any_of q (filled_in f es) ≡ true) → any_of q (filled_in f (x ∷ es)) ≡ true
    go true w k ih = rw (h x w) (rw w)
    go false w k ih = rest (fills f x) (eqb (x.contracts - f.contracts) 0) (ih k)

pub any_in_filled : (q : Entry → Bool) (f : Fill) → ((e : Entry) → q e ≡ true → fills f e ≡ false) → (ess : List (List Entry))
    → any_in q ess ≡ true → any_in q (map (filled_in f) ess) ≡ true
any_in_filled q f h [] e = e
any_in_filled q f h (es ∷ ess) e = go (any_of q es) refl e (any_in_filled q f h ess)
  where
    go : (b : Bool) → any_of q es ≡ b → (b || any_of (any_of q) ess) ≡ true → (any_in q ess ≡ true → any_in q (map (filled_in f) ess) ≡ true)
        → (any_of q (filled_in f es) || any_in q (map (filled_in f) ess)) ≡ true
    go true w k ih = rw (any_filled q f h es w)
    go false w k ih = or_so _ _ (ih k)

-- both sides of a trade have an entry to fill
pub both_fillable : (b : Book) (t : Trade) → tradeable b t ≡ true → (any_in (fillable (buy_side t)) b.resting ≡ true)
    × (any_in (fillable (sell_side t)) b.resting ≡ true)
both_fillable b t e =
    let h = (and_parts _ _ e).1 in (
      any_less (any_of (fillable (buy_side t))) _
          (λ es k. any_less (fillable (buy_side t)) _ (λ x y. (and_parts _ _ y).0) es (and_parts _ _ k).0) b.resting h,
      any_less (any_of (fillable (sell_side t))) _
          (λ es k. any_less (fillable (sell_side t)) _ (λ x y. (and_parts _ _ y).0) es (and_parts _ _ k).1) b.resting h,
    )

pub other_side_unfilled : (t : Trade) (e : Entry) → fillable (sell_side t) e ≡ true → fills (buy_side t) e ≡ false
other_side_unfilled t e h = go (is_for t.buyer.login t.buyer.number e) (eqb e.side 1)
    (ne_eqb e.side 1 (λ k. two (eqb-true e.side 2 (and_parts _ _ (and_parts _ _ h).0).1) k))
  where
    two : e.side ≡ 2 → e.side ≡ 1 → ⊥
    two p q = omega (arith, p, q)

    go : (a b : Bool) → b ≡ false → (a && b) ≡ false
    go true b k = k
    go false b k = refl

-- ---- a fill and a sweep that does not look at contracts can change places

fill_off : (q : Entry → Bool) → Steady q → (f : Fill) (es : List Entry) → without q (filled_in f es) ≡ filled_in f (without q es)
fill_off q st f [] = refl
fill_off q st f (e ∷ es) = go (q e) (fills f e) (eqb (e.contracts - f.contracts) 0) refl refl refl (fill_off q st f es)
  where
    n : ℕ
    n = f.contracts

    go :
        (b c z : Bool) → q e ≡ b → fills f e ≡ c → eqb (e.contracts - n) 0 ≡ z → without q (filled_in f es) ≡ filled_in f (without q es)
        → without q (cond c (cond z (filled_in f es) (less n e ∷ filled_in f es)) (e ∷ filled_in f es)) ≡ filled_in f
        (cond b (without q es) (e ∷ without q es))
    go true true true h c z ih = ih
    go true true false h c z ih = rw (st e n, h) ih
    go true false z h c w ih = rw h ih
    go false true true h c z ih = rw (c, z) ih
    go false true false h c z ih = rw (c, z, st e n, h) (ap (λ (xs : List Entry). less n e ∷ xs) ih)
    go false false z h c w ih = rw (c, h) (ap (λ (xs : List Entry). e ∷ xs) ih)

pub fills_off : (q : Entry → Bool) → Steady q → (f : Fill) (ess : List (List Entry))
    → map (without q) (map (filled_in f) ess) ≡ map (filled_in f) (map (without q) ess)
fills_off q st f [] = refl
fills_off q st f (es ∷ ess) = ap₂ (λ x xs. x ∷ xs) (fill_off q st f es) (fills_off q st f ess)
