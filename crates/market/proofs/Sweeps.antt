-- Sweeping login by login is taking off by one test over all: what is left, and the contracts added up. Assumes nothing.
use Rattle.std.proofs.Common.{◌≡◌, ℕ, zero, suc, ◌+◌, ◌<◌, Bool, true, false, cond, ◌&&◌, ◌||◌, eqb, leb, List, [], ◌∷◌, map, None, sym, refl, ap, ◌∙◌, subst, ap₂, ⊎_elim, arith}
use mathlib.Core.Path.{fun_ext}
use Rattle.std.proofs.lemmas.Bool.{eq-eqb, le-leb, lt-leb}
use Rattle.std.proofs.lemmas.Bool.Decides.{eqb_tells, leb_tells, nat_tests}
use Rattle.market.specs.Book.{Book, Entry, taken_off, total, totals, with_resting, without}
use Rattle.market.specs.Sweeps.{ByLogin, Cut, in_cut, reached_by, swept_by, swept_sum, swept_up_to}

-- ---- taking off by one test and then by another is taking off by either

abbrev pub either : (Entry → Bool) → (Entry → Bool) → Entry → Bool
either p q e = p e || q e

two_without : (p q : Entry → Bool) (es : List Entry) → without q (without p es) ≡ without (either p q) es
two_without p q [] = refl
two_without p q (e ∷ es) =
    elim (p e) as (λ b. without q (cond b (without p es) (e ∷ without p es)) ≡ cond (b || q e) (without (either p q) es)
    (e ∷ without (either p q) es))
    [ true ↦ two_without p q es | false ↦ ap (λ rest. cond (q e) rest (e ∷ rest)) (two_without p q es) ]

two_map : (p q : Entry → Bool) (ess : List (List Entry)) → map (without q) (map (without p) ess) ≡ map (without (either p q)) ess
two_map p q [] = refl
two_map p q (es ∷ ess) = rw (two_without p q es, two_map p q ess)

pub two_off : (p q : Entry → Bool) (b : Book) → taken_off q (taken_off p b) ≡ taken_off (either p q) b
two_off p q b = ap (with_resting b) (two_map p q b.resting)

two_total : (p q : Entry → Bool) (es : List Entry) → total p es + total q (without p es) ≡ total (either p q) es
two_total p q [] = refl
two_total p q (e ∷ es) =
    let ih = two_total p q es in
    elim (p e) as (λ b. (cond b e.contracts 0 + total p es) + total q (cond b (without p es) (e ∷ without p es)) ≡ cond (b || q e)
    e.contracts 0 + total (either p q) es)
    [ true ↦ omega arith | false ↦ omega arith ]

pub two_totals : (p q : Entry → Bool) (ess : List (List Entry)) → totals p ess + totals q (map (without p) ess) ≡ totals (either p q) ess
two_totals p q [] = refl
two_totals p q (es ∷ ess) = omega (arith, two_total p q es, two_totals p q ess)

-- ---- a test that picks nobody's takes off nothing

abbrev pub nobodys : Entry → Bool
nobodys e = false

none_without : (es : List Entry) → without nobodys es ≡ es
none_without [] = refl
none_without (e ∷ es) = rw (none_without es)

none_map : (ess : List (List Entry)) → map (without nobodys) ess ≡ ess
none_map [] = refl
none_map (es ∷ ess) = rw (none_without es, none_map ess)

pub none_off : (b : Book) → taken_off nobodys b ≡ b
none_off b = ap (with_resting b) (none_map b.resting)

none_total : (es : List Entry) → total nobodys es ≡ 0
none_total [] = refl
none_total (e ∷ es) = omega (arith, none_total es)

pub none_totals : (ess : List (List Entry)) → totals nobodys ess ≡ 0
none_totals [] = refl
none_totals (es ∷ ess) = omega (arith, none_total es, none_totals ess)

-- ---- by login, up to the n-th

abbrev below : ℕ → (Entry → Bool) → Entry → Bool
below n p e = leb e.login n && p e

next_login :
    (cut : Cut) (n l kind : ℕ)
    → (leb l (suc n) && reached_by (cut l) kind) ≡ ((leb l n && reached_by (cut l) kind) || (eqb l (suc n) && reached_by (cut (suc n)) kind))
next_login cut n l kind = ⊎_elim
    (λ p. subst Next (sym p.1) (rw (le-leb (suc n) (suc n) (omega arith), lt-leb (suc n) n (omega arith), eq-eqb (suc n) (suc n) refl)))
    (λ p. rw (p.0, same l p.1) (ends (leb l n && reached_by (cut l) kind)))
    (eqb_tells l (suc n))
  where
    Next : ℕ → Type 0
    Next i = (leb i (suc n) && reached_by (cut i) kind) ≡ ((leb i n && reached_by (cut i) kind) || (eqb i (suc n) && reached_by (cut (suc n)) kind))

    same : (i : ℕ) → (i ≡ suc n → ⊥) → leb i (suc n) ≡ leb i n
    same i h = grind (arith, nat_tests)

    ends : (b : Bool) → b ≡ (b || false)
    ends true = refl
    ends false = refl

one_more : (cut : Cut) (n : ℕ) → below (suc n) (swept_by cut) ≡ either (below n (swept_by cut)) (in_cut cut (suc n))
one_more cut n = fun_ext (λ e. next_login cut n e.login e.kind)

-- nobody has the login 0
none_yet : (cut : Cut) → cut 0 ≡ None → below 0 (swept_by cut) ≡ nobodys
none_yet cut h = fun_ext (λ e. go e.login e.kind)
  where
    go : (l kind : ℕ) → (leb l 0 && reached_by (cut l) kind) ≡ false
    go zero kind = rw h
    go (suc l) kind = rw (lt-leb (suc l) 0 (omega arith))

-- nor one above the 24th
all_then : (cut : Cut) → ((l : ℕ) → 24 < l → cut l ≡ None) → below 24 (swept_by cut) ≡ swept_by cut
all_then cut h = fun_ext (λ e. go e.login e.kind)
  where
    go : (l kind : ℕ) → (leb l 24 && reached_by (cut l) kind) ≡ reached_by (cut l) kind
    go l kind = ⊎_elim (λ p. rw p.0) (λ p. rw (p.0, h l p.1)) (leb_tells l 24)

module _ (cut : Cut) (b : Book) (first : cut 0 ≡ None) (last : (l : ℕ) → 24 < l → cut l ≡ None) where
  up_to : (n : ℕ) → swept_up_to cut n b ≡ taken_off (below n (swept_by cut)) b
  up_to zero = sym (ap (λ p. taken_off p b) (none_yet cut first) ∙ none_off b)
  up_to (suc n) =
      ap (taken_off (in_cut cut (suc n))) (up_to n) ∙ two_off (below n (swept_by cut)) (in_cut cut (suc n)) b
      ∙ sym (ap (λ p. taken_off p b) (one_more cut n))

  sum_up_to : (n : ℕ) → swept_sum cut n b ≡ totals (below n (swept_by cut)) b.resting
  sum_up_to zero = sym (ap (λ p. totals p b.resting) (none_yet cut first) ∙ none_totals b.resting)
  sum_up_to (suc n) =
      ap₂ (λ (x : ℕ) (c : Book). x + totals (in_cut cut (suc n)) c.resting) (sum_up_to n) (up_to n)
      ∙ two_totals (below n (swept_by cut)) (in_cut cut (suc n)) b.resting
      ∙ sym (ap (λ p. totals p b.resting) (one_more cut n))

  pub by_login : ByLogin cut b
  by_login =
      record {
        left = up_to 24 ∙ ap (λ p. taken_off p b) (all_then cut last);
        sum = sum_up_to 24 ∙ ap (λ p. totals p b.resting) (all_then cut last);
      }
