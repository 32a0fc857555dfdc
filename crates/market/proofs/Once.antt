-- A login rests a number at most once, whatever is taken off, filled and rested. Assumes nothing.
use Rattle.std.proofs.Common.{◌≡◌, ℕ, ◌+◌, ◌≤◌, Bool, true, false, cond, eqb, List, [], ◌∷◌, ◌++◌, map, None, refl, ap, subst, arith}
use Rattle.std.proofs.lemmas.Bool.{and_parts, eqb-true}
use Rattle.terms.specs.Tables.{at, put}
use Rattle.terms.specs.declared.messages.Fill.{Fill}
use Rattle.terms.specs.declared.refusal.Refusal.TheVariants.{InUse}
use Rattle.terms.proofs.Answers.{none_so}
use Rattle.market.specs.Book.{Book, Entry, any_in, counts, is_for, totals, without}
use Rattle.market.specs.Market.{fillable, filled_in, fills, rest_refusal}
use Rattle.market.proofs.Counts.{anys_off, counts_less, counts_none, counts_off, counts_rest}
use Rattle.market.proofs.Fills.{Steady, counts_filled, fills_off, totals_filled}
use Rattle.market.proofs.Sums.{totals_in}

abbrev pub Once : List (List Entry) → Type 0
Once E = (l n : ℕ) → counts (is_for l n) E ≤ 1

pub once_off : (q : Entry → Bool) (E : List (List Entry)) → Once E → Once (map (without q) E)
once_off q E o l n = omega (arith, counts_off (is_for l n) q E, o l n)

pub once_filled : (f : Fill) (E : List (List Entry)) → Once E → Once (map (filled_in f) E)
once_filled f E o l n = omega (arith, counts_filled (is_for l n) (λ e k. refl) f E, o l n)

pub once_rest : (b : Book) (series : ℕ) (e : Entry) → rest_refusal b e ≡ None → Once b.resting
    → Once (put b.resting series (at [] b.resting series ++ (e ∷ [])))
once_rest b series e h o l n = go (is_for l n e) refl
  where
    E : List (List Entry)
    E = b.resting

    go : (c : Bool) → is_for l n e ≡ c → counts (is_for l n) (put E series (at [] E series ++ (e ∷ []))) ≤ 1
    go true w =
        let el : e.login ≡ l = eqb-true e.login l (and_parts (eqb e.login l) (eqb e.number n) w).0 in
        let en : e.number ≡ n = eqb-true e.number n (and_parts (eqb e.login l) (eqb e.number n) w).1 in
        let none : counts (is_for l n) E ≡ 0 = counts_none (is_for l n) E
        (subst (λ (k : ℕ). any_in (is_for k n) E ≡ false) el (subst (λ (k : ℕ). any_in (is_for e.login k) E ≡ false) en (none_so (any_in (is_for e.login e.number) E) InUse _ h).0)) in
        omega (arith, counts_rest (is_for l n) E series e, ap {B = ℕ} (λ x. cond x 1 0) w, none)
    go false w = omega (arith, counts_rest (is_for l n) E series e, ap {B = ℕ} (λ x. cond x 1 0) w, o l n)

-- so a side of a trade names one entry at most
pub fills_once : (f : Fill) (ess : List (List Entry)) → Once ess → counts (fills f) ess ≤ 1
fills_once f ess o = omega (arith, counts_less (is_for f.login f.number) (fills f) (λ e h. (and_parts _ _ h).0) ess, o f.login f.number)

-- a sweep that leaves the entry of f takes as much where f was filled first
pub untouched : (q : Entry → Bool) → Steady q → (f : Fill) (X : List (List Entry)) → Once X → any_in (fillable f) (map (without q) X) ≡ true
    → totals q (map (filled_in f) X) ≡ totals q X
untouched q st f X once any =
    go _ _ _ _ _ _ _ (totals_in all q (λ e w. refl) X) (totals_in all q (λ e w. refl) (map (filled_in f) X))
    (totals_filled all (λ e n. refl) f true (λ e w. refl) X few (anys_off (fillable f) q X any))
    (totals_filled all (λ e n. refl) f true (λ e w. refl) (map (without q) X) (omega (arith, few, counts_off (fills f) q X)) any)
    (ap (totals all) (fills_off q st f X))
  where
    all : Entry → Bool
    all e = true

    few : counts (fills f) X ≤ 1
    few = fills_once f X once

    go : (w tq x w' tq' x' n : ℕ) → w + tq ≡ x → w' + tq' ≡ x' → x' + n ≡ x → {y : ℕ} → y + n ≡ w → w' ≡ y → tq' ≡ tq
    go w tq x w' tq' x' n e1 e2 e3 {y} e4 e5 = omega arith
