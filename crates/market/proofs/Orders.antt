-- A book stays orderly, whatever is taken off, filled and rested; and what a sweep of a login answers is small. Assumes nothing.
use Rattle.std.proofs.Common.{◌≡◌, ℕ, ◌+◌, ◌-◌, ◌*◌, ◌<◌, ◌≤◌, Bool, true, false, cond, eqb, leb, List, [], ◌∷◌, map, replicate, None, refl, ap, inl, inr, ⊎_elim, arith}
use Rattle.std.specs.List.{AllByRecursion}
use Rattle.std.proofs.lemmas.Bool.{and_parts, eqb-false, leb-false}
use Rattle.std.proofs.lemmas.Bool.Decides.{eqb_tells, leb_tells}
use Rattle.terms.specs.Tables.{at}
use Rattle.terms.specs.declared.messages.Fill.{Fill}
use Rattle.terms.specs.declared.refusal.Refusal.TheVariants.{Allotment, InUse}
use Rattle.terms.proofs.Answers.{none_so}
use Rattle.terms.proofs.Tables.{all_joined, all_at, all_map, all_put, all_same, all_weak, never}
use Rattle.market.specs.Book.{Book, Entry, any_in, count, counts, in_reach, is_for, total, totals, without}
use Rattle.market.specs.Laws.{Left, Orderly, SmallSweeps}
use Rattle.market.specs.Market.{filled_in, less, rest_refusal, rested}
use Rattle.market.proofs.Counts.{counts_less, counts_off, counts_rest}
use Rattle.market.proofs.Fills.{all_filled, counts_filled}
use Rattle.market.proofs.Once.{once_filled, once_off, once_rest}
use Rattle.market.proofs.Picked.{all_without}

abbrev of_login : ℕ → Entry → Bool
of_login login e = eqb e.login login

pub orderly_off : (q : Entry → Bool) (ess : List (List Entry)) → Orderly ess → Orderly (map (without q) ess)
orderly_off q ess o =
    record {
      once = once_off q ess o.once;
      sixteen = λ l. omega (arith, counts_off (of_login l) q ess, o.sixteen l);
      left = all_map (AllByRecursion Left) (AllByRecursion Left) (without q) ess
          (λ es a. all_weak (λ e. Left e × (q e ≡ false)) Left (without q es) (λ e p. p.0) (all_without Left q es a)) o.left;
    }

less_left : (e : Entry) (n : ℕ) → eqb (e.contracts - n) 0 ≡ false → Left e → Left (less n e)
less_left e n w p =
    let z = eqb-false (e.contracts - n) 0 w in
    (elim (leb_tells 1 (e.contracts - n)) [ inl y ↦ y.1 | inr y ↦ never _ (z (omega arith)) ], omega (arith, p.1))

pub orderly_filled : (f : Fill) (ess : List (List Entry)) → Orderly ess → Orderly (map (filled_in f) ess)
orderly_filled f ess o =
    record {
      once = once_filled f ess o.once;
      sixteen = λ l. omega (arith, counts_filled (of_login l) (λ e n. refl) f ess, o.sixteen l);
      left = all_map (AllByRecursion Left) (AllByRecursion Left) (filled_in f) ess (λ es a. all_filled Left f es less_left a) o.left;
    }

pub orderly_rest : (b : Book) (series : ℕ) (e : Entry) → Left e → rest_refusal b e ≡ None → Orderly b.resting → Orderly (rested b series e).resting
orderly_rest b series e fine h o =
    record {
      once = once_rest b series e h o.once;
      sixteen = room;
      left = all_put (AllByRecursion Left) b.resting series _
          (all_joined Left (at [] b.resting series) (e ∷ []) (all_at (AllByRecursion Left) [] b.resting series tt o.left) (fine, tt)) o.left;
    }
  where
    few : counts (of_login e.login) b.resting < 16
    few = leb-false 16 (counts (of_login e.login) b.resting)
        (none_so (leb 16 (counts (of_login e.login) b.resting)) Allotment None
        (none_so (any_in (is_for e.login e.number) b.resting) InUse _ h).1).0

    room : (l : ℕ) → counts (of_login l) (rested b series e).resting ≤ 16
    room l = ⊎_elim
        (λ p. omega (
          arith,
          counts_rest (of_login l) b.resting series e,
          ap {B = ℕ} (λ x. cond x 1 0) p.0,
          ap
              (λ (i : ℕ). counts (of_login i) b.resting) p.1,
          few,
        ))
        (λ p. omega (arith, counts_rest (of_login l) b.resting series e, ap {B = ℕ} (λ x. cond x 1 0) p.0, o.sixteen l))
        (eqb_tells e.login l)

pub orderly_none : Orderly (replicate 16 [])
orderly_none = record { once = λ l n. omega arith; sixteen = λ l. omega arith; left = all_same (AllByRecursion Left) [] 16 tt }

-- ---- sums

total_small : (p : Entry → Bool) (es : List Entry) → AllByRecursion Left es → total p es ≤ 65535 * count p es
total_small p [] a = omega arith
total_small p (e ∷ es) a = go (p e) (total_small p es a.1)
  where
    go : (b : Bool) → total p es ≤ 65535 * count p es → cond b e.contracts 0 + total p es ≤ 65535 * (cond b 1 0 + count p es)
    go true ih = omega (arith, ih, a.0.1)
    go false ih = omega (arith, ih)

totals_small : (p : Entry → Bool) (ess : List (List Entry)) → AllByRecursion (AllByRecursion Left) ess → totals p ess ≤ 65535 * counts p ess
totals_small p [] a = omega arith
totals_small p (es ∷ ess) a = omega (arith, total_small p es a.0, totals_small p ess a.1)

pub small_sweeps : (ess : List (List Entry)) → Orderly ess → SmallSweeps ess
small_sweeps ess o l reach =
    omega (
      arith,
      totals_small (in_reach l reach) ess o.left,
      counts_less (of_login l) (in_reach l reach)
          (λ e h. (and_parts _ _ h).0) ess,
      o.sixteen l,
    )
