-- Sweeping login by login, as the gate's loop does. Assumes nothing.
use Rattle.std.proofs.Common.{◌≡◌, ℕ, suc, ◌+◌, ◌*◌, ◌≤◌, Bool, true, false, ◌&&◌, eqb, Some, None, Option, sym, refl, ap, ◌∙◌, add-one, arith, ◌-◌, subst}
use mathlib.Core.Path.{fun_ext}
use Rattle.market.specs.Book.{Book, Entry, in_reach, totals, taken_off}
use Rattle.market.specs.Market.{Swept}
use Rattle.market.specs.Sweeps as market
use Rattle.market.specs.Sweeps.{in_cut, reached_by, swept_up_to, swept_sum}
use Rattle.market.proofs.Sweeps.{nobodys, none_off, none_totals}
use Rattle.checks.specs.Meaning.{Meaning}
use Rattle.history.specs.State.{State, with_book}
use Rattle.gate.specs.declared.cuts.Cut.{Cut}
use Rattle.gate.specs.Cuts.{cut_in}

and_false : (b : Bool) → (b && false) ≡ false
and_false true = refl
and_false false = refl

abbrev within : (login : ℕ) → Option ℕ → Entry → Bool
within login o e = eqb e.login login && reached_by o e.kind

-- what a cut takes off of a login that it leaves alone, or sweeps within a reach
pub cut_none : (cut : market.Cut) (login : ℕ) → None ≡ cut login → in_cut cut login ≡ nobodys
cut_none cut login is = ap (within login) (sym is) ∙ fun_ext (λ e. and_false (eqb e.login login))

pub cut_reach : (cut : market.Cut) (login reach : ℕ) → Some reach ≡ cut login → in_cut cut login ≡ in_reach login reach
cut_reach cut login reach is = ap (within login) (sym is)

-- one login of a cut was swept
pub record SweptOne {m : Meaning} (s : State m) (cut : market.Cut) (login n : ℕ) (t : State m) : Type 0 where
  pub sum : n ≡ totals (in_cut cut login) s.book.resting
  pub small : n ≤ 1048560
  pub after : t ≡ with_book (taken_off (in_cut cut login) s.book) s

module _ {m : Meaning} (s : State m) where
  pub left_alone : (cut : market.Cut) (login : ℕ) → None ≡ cut login → SweptOne s cut login 0 s
  left_alone cut login is =
      let e = cut_none cut login is in
      record {
        sum = sym (ap (λ p. totals p s.book.resting) e ∙ none_totals s.book.resting);
        small = omega arith;
        after = sym (ap (λ (b : Book). with_book b s) (ap (λ p. taken_off p s.book) e ∙ none_off s.book));
      }

  pub swept_within :
      (cut : market.Cut) (login reach n l : ℕ) (b : Book) → l ≡ login → Some reach ≡ cut login → Swept s.book l reach n b → n ≤ 1048560
      → SweptOne s cut login n (with_book b s)
  swept_within cut login reach n l b same is swept small =
      let e = ap (λ i. in_reach i reach) same ∙ sym (cut_reach cut login reach is) in
      record {
        sum = swept.0 ∙ ap (λ p. totals p s.book.resting) e;
        small = small;
        after = ap (λ (x : Book). with_book x s) (swept.1 ∙ ap (λ p. taken_off p s.book) e);
      }

  -- the logins up to n were swept, which left t
  abbrev pub SweptUpTo : Cut → (n sum : ℕ) → State m → Type 0
  SweptUpTo cut n sum t =
      (sum ≡ swept_sum (cut_in s cut) n s.book) × (sum ≤ 1048560 * n) × (t ≡ with_book (swept_up_to (cut_in s cut) n s.book) s)

  next_swept : (cut : Cut) (n sum k : ℕ) (t u : State m) → SweptUpTo cut n sum t → SweptOne t (cut_in t cut) (n + 1) k u → SweptUpTo cut (n + 1) (sum + k) u
  next_swept cut n sum k t u before one =
      let at_t : (f : State m → ℕ) → f t ≡ f (with_book (swept_up_to (cut_in s cut) n s.book) s) = λ f. ap f before.2 in
      let next : n + 1 ≡ suc n = add-one n in
      let more : k ≡ totals (in_cut (cut_in s cut) (suc n)) (swept_up_to (cut_in s cut) n s.book).resting
      = one.sum ∙ at_t (λ x. totals (in_cut (cut_in x cut) (n + 1)) x.book.resting)
      ∙ ap (λ i. totals (in_cut (cut_in s cut) i) (swept_up_to (cut_in s cut) n s.book).resting) next in (
        ap (λ i. i + k) before.0 ∙ ap (λ i. swept_sum (cut_in s cut) n s.book + i) more ∙ sym (ap (λ i. swept_sum (cut_in s cut) i s.book) next),
        omega (arith, before.1, one.small),
        one.after
            ∙ ap (λ (x : State m). with_book (taken_off (in_cut (cut_in x cut) (n + 1)) x.book) x) before.2
            ∙ ap (λ i. with_book (taken_off (in_cut (cut_in s cut) i) (swept_up_to (cut_in s cut) n s.book)) s) next
            ∙ sym (ap (λ i. with_book (swept_up_to (cut_in s cut) i s.book) s) next),
      )

  pub one_more :
      (cut : Cut) (login sum k : ℕ) (t u : State m) → 1 ≤ login → SweptUpTo cut (login - 1) sum t → SweptOne t (cut_in t cut) login k u
      → SweptUpTo cut ((login + 1) - 1) (sum + k) u
  one_more cut login sum k t u low before one =
      let same : (login - 1) + 1 ≡ login = omega (arith, low) in
      let next : (login - 1) + 1 ≡ (login + 1) - 1 = omega (arith, low) in
      subst (λ i. SweptUpTo cut i (sum + k) u) next
      (next_swept cut (login - 1) sum k t u before (subst (λ i. SweptOne t (cut_in t cut) i k u) (sym same) one))

  pub all_swept : (cut : Cut) (n sum : ℕ) (t : State m) → n ≡ 25 → SweptUpTo cut (n - 1) sum t → SweptUpTo cut 24 sum t
  all_swept cut n sum t is up = let same : n - 1 ≡ 24 = omega (arith, is) in subst (λ i. SweptUpTo cut i sum t) same up
