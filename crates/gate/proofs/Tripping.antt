-- A cause of 0 holds and sweeps nothing, and a trip goes by its firm. Assumes nothing.
use Rattle.std.proofs.Common.{◌≡◌, ℕ, Bool, true, false, ◌&&◌, eqb, eqb-true, List, length, sym, refl, ap, ◌∙◌, ap₂, ⊎_elim}
use mathlib.Core.Path.{fun_ext}
use Rattle.std.proofs.lemmas.Bool.{and_parts}
use Rattle.std.proofs.lemmas.Bool.Decides.{eqb_tells}
use Rattle.terms.specs.declared.messages.Causes.{Causes}
use Rattle.terms.specs.declared.messages.ScopeNumber.{ScopeNumber}
use Rattle.terms.specs.declared.messages.ScopeNumber.TheVariants.{Acronym, Login}
use Rattle.terms.proofs.Tables.{put_same}
use Rattle.market.specs.Book.{Book, reaches, taken_off, totals}
use Rattle.market.specs.Sweeps.{swept_sum, swept_up_to}
use Rattle.market.proofs.Sweeps.{nobodys, none_off, none_totals}
use Rattle.checks.specs.Meaning.{Meaning, no_cause}
use Rattle.history.specs.State.{State, blank, first_cause, hold_of, is_open, row, with_book, with_hold, with_hold_of, with_row}
use Rattle.history.specs.Scopes.{hold_scope}
use Rattle.history.specs.Trips.{in_trip, trip}
use Rattle.history.specs.Laws.{trip_cut}
use Rattle.history.proofs.Composed.{trip_after}
use Rattle.history.proofs.Laws.{sweeps_by_login}
use Rattle.gate.proofs.Lent.{with_rows}

and_false : (b : Bool) → (b && false) ≡ false
and_false true = refl
and_false false = refl

same_cause : (old : ℕ) → first_cause old 0 ≡ old
same_cause old = ⊎_elim (λ p. rw p.0 (sym p.1)) (λ p. rw p.0) (eqb_tells old 0)

module _ {m : Meaning} (s : State m) where
  -- the cause 0 holds nothing
  pub hold_none : (scope : ScopeNumber) → hold_scope scope 0 s ≡ s
  hold_none (Login l) =
      ap (λ c. with_row l (with_hold c (row s l)) s) (same_cause (row s l).hold) ∙ ap (λ rs. with_rows rs s) (put_same blank s.rows l)
  hold_none (Acronym a) = ap (λ c. with_hold_of a c s) (same_cause (hold_of s a)) ∙ ap with_holds (put_same 0 s.holds a)
    where
      with_holds : List ℕ → State m
      with_holds hs =
          record { time = s.time; valued = s.valued; rows = s.rows; holds = hs; public = s.public; private = s.private; book = s.book }

  -- nor does it sweep
  picks_none : (login : ℕ) → in_trip s login no_cause ≡ nobodys
  picks_none login = fun_ext (λ e. and_false (is_open (row s e.login) && reaches (row s e.login).reach e.kind))

  causes_none : (c : Causes) → true ≡ (eqb c.login 0 && eqb c.acronym 0) → c ≡ no_cause
  causes_none c none =
      let both = and_parts (eqb c.login 0) (eqb c.acronym 0) (sym none) in
      ap₂ (λ x y. record { login = x; acronym = y }) (eqb-true c.login 0 both.0) (eqb-true c.acronym 0 both.1)

  module _ (login : ℕ) (c : Causes) (none : true ≡ (eqb c.login 0 && eqb c.acronym 0)) where
    pub trip_none : s ≡ trip login c s
    trip_none =
        sym
        (ap (λ (x : Causes). trip login x s) (causes_none c none)
        ∙ ap (λ (x : State m). hold_scope (Acronym (row s login).acronym) 0 (hold_scope (Login login) 0 x))
        (ap (λ (b : Book). with_book b s) (ap (λ p. taken_off p s.book) (picks_none login) ∙ none_off s.book))
        ∙ ap (hold_scope (Acronym (row s login).acronym) 0) (hold_none (Login login))
        ∙ hold_none (Acronym (row s login).acronym))

    pub trip_none_sum : 0 ≡ totals (in_trip s login c) s.book.resting
    trip_none_sum =
        sym
        (ap (λ (x : Causes). totals (in_trip s login x) s.book.resting) (causes_none c none)
        ∙ ap (λ p. totals p s.book.resting) (picks_none login)
        ∙ none_totals s.book.resting)

  -- the login and then the firm that has it are held, once all their logins were swept
  pub tripped :
      (s₁ s₂ s₃ : State m) (login firm : ℕ) (c : Causes) → length s.rows ≡ 24 → firm ≡ (row s login).acronym
      → s₁ ≡ with_book (swept_up_to (trip_cut s login c) 24 s.book) s → s₂ ≡ hold_scope (Login login) c.login s₁
      → s₃ ≡ hold_scope (Acronym firm) c.acronym s₂ → s₃ ≡ trip login c s
  tripped s₁ s₂ s₃ login firm c len is e₁ e₂ e₃ =
      trip_after m s s₁ s₂ s₃ login c len e₁ e₂ (e₃ ∙ ap (λ a. hold_scope (Acronym a) c.acronym s₂) is)

  pub tripped_sum :
      (login n : ℕ) (c : Causes) → length s.rows ≡ 24 → n ≡ swept_sum (trip_cut s login c) 24 s.book
      → n ≡ totals (in_trip s login c) s.book.resting
  tripped_sum login n c len e = e ∙ (sweeps_by_login m).trip_sum s login c len
