-- A scope is a login, or an acronym with all its logins: who is in it, and its hold. Assumes nothing.
use Rattle.std.specs.Prelude.{ℕ, Bool, false, not, ◌==◌}
use Rattle.terms.specs.declared.messages.ScopeNumber.{ScopeNumber}
use Rattle.terms.specs.declared.messages.ScopeNumber.TheVariants.{Login, Acronym}
use Rattle.checks.specs.Meaning.{Meaning}
use Rattle.history.specs.State.{State, row, hold_of, is_open, with_hold, with_row, with_hold_of, first_cause}

module _ {m : Meaning} where
  abbrev pub in_scope : State m → ScopeNumber → (login : ℕ) → Bool
  in_scope s (Login l) login = login == l
  in_scope s (Acronym a) login = (row s login).acronym == a

  -- the acronym whose scope it is
  abbrev pub scope_acronym : State m → ScopeNumber → ℕ
  scope_acronym s (Login l) = (row s l).acronym
  scope_acronym s (Acronym a) = a

  -- a login that is named is not open; an acronym is always there
  abbrev pub shut : State m → ScopeNumber → Bool
  shut s (Login l) = not (is_open (row s l))
  shut s (Acronym a) = false

  -- a hold keeps its first cause; the cause 0 holds nothing
  abbrev pub hold_scope : ScopeNumber → (cause : ℕ) → State m → State m
  hold_scope (Login l) cause s = with_row l (with_hold (first_cause (row s l).hold cause) (row s l)) s
  hold_scope (Acronym a) cause s = with_hold_of a (first_cause (hold_of s a) cause) s

  abbrev pub lift_scope : ScopeNumber → State m → State m
  lift_scope (Login l) s = with_row l (with_hold 0 (row s l)) s
  lift_scope (Acronym a) s = with_hold_of a 0 s
