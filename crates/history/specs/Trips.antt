-- Telling the checks of something, and what it trips: the scope is held, and its open logins are swept, each within its own reach. Assumes nothing.
use Rattle.std.specs.Prelude.{ℕ, Bool, ◌&&◌, ◌||◌}
use Rattle.terms.specs.declared.messages.Causes.{Causes}
use Rattle.terms.specs.declared.messages.Notice.{Notice}
use Rattle.terms.specs.declared.messages.ScopeNumber.TheVariants.{Login, Acronym}
use Rattle.terms.specs.declared.events.Effect.{Effect}
use Rattle.market.specs.Book.{Entry, reaches, totals, taken_off}
use Rattle.checks.specs.Meaning.{Meaning, no_cause, whose, told_public, told_each, told_causes}
use Rattle.history.specs.State.{State, row, private_of, is_open, with_book, nonzero}
use Rattle.history.specs.Scopes.{in_scope, hold_scope}

abbrev pub no_effect : Effect
no_effect = record { causes = no_cause; cancelled = 0 }

module _ {m : Meaning} where
  abbrev pub tell : Notice → State m → State m
  tell n s =
      record {
        time = s.time;
        valued = s.valued;
        rows = s.rows;
        holds = s.holds;
        public = told_public m n s.public;
        private = told_each m 1 n s.public s.private;
        book = s.book;
      }

  abbrev pub causes_of : Notice → State m → Causes
  causes_of n s = told_causes m n s.public (private_of s (whose n))

  -- what the causes of a notice of one login sweep: entries of open logins in the scope of a cause, each within its login's reach
  abbrev pub in_trip : State m → (login : ℕ) → Causes → Entry → Bool
  in_trip s login c e =
      (is_open (row s e.login) && reaches (row s e.login).reach e.kind)
      && ((nonzero c.login && in_scope s (Login login) e.login)
      || (nonzero c.acronym && in_scope s (Acronym (row s login).acronym) e.login))

  -- login and acronym may trip at once: each is held, and each contract is taken off once
  abbrev pub trip : (login : ℕ) → Causes → State m → State m
  trip login c s =
      hold_scope (Acronym (row s login).acronym) c.acronym
      (hold_scope (Login login) c.login (with_book (taken_off (in_trip s login c) s.book) s))

  -- a notice of a login is told, and what it trips is held and swept
  abbrev pub noticed : (login : ℕ) → Notice → State m → State m
  noticed login n s = trip login (causes_of n s) (tell n s)

  -- the causes, and the contracts that are cancelled
  abbrev pub effect_of : (login : ℕ) → Notice → State m → Effect
  effect_of login n s = record { causes = causes_of n s; cancelled = totals (in_trip s login (causes_of n s)) s.book.resting }
