-- The windows of a firm, and the check that they make. Assumes nothing.
use Rattle.std.specs.Prelude.{ℕ, Bool, true, false, cond, List, map, replicate, ◌==◌}
use Rattle.terms.specs.declared.messages.Causes.{Causes}
use Rattle.terms.specs.declared.messages.Notice.{Notice}
use Rattle.terms.specs.declared.messages.Notice.TheVariants.{Ticked, Valued, Opened, Closed, Limited, Released, Entered, TurnedDown, Filled}
use Rattle.terms.specs.declared.messages.ScopeNumber.{ScopeNumber}
use Rattle.terms.specs.declared.messages.ScopeNumber.TheVariants.{Login, Acronym}
use Rattle.terms.specs.Tables.{at}
use Rattle.checks.specs.Judged.{zero_ranged}
use Rattle.checks.specs.Meaning.{Meaning, Lawful}
use Rattle.checks.specs.Places.{numbered}
use Rattle.rates.specs.declared.windows.FirmWindows.{FirmWindows}
use Rattle.rates.specs.Scopes.{ScopeView, scope_view, new_scope, scope_told, scope_cause}

abbrev pub login_in : ScopeNumber → ℕ
login_in (Login l) = l
login_in (Acronym a) = 0

abbrev pub is_firm : ScopeNumber → Bool
is_firm (Login l) = false
is_firm (Acronym a) = true

-- the login whose windows a notice is for, 0 for none
abbrev pub login_of : Notice → ℕ
login_of (Ticked t) = 0
login_of (Valued s v) = 0
login_of (Opened a l r c) = l
login_of (Closed a l) = l
login_of (Limited a x) = login_in x.scope
login_of (Released a s) = login_in s
login_of (Entered k) = k.ticket.login
login_of (TurnedDown k n) = k.ticket.login
login_of (Filled a f) = f.login

-- a notice is for the windows of the firm as a whole: an event counts there too
abbrev pub for_firm : Notice → Bool
for_firm (Ticked t) = false
for_firm (Valued s v) = false
for_firm (Opened a l r c) = false
for_firm (Closed a l) = false
for_firm (Limited a x) = is_firm x.scope
for_firm (Released a s) = is_firm s
for_firm (Entered k) = true
for_firm (TurnedDown k n) = true
for_firm (Filled a f) = true

pub record FirmView : Type 0 where
  pub own : ScopeView
  pub logins : List ScopeView

abbrev pub firm_view : FirmWindows → FirmView
firm_view f = record { own = scope_view f.own; logins = map scope_view f.logins }

abbrev pub new_firm : FirmView
new_firm = record { own = new_scope; logins = replicate 24 new_scope }

-- the windows of the login l after a notice
abbrev pub login_told : (time : ℕ) → Notice → (l : ℕ) → ScopeView → ScopeView
login_told t n l s = cond (login_of n == l) (scope_told t n s) s

-- the windows of a firm after a notice that names it
abbrev pub firm_told : (time : ℕ) → Notice → FirmView → FirmView
firm_told t n q = record { own = cond (for_firm n) (scope_told t n q.own) q.own; logins = numbered (login_told t n) 1 q.logins }

abbrev pub firm_causes : (time : ℕ) → Notice → FirmView → Causes
firm_causes t n q = record {
  login = scope_cause t n (at new_scope q.logins (login_of n));
  acronym = cond (for_firm n) (scope_cause t n q.own) 0;
}

-- the clock goes by the ticks
abbrev pub time_after : Notice → ℕ → ℕ
time_after (Ticked t) p = t
time_after (Valued s v) p = p
time_after (Opened a l r c) p = p
time_after (Closed a l) p = p
time_after (Limited a x) p = p
time_after (Released a s) p = p
time_after (Entered k) p = p
time_after (TurnedDown k n) p = p
time_after (Filled a f) p = p

-- the public record is the time, a private one the windows of a firm
abbrev pub rates : Meaning
rates = record {
  Pub = ℕ;
  Priv = FirmView;
  renewed = λ p. 0;
  fresh = λ p. new_firm;
  judged = λ k p q. 0;
  public_after = time_after;
  private_after = λ n p q. firm_told p n q;
  causes = λ n p q. firm_causes p n q;
}

pub rates_lawful : Lawful rates
rates_lawful = record { range = λ k p q. zero_ranged }
