-- Size: what the check keeps, what it judges, and what alters its limits. Assumes nothing.
use Rattle.std.specs.Prelude.{ℕ, Bool, false, cond, ◌||◌, replicate, Some, None, Option, ◌==◌, nat_lt}
use Rattle.std.proofs.Common.{inr, lit≤}
use Rattle.terms.specs.declared.kinds.LimitKind.TheVariants as kind
use Rattle.terms.specs.declared.messages.Notice.{Notice}
use Rattle.terms.specs.declared.messages.Notice.TheVariants.{Ticked, Valued, Opened, Closed, Limited, Released, Entered, TurnedDown, Filled}
use Rattle.terms.specs.declared.messages.ScopeNumber.{ScopeNumber}
use Rattle.terms.specs.declared.messages.ScopeNumber.TheVariants.{Login, Acronym}
use Rattle.terms.specs.declared.messages.Ticket.{Ticket}
use Rattle.terms.specs.declared.refusal.Refusal.TheVariants.{TooLarge}
use Rattle.terms.specs.Kinds.{limit_kind_number}
use Rattle.terms.specs.Refusals.{number}
use Rattle.terms.specs.Tables.{at, put}
use Rattle.checks.specs.declared.sizing.SizeLimits.{SizeLimits}
use Rattle.checks.specs.Judged.{either_ranged, zero_ranged}
use Rattle.checks.specs.Meaning.{Meaning, Lawful, no_cause}

-- a limit as it is sent: 0 is none
abbrev pub in_force : (limit : ℕ) → Option ℕ
in_force limit = cond (limit == 0) None (Some limit)

-- a limit is set, and lies below the contracts
abbrev pub exceeds : (limit : Option ℕ) → (contracts : ℕ) → Bool
exceeds None contracts = false
exceeds (Some limit) contracts = nat_lt limit contracts

-- a firm without any limit
abbrev pub unlimited : SizeLimits
unlimited = record { own = None; logins = replicate 24 None }

abbrev pub limit_for : (login : ℕ) → SizeLimits → Option ℕ
limit_for login q = at None q.logins login

abbrev pub too_large : Ticket → SizeLimits → Bool
too_large t q = exceeds q.own t.contracts || exceeds (limit_for t.login q) t.contracts

-- 41 above the firm's limit or the login's
abbrev pub sized : Ticket → SizeLimits → ℕ
sized t q = cond (too_large t q) (number TooLarge) 0

-- a limit for a scope
abbrev pub set_for : ScopeNumber → (limit : Option ℕ) → SizeLimits → SizeLimits
set_for (Login l) n q = record { own = q.own; logins = put q.logins l n }
set_for (Acronym a) n q = record { own = n; logins = q.logins }

-- opening and closing a login drop its limit; a limit of size is set for its scope
abbrev pub size_after : Notice → SizeLimits → SizeLimits
size_after (Ticked t) q = q
size_after (Valued s v) q = q
size_after (Opened a l r c) q = set_for (Login l) None q
size_after (Closed a l) q = set_for (Login l) None q
size_after (Limited a x) q = cond (x.kind == limit_kind_number kind.Size) (set_for x.scope (in_force x.limit) q) q
size_after (Released a s) q = q
size_after (Entered k) q = q
size_after (TurnedDown k n) q = q
size_after (Filled a f) q = q

abbrev pub size : Meaning
size = record {
  Pub = Unit {0};
  Priv = SizeLimits;
  renewed = λ p. p;
  fresh = λ p. unlimited;
  judged = λ k p q. sized k.ticket q;
  public_after = λ n p. p;
  private_after = λ n p q. size_after n q;
  causes = λ n p q. no_cause;
}

pub size_lawful : Lawful size
size_lawful = record { range = λ k p q. either_ranged (too_large k.ticket q) _ _ (inr (lit≤ tt, lit≤ tt)) zero_ranged }
