-- The logins that were gone through are new. Assumes nothing.
use Rattle.rates.specs.Scopes.{scope_view, new_scope}
use Rattle.rates.proofs.Seen.{Made}
use Rattle.rates.proofs.firms.renew_logins.Given as goal

abbrev pub invariant-loop-scope : goal.invariant-loop-scope
invariant-loop-scope l = Made scope_view new_scope 24 l.logins l.scope-index
