-- The firms that were gone through are new. Assumes nothing.
use Rattle.rates.specs.Firms.{firm_view, new_firm}
use Rattle.rates.proofs.Seen.{Made}
use Rattle.rates.proofs.telling.renew_firms.Given as goal

abbrev pub invariant-loop-firm : goal.invariant-loop-firm
invariant-loop-firm l = Made firm_view new_firm 8 l.firms l.firm-index
