-- The search passes the items that do not meet the test, up to the first that does or to the end.
use Rattle.std.proofs.Common.{rules, tests}
use Rattle.chains.proofs.Seek.{seeks_none, seeks_some}
use Rattle.chains.proofs.walks.Walk.seek.Goals as goal

pub returns-in_err-find-clause-none : goal.returns-in_err-find-clause-none
returns-in_err-find-clause-none g c = rw c.from_residual.ensures (seeks_none _ _ _ (λ x b q k. search (rules, tests)) _ _ c.requires c.in_err-find.ensures.ran)

pub returns-clause-found : goal.returns-clause-found
returns-clause-found g c = seeks_some _ _ _ (λ x b q k. search (rules, tests)) _ _ _ c.requires c.in_ok-find.ensures.ran
