-- Each firm is made new. Assumes nothing.
use Rattle.std.proofs.Common.{rules}
use Rattle.rates.specs.Firms.{firm_view, new_firm}
use Rattle.rates.proofs.Seen.{all_made}
use Rattle.rates.proofs.windows.Rates.new.Goals as goal

pub returns-clause-firms : goal.returns-clause-firms
returns-clause-firms c = all_made _ firm_view new_firm c.from_fn.ensures.items (λ p q i y called. search rules)
