-- Each login is made new. Assumes nothing.
use Rattle.std.proofs.Common.{rules}
use Rattle.rates.specs.Scopes.{scope_view, new_scope}
use Rattle.rates.proofs.Seen.{all_made}
use Rattle.rates.proofs.windows.FirmWindows.new.Goals as goal

pub returns : goal.returns
returns c =
    let own = c.new.ensures in
    let logins = all_made _ scope_view new_scope c.from_fn.ensures.items (λ p q i y called. search rules) in
    λ i. record { own = own i; logins = logins i }
