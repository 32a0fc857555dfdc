-- Each login is made new in its place. Assumes nothing.
use Rattle.std.proofs.Common.{◌≡◌, ℕ, refl, subst, arith}
use Rattle.rates.specs.Scopes.{scope_view, new_scope}
use Rattle.rates.proofs.Seen.{Made, made_more, made_all}
use Rattle.rates.proofs.firms.renew_logins.Goals as goal

pub loop-scope-init : goal.loop-scope-init
loop-scope-init c = record { long = c.told-logins; front = refl }

pub loop-scope-preserved : goal.loop-scope-preserved
loop-scope-preserved c = made_more c.renew.new.self c.loop-scope.invariant (omega arith) c.renew.ensures

pub returns : goal.returns
returns c =
    let all : c.loop-scope.scope-index ≡ 24 = omega arith in
    made_all (subst (λ (i : ℕ). Made scope_view new_scope 24 c.loop-scope.logins i) all c.loop-scope.invariant)
