-- Each firm is made new in its place. Assumes nothing.
use Rattle.std.proofs.Common.{◌≡◌, ℕ, refl, subst, arith}
use Rattle.rates.specs.Firms.{firm_view, new_firm}
use Rattle.rates.proofs.Seen.{Made, made_more, made_all}
use Rattle.rates.proofs.telling.renew_firms.Goals as goal

pub loop-firm-init : goal.loop-firm-init
loop-firm-init c = record { long = c.told-firms; front = refl }

pub loop-firm-preserved : goal.loop-firm-preserved
loop-firm-preserved c = made_more c.renew.new.self c.loop-firm.invariant (omega arith) c.renew.ensures

pub returns : goal.returns
returns c =
    let all : c.loop-firm.firm-index ≡ 8 = omega arith in
    made_all (subst (λ (i : ℕ). Made firm_view new_firm 8 c.loop-firm.firms i) all c.loop-firm.invariant)
