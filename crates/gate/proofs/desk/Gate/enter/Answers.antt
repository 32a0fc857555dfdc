-- Turned down, not taken by the market, or resting. Assumes nothing.
use Rattle.std.proofs.Common.{◌≡◌, refl, ◌∙◌, arith}
use Rattle.gate.specs.Kept.{state_of}
use Rattle.gate.proofs.Entering.{turned_down, rest_refused, rests}
use Rattle.gate.proofs.desk.Gate.enter.Goals as goal

pub returns-in-Err-judge : goal.returns-in-Err-judge
returns-in-Err-judge g c =
    let s = state_of g.M.Market g.C.Check c.args.self.now in
    let not-0 : c.number-number.result ≡ 0 → ⊥ = λ e. omega (arith, e, c.number-number.ensures, c.in-Err-judge.turn_down.low) in
    turned_down g.C.Check.meaning s _ c.args.ticket c.in-Ok.ensures.0 c.asked-asked.result c.number-number.result c.asked-asked.ensures
    (c.number-number.ensures ∙ c.in-Err-judge.ensures) c.notice-effect.result not-0 c.notice-effect.ensures.effect c.notice-effect.ensures.after

pub returns-in-Err-rest : goal.returns-in-Err-rest
returns-in-Err-rest g c =
    let s = state_of g.M.Market g.C.Check c.args.self.now in
    let a = c.in-Ok.ensures in
    rest_refused g.C.Check.meaning s _ c.args.ticket a.0 c.asked-asked.result 0 c.asked-asked.ensures c.in_default.ensures refl _ _ _ a.1.0 a.1.1
    c.in-Err-rest.refusal c.in-Err-rest.ensures refl

pub returns : goal.returns
returns g c =
    let s = state_of g.M.Market g.C.Check c.args.self.now in
    let a = c.in-Ok.ensures in
    rests g.C.Check.meaning s _ c.args.ticket a.0 c.asked-asked.result 0 c.asked-asked.ensures c.in_default.ensures refl _ _ _ a.1.0 a.1.1
    c.notice-effect-2.result c.in_default-rest.ensures c.notice-effect-2.ensures.effect c.notice-effect-2.ensures.after
