-- One login more was swept. Assumes nothing.
use Rattle.std.proofs.Common.{◌≡◌, arith}
use Rattle.gate.specs.Kept.{state_of}
use Rattle.gate.proofs.Sweeping.{all_swept, one_more}
use Rattle.gate.proofs.desk.Gate.sweep_all.Goals as goal

pub loop-login-preserved : goal.loop-login-preserved
loop-login-preserved g c =
    let e = c.sweep_login-sum.ensures in
    let s = state_of g.M.Market g.C.Check c.args.self.now in
    one_more s c.args.cut c.loop-login.login c.loop-login.sum c.sweep_login-sum.result _ _ c.loop-login.auto.login c.loop-login.invariant
    (record { sum = e.sum; small = e.small; after = e.after })

pub returns : goal.returns
returns g c =
    let s = state_of g.M.Market g.C.Check c.args.self.now in
    let is : c.loop-login.login ≡ 25 = omega arith in
    let up = all_swept s c.args.cut c.loop-login.login c.loop-login.sum _ is c.loop-login.invariant in
    record { sum = up.0; after = up.2 }
