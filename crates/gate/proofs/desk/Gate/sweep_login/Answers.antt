-- A login is left alone, or swept within its reach. Assumes nothing.
use Rattle.gate.specs.Kept.{state_of}
use Rattle.gate.specs.Cuts.{cut_in}
use Rattle.gate.proofs.Sweeping.{left_alone, swept_within}
use Rattle.gate.proofs.desk.Gate.sweep_login.Goals as goal

pub returns-in_default : goal.returns-in_default
returns-in_default g c =
    let s = state_of g.M.Market g.C.Check c.args.self.now in
    let r = left_alone s (cut_in s c.args.cut) c.args.login c.in_default.ensures in
    record { sum = r.sum; small = r.small; after = r.after }

pub returns : goal.returns
returns g c =
    let s = state_of g.M.Market g.C.Check c.args.self.now in
    let r = swept_within s (cut_in s c.args.cut) c.args.login _ c.sweep.result _ _ c.in-Ok.ensures.reads.0 c.in-Some.ensures c.sweep.ensures.does c.sweep.ensures.bound in
    record { sum = r.sum; small = r.small; after = r.after }
