-- The slip is gone, and the login's row says so. Assumes nothing.
use Rattle.std.proofs.Common.{refl}
use Rattle.gate.specs.Kept.{state_of}
use Rattle.gate.proofs.Stepping.{receipts}
use Rattle.gate.proofs.desk.Gate.receipt_slip.Goals as goal

pub returns : goal.returns
returns g c =
    let s = state_of g.M.Market g.C.Check c.args.self.now in
    let a = c.in_ok-login.ensures in
    receipts s c.args.self.now.rows c.args.fill _ c.index.result c.none_wait-settled.result _ c.receipt.new.self
    (g.M.Market.book c.drop_slip.new.self) refl c.args.self.now.row_each a.0 a.1 c.index.ensures.place c.index.ensures.bound
    c.drop_slip.ensures.1 c.none_wait-settled.ensures c.receipt.ensures
