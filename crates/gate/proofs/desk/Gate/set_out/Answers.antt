-- The login's row says whether a slip is out. Assumes nothing.
use Rattle.std.proofs.Common.{◌≡◌, suc, ◌<◌, refl, arith}
use Rattle.history.specs.State.{with_out}
use Rattle.gate.proofs.Lent.{row_changed}
use Rattle.gate.proofs.desk.Gate.set_out.Goals as goal

pub returns : goal.returns
returns g c =
    let place : c.args.login.value ≡ suc c.index.result = omega (arith, c.index.ensures.place) in
    let below : c.index.result < 24 = omega (arith, c.index.ensures.bound) in
    row_changed _ c.args.self.now.rows refl c.args.login.value (with_out c.args.out) c.index.result _ c.set_out.new.self
    c.args.self.now.row_each place below c.set_out.ensures
