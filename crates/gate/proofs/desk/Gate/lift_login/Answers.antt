-- The hold of the login's row is lifted in its place. Assumes nothing.
use Rattle.std.proofs.Common.{refl}
use Rattle.history.specs.State.{with_hold}
use Rattle.gate.proofs.Lent.{row_changed}
use Rattle.gate.proofs.desk.Gate.lift_login.Goals as goal

pub returns-in-Some : goal.returns-in-Some
returns-in-Some g c =
    row_changed _ c.args.self.now.rows refl c.args.login (with_hold 0) c.in-Some.at _ c.lift.new.self
    c.args.self.now.row_each c.in-Some.ensures.0 c.in-Some.ensures.1 c.lift.ensures
