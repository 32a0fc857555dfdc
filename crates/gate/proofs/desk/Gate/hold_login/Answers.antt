-- The login's row is held in its place. Assumes nothing.
use Rattle.std.proofs.Common.{refl}
use Rattle.history.specs.State.{with_hold, first_cause}
use Rattle.gate.proofs.Lent.{row_changed}
use Rattle.gate.proofs.desk.Gate.hold_login.Goals as goal

pub returns-in-Some : goal.returns-in-Some
returns-in-Some g c =
    row_changed _ c.args.self.now.rows refl c.args.login (λ r. with_hold (first_cause r.hold c.args.cause) r) c.in-Some.at _ c.hold.new.self
    c.args.self.now.row_each c.in-Some.ensures.0 c.in-Some.ensures.1 c.hold.ensures
