-- The login's row is the firm's, and the checks are told. Assumes nothing.
use Rattle.std.proofs.Common.{refl}
use Rattle.gate.specs.Kept.{state_of}
use Rattle.gate.proofs.Stepping.{opens}
use Rattle.gate.proofs.desk.Gate.open.Goals as goal

pub returns : goal.returns
returns g c =
    let s = state_of g.M.Market g.C.Check c.args.self.now in
    let a = c.in_ok-opening.ensures in
    opens s c.args.self.now.rows c.args.login c.args.acronym c.args.role c.args.reach _ c.index.result _ _ _ refl
    a.0 a.1.0 c.index.ensures.place a.1.1 refl c.tell.ensures.after
