-- What is told, and then what it trips. Assumes nothing.
use Rattle.history.proofs.Composed.{notice_effect}
use Rattle.gate.specs.Kept.{state_of}
use Rattle.gate.proofs.desk.Gate.notice.Goals as goal

pub returns-clause-effect : goal.returns-clause-effect
returns-clause-effect g c =
    notice_effect g.C.Check.meaning (state_of g.M.Market g.C.Check c.args.self.now) _ c.trip-cancelled.result c.args.login c.args.notice
    c.tell-causes.result c.tell-causes.ensures.causes c.tell-causes.ensures.after c.trip-cancelled.ensures.sum
