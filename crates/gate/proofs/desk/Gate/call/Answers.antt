-- A step keeps the promises of every history before it. Assumes nothing.
use Rattle.gate.proofs.Playing.{keeps_one}
use Rattle.gate.proofs.desk.Gate.call.Goals as goal

pub returns-clause-keeps : goal.returns-clause-keeps
returns-clause-keeps g c = keeps_one g.C.Check.meaning g.C.Check.lawful _ c.answer.result _ c.answer.ensures.step
