-- Assumes nothing.
use Rattle.gate.specs.Kept.{state_of}
use Rattle.gate.proofs.Playing.{UpTo}
use Rattle.gate.proofs.desk.Gate.run.Given as goal

-- the calls up to this place were played
abbrev pub invariant-loop-i : goal.invariant-loop-i
invariant-loop-i g l =
    UpTo (state_of g.M.Market g.C.Check l.initial.self) l.calls l.initial.events l.i
    l.events (state_of g.M.Market g.C.Check l.self)
