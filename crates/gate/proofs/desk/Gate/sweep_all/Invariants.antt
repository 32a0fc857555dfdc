-- Assumes nothing.
use Rattle.std.proofs.Common.{◌-◌}
use Rattle.gate.specs.Kept.{state_of}
use Rattle.gate.proofs.Sweeping.{SweptUpTo}
use Rattle.gate.proofs.desk.Gate.sweep_all.Given as goal

-- the logins before this one were swept
abbrev pub invariant-loop-login : goal.invariant-loop-login
invariant-loop-login g l =
    SweptUpTo (state_of g.M.Market g.C.Check l.initial.self) l.cut (l.login - 1) l.sum (state_of g.M.Market g.C.Check l.self)
