-- The answers of calls that hand out or spend a slip, as events have them. Assumes nothing.
use Rattle.std.specs.Prelude.{◌≡◌, Ok, Err, Result}
use Rattle.terms.specs.declared.messages.Fill.{Fill}
use Rattle.terms.specs.declared.refusal.Refusal.{Refusal}
use Rattle.gate.specs.declared.tokens.TakenSlip.{TakenSlip}
use Rattle.gate.specs.declared.tokens.Returned.{Returned}

-- the slip that was taken, by its numbers
abbrev pub taken : Result TakenSlip Refusal → Result Fill Refusal
taken (Ok t) = Ok t.fill
taken (Err e) = Err e

abbrev pub spent : Result (Unit {0}) Returned → Result (Unit {0}) Refusal
spent (Ok u) = Ok u
spent (Err r) = Err r.refusal

-- a slip that is refused is handed back
abbrev pub HandedBack : TakenSlip → Result (Unit {0}) Returned → Type 0
HandedBack t (Ok u) = Unit {0}
HandedBack t (Err r) = r.slip ≡ t
