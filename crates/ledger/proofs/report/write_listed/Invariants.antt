-- What is written so far, with those still to come, is all that is listed. Assumes nothing.
use Rattle.std.proofs.Common.{◌≡◌, ℕ, ◌+◌, List, ◌++◌, drop}
use Rattle.std.specs.Fmt.{IsPlainFormatter, HasWritten}
use Rattle.ledger.specs.Report.{listed}
use Rattle.ledger.proofs.report.write_listed.Given as goal

abbrev pub invariant-loop-place : goal.invariant-loop-place
invariant-loop-place g l =
    IsPlainFormatter l.initial.f → (so : List ℕ) × HasWritten g.W.Write.write_str_gives l.initial.f so l.f × (so ++ listed l.listing (l.place + 1) (drop l.place l.standings) ≡ listed l.listing 1 l.standings)
