-- So many events were told. Assumes nothing.
use Rattle.cases.specs.Cases.{repeated}
use Rattle.cases.specs.Playing.{GoesOn}
use Rattle.cases.proofs.table.tell_burst.Given as goal

abbrev pub invariant-loop-i : goal.invariant-loop-i
invariant-loop-i l = GoesOn l.initial.rates l.rates (repeated l._i l.event)
