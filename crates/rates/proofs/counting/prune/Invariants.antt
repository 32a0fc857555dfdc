-- What was gone through is filtered. Assumes nothing.
use Rattle.std.proofs.lemmas.List.Filters.{FiltersInPlace}
use Rattle.rates.specs.Marks.{counts}
use Rattle.rates.proofs.counting.prune.Given as goal

abbrev pub invariant-loop-i : goal.invariant-loop-i
invariant-loop-i l = FiltersInPlace (counts l.time l.interval) l.initial.marks l.marks l.k l.i
