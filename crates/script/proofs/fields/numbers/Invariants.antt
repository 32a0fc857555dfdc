-- The numbers so far, with those of the words that remain, are the numbers of the line. Assumes nothing.
use Rattle.std.proofs.Common.{◌≡◌, ◌-◌, length, take}
use Rattle.script.specs.Words.{remaining}
use Rattle.script.specs.Numbers.{numbers_in}
use Rattle.script.proofs.Counted.{after}
use Rattle.script.proofs.fields.numbers.Given as goal

abbrev pub invariant-loop-field : goal.invariant-loop-field
invariant-loop-field g l =
    (length l.place-items ≡ g.row.N) × (numbers_in g.row.N 0 (remaining l.initial.reader) ≡ after (take l.field l.place-items) (numbers_in (g.row.N - l.field) l.field (remaining l.reader)))
