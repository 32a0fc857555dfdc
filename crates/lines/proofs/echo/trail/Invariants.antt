-- What is written so far, with what is still to give, is all that there was to give. Assumes nothing.
use Rattle.std.proofs.Common.{◌≡◌, ℕ, List, ◌++◌}
use Rattle.std.specs.Fmt.{IsPlainFormatter, HasWritten}
use Rattle.script.specs.Words.{remaining}
use Rattle.lines.specs.Spelling.{trailed}
use Rattle.lines.proofs.echo.trail.Given as goal

abbrev pub invariant-loop-word : goal.invariant-loop-word
invariant-loop-word g l =
    IsPlainFormatter l.initial.f → (so : List ℕ) × HasWritten g.W.Write.write_str_gives l.initial.f so l.f × (so ++ trailed (remaining l.word-iterator) ≡ trailed (remaining l.fn.reader))
