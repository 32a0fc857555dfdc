-- What is left of the word, read after the value so far, gives what the word gives. Assumes nothing.
use Rattle.std.proofs.Common.{◌≡◌, drop}
use Rattle.script.specs.Numbers.{number_of}
use Rattle.script.proofs.Decimals.{read_on}
use Rattle.script.proofs.decimal.number.Given as goal

abbrev pub invariant-loop-byte : goal.invariant-loop-byte
invariant-loop-byte l = read_on l.value (drop l.byte-index l.word) ≡ number_of l.word
