-- A line's call is the definition's, and so is told in full and read back. Assumes nothing.
use Rattle.script.specs.Words.{words}
use Rattle.lines.proofs.Back.{reads_back}
use Rattle.lines.proofs.Telling.{line_told}
use Rattle.lines.proofs.calls.read_call.Goals as goal

pub returns : goal.returns
returns c =
    record {
      value = c.by_first_word.ensures;
      told = line_told (words c.args.line.now) c.by_first_word.result c.by_first_word.ensures;
      back = reads_back c.args.line.now c.by_first_word.result c.by_first_word.ensures;
    }
