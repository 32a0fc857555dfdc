-- A line is laid out as its words. Assumes nothing.
use Rattle.script.proofs.Parting.{parted}
use Rattle.script.proofs.reader.Reader.new.Goals as goal

pub returns-clause-parted : goal.returns-clause-parted
returns-clause-parted c = parted c.args.line.now
