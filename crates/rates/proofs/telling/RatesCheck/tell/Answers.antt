-- The windows of the firm that is named answer by the definition over all that was told. Assumes nothing.
use Rattle.std.proofs.Common.{arith}
use Rattle.rates.proofs.Whole.{told_here}
use Rattle.rates.proofs.telling.RatesCheck.tell.Goals as goal

pub returns-in-Some-clause-defined : goal.returns-in-Some-clause-defined
returns-in-Some-clause-defined c =
    told_here c.args.notice _ c.args.self.now.firms c.acronym_of.result c.in-Some.a _ c.acronym_of.ensures c.in-Some.ensures.0 (omega (arith, c.in-Some.ensures.1, c.args.self.now.eight)) c.tell.result c.tell.ensures.trips
