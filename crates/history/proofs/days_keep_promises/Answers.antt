use Rattle.history.proofs.Promised.{promised}
use Rattle.history.proofs.days_keep_promises.Goals as goal

pub returns : goal.returns
returns g c = promised g.C.Check.meaning g.C.Check.lawful
