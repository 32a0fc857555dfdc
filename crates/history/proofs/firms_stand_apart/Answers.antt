use Rattle.history.proofs.Isolation.{isolated}
use Rattle.history.proofs.firms_stand_apart.Goals as goal

pub returns : goal.returns
returns g c = isolated g.C.Check.meaning
