use Rattle.history.proofs.Laws.{always_in_order}
use Rattle.history.proofs.always_in_order.Goals as goal

pub returns : goal.returns
returns g c = always_in_order g.C.Check.meaning
