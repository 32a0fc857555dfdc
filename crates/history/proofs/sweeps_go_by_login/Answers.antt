use Rattle.history.proofs.Laws.{sweeps_by_login}
use Rattle.history.proofs.sweeps_go_by_login.Goals as goal

pub returns : goal.returns
returns g c = sweeps_by_login g.C.Check.meaning
