use Rattle.history.proofs.Laws.{call_laws}
use Rattle.history.proofs.calls_keep_their_laws.Goals as goal

pub returns : goal.returns
returns g c = call_laws g.C.Check.meaning
