use Rattle.history.proofs.Holds.{holds_stand}
use Rattle.history.proofs.holds_stop_entries.Goals as goal

pub returns : goal.returns
returns g c = holds_stand g.C.Check.meaning g.C.Check.lawful
