use Rattle.std.proofs.Common.{refl}
use Rattle.history.proofs.readings_told_apart.Goals as goal

pub returns : goal.returns
returns c =
    record {
      leaving = refl;
      untold = refl;
      first_cause_stays = refl;
    }
