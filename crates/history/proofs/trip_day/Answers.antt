use Rattle.std.proofs.Common.{refl}
use Rattle.history.proofs.trip_day.Goals as goal

pub returns : goal.returns
returns c =
    record {
      happens = ((((((((((((tt, refl), refl), refl), refl), refl), refl), refl), ((refl, refl), (refl, refl))), refl), refl), refl), refl);
      waiting = refl;
      cancelled = refl;
      held_login = refl;
      held_firm = refl;
      held_other = refl;
      not_held = refl;
    }
