use Rattle.std.proofs.Common.{refl}
use Rattle.history.proofs.first_day.Goals as goal

pub returns : goal.returns
returns c =
    record {
      happens = (((((((((((((((((((((((((((((tt, refl), refl), refl), refl), refl), refl), (refl, tt)), refl), ((refl, refl), (refl, refl))), refl), refl), refl), refl), refl), refl), refl), refl), refl), refl), refl), refl), refl), refl), refl), refl), refl), refl), refl), refl);
      accepted = refl;
      receipted = refl;
      waiting = refl;
      resting = refl;
      cancelled = refl;
      accepted_2 = refl;
      receipted_2 = refl;
      cancelled_2 = refl;
      part_3 = refl;
      part_2 = refl;
      freed = refl;
      released = refl;
    }
