use Rattle.std.proofs.Common.{refl}
use Rattle.history.proofs.full_day.Goals as goal

pub returns : goal.returns
returns c = (((((((tt, refl), refl), refl), refl), (refl, tt)), refl), ((refl, refl, refl), tt))
