-- The laws of a window. Assumes nothing.
use Rattle.rates.proofs.Sound.{answers_since, stops_since, weighs_since, trips_below}
use Rattle.rates.proofs.counting.windows_stand.Goals as goal

pub returns : goal.returns
returns c = record { answers = answers_since; stops = stops_since; weighs = weighs_since; below = trips_below }
