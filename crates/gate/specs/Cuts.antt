-- What a kill and a trip sweep of each login, as the definitions say it. Assumes nothing.
use Rattle.terms.specs.Kinds.{reach_number}
use Rattle.market.specs.Sweeps as market
use Rattle.checks.specs.Meaning.{Meaning}
use Rattle.history.specs.State.{State}
use Rattle.history.specs.Laws.{kill_cut, trip_cut}
use Rattle.gate.specs.declared.cuts.Cut.{Cut}
use Rattle.gate.specs.declared.cuts.Cut.TheVariants.{Kill, Trip}

-- the reach within which each login is swept, none for one that is left alone
abbrev pub cut_in : {m : Meaning} → State m → Cut → market.Cut
cut_in s (Kill scope reach) = kill_cut s scope (reach_number reach)
cut_in s (Trip login causes) = trip_cut s login causes
