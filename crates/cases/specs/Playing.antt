-- A check of rates that was told a list of notices. Assumes nothing.
use Rattle.std.specs.Prelude.{◌≡◌, List, map}
use Rattle.terms.specs.declared.messages.Notice.{Notice}
use Rattle.rates.specs.declared.windows.Rates.{Rates}
use Rattle.rates.specs.Firms.{firm_view}
use Rattle.rates.specs.Told.{clock, firms_after}

-- it stands as these notices, the newest first, leave a new one
abbrev pub Stands : Rates → List Notice → Type 0
Stands r ns = (r.time ≡ clock ns) × (map firm_view r.firms ≡ firms_after ns)

-- however it stood, it goes on by these notices more
abbrev pub GoesOn : Rates → Rates → (List Notice → List Notice) → Type 0
GoesOn before after more = (ns : List Notice) → Stands before ns → Stands after (more ns)
