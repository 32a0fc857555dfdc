-- Contracts accepted, receipted and cancelled, and how they add up. Assumes nothing.
use Rattle.std.specs.Prelude.{ℕ, ◌+◌, ◌-◌, ◌^◌, min}
use Rattle.ledger.specs.declared.sums.Sums.{Sums}

abbrev pub sums : (accepted receipted cancelled : ℕ) → Sums
sums a r c = record { accepted = a; receipted = r; cancelled = c }

abbrev pub nothing : Sums
nothing = sums 0 0 0

abbrev pub plus : Sums → Sums → Sums
plus x y = sums (x.accepted + y.accepted) (x.receipted + y.receipted) (x.cancelled + y.cancelled)

-- each held to 64 bits
abbrev pub held : Sums → Sums
held x = sums (min x.accepted (2 ^ 64 - 1)) (min x.receipted (2 ^ 64 - 1)) (min x.cancelled (2 ^ 64 - 1))
