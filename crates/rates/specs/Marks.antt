-- A window, defined over all its events since it was cleared: what counts of them, and which one trips it. Assumes nothing.
use Rattle.std.specs.Prelude.{ℕ, ◌-◌, Bool, false, not, ◌&&◌, ◌||◌, List, [], ◌∷◌, length, sum_by, filter, ◌==◌, nat_le, nat_lt}
use Rattle.rates.specs.declared.window.Mark.{Mark}

abbrev pub mark : (time amount : ℕ) → Mark
mark t a = record { time = t; amount = a }

-- an event counts at now while now less its time is below the interval
abbrev pub counts : (now interval : ℕ) → Mark → Bool
counts now interval m = nat_lt (now - m.time) interval

abbrev pub counted : (now interval : ℕ) → List Mark → List Mark
counted now interval ms = filter (counts now interval) ms

abbrev pub amount_of : List Mark → ℕ
amount_of ms = sum_by (λ m. m.amount) ms

-- these come to the limit, or are thirty-two
abbrev pub reaches : (limit : ℕ) → List Mark → Bool
reaches limit ms = nat_le limit (amount_of ms) || nat_le 32 (length ms)

-- what counts as the newest event comes, itself included; the newest stands first
abbrev pub counting : (interval : ℕ) → Mark → List Mark → List Mark
counting interval e es = e ∷ counted e.time interval es

-- the newest event brings what counts to the limit or to thirty-two; without a limit nothing is counted
abbrev pub brings : (limit interval : ℕ) → Mark → List Mark → Bool
brings limit interval e es = not (limit == 0) && reaches limit (counting interval e es)

-- one of the events since the window was cleared did
abbrev pub tripped : (limit interval : ℕ) → List Mark → Bool
tripped limit interval [] = false
tripped limit interval (e ∷ es) = tripped limit interval es || brings limit interval e es

-- the newest is the one that trips it: a tripped window counts nothing more
abbrev pub trips : (limit interval : ℕ) → Mark → List Mark → Bool
trips limit interval e es = not (tripped limit interval es) && brings limit interval e es
