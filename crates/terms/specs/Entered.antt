-- An answer of enter in numbers: the one that says how the entry fared, and what came of it; and which of two causes counts. Assumes nothing.
use Rattle.std.specs.Prelude.{ℕ, cond, ◌==◌}
use Rattle.terms.specs.declared.events.Effect.{Effect}
use Rattle.terms.specs.declared.events.EnterAnswer.{EnterAnswer}
use Rattle.terms.specs.declared.events.EnterAnswer.TheVariants.{Accepted, TurnedDown, Refused}
use Rattle.terms.specs.Refusals.{number}

-- 0 where the entry rests, else the number of its turn-down or of its refusal
abbrev pub entered_number : EnterAnswer → ℕ
entered_number (Accepted e) = 0
entered_number (TurnedDown n e) = n
entered_number (Refused x c) = number x

-- what tripped and was cancelled; where the entry is refused the causes are those of the holds, and nothing is cancelled
abbrev pub entered_effect : EnterAnswer → Effect
entered_effect (Accepted e) = e
entered_effect (TurnedDown n e) = e
entered_effect (Refused x c) = record { causes = c; cancelled = 0 }

-- the first of two causes that is not 0
abbrev pub first_nonzero : ℕ → ℕ → ℕ
first_nonzero one other = cond (one == 0) other one
