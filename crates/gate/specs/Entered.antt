-- What enter answers where it is refused before the checks are asked. Assumes nothing.
use Rattle.std.specs.Prelude.{ℕ, cond, ◌==◌}
use Rattle.terms.specs.Refusals.{number}
use Rattle.terms.specs.declared.events.EnterAnswer.{EnterAnswer}
use Rattle.terms.specs.declared.events.EnterAnswer.TheVariants as answer
use Rattle.terms.specs.declared.refusal.Refusal.{Refusal}
use Rattle.checks.specs.Meaning.{Meaning, no_cause}
use Rattle.history.specs.State.{State}
use Rattle.history.specs.Entering.{holds_on}

abbrev pub refused_with : {m : Meaning} → State m → (login : ℕ) → Refusal → EnterAnswer
refused_with s login x =
    answer.Refused x (cond (number x == 21) (holds_on s login) no_cause)
