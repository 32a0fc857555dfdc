-- What is let through, and why not. Assumes nothing.
use Rattle.std.specs.Prelude.{◌≡◌, Bool, not, [], ◌∷◌, Some, None, Ok, Err, Option, Result}
use Rattle.terms.specs.declared.refusal.Refusal.{Refusal}
use Rattle.terms.specs.declared.refusal.Refusal.TheVariants.{Field}
use Rattle.terms.specs.Answers.{first_of}

-- What is refused is refused for that reason; what is let through has no reason against it, and is as it was sent.
abbrev pub Admits : {X : Type 0} → Option Refusal → (sent : X → Type 0) → Result X Refusal → Type 0
Admits reason sent (Ok x) = (reason ≡ None) × sent x
Admits reason sent (Err e) = reason ≡ Some e

-- the one reason against fields by themselves: one of them is out of its range
abbrev pub out_of_range : (good : Bool) → Option Refusal
out_of_range good = first_of ((not good, Field) ∷ [])
