-- What a call answers and leaves where it may be refused. Assumes nothing.
use Rattle.std.specs.Prelude.{◌≡◌, ℕ, Bool, true, false, cond, List, [], ◌∷◌, Some, None, Ok, Err, Option, Result}

-- the first of some refusals whose condition holds: they are listed in the order of their numbers, so that the smallest is given
abbrev pub first_of : {F : Type 0} → List (Bool × F) → Option F
first_of [] = None
first_of (p ∷ ps) = cond p.0 (Some p.1) (first_of ps)

-- what a call answers: x, unless it is refused
abbrev pub given : {X F : Type 0} → Option F → X → Result X F
given None x = Ok x
given (Some f) x = Err f

-- what a call leaves: what is to come of it, or all as it was where it is refused
abbrev pub unless : {S F : Type 0} → Option F → (before after : S) → S
unless None before after = after
unless (Some f) before after = before

-- A call that is refused answers why and alters nothing; else it answers x and leaves what is to come of it.
abbrev pub Does : {S X F : Type 0} → Option F → X → (before after : S) → Result X F → S → Type 0
Does refusal x before after r left = (r ≡ given refusal x) × (left ≡ unless refusal before after)

abbrev pub is_ok : {X F : Type 0} → Result X F → Bool
is_ok (Ok x) = true
is_ok (Err f) = false

-- the number that is answered, 0 where the call is refused
abbrev pub ok_or0 : {F : Type 0} → Result ℕ F → ℕ
ok_or0 (Ok n) = n
ok_or0 (Err f) = 0
