-- The number and the word of each refusal: the one place for both. Assumes nothing.
use Rattle.std.specs.Prelude.{◌≡◌, ℕ, List, [], ◌∷◌, ◌++◌, Some, None, Ok, Err, Option, Result, codes, decimal, ◌==◌}
use Rattle.terms.specs.declared.refusal.Refusal.{Refusal}
use Rattle.terms.specs.declared.refusal.UnknownNumber.{UnknownNumber}
use Rattle.std.specs.List.{find}
use Rattle.terms.specs.declared.refusal.Refusal.TheVariants.{Field, ShortTable, NotEmpty, NotOpen, Taken, Leaving, ClockBack, NoOrder, NoSlip, SlipOut, WrongSlip, NoValues, Held, InUse, Allotment, SlipsFull, TooLarge, PutAndCall, LimitPrice}

abbrev pub number : Refusal → ℕ
number Field = 1
number ShortTable = 2
number NotEmpty = 3
number NotOpen = 11
number Taken = 12
number Leaving = 13
number ClockBack = 14
number NoOrder = 15
number NoSlip = 16
number SlipOut = 17
number WrongSlip = 18
number NoValues = 19
number Held = 21
number InUse = 31
number Allotment = 32
number SlipsFull = 33
number TooLarge = 41
number PutAndCall = 42
number LimitPrice = 43

abbrev pub word : Refusal → List ℕ
word Field = codes "field"
word ShortTable = codes "short table"
word NotEmpty = codes "not empty"
word NotOpen = codes "not open"
word Taken = codes "taken"
word Leaving = codes "leaving"
word ClockBack = codes "clock back"
word NoOrder = codes "no order"
word NoSlip = codes "no slip"
word SlipOut = codes "slip out"
word WrongSlip = codes "wrong slip"
word NoValues = codes "no values"
word Held = codes "held"
word InUse = codes "in use"
word Allotment = codes "allotment"
word SlipsFull = codes "slips full"
word TooLarge = codes "too large"
word PutAndCall = codes "put and call"
word LimitPrice = codes "price"

-- the number that an answer gives: 0 where nothing is refused
abbrev pub answer : {X : Type 0} → Result X Refusal → ℕ
answer (Ok x) = 0
answer (Err e) = number e

-- all of them
abbrev pub refusals : List Refusal
refusals =
    Field ∷ ShortTable ∷ NotEmpty ∷ NotOpen ∷ Taken ∷ Leaving ∷ ClockBack ∷ NoOrder ∷ NoSlip ∷ SlipOut ∷ WrongSlip ∷ NoValues ∷ Held ∷ InUse ∷ Allotment ∷ SlipsFull ∷ TooLarge ∷ PutAndCall ∷ LimitPrice ∷ []

-- the refusal that has a number
abbrev pub refusal_of : ℕ → Option Refusal
refusal_of n = find (λ x. number x == n) refusals

-- A number is read as the refusal that has it, and handed back where none has.
abbrev pub ReadsRefusal : ℕ → Result Refusal UnknownNumber → Type 0
ReadsRefusal n (Ok x) = refusal_of n ≡ Some x
ReadsRefusal n (Err e) = (refusal_of n ≡ None) × (e.0 ≡ n)

-- a refusal as it is printed: its number, and its word in brackets
abbrev pub refusal_text : Refusal → List ℕ
refusal_text x = decimal (number x) ++ (codes " (" ++ (word x ++ codes ")"))
