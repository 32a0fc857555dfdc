-- The number that a word writes, and the numbers of a line. Assumes nothing.
use Rattle.std.specs.Prelude.{◌≡◌, ℕ, zero, suc, ◌+◌, ◌-◌, ◌*◌, ◌^◌, ◌<◌, min, Bool, true, cond, ◌&&◌, List, [], ◌∷◌, map, length, take, is_some, Some, None, Ok, Err, decimal as shown, Option, Result, nat_le, slice_index_or}
use Rattle.script.specs.Words.{all}
use Rattle.script.specs.declared.fields.Fault.{Fault}
use Rattle.script.specs.declared.fields.Fault.TheVariants.{Missing, NotNumber, Extra}

-- ---- one number

-- from '0' to '9'
abbrev pub digit : ℕ → Bool
digit b = nat_le 48 b && nat_le b 57

-- what a digit counts
abbrev pub digit_value : ℕ → Option ℕ
digit_value b = cond (digit b) (Some (b - 48)) None

-- digits that follow a number, read with it
abbrev pub decimal_after : ℕ → List ℕ → ℕ
decimal_after n [] = n
decimal_after n (b ∷ bs) = decimal_after (n * 10 + (b - 48)) bs

-- the number that digits write
abbrev pub decimal : List ℕ → ℕ
decimal w = decimal_after 0 w

-- the largest number of 64 bits
abbrev pub largest : ℕ
largest = 2 ^ 64 - 1

-- one digit or more and nothing else; what does not fit 64 bits is read as the largest number that does
abbrev pub number_of : List ℕ → Option ℕ
number_of [] = None
number_of (b ∷ bs) = cond (all digit (b ∷ bs)) (Some (min (decimal (b ∷ bs)) largest)) None

-- ---- laws of one number

-- A word of digits that fits 64 bits is read as what it writes, and a number that is printed is read back.
pub record Exact (w : List ℕ) (r : Option ℕ) : Type 0 where
  pub fits : 0 < length w → all digit w ≡ true → decimal w < 2 ^ 64 → r ≡ Some (decimal w)
  pub printed : (n : ℕ) → n < 2 ^ 64 → w ≡ shown n → r ≡ Some n

-- ---- the numbers of a line

-- a number in front of those that follow it
abbrev pub followed : (field : ℕ) → Option ℕ → Result (List ℕ) Fault → Result (List ℕ) Fault
followed field None rest = Err (NotNumber field)
followed field (Some n) (Ok ns) = Ok (n ∷ ns)
followed field (Some n) (Err f) = Err f

-- so many numbers, of which the first is the field of that place, and then no word
abbrev pub numbers_in : (count field : ℕ) → List (List ℕ) → Result (List ℕ) Fault
numbers_in zero field [] = Ok []
numbers_in zero field (w ∷ ws) = Err (Extra field)
numbers_in (suc count) field [] = Err (Missing field)
numbers_in (suc count) field (w ∷ ws) = followed field (number_of w) (numbers_in count (field + 1) ws)

-- ---- laws of the numbers of a line

-- each word is a number
abbrev pub numeric : List (List ℕ) → Bool
numeric [] = true
numeric (w ∷ ws) = is_some (number_of w) && numeric ws

-- Numbers are read if they are as many as asked for. A fault names the first field that is not as it should be.
abbrev pub Told : ℕ → List (List ℕ) → Result (List ℕ) Fault → Type 0
Told count ws (Ok ns) = (length ws ≡ count) × (map number_of ws ≡ map Some ns)
Told count ws (Err (Missing k)) = (k < count) × (length ws ≡ k) × (numeric ws ≡ true)
Told count ws (Err (NotNumber k)) =
    (k < count) × (k < length ws) × (numeric (take k ws) ≡ true) × (number_of (slice_index_or ws k []) ≡ None)
Told count ws (Err (Extra k)) = (k ≡ count) × (k < length ws) × (numeric (take k ws) ≡ true)

-- each number fits 64 bits
abbrev pub Fit : List ℕ → Type 0
Fit [] = Unit {0}
Fit (n ∷ ns) = (n < 2 ^ 64) × Fit ns

-- What is read is told in full, and numbers that are printed are read back.
pub record Numbered (count : ℕ) (ws : List (List ℕ)) (r : Result (List ℕ) Fault) : Type 0 where
  pub told : Told count ws r
  pub printed : (ns : List ℕ) → length ns ≡ count → Fit ns → ws ≡ map shown ns → r ≡ Ok ns
