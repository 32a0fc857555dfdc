-- Numbers in their ranges, and how a plain number is read as one. Assumes nothing.
use Rattle.std.specs.Prelude.{◌≡◌, ℕ, ◌≤◌, Bool, true, false, cond, ◌&&◌, T, Some, None, Ok, Err, Option, Result, ◌==◌, nat_le}
use Rattle.std.proofs.Common.{leb→le}
use Rattle.std.specs.Option.{option_map}
use Rattle.terms.specs.declared.bounded.Bounded.{Bounded}
use Rattle.terms.specs.declared.refusal.Refusal.{Refusal}
use Rattle.terms.specs.declared.refusal.Refusal.TheVariants.{Field}

-- n lies from low to high
abbrev pub within : ℕ → ℕ → ℕ → Bool
within low high n = nat_le low n && nat_le n high

pub first_test : (a b : Bool) → T (a && b) → T a
first_test true b t = tt
first_test false b t = t

pub second_test : (a b : Bool) → T (a && b) → T b
second_test true b t = t
second_test false b t = absurd t

-- x, where the test passes
abbrev pub when : {X : Type 0} → (test : Bool) → (T test → X) → Option X
when true x = Some (x tt)
when false x = None

-- n as a number from low to high, where it is one
abbrev pub bounded : (low high n : ℕ) → Option (Bounded low high)
bounded low high n =
    when (within low high n)
    (λ t. record {
      value = n;
      low = leb→le low n (first_test (nat_le low n) (nat_le n high) t);
      high = leb→le n high (second_test (nat_le low n) (nat_le n high) t);
    })

-- cents
abbrev pub Price : Type 0
Price = Bounded 1 1000000

-- a price, where 0 stands for none
abbrev pub optional : ℕ → Option (Option Price)
optional n = cond (n == 0) (Some None) (option_map Some (bounded 1 1000000 n))

-- the number that stands for what may be absent
abbrev pub or_zero : {low high : ℕ} → Option (Bounded low high) → ℕ
or_zero None = 0
or_zero (Some b) = b.value

-- what reading answers: the value, or else that the field is out of its range
abbrev pub or_field : {X : Type 0} → Option X → Result X Refusal
or_field None = Err Field
or_field (Some x) = Ok x

-- A number is read exactly when it lies in its range, and what is read has that number.
abbrev pub Reads : {X : Type 0} → (X → ℕ) → (low high n : ℕ) → Result X Refusal → Type 0
Reads number low high n (Ok x) = (number x ≡ n) × (low ≤ n) × (n ≤ high)
Reads number low high n (Err e) = (e ≡ Field) × (low ≤ n → n ≤ high → ⊥)

-- Where n is one of the numbers from low to high it is read as the value that has that number, and else refused: read gives that value, or none.
pub record ReadAs {X : Type 0} (number : X → ℕ) (low high : ℕ) (read : ℕ → Option X) (n : ℕ) (answer : Result X Refusal) : Type 0 where
  pub value : answer ≡ or_field (read n)
  pub reads : Reads number low high n answer
