-- A number in its range is read as itself, and any other is not read. Assumes nothing.
use Rattle.std.proofs.Common.{◌≡◌, ℕ, ◌<◌, ◌≤◌, Bool, true, false, ◌&&◌, T, leb, Some, None, Ok, Err, Option, refl, ap, ◌∙◌, arith, le→leb, leb→le}
use native.Mathlib.Bridge.{le_prop}
use Rattle.terms.specs.declared.bounded.Bounded.{Bounded}
use Rattle.terms.specs.declared.refusal.Refusal.{Refusal}
use Rattle.terms.specs.Ranges.{bounded, within, when, first_test, second_test, or_field}
use Rattle.terms.specs.Values.{◌then◌}

pub two_tests : (a b : Bool) → T a → T b → T (a && b)
two_tests true b s t = t
two_tests false b s t = s

when_so : {X : Type 0} (b : Bool) (x : T b → X) (t : T b) → when b x ≡ Some (x t)
when_so true x t = refl
when_so false x t = absurd t

when_not : {X : Type 0} (b : Bool) (x : T b → X) → (T b → ⊥) → when b x ≡ None
when_not true x n = absurd (n tt)
when_not false x n = refl

-- one number has one proof of its range
pub one_way : {low high n : ℕ} (p p' : low ≤ n) (q q' : n ≤ high) → ◌≡◌ {A = Bounded low high} (record { value = n; low = p; high = q }) (record { value = n; low = p'; high = q' })
one_way {low} {high} {n} p p' q q' i = record { value = n; low = le_prop p p' i; high = le_prop q q' i }

pub read_inside : (low high n : ℕ) (p : low ≤ n) (q : n ≤ high) → bounded low high n ≡ Some (record { value = n; low = p; high = q })
read_inside low high n p q =
    when_so (within low high n) _ (two_tests (leb low n) (leb n high) (le→leb low n p) (le→leb n high q)) ∙ ap Some (one_way _ p _ q)

pub read_below : (low high n : ℕ) → n < low → bounded low high n ≡ None
read_below low high n h = when_not (within low high n) _ (λ t. omega (arith, leb→le low n (first_test (leb low n) (leb n high) t)))

pub read_above : (low high n : ℕ) → high < n → bounded low high n ≡ None
read_above low high n h = when_not (within low high n) _ (λ t. omega (arith, leb→le n high (second_test (leb low n) (leb n high) t)))

-- a field that could be read is handed on
pub reading_on : {X Y : Type 0} (o : Option X) (f : X → Option Y) {x : X} → Ok x ≡ or_field o → or_field (o then f) ≡ or_field (f x)
reading_on None f e = let z : ◌≡◌ {A = ℕ} 0 1 = cc in absurd (omega arith)
reading_on (Some y) f {x} e = let s : y ≡ x = cc in ap (λ v. or_field (f v)) s

-- one that could not refuses them all
pub read_off : {X Y : Type 0} (o : Option X) (f : X → Option Y) {e : Refusal} → Err e ≡ or_field o → Err e ≡ or_field (o then f)
read_off None f e = cc
read_off (Some y) f e = let z : ◌≡◌ {A = ℕ} 0 1 = cc in absurd (omega arith)
