-- Refusals: what is known where none is given, and of fields within their ranges. Assumes nothing.
use Rattle.std.proofs.Common.{◌≡◌, ℕ, ◌≤◌, Bool, true, false, cond, not, Some, None, Ok, Err, Option, sym, refl, arith}
use Rattle.std.proofs.lemmas.Bool.Decides.{nat_tests}
use Rattle.terms.specs.Answers.{given, unless}
use Rattle.terms.specs.Ranges.{within}

-- where the first of some refusals is none, no condition of theirs holds
pub none_so : {F : Type 0} (b : Bool) (x : F) (o : Option F) → cond b (Some x) o ≡ None → (b ≡ false) × (o ≡ None)
none_so true x o e = (cc, cc)
none_so false x o e = (refl, e)

-- what holds before a call and after what it does holds after it
pub unless_case : {S F : Type 0} (P : S → Type 0) (o : Option F) (b a : S) → P b → (o ≡ None → P a) → P (unless o b a)
unless_case P None b a pb pa = pa refl
unless_case P (Some f) b a pb pa = pb

pub not_false : (b : Bool) → not b ≡ false → b ≡ true
not_false true e = refl
not_false false e = sym e

pub inside : (low high n : ℕ) → within low high n ≡ true → (low ≤ n) × (n ≤ high)
inside low high n e = grind (arith, nat_tests)

pub given_ok : {X F : Type 0} (o : Option F) (x y : X) → given o x ≡ Ok y → o ≡ None
given_ok None x y e = refl
given_ok (Some f) x y e = cc

pub given_err : {X F : Type 0} (o : Option F) (x : X) (f : F) → given o x ≡ Err f → o ≡ Some f
given_err None x f e = cc
given_err (Some g) x f e = cc
