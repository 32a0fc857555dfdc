-- What a verdict says of the judgement and of the market's refusal. Assumes nothing.
use Rattle.std.proofs.Common.{◌≡◌, ℕ, Bool, true, false, cond, eqb, Some, None, Option, sym, refl, ap, ◌∙◌, arith}
use Rattle.terms.specs.Refusals.{number}
use Rattle.terms.specs.declared.refusal.Refusal.TheVariants.{Allotment, ClockBack, Field, Held, InUse, Leaving, LimitPrice, NoOrder, NoSlip, NoValues, NotEmpty, NotOpen, PutAndCall, ShortTable, SlipOut, SlipsFull, Taken, TooLarge, WrongSlip}
use Rattle.terms.specs.declared.refusal.Refusal.{Refusal}
use Rattle.terms.proofs.Tables.{never}
use Rattle.history.specs.Entering.{cannot_rest, rests, turned, verdict_of}

pub rests_so : (j : ℕ) (o : Option Refusal) → verdict_of j o ≡ rests → o ≡ None
rests_so j o e = go (eqb j 0) o e
  where
    go : (b : Bool) (o : Option Refusal) → cond b (elim o [ None ↦ rests | Some y ↦ cannot_rest y ]) (turned j) ≡ rests → o ≡ None
    go true None q = refl
    go true (Some y) q = let z : ◌≡◌ {A = ℕ} 0 1 = cc in never _ (omega arith)
    go false o q = let z : ◌≡◌ {A = ℕ} 0 1 = cc in never _ (omega arith)

pub cannot_rest_so : (j : ℕ) (o : Option Refusal) (x : Refusal) → verdict_of j o ≡ cannot_rest x → o ≡ Some x
cannot_rest_so j o x e = go (eqb j 0) o e
  where
    go : (b : Bool) (o : Option Refusal) → cond b (elim o [ None ↦ rests | Some y ↦ cannot_rest y ]) (turned j) ≡ cannot_rest x → o ≡ Some x
    go true None q = let z : ◌≡◌ {A = ℕ} 0 1 = cc in never _ (omega arith)
    go true (Some y) q = let z : y ≡ x = cc in ap (λ (w : Refusal). Some w) z
    go false o q = let z : ◌≡◌ {A = ℕ} 0 1 = cc in never _ (omega arith)

pub turned_so : (j : ℕ) (o : Option Refusal) (n : ℕ) → verdict_of j o ≡ turned n → (j ≡ n) × (eqb j 0 ≡ false)
turned_so j o n e = go (eqb j 0) refl o e
  where
    go : (b : Bool) → eqb j 0 ≡ b → (o : Option Refusal) → cond b (elim o [ None ↦ rests | Some x ↦ cannot_rest x ]) (turned j) ≡ turned n
        → (j ≡ n) × (eqb j 0 ≡ false)
    go true p None q = let z : ◌≡◌ {A = ℕ} 0 1 = cc in never _ (omega arith)
    go true p (Some x) q = let z : ◌≡◌ {A = ℕ} 0 1 = cc in never _ (omega arith)
    go false p o q = (cc, p)

-- a turn-down has a number
pub turned_some : (j : ℕ) (o : Option Refusal) (n : ℕ) → verdict_of j o ≡ turned n → eqb n 0 ≡ false
turned_some j o n e = let f = turned_so j o n e in ap (λ (i : ℕ). eqb i 0) (sym f.0) ∙ f.1

-- and so has a refusal
pub number_some : (x : Refusal) → eqb (number x) 0 ≡ false
number_some Field = refl
number_some ShortTable = refl
number_some NotEmpty = refl
number_some NotOpen = refl
number_some Taken = refl
number_some Leaving = refl
number_some ClockBack = refl
number_some NoOrder = refl
number_some NoSlip = refl
number_some SlipOut = refl
number_some WrongSlip = refl
number_some NoValues = refl
number_some Held = refl
number_some InUse = refl
number_some Allotment = refl
number_some SlipsFull = refl
number_some TooLarge = refl
number_some PutAndCall = refl
number_some LimitPrice = refl
