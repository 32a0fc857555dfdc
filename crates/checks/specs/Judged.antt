-- The numbers that a judgement may give. Assumes nothing.
use Rattle.std.specs.Prelude.{◌≡◌, ℕ, ◌≤◌, Bool, true, false, cond, ◌⊎◌, refl}
use Rattle.std.proofs.Common.{inl}

-- 0, or a number from 41 to 59
abbrev pub Ranged : ℕ → Type 0
Ranged n = (n ≡ 0) ⊎ ((41 ≤ n) × (n ≤ 59))

-- of two such numbers either is one
pub either_ranged : (b : Bool) (x y : ℕ) → Ranged x → Ranged y → Ranged (cond b x y)
either_ranged true x y p q = p
either_ranged false x y p q = q

pub zero_ranged : Ranged 0
zero_ranged = inl refl
