-- The products fit, and the quotient is the share.
use mathlib.Core.Path.{refl, sym}
use Prim.Native.Nat.{ℕ, ◌*◌, ◌≤◌}
use native.Mathlib.Nat.{mul-le-mul}
use native.Mathlib.Omega.{arith}
use Rattle.shares.specs.Shares.{share}
use Rattle.shares.proofs.Laws.{share_none}
use Rattle.shares.proofs.share.Goals as goal

-- the product of two numbers up to 25,165,440
product : (a b t : ℕ) → a ≤ t → b ≤ t → t ≤ 25165440 → a * b ≤ 633299370393600
product a b t h k m =
    let x : a ≤ 25165440 = omega arith in
    let y : b ≤ 25165440 = omega arith in
    mul-le-mul x y

pub returns-then-total-eq0 : goal.returns-then-total-eq0
returns-then-total-eq0 c = sym (share_none _ _ _ c.if-total-eq0.true)

pub overflow_mul-result-2 : goal.overflow_mul-result-2
overflow_mul-result-2 c = omega (arith, product _ _ _ c.requires.left c.requires.contracts c.requires.total)

pub overflow_add-result : goal.overflow_add-result
overflow_add-result c = omega (arith, product _ _ _ c.requires.left c.requires.contracts c.requires.total)

pub returns : goal.returns
unfolding share
returns c = refl
