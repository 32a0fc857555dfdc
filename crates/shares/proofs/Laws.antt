-- The shares sum to R, and none exceeds its maker.
use mathlib.Core.Path.{◌≡◌, refl, ◌∙◌, ap}
use mathlib.Core.List.{[], ◌∷◌}
use mathlib.Core.Logic.{◌⊎◌, inl, inr}
use Prim.Native.Nat.{ℕ, zero, suc, ◌+◌, ◌-◌, ◌*◌, ◌≤◌, ◌<◌}
use native.Mathlib.Nat.{add-mul, mul-add, mul_left_comm, mul_comm, mul-le-mul_left, mul-le-mul_right, div-lt_iff_lt-mul, le-div_iff_mul-le, div-zero, one-mul, eq-zero-or-pos}
use native.Mathlib.Omega.{arith}
use Rattle.shares.specs.Shares.{sum_of, share, SharesWorked, SharesSum, SharesWithin, SharesLength}

pub shares_worked : SharesWorked
unfolding share
shares_worked = (refl, refl, refl, refl, refl)

spread : (c t : ℕ) → (c + 1) * (2 * t) ≡ 2 * (c * t) + 2 * t
spread c t = add-mul c 1 (2 * t) ∙ (omega (arith, mul_left_comm c 2 t, one-mul (2 * t)))

-- a share is at most y where r × c ≤ y × t
pub share_most : (r c t y : ℕ) → r * c ≤ y * t → share r c t ≤ y
unfolding share
share_most r c zero y h = rw div-zero (omega arith)
share_most r c (suc t) y h =
    let pos : 0 < 2 * suc t = omega arith in
    let room : 2 * (r * c) + suc t < (y + 1) * (2 * suc t) = omega (arith, spread y (suc t)) in
    let q = (div-lt_iff_lt-mul pos).1 room in
    omega arith

-- and at least y where y × t ≤ r × c
pub share_least : (r c t y : ℕ) → 0 < t → y * t ≤ r * c → y ≤ share r c t
unfolding share
share_least r c t y z h =
    let pos : 0 < 2 * t = omega arith in
    let room : y * (2 * t) ≤ 2 * (r * c) + t = omega (arith, mul_left_comm y 2 t) in
    (le-div_iff_mul-le pos).1 room

pub share_le : (r c s : ℕ) → r ≤ c + s → share r c (c + s) ≤ c
share_le r c s h = share_most r c (c + s) c (omega (arith, mul_comm r c, mul-le-mul_left c h))

pub share_left : (r c s : ℕ) → share r c (c + s) ≤ r
share_left r c s = let h : c ≤ c + s = omega arith in share_most r c (c + s) r (mul-le-mul_left r h)

-- r is y + s
rest_room : (r c s y : ℕ) → r ≡ y + s → y ≤ c → y * (c + s) ≤ r * c
rest_room r c s y e h =
    rw e (omega (arith, mul-add y c s, add-mul y s c, mul_comm s c, mul-le-mul_right s h))

pub share_rest : (r c s : ℕ) → r ≤ c + s → r - share r c (c + s) ≤ s
share_rest r c s h = by_case (eq-zero-or-pos (r - s))
  where
    by_case : (r - s ≡ zero) ⊎ (zero < r - s) → r - share r c (c + s) ≤ s
    by_case (inr l) =
        let e : r ≡ (r - s) + s = omega arith in
        let y : r - s ≤ c = omega arith in
        let z : 0 < c + s = omega arith in
        let q = share_least r c (c + s) (r - s) z (rest_room r c s (r - s) e y) in
        omega arith
    by_case (inl g) = omega arith

pub shares_sum : SharesSum
shares_sum r [] h = omega arith
shares_sum r (c ∷ cs) h =
    let rest = shares_sum (r - share r c (c + sum_of cs)) cs (share_rest r c (sum_of cs) h) in
    let l = share_left r c (sum_of cs) in
    omega arith

pub shares_within : SharesWithin
shares_within r [] h k = omega arith
shares_within r (c ∷ cs) h zero = share_le r c (sum_of cs) h
shares_within r (c ∷ cs) h (suc k) = shares_within (r - share r c (c + sum_of cs)) cs (share_rest r c (sum_of cs) h) k

pub shares_length : SharesLength
shares_length r [] = refl
shares_length r (c ∷ cs) = ap suc (shares_length (r - share r c (c + sum_of cs)) cs)

-- no share where the total is 0
pub share_none : (r c t : ℕ) → t ≡ 0 → share r c t ≡ 0
unfolding share
share_none r c t e = rw (e, div-zero)
