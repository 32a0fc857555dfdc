-- What one strike does to a round, and what strikes until the end trade.
use mathlib.Core.Path.{◌≡◌, refl, sym, ◌∙◌, ap, subst}
use mathlib.Core.List.{List, [], ◌∷◌, ◌++◌, append-nil}
use mathlib.Core.Logic.{◌⊎◌, inl, inr}
use Prim.Native.Nat.{ℕ, zero, suc, ◌+◌, ◌-◌, ◌≤◌, ◌<◌}
use native.Mathlib.Nat.{eq-zero-or-pos, add-zero}
use native.Mathlib.Omega.{arith}
use lib.ListN.{length, get_or, drop, take, replicate, length-drop}
use lib.Seq.{drop-drop, drop_at, drop-append-add, length-take-le}
use Rattle.shares.specs.Shares.{sum_of, share, shares, put, positive, First}
use Rattle.shares.specs.Rounds.{Round, opened, pending, Covered, stays, struck, Strikes, StrikeTakesNext, StrikeKeepsCovered, RoundGoesOn, RoundTradesShares, RoundTradesAll, StrikeAlone}
use Rattle.shares.proofs.Laws.{share_rest, share_left, shares_sum}

-- zeros are dropped
positive_zeros : (i : ℕ) (l : List ℕ) → positive (replicate i 0 ++ l) ≡ positive l
positive_zeros zero l = refl
positive_zeros (suc i) l = positive_zeros i l

pub put_pos : (s : ℕ) (l : List ℕ) → 0 < s → put s l ≡ s ∷ l
put_pos zero l h = absurd (omega arith)
put_pos (suc n) l h = refl

-- after a maker gave s the makers not passed are those after it
after : (p x : ℕ) (h rest : List ℕ) → length h ≡ p → drop (p + stays x) (h ++ put x rest) ≡ rest
after p zero h rest e = rw add-zero (drop_at h rest p e)
after p (suc n) h rest e =
    let P : ℕ → Type 0 = λ k. drop (k + 1) (h ++ (suc n ∷ rest)) ≡ rest in
    subst P e (drop-append-add h (suc n ∷ rest) 1)

rest_after : (a : Round) (i s : ℕ) → i < length (drop a.passed a.level) →
    drop (struck a i s).passed (struck a i s).level ≡ drop (suc i) (drop a.passed a.level)
rest_after a i s h =
    let p = a.passed in
    let l = a.level in
    let k : p + i ≤ length l = omega (arith, length-drop p l) in
    let n : suc (p + i) ≡ p + suc i = omega arith in
    after (p + i) (get_or l (p + i) 0 - s) (take (p + i) l) (drop (suc (p + i)) l) (length-take-le (p + i) l k)
    ∙ ap (λ (m : ℕ). drop m l) n ∙ sym (drop-drop (suc i) p l)

pub strike_takes_next : StrikeTakesNext
strike_takes_next a b s (i, f, e) =
    ap positive f.3
    ∙ positive_zeros i _
    ∙ put_pos s _ f.1
    ∙ ap (λ x. s ∷ positive (shares (a.left - s) x)) (sym (rest_after a i s f.0))
    ∙ ap (λ x. s ∷ pending x) (sym e)

-- what is left after the first share is covered by the makers after it
cover_after : (D : List ℕ) (i r s : ℕ) (L : List ℕ) → r ≤ sum_of D → shares r D ≡ replicate i 0 ++ (s ∷ L) → i < length D →
    r - s ≤ sum_of (drop (suc i) D)
cover_after [] i r s L k e h = omega arith
cover_after (c ∷ cs) zero r s L k e h =
    let q : share r c (c + sum_of cs) ≡ s = cc in
    omega (arith, share_rest r c (sum_of cs) k)
cover_after (c ∷ cs) (suc i) r s L k e h =
    let q : share r c (c + sum_of cs) ≡ 0 = cc in
    let t : shares (r - share r c (c + sum_of cs)) cs ≡ replicate i 0 ++ (s ∷ L) = cc in
    let n : r - share r c (c + sum_of cs) ≡ r = omega arith in
    let m : shares r cs ≡ replicate i 0 ++ (s ∷ L) = rw n at t in
    let k' : r ≤ sum_of cs = omega (arith, share_rest r c (sum_of cs) k) in
    cover_after cs i r s L k' m (omega arith)

pub strike_keeps_covered : StrikeKeepsCovered
strike_keeps_covered a b s k (i, f, e) =
    let g = cover_after (drop a.passed a.level) i a.left s _ k f.3 f.0 in
    let P : Round → Type 0 = Covered in
    subst P (sym e) (rw (rest_after a i s f.0) g)

-- where something is left, there is a first share
first_share : (D : List ℕ) (r : ℕ) → r ≤ sum_of D → 0 < r → (s : ℕ) × ((i : ℕ) × First r D i s (r - s))
first_share [] r k p = absurd (omega arith)
first_share (c ∷ cs) r k p = by_case (eq-zero-or-pos (share r c (c + sum_of cs))) (λ h. first_share cs r h p)
  where
    by_case : (share r c (c + sum_of cs) ≡ zero) ⊎ (zero < share r c (c + sum_of cs)) →
        (r ≤ sum_of cs → (s : ℕ) × ((i : ℕ) × First r cs i s (r - s))) →
        (s : ℕ) × ((i : ℕ) × First r (c ∷ cs) i s (r - s))
    by_case (inr q) later = (share r c (c + sum_of cs), (0, (omega arith, q, refl, refl)))
    by_case (inl z) later =
        let (s, (i, f)) = later (omega (arith, share_rest r c (sum_of cs) k)) in
        let n : r - share r c (c + sum_of cs) ≡ r = omega arith in (
          s,
          (
            suc i,
            (
              omega (arith, f.0),
              f.1,
              refl,
              ap (λ x. x ∷ shares (r - share r c (c + sum_of cs)) cs) z ∙ ap (λ x. 0 ∷ shares x cs) n ∙ ap (λ x. 0 ∷ x) f.3,
            ),
          ),
        )

pub round_goes_on : RoundGoesOn
round_goes_on a k p =
    let f = first_share (drop a.passed a.level) a.left k p in
    (f.0, (struck a f.1.0 f.0, (f.1.0, f.1.1, refl)))

strikes_pending : (ss : List ℕ) (a c : Round) → Strikes a ss c → pending a ≡ ss ++ pending c
strikes_pending [] a c e = ap pending e
strikes_pending (s ∷ ss) a c t =
    strike_takes_next a t.0 s t.1 ∙ ap (λ x. s ∷ x) (strikes_pending ss t.0 c t.2)

shares_none : (cs : List ℕ) → positive (shares 0 cs) ≡ []
shares_none [] = refl
shares_none (c ∷ cs) =
    let z : share 0 c (c + sum_of cs) ≡ 0 = omega (arith, share_left 0 c (sum_of cs)) in
    rw z (shares_none cs)

over : (c : Round) → c.left ≡ 0 → pending c ≡ []
over c e = rw e (shares_none (drop c.passed c.level))

pub round_trades_shares : RoundTradesShares
round_trades_shares r cs ss c t e =
    sym (strikes_pending ss (opened r cs) c t ∙ ap (λ x. ss ++ x) (over c e) ∙ append-nil ss)

pub sum_positive : (l : List ℕ) → sum_of (positive l) ≡ sum_of l
sum_positive [] = refl
sum_positive (x ∷ xs) = sum_put x (positive xs) ∙ ap (λ n. x + n) (sum_positive xs)
  where
    sum_put : (x : ℕ) (l : List ℕ) → sum_of (put x l) ≡ x + sum_of l
    sum_put zero l = omega arith
    sum_put (suc n) l = refl

pub round_trades_all : RoundTradesAll
round_trades_all r cs ss c k t e = ap sum_of (round_trades_shares r cs ss c t e) ∙ sum_positive (shares r cs) ∙ shares_sum r cs k

-- a list of zeros, and then a number above 0, tells how many and which
first_alone : (i j s t : ℕ) (L M : List ℕ) → 0 < s → 0 < t → replicate i 0 ++ (s ∷ L) ≡ replicate j 0 ++ (t ∷ M) → (i ≡ j) × (s ≡ t)
first_alone zero zero s t L M p q e = (refl, cc)
first_alone zero (suc j) s t L M p q e = let z : s ≡ 0 = cc in absurd (omega arith)
first_alone (suc i) zero s t L M p q e = let z : t ≡ 0 = cc in absurd (omega arith)
first_alone (suc i) (suc j) s t L M p q e =
    let w : replicate i 0 ++ (s ∷ L) ≡ replicate j 0 ++ (t ∷ M) = cc in
    let r = first_alone i j s t L M p q w in
    (ap suc r.0, r.1)

pub strike_alone : StrikeAlone
strike_alone a b c s t (i, f, e) (j, g, h) =
    let w = first_alone i j s t _ _ f.1 g.1 (sym f.3 ∙ g.3) in
    let m : struck a i s ≡ struck a j t = ap (λ k. struck a k s) w.0 ∙ ap (λ k. struck a j k) w.1 in
    (w.1, e ∙ m ∙ sym h)
