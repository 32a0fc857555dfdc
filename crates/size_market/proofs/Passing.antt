-- Makers whose share is 0 are passed, up to the first whose share is above 0.
use Rattle.std.proofs.Common.{◌≡◌, ℕ, zero, suc, ◌+◌, ◌-◌, ◌≤◌, List, [], ◌∷◌, get_or, drop, Some, None, filter, sym, refl, ap, ◌∙◌, subst, add-one, arith}
use Rattle.chains.specs.Asks.{oldest}
use Rattle.market.specs.Book.{Entry}
use Rattle.market.specs.Seen.{seen}
use Rattle.tables.specs.Cross.{at_price}
use Rattle.tables.proofs.Leaving.{parted}
use Rattle.shares.specs.Shares.{sum_of, share}
use Rattle.shares.proofs.Laws.{share_le, share_left, share_rest}
use Rattle.size_market.specs.declared.round.Round.{Round}
use Rattle.size_market.specs.Size.{other_side, trade_with, sizes, dealt}
use Rattle.size_market.specs.Going.{makers_of, ahead, pending_at, Going}
use Rattle.size_market.proofs.Dealing.{passed_over}

-- a round that has passed more makers
abbrev pub moved : Round → (passed rest : ℕ) → Round
moved r passed rest = record { series = r.series; taker = r.taker; price = r.price; left = r.left; passed = passed; rest = rest }

-- it goes on, with the same trades to make
abbrev pub Moved : List (List Entry) → Round → (passed rest : ℕ) → Type 0
Moved ess r passed rest = Going ess (moved r passed rest) × (pending_at ess r ≡ pending_at ess (moved r passed rest))

-- the first maker ahead, and what it may have
pub record Ahead (ess : List (List Entry)) (r : Round) (m : Entry) : Type 0 where
  pub rest : ahead ess r ≡ m ∷ drop (suc r.passed) (makers_of ess r)
  pub sum : r.rest ≡ m.contracts + sum_of (sizes (drop (suc r.passed) (makers_of ess r)))
  pub within : share r.left m.contracts r.rest ≤ m.contracts
  pub left : share r.left m.contracts r.rest ≤ r.left
  pub after : r.left - share r.left m.contracts r.rest ≤ sum_of (sizes (drop (suc r.passed) (makers_of ess r)))

pub first_ahead : (ess : List (List Entry)) (r : Round) (m : Entry) → Going ess r → oldest (ahead ess r) ≡ Some m → Ahead ess r m
first_ahead ess r m g o =
    let p = parted (makers_of ess r) r.passed m o in
    let after = sum_of (sizes (drop (suc r.passed) (makers_of ess r))) in
    let sum : r.rest ≡ m.contracts + after = g.rest ∙ ap (λ v. sum_of (sizes v)) p.rest in
    let le : r.left ≤ m.contracts + after = omega (arith, sum, g.covered) in
    let same : share r.left m.contracts r.rest ≡ share r.left m.contracts (m.contracts + after) = ap (share r.left m.contracts) sum in
    record {
      rest = p.rest;
      sum = sum;
      within = omega (arith, same, share_le r.left m.contracts after le);
      left = omega (arith, same, share_left r.left m.contracts after);
      after = omega (arith, same, share_rest r.left m.contracts after le);
    }

-- a round that goes on has a maker ahead
pub some_ahead : (ess : List (List Entry)) (r : Round) → Going ess r → None ≡ oldest (ahead ess r) → ⊥
some_ahead ess r g e = none (ahead ess r) g.rest e
  where
    none : (ms : List Entry) → r.rest ≡ sum_of (sizes ms) → None ≡ oldest ms → ⊥
    none [] s q = omega (arith, s, g.covered, g.some)
    none (m ∷ ms) s q = let z : ◌≡◌ {A = ℕ} 0 1 = cc in omega arith

-- one more maker passed
pub one_passed : (ess : List (List Entry)) (r : Round) (m : Entry) → 1 ≤ m.contracts → Going ess r → oldest (ahead ess r) ≡ Some m → share r.left m.contracts r.rest ≡ 0 →
    Moved ess r (r.passed + 1) (r.rest - m.contracts)
one_passed ess r m low g o z =
    let a = first_ahead ess r m g o in
    let next = r.passed + 1 in
    let rest : drop (suc r.passed) (makers_of ess r) ≡ drop next (makers_of ess r) = ap (λ n. drop n (makers_of ess r)) (sym (add-one r.passed)) in (
      record {
        stands = g.stands;
        limit = g.limit;
        some = g.some;
        taken = g.taken;
        covered = omega (arith, a.after, a.sum, z);
        rest = omega (arith, a.sum, ap (λ v. sum_of (sizes v)) rest);
        bound = omega (arith, g.bound, a.sum, low);
      },
      ap (dealt (trade_with (seen r.taker) r.price.value) r.left) a.rest
          ∙ passed_over (trade_with (seen r.taker) r.price.value) r.left _ m _ (ap (share r.left m.contracts) a.sum) z
          ∙ ap (dealt (trade_with (seen r.taker) r.price.value) r.left) rest,
    )

pub moved_on : (ess : List (List Entry)) (r : Round) (passed rest n : ℕ) (m : Entry) → 1 ≤ m.contracts → Moved ess r passed rest → oldest (ahead ess (moved r passed rest)) ≡ Some m →
    share r.left m.contracts rest ≡ 0 → n ≡ m.contracts → Moved ess r (passed + 1) (rest - n)
moved_on ess r passed rest n m low h o z e =
    let w = one_passed ess (moved r passed rest) m low h.0 o z in
    let P : ℕ → Type 0 = λ v. Moved ess r (passed + 1) (rest - v) in
    subst P (sym e) (w.0, h.1 ∙ w.1)

-- ---- what the code finds

-- the maker that the tables give is the first ahead
pub found_ahead : (ess : List (List Entry)) (r : Round) (side : ℕ) (m : Entry) → side ≡ other_side (seen r.taker).side →
    Some m ≡ oldest (drop r.passed (filter (at_price side r.price.value) (get_or ess (r.series.value - 1) []))) → oldest (ahead ess r) ≡ Some m
found_ahead ess r side m e o = sym (o ∙ ap (λ s. oldest (drop r.passed (filter (at_price s r.price.value) (get_or ess (r.series.value - 1) [])))) e)

-- a share that is no number of contracts is 0
pub no_share : (n c : ℕ) → (1 ≤ n → n ≤ 65535 → ⊥) → n ≤ c → c ≤ 65535 → n ≡ 0
no_share zero c none le high = refl
no_share (suc n) c none le high = absurd (none (omega arith) (omega arith))
