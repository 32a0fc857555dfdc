-- Strikes in a round make its trades in order.
use Rattle.std.proofs.Common.{◌≡◌, ℕ, ◌+◌, ◌≤◌, Bool, true, false, cond, List, [], ◌∷◌, ◌++◌, length, Some, Ok, Err, refl, ap, arith}
use Rattle.terms.specs.declared.events.Trade.{Trade}
use Rattle.terms.specs.declared.refusal.Refusal.TheVariants.{SlipsFull}
use Rattle.market.specs.Book.{Book}
use Rattle.market.specs.Market.{slips_full}
use Rattle.size_market.specs.Size.{due, answer_of, left_of}
use Rattle.size_market.specs.Runs.{made_by, made, left_by, RoundsInOrder}

-- of a round that is open
go_on : (bs : List Book) (round : List Trade) → length bs ≤ length round → made bs round ++ left_by bs round ≡ round
go_on [] round h = refl
go_on (b ∷ bs) [] h = absurd (omega arith)
go_on (b ∷ bs) (t ∷ ts) h = go (slips_full b) (go_on bs (t ∷ ts) (omega arith)) (go_on bs ts (omega arith))
  where
    go : (full : Bool) → made bs (t ∷ ts) ++ left_by bs (t ∷ ts) ≡ t ∷ ts → made bs ts ++ left_by bs ts ≡ ts → made_by (cond full (Err SlipsFull) (Ok (Some t))) (made bs (cond full (t ∷ ts) ts)) ++ left_by bs (cond full (t ∷ ts) ts) ≡ t ∷ ts
    go true as_it_was one_less = as_it_was
    go false as_it_was one_less = ap (λ (v : List Trade). t ∷ v) one_less

-- the first of them, that may open it
first : (full : Bool) (bs : List Book) (round ds : List Trade) → full ≡ false → length bs + 1 ≤ length ds →
    made_by (answer_of full ds) (made bs (left_of full round ds)) ++ left_by bs (left_of full round ds) ≡ ds
first full bs round [] e h = absurd (omega arith)
first true bs round (t ∷ ts) e h = let z : ◌≡◌ {A = ℕ} 0 1 = cc in absurd (omega arith)
first false bs round (t ∷ ts) e h = ap (λ (v : List Trade). t ∷ v) (go_on bs ts (omega arith))

pub in_order : RoundsInOrder
in_order b bs round room h = first (slips_full b) bs round (due b round) room (omega (arith, h))
