-- Strikes one after another, with no other call between that ends the round; the laws of them. Assumes nothing.
use Rattle.std.specs.Prelude.{◌≡◌, ◌≤◌, false, List, [], ◌∷◌, ◌++◌, length, Some, None, Ok, Err, Option, Result}
use Rattle.terms.specs.declared.events.Trade.{Trade}
use Rattle.terms.specs.declared.refusal.Refusal.{Refusal}
use Rattle.market.specs.Book.{Book}
use Rattle.market.specs.Market.{slips_full}
use Rattle.size_market.specs.Size.{due, size_answer, round_after, Opens}

-- an answer's trade, before others
abbrev pub made_by : Result (Option Trade) Refusal → List Trade → List Trade
made_by (Ok None) ts = ts
made_by (Ok (Some t)) ts = t ∷ ts
made_by (Err _) ts = ts

-- the trades of strikes that find these books
abbrev pub made : List Book → List Trade → List Trade
made [] round = []
made (b ∷ bs) round = made_by (size_answer b round) (made bs (round_after b round))

-- the round that they leave
abbrev pub left_by : List Book → List Trade → List Trade
left_by [] round = round
left_by (b ∷ bs) round = left_by bs (round_after b round)

-- Whatever the books, and however often 33 comes between: strikes make the trades that were due at the first of them, in order, and leave the others.
abbrev pub RoundsInOrder : Type 0
RoundsInOrder =
    (b : Book) (bs : List Book) (round : List Trade) → slips_full b ≡ false → length (b ∷ bs) ≤ length (due b round) → made (b ∷ bs) round ++ left_by (b ∷ bs) round ≡ due b round

-- every round that opens keeps to size
abbrev pub RoundsOpenSo : Type 0
RoundsOpenSo = (b : Book) (t : Trade) (ts : List Trade) → due b [] ≡ t ∷ ts → Opens b (due b [])
