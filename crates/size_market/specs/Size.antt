-- The market by size: which round opens, what a strike answers, and what is left of the round. A round is the list of trades that it has still to make, [] where none
-- is open. Assumes nothing.
use Rattle.std.specs.Prelude.{◌≡◌, ℕ, ◌-◌, ◌<◌, ◌≤◌, min, Bool, false, cond, List, [], ◌∷◌, map, length, Some, None, Ok, Err, filter, Option, Result, ◌==◌, slice_index, slice_index_or}
use Rattle.std.specs.List.{AllByRecursion}
use Rattle.terms.specs.declared.events.Trade.{Trade}
use Rattle.terms.specs.declared.refusal.Refusal.{Refusal}
use Rattle.terms.specs.declared.refusal.Refusal.TheVariants.{SlipsFull}
use Rattle.chains.specs.Asks.{Leads}
use Rattle.market.specs.Book.{Entry, Book}
use Rattle.market.specs.Market.{slips_full}
-- the older and the younger of a buy and a sell
pub use Rattle.tables.specs.Cross.{older, younger}
use Rattle.tables.specs.Cross.{on_side, at_price, dearer, cheaper, Pair, Crossing, lowest, crosses_in, trade_of, Meet, Fair}
use Rattle.shares.specs.Shares.{sum_of, shares}
use Rattle.shares.specs.Rounds.{pending, opened}

-- ---- who trades, and at what price

-- the side that a side trades with: 1 is buy, 2 is sell
abbrev pub other_side : ℕ → ℕ
other_side side = 3 - side

-- the makers: all entries at the price, on the side that the taker trades with
abbrev pub makers_at : (taker : Entry) (price : ℕ) → List Entry → List Entry
makers_at taker price es = filter (at_price (other_side taker.side) price) es

abbrev pub trade_with : (taker : Entry) (price : ℕ) → (maker : Entry) (n : ℕ) → Trade
trade_with taker price maker n = cond (on_side 1 taker) (trade_of taker maker n price) (trade_of maker taker n price)

-- ---- how much

abbrev pub sizes : List Entry → List ℕ
sizes es = map (λ e. e.contracts) es

-- each maker trades its share, oldest first; a share of 0 is no trade
abbrev pub given : (Entry → ℕ → Trade) → List Entry → List ℕ → List Trade
given trade [] ss = []
given trade (m ∷ ms) [] = []
given trade (m ∷ ms) (s ∷ ss) = cond (s == 0) (given trade ms ss) (trade m s ∷ given trade ms ss)

-- r contracts given out over the makers by size
abbrev pub dealt : (Entry → ℕ → Trade) → (r : ℕ) → List Entry → List Trade
dealt trade r makers = given trade makers (shares r (sizes makers))

-- R: the smaller of the taker's contracts and the makers' sum
abbrev pub amount : (taker : Entry) → List Entry → ℕ
amount taker makers = min taker.contracts (sum_of (sizes makers))

-- ---- the round that opens, and what a strike makes of it

-- the younger is the taker; the older's price is the makers'
abbrev pub opening : List Entry → Pair → List Trade
opening es p =
    dealt (trade_with (younger es p) (older es p).price) (amount (younger es p) (makers_at (younger es p) (older es p).price es)) (makers_at (younger es p) (older es p).price es)

abbrev pub opened_by : Book → Option Crossing → List Trade
opened_by b None = []
opened_by b (Some x) = opening (slice_index_or b.resting x.series []) x.pair

-- the trades that a strike goes by: those of the round that is open, else those of the round that the lowest series that crosses opens
abbrev pub due : Book → List Trade → List Trade
due b [] = opened_by b (lowest b.resting)
due b (t ∷ ts) = t ∷ ts

abbrev pub answer_of : (full : Bool) (due : List Trade) → Result (Option Trade) Refusal
answer_of full [] = Ok None
answer_of full (t ∷ ts) = cond full (Err SlipsFull) (Ok (Some t))

-- none where nothing is due, 33 where fewer than two slip places are free, else the first trade that is due
abbrev pub size_answer : Book → List Trade → Result (Option Trade) Refusal
size_answer b round = answer_of (slips_full b) (due b round)

abbrev pub left_of : (full : Bool) (round due : List Trade) → List Trade
left_of full round [] = round
left_of full round (t ∷ ts) = cond full round ts

-- the round without the trade that was made; as it was where none was
abbrev pub round_after : Book → List Trade → List Trade
round_after b round = left_of (slips_full b) round (due b round)

-- a call that is accepted ends the round, and one that is refused does not
abbrev pub ended_by : {X : Type 0} → Result X Refusal → List Trade → List Trade
ended_by (Ok _) round = []
ended_by (Err _) round = round

-- ---- laws

-- how much the round of a pair gives out, and over what
abbrev pub amount_of : List Entry → Pair → ℕ
amount_of es p = amount (younger es p) (makers_at (younger es p) (older es p).price es)

abbrev pub sizes_of : List Entry → Pair → List ℕ
sizes_of es p = sizes (makers_at (younger es p) (older es p).price es)

-- A round opens in the lowest series that crosses, with a buy and a sell that lead their sides: none there has a better price, and none before it one as good. Every trade is at the
-- older's price, which is within the limits of both. The makers trade their shares, in order, without those of 0: together all that is given out, and none more than its maker has.
pub record Opens (b : Book) (ts : List Trade) : Type 0 where
  pub series : ℕ
  pub pair : Pair
  pub within : series < length b.resting
  pub lower : (j : ℕ) → j < series → crosses_in (slice_index_or b.resting j []) ≡ false
  pub buy_leads : Leads dearer (filter (on_side 1) (slice_index_or b.resting series [])) (Some pair.buy)
  pub sell_leads : Leads cheaper (filter (on_side 2) (slice_index_or b.resting series [])) (Some pair.sell)
  pub low : pair.sell.price ≤ (older (slice_index_or b.resting series []) pair).price
  pub high : (older (slice_index_or b.resting series []) pair).price ≤ pair.buy.price
  pub prices : AllByRecursion (λ t. t.price ≡ (older (slice_index_or b.resting series []) pair).price) ts
  pub amounts : map (λ t. t.contracts) ts ≡ pending (opened (amount_of (slice_index_or b.resting series []) pair) (sizes_of (slice_index_or b.resting series []) pair))
  pub sum : sum_of (map (λ t. t.contracts) ts) ≡ amount_of (slice_index_or b.resting series []) pair
  pub none_above : (k : ℕ) → slice_index (shares (amount_of (slice_index_or b.resting series []) pair) (sizes_of (slice_index_or b.resting series []) pair)) k ≤ slice_index (sizes_of (slice_index_or b.resting series []) pair) k

-- A trade is of a buy and a sell that stand in one series, at a price within both limits, and of no more than either has. Where no round was open, it is the first of one that opens.
pub record BySizeOf (b : Book) (round : List Trade) (t : Trade) : Type 0 where
  pub series : ℕ
  pub pair : Pair
  pub meet : Meet (slice_index_or b.resting series []) pair.buy pair.sell
  pub fair : Fair pair.buy pair.sell t.contracts t.price
  pub is : t ≡ trade_of pair.buy pair.sell t.contracts t.price
  pub opens : round ≡ [] → Opens b (due b [])

abbrev pub Lawful : Book → List Trade → Result (Option Trade) Refusal → Type 0
Lawful b round (Ok None) = Unit {0}
Lawful b round (Err _) = Unit {0}
Lawful b round (Ok (Some t)) = BySizeOf b round t
