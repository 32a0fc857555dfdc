-- What a strike by price, then time, answers exactly, and the laws that a trade keeps to. Assumes nothing.
use Rattle.std.specs.Prelude.{◌≡◌, ℕ, ◌<◌, ◌≤◌, min, false, cond, List, [], length, Some, None, Ok, Err, filter, Option, Result, slice_index_or}
use Rattle.terms.specs.declared.events.Trade.{Trade}
use Rattle.terms.specs.declared.refusal.Refusal.{Refusal}
use Rattle.terms.specs.declared.refusal.Refusal.TheVariants.{SlipsFull}
use Rattle.chains.specs.Asks.{Leads}
use Rattle.market.specs.Book.{Entry, Book}
use Rattle.market.specs.Market.{slips_full}
-- a series that crosses
pub use Rattle.tables.specs.Cross.{crosses_in}
use Rattle.tables.specs.Cross.{on_side, dearer, cheaper, Pair, Crossing, lowest, before, trade_of}

-- the price of the older of the two
abbrev pub older_price : List Entry → Pair → ℕ
older_price es p = cond (before p.buy p.sell es) p.buy.price p.sell.price

-- the smaller of their contracts, at the older's price
abbrev pub trade_in : List Entry → Pair → Trade
trade_in es p = trade_of p.buy p.sell (min p.buy.contracts p.sell.contracts) (older_price es p)

abbrev pub answer_at : Book → Option Crossing → Result (Option Trade) Refusal
answer_at b None = Ok None
answer_at b (Some x) = cond (slips_full b) (Err SlipsFull) (Ok (Some (trade_in (slice_index_or b.resting x.series []) x.pair)))

-- none where nothing crosses, 33 where fewer than two slip places are free, else the trade
abbrev pub time_answer : Book → Result (Option Trade) Refusal
time_answer b = answer_at b (lowest b.resting)

-- ---- laws of a trade

-- The trade is of a buy and a sell of the lowest series that crosses. Each leads its side: none there has a better price, and none
-- before it one as good. The price is within both limits and is that of one of the two; all contracts of one of the two are traded.
pub record ByPriceAndTime (b : Book) (t : Trade) : Type 0 where
  pub series : ℕ
  pub pair : Pair
  pub within : series < length b.resting
  pub lower : (j : ℕ) → j < series → crosses_in (slice_index_or b.resting j []) ≡ false
  pub is : t ≡ trade_of pair.buy pair.sell t.contracts t.price
  pub buy_leads : Leads dearer (filter (on_side 1) (slice_index_or b.resting series [])) (Some pair.buy)
  pub sell_leads : Leads cheaper (filter (on_side 2) (slice_index_or b.resting series [])) (Some pair.sell)
  pub contracts : t.contracts ≡ min pair.buy.contracts pair.sell.contracts
  pub price : t.price ≡ older_price (slice_index_or b.resting series []) pair
  pub low : pair.sell.price ≤ t.price
  pub high : t.price ≤ pair.buy.price

abbrev pub Orderly : Book → Result (Option Trade) Refusal → Type 0
Orderly b (Ok None) = Unit {0}
Orderly b (Err _) = Unit {0}
Orderly b (Ok (Some t)) = ByPriceAndTime b t
