-- Where a market trades: the lowest series that crosses, with its best buy and its best sell; and one side of a trade. Assumes nothing.
use Rattle.std.specs.Prelude.{◌≡◌, ℕ, suc, ◌+◌, ◌-◌, ◌≤◌, Bool, false, cond, not, ◌&&◌, ◌||◌, List, [], ◌∷◌, Some, None, Ok, Err, filter, Option, Result, ◌==◌, nat_le, nat_lt}
use Rattle.std.specs.Option.{option_map}
use Rattle.terms.specs.declared.refusal.Refusal.{Refusal}
use Rattle.terms.specs.declared.events.Trade.{Trade}
use Rattle.terms.specs.declared.messages.Fill.{Fill}
use Rattle.terms.specs.declared.kinds.Side.{Side}
use Rattle.terms.specs.declared.kinds.Side.TheVariants.{Buy, Sell}
use Rattle.chains.specs.Asks.{oldest, best}
use Rattle.terms.specs.Tables.{at, any_of}
use Rattle.market.specs.Book.{Entry, Book, is_for, totals}
use Rattle.market.specs.Market.{cross}
use Rattle.market.specs.Seen.{seen}
use Rattle.tables.specs.declared.cross.Crossing as code

-- ---- the best buy and the best sell of a series

abbrev pub on_side : (side : ℕ) → Entry → Bool
on_side side e = e.side == side

-- the entries of a side at a price
abbrev pub at_price : (side price : ℕ) → Entry → Bool
at_price side price e = e.side == side && e.price == price

-- the higher price is the better of two buys, the lower of two sells
abbrev pub dearer : Entry → Entry → Bool
dearer a b = nat_lt b.price a.price

abbrev pub cheaper : Entry → Entry → Bool
cheaper a b = nat_lt a.price b.price

-- the oldest at the best price
unfoldable pub best_buy : List Entry → Option Entry
best_buy es = best dearer (filter (on_side 1) es)

unfoldable pub best_sell : List Entry → Option Entry
best_sell es = best cheaper (filter (on_side 2) es)

-- the two by side: which of two prices is the better, and which entry is the best
abbrev pub beats : Side → Entry → Entry → Bool
beats Buy = dearer
beats Sell = cheaper

abbrev pub best_on : Side → List Entry → Option Entry
best_on Buy = best_buy
best_on Sell = best_sell

pub record Pair : Type 0 where
  pub buy : Entry
  pub sell : Entry

-- a buy and a sell, where the buy is priced at or above the sell
abbrev pub paired : Option Entry → Option Entry → Option Pair
paired None s = None
paired (Some b) None = None
paired (Some b) (Some s) = cond (nat_le s.price b.price) (Some (record { buy = b; sell = s })) None

-- the best buy and the best sell of a series that crosses
abbrev pub pair_in : List Entry → Option Pair
pair_in es = paired (best_buy es) (best_sell es)

-- ---- the lowest series that crosses

-- a series that crosses
abbrev pub crosses_in : List Entry → Bool
crosses_in es = any_of (λ buy. any_of (λ sell. cross buy sell) es) es

-- a series by its place, from 0, and its pair
pub record Crossing : Type 0 where
  pub series : ℕ
  pub pair : Pair

abbrev pub or_else : {X : Type 0} → Option X → Option X → Option X
or_else None y = y
or_else (Some x) y = Some x

abbrev pub crossing_from : ℕ → List (List Entry) → Option Crossing
crossing_from k [] = None
crossing_from k (es ∷ ess) = or_else (option_map (λ p. record { series = k; pair = p }) (pair_in es)) (crossing_from (suc k) ess)

abbrev pub lowest : List (List Entry) → Option Crossing
lowest ess = crossing_from 0 ess

-- the series of a number, from 1, where it crosses
abbrev pub crossing_at : List (List Entry) → (number : ℕ) → Option Crossing
crossing_at ess number = option_map (λ p. record { series = number - 1; pair = p }) (pair_in (at [] ess number))

-- a crossing of the code, in plain numbers
abbrev pub seen_crossing : code.Crossing → Crossing
seen_crossing x = record { series = x.series.value - 1; pair = record { buy = seen x.buy; sell = seen x.sell } }

-- ---- which of two is older

-- whether a comes before b in a list that has both
abbrev pub before : (a b : Entry) → List Entry → Bool
before a b [] = false
before a b (e ∷ es) = is_for a.login a.number e || (not (is_for b.login b.number e) && before a b es)

-- the older and the younger of a buy and a sell
abbrev pub older : List Entry → Pair → Entry
older es p = cond (before p.buy p.sell es) p.buy p.sell

abbrev pub younger : List Entry → Pair → Entry
younger es p = cond (before p.buy p.sell es) p.sell p.buy

-- ---- one side of a trade

-- e's side of a trade of n contracts at a price
abbrev pub fill_of : Entry → (n price : ℕ) → Fill
fill_of e n price = record { login = e.login; number = e.number; side = e.side; contracts = n; price = price }

abbrev pub trade_of : (buy sell : Entry) (n price : ℕ) → Trade
trade_of buy sell n price =
    record { buyer = record { login = buy.login; number = buy.number }; seller = record { login = sell.login; number = sell.number }; contracts = n; price = price }

-- the entry of e's login, number and side
abbrev pub names : Entry → Entry → Bool
names e x = is_for e.login e.number x && x.side == e.side

-- an entry that is e's in every field
abbrev pub same : Entry → Entry → Bool
same e x = names e x && (x.kind == e.kind && (x.price == e.price && x.contracts == e.contracts))

-- e stands in a series, and is what its login, number and side name there
abbrev pub Stands : List Entry → Entry → Type 0
Stands es e = oldest (filter (names e) es) ≡ Some e

-- a buy and a sell that stand in a series
pub record Meet (es : List Entry) (buy sell : Entry) : Type 0 where
  pub buys : buy.side ≡ 1
  pub sells : sell.side ≡ 2
  pub buy_stands : Stands es buy
  pub sell_stands : Stands es sell

-- how much a buy and a sell may trade, and at what price: what both have, from the sell's price to the buy's
pub record Fair (buy sell : Entry) (n price : ℕ) : Type 0 where
  pub some : 1 ≤ n
  pub bought : n ≤ buy.contracts
  pub sold : n ≤ sell.contracts
  pub low : sell.price ≤ price
  pub high : price ≤ buy.price

-- the buys together lose n contracts, and so do the sells
pub record BothLose (n : ℕ) (before after : List (List Entry)) : Type 0 where
  pub bought : totals (on_side 1) after + n ≡ totals (on_side 1) before
  pub sold : totals (on_side 2) after + n ≡ totals (on_side 2) before

-- contracts bought are contracts sold
abbrev pub Even : Book → Result (Option Trade) Refusal → Book → Type 0
Even b (Ok None) a = Unit {0}
Even b (Err _) a = Unit {0}
Even b (Ok (Some t)) a = BothLose t.contracts b.resting a.resting
