-- A round as the market keeps it: the trades that it has still to make, and what is always so of it. Assumes nothing.
use Rattle.std.specs.Prelude.{◌≡◌, ℕ, ◌+◌, ◌-◌, ◌<◌, ◌≤◌, Bool, true, cond, List, [], drop, Some, None, Option, nat_le, slice_index_or}
use Rattle.terms.specs.declared.events.Trade.{Trade}
use Rattle.terms.specs.Tables.{any_of}
use Rattle.market.specs.Book.{Entry}
use Rattle.market.specs.Seen.{seen}
use Rattle.tables.specs.Cross.{on_side, same}
use Rattle.shares.specs.Shares.{sum_of}
use Rattle.size_market.specs.declared.round.Round.{Round}
use Rattle.size_market.specs.Size.{makers_at, sizes, trade_with, dealt}

-- the makers of a round
abbrev pub makers_of : List (List Entry) → Round → List Entry
makers_of ess r = makers_at (seen r.taker) r.price.value (slice_index_or ess (r.series.value - 1) [])

-- those that were not passed
abbrev pub ahead : List (List Entry) → Round → List Entry
ahead ess r = drop r.passed (makers_of ess r)

-- what is left is given out over those: the trades that the round has still to make
abbrev pub pending_at : List (List Entry) → Round → List Trade
pending_at ess r = dealt (trade_with (seen r.taker) r.price.value) r.left (ahead ess r)

abbrev pub pending_in : List (List Entry) → Option Round → List Trade
pending_in ess None = []
pending_in ess (Some r) = pending_at ess r

-- a price is within an entry's limit
abbrev pub within : (price : ℕ) → Entry → Bool
within price e = cond (on_side 1 e) (nat_le price e.price) (nat_le e.price price)

-- The taker stands, and the price is within its limit. Something is left to give out, which the taker has, and the makers that were not passed have.
pub record Going (ess : List (List Entry)) (r : Round) : Type 0 where
  pub stands : any_of (same (seen r.taker)) (slice_index_or ess (r.series.value - 1) []) ≡ true
  pub limit : within r.price.value (seen r.taker) ≡ true
  pub some : 0 < r.left
  pub taken : r.left ≤ r.taker.contracts.value
  pub covered : r.left ≤ r.rest
  pub rest : r.rest ≡ sum_of (sizes (ahead ess r))
  pub bound : r.passed + r.rest ≤ 25165440

-- where a round is open
abbrev pub GoesOn : List (List Entry) → Option Round → Type 0
GoesOn ess None = Unit {0}
GoesOn ess (Some r) = Going ess r

-- the same as a proposition
abbrev pub Sound : List (List Entry) → Option Round → Type 0
Sound ess o = ∥ GoesOn ess o ∥₁
