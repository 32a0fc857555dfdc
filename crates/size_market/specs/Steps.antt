-- The steps of a strike by size: the round that is traded in, the share that is next, and the round after it. Assumes nothing.
use Rattle.std.specs.Prelude.{◌≡◌, ◌+◌, ◌<◌, ◌≤◌, false, cond, List, [], Some, None, Option, nat_lt}
use Rattle.chains.specs.Asks.{oldest}
use Rattle.terms.specs.declared.kinds.Side.{Side}
use Rattle.terms.specs.declared.kinds.Side.TheVariants.{Buy, Sell}
use Rattle.terms.specs.declared.events.Trade.{Trade}
use Rattle.market.specs.Book.{Entry, Book}
use Rattle.market.specs.Market.{crosses, less}
use Rattle.market.specs.Seen.{seen}
use Rattle.tables.specs.declared.cross.Crossing.{Crossing}
use Rattle.shares.specs.Shares.{share}
use Rattle.size_market.specs.declared.round.Round.{Round}
use Rattle.size_market.specs.declared.round.Due.{Due}
use Rattle.size_market.specs.Size.{due}
use Rattle.size_market.specs.Going.{ahead, pending_at, Going}

-- what a strike trades in: the trades that are due, as a round that goes on; none where nothing crosses
abbrev pub Current : Book → List Trade → Option Round → Type 0
Current b round None = (crosses b ≡ false) × (due b round ≡ [])
Current b round (Some r) = Going b.resting r × (pending_at b.resting r ≡ due b round)

-- The first maker ahead has a share above 0; the makers passed on the way have none, so that the round has the same trades to make.
pub record IsDue (ess : List (List Entry)) (r : Round) (d : Due) : Type 0 where
  pub going : Going ess d.round
  pub pending : pending_at ess r ≡ pending_at ess d.round
  pub maker : oldest (ahead ess d.round) ≡ Some (seen d.maker)
  pub share : d.share.value ≡ share d.round.left d.maker.contracts.value d.round.rest

-- the taker faces the maker
abbrev pub facing : Side → Due → Crossing
facing Buy d = record { series = d.round.series; buy = d.round.taker; sell = d.maker }
facing Sell d = record { series = d.round.series; buy = d.maker; sell = d.round.taker }

abbrev pub crossing_of : Due → Crossing
crossing_of d = facing d.round.taker.side d

-- The round after d's share was traded, where something is left to give out.
pub record Follows (d : Due) (r : Round) : Type 0 where
  pub series : r.series ≡ d.round.series
  pub taker : seen r.taker ≡ less d.share.value (seen d.round.taker)
  pub price : r.price ≡ d.round.price
  pub left : r.left + d.share.value ≡ d.round.left
  pub some : 0 < r.left
  pub passed : r.passed ≡ d.round.passed + cond (nat_lt d.share.value d.maker.contracts.value) 1 0
  pub rest : r.rest + d.maker.contracts.value ≡ d.round.rest

abbrev pub Next : Due → Option Round → Type 0
Next d None = d.round.left ≤ d.share.value
Next d (Some r) = Follows d r
