-- What a market by size means, beside its book: its round, as the trades that it has still to make. Assumes nothing.
use Rattle.std.specs.Prelude.{List}
use Rattle.terms.specs.declared.events.Trade.{Trade}
use Rattle.tables.specs.Held.{resting_of}
use Rattle.size_market.specs.declared.state.SizeMarket.{SizeMarket}
use Rattle.size_market.specs.Going.{pending_in}

abbrev pub round_of : SizeMarket → List Trade
round_of m = pending_in (resting_of m.tables) m.round
