-- A side of a trade, by which side it is. Assumes nothing.
use Rattle.terms.specs.declared.events.Trade.{Trade}
use Rattle.terms.specs.declared.messages.Fill.{Fill}
use Rattle.terms.specs.declared.kinds.Side.{Side}
use Rattle.terms.specs.declared.kinds.Side.TheVariants.{Buy, Sell}
use Rattle.market.specs.Market.{buy_side, sell_side}

abbrev pub side_fill : Trade → Side → Fill
side_fill t Buy = buy_side t
side_fill t Sell = sell_side t
