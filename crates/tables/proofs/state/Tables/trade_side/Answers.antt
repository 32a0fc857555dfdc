-- The entry, then the slip.
use Rattle.market.specs.Seen.{seen}
use Rattle.tables.specs.Cross.{fill_of}
use Rattle.tables.proofs.Trades.{side_done}
use Rattle.tables.proofs.state.Tables.trade_side.Goals as goal

pub returns-clause-traded : goal.returns-clause-traded
returns-clause-traded c =
    side_done c.args.self.now c.fill.new.self c.give_slip.new.self (fill_of (seen c.args.entry) c.args.contracts.value c.args.price.value)
    (c.fill.ensures.filled c.args.price.value) c.fill.ensures.slips c.give_slip.ensures.given
