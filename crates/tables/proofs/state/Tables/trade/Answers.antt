-- The buy first, then the sell, which still stands.
use Rattle.std.proofs.Common.{◌-◌, arith}
use Rattle.market.specs.Seen.{seen}
use Rattle.tables.specs.Cross.{fill_of}
use Rattle.tables.specs.Held.{book_of}
use Rattle.tables.proofs.Pairs.{both_sides, struck_so, stands_in, trade_is}
use Rattle.tables.proofs.state.Tables.trade.Goals as goal

pub trade_side-requires-2-clause-stands : goal.trade_side-requires-2-clause-stands
trade_side-requires-2-clause-stands c =
    let t = c.args.self.now in
    let x = c.args.crossing in
    stands_in (book_of t) (book_of c.trade_side.new.self) (fill_of (seen x.buy) c.args.contracts.value c.args.price.value) (seen x.sell) (x.series.value - 1)
    (λ e. omega (arith, e, c.requires.meet.buys, c.requires.meet.sells)) (omega (arith, c.facts.ensures.series, x.series.high)) c.trade_side.ensures.traded c.requires.meet.sell_stands

pub returns-clause-struck : goal.returns-clause-struck
returns-clause-struck c =
    let t = c.args.self.now in
    let x = c.args.crossing in
    let buy = seen x.buy in
    let sell = seen x.sell in
    let n = c.args.contracts.value in
    let price = c.args.price.value in
    let is = trade_is buy sell n price _ _ _ _ c.into.ensures c.into-2.ensures c.into-3.ensures c.into-4.ensures in
    struck_so (book_of t) (book_of c.trade_side-2.new.self) (x.series.value - 1) buy sell n price _ is
    (omega (arith, c.facts.ensures.series, x.series.high)) c.requires.meet c.requires.fair c.requires.room
    (both_sides (book_of t) (book_of c.trade_side.new.self) (book_of c.trade_side-2.new.self) buy sell n price c.requires.meet.buys c.requires.meet.sells
    c.trade_side.ensures.traded c.trade_side-2.ensures.traded)
