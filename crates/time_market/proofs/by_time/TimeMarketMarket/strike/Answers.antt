-- Nothing crosses, or there is no room, or the pair trades.
use Rattle.std.proofs.Common.{sym, refl, ap, rules}
use Rattle.std.proofs.lemmas.Bool.{not-true, not-false}
use Rattle.tables.specs.Cross.{seen_crossing}
use Rattle.tables.specs.Held.{book_of, resting_of, series_of}
use Rattle.tables.proofs.Crossings.{nothing_crosses, crosses_at, found_at, pair_meets}
use Rattle.time_market.proofs.Times.{fair, Traded, traded_so}
use Rattle.time_market.proofs.by_time.TimeMarketMarket.strike.Goals as goal
use Rattle.time_market.proofs.by_time.TimeMarketMarket.strike.Goals.{After-trade-trade}

pub returns-in_default-clause-struck : goal.returns-in_default-clause-struck
returns-in_default-clause-struck c = (nothing_crosses 0 (resting_of c.args.self.now.tables) (sym c.in_default.ensures), refl)

pub returns-then-not-slips_fit-clause-struck : goal.returns-then-not-slips_fit-clause-struck
returns-then-not-slips_fit-clause-struck c =
    let t = c.args.self.now.tables in
    let x = seen_crossing c.in-Some.crossing in
    let w = found_at (book_of t) x.series x.pair c.in-Some.ensures in
    ((refl, crosses_at (resting_of t) x.series x.pair w.below w.paired, not-false _ (sym c.if-not-slips_fit.ensures)), refl)

pub trade-trade-requires-clause-meet : goal.trade-trade-requires-clause-meet
trade-trade-requires-clause-meet c =
    let t = c.args.self.now.tables in
    let x = seen_crossing c.in-Some.crossing in
    let w = found_at (book_of t) x.series x.pair c.in-Some.ensures in
    pair_meets (resting_of t) x.series x.pair t.apart w.below w.paired

pub trade-trade-requires-clause-fair : goal.trade-trade-requires-clause-fair
trade-trade-requires-clause-fair c =
    let t = c.args.self.now.tables in
    let x = seen_crossing c.in-Some.crossing in
    let w = found_at (book_of t) x.series x.pair c.in-Some.ensures in
    fair (series_of t c.in-Some.crossing.series) x.pair _ _ w.paired (search rules) c.min-contracts.result.low (ap (λ e. e.price) c.by_age.ensures.older)

traded : (c : goal.After-trade-trade) → Traded (book_of c.args.self.now.tables) c.trade-trade.result
traded c =
    let x = seen_crossing c.in-Some.crossing in
    traded_so (book_of c.args.self.now.tables) x.series x.pair _ _ c.trade-trade.result c.in-Some.ensures (not-true _ (sym c.if-not-slips_fit.ensures))
    (search rules) (ap (λ e. e.price) c.by_age.ensures.older) c.trade-trade.ensures.trade

pub returns-clause-exact : goal.returns-clause-exact
returns-clause-exact c = (traded (goal.at.returns-clause-exact c).After-trade-trade).exact

pub returns-clause-orderly : goal.returns-clause-orderly
returns-clause-orderly c = (traded (goal.at.returns-clause-orderly c).After-trade-trade).orderly
