-- Nothing is due, or there is no room, or the share that is next trades.
use Rattle.std.proofs.Common.{◌≡◌, ◌∷◌, Some, Ok, sym, arith}
use Rattle.std.proofs.lemmas.Bool.{not-true, not-false}
use Rattle.market.specs.Seen.{seen}
use Rattle.tables.specs.Held.{book_of, resting_of}
use Rattle.size_market.specs.Size.{due}
use Rattle.size_market.specs.Going.{pending_in, GoesOn}
use Rattle.size_market.specs.Meaning.{round_of}
use Rattle.size_market.proofs.Passing.{first_ahead}
use Rattle.size_market.proofs.Striking.{Told, no_room, ready, struck_so}
use Rattle.size_market.proofs.Following.{left_after}
use Rattle.size_market.proofs.Lawful.{by_size}
use Rattle.size_market.proofs.by_size.SizeMarketMarket.strike.Goals as goal
use Rattle.size_market.proofs.by_size.SizeMarketMarket.strike.Goals.{After-round_after-self}

pub returns-then-not-slips_fit : goal.returns-then-not-slips_fit
returns-then-not-slips_fit c =
    let m = c.args.self.now in
    let d = no_room (book_of m.tables) (round_of m) c.in-Some.round m.tables.apart c.facts.ensures.series c.in-Some.ensures (not-false _ (sym c.if-not-slips_fit.ensures)) in
    record { struck = d.struck; exact = d.exact; round = d.left; lawful = tt; even = tt }

pub trade-trade-requires : goal.trade-trade-requires
trade-trade-requires c =
    let m = c.args.self.now in
    let r = ready (resting_of m.tables) c.in-Some.round c.next_due-due.result c.crossing.result m.tables.apart c.facts.ensures.series c.next_due-due.ensures c.crossing.ensures in
    record { meet = r.meet; fair = r.fair; room = not-true _ (sym c.if-not-slips_fit.ensures) }

pub round_after-self-requires : goal.round_after-self-requires
round_after-self-requires c =
    let d = c.next_due-due.result in
    let i = c.next_due-due.ensures in
    let a = first_ahead (resting_of c.args.self.now.tables) d.round (seen d.maker) i.going i.maker in
    record { left = omega (arith, i.share, a.left); taken = i.going.taken; maker = omega (arith, i.share, a.within); rest = omega (arith, a.sum); bound = i.going.bound }

struck : (c : goal.After-round_after-self) →
    GoesOn (resting_of c.trade-trade.new.self) c.round_after-self.result
    × Told (book_of c.args.self.now.tables) (book_of c.trade-trade.new.self) (round_of c.args.self.now) (pending_in (resting_of c.trade-trade.new.self) c.round_after-self.result) (Ok (Some c.trade-trade.result))
    × (due (book_of c.args.self.now.tables) (round_of c.args.self.now) ≡ c.trade-trade.result ∷ left_after (resting_of c.args.self.now.tables) c.next_due-due.result)
struck c =
    let m = c.args.self.now in
    struck_so (book_of m.tables) (book_of c.trade-trade.new.self) (round_of m) c.in-Some.round c.next_due-due.result c.crossing.result c.trade-trade.result c.round_after-self.result
    m.tables.apart c.facts.ensures.series (not-true _ (sym c.if-not-slips_fit.ensures)) c.in-Some.ensures c.next_due-due.ensures c.crossing.ensures
    c.trade-trade.ensures.trade c.trade-trade.ensures.struck c.round_after-self.ensures

pub invariant_of-self : goal.invariant_of-self
invariant_of-self c = record { sound = ∣ (struck c).0 ∣₁ }

pub returns : goal.returns
returns c =
    let m = c.args.self.now in
    let d = struck (goal.at.returns c).After-round_after-self in
    let r = ready (resting_of m.tables) c.in-Some.round c.next_due-due.result c.crossing.result m.tables.apart c.facts.ensures.series c.next_due-due.ensures c.crossing.ensures in
    record {
      struck = d.1.struck;
      exact = d.1.exact;
      round = d.1.left;
      lawful = by_size (book_of m.tables) (round_of m) _ c.next_due-due.result c.crossing.result c.trade-trade.result r c.trade-trade.ensures.trade d.2;
      even = c.trade-trade.ensures.even;
    }
