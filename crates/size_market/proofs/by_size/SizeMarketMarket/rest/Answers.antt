-- Accepted, it leaves no round open; refused, it leaves the round.
use Rattle.std.proofs.Common.{◌≡◌, cond, None, ap, ◌∙◌}
use Rattle.market.specs.Market.{rest_refusal, rested}
use Rattle.market.specs.Seen.{seen}
use Rattle.tables.specs.Held.{book_of, resting_of}
use Rattle.size_market.specs.Size.{ended_by}
use Rattle.size_market.specs.Going.{pending_in, Sound}
use Rattle.size_market.specs.Meaning.{round_of}
use Rattle.size_market.proofs.Keeping.{kept_so}
use Rattle.size_market.proofs.by_size.SizeMarketMarket.rest.Goals as goal
use Rattle.size_market.proofs.by_size.SizeMarketMarket.rest.Goals.{After-kept-self}

after : (c : goal.After-kept-self) →
    Sound (resting_of c.rest-rested.new.self) c.kept-self.result
    × (pending_in (resting_of c.rest-rested.new.self) c.kept-self.result ≡ ended_by c.rest-rested.result (round_of c.args.self.now))
after c =
    let m = c.args.self.now in
    let b = book_of m.tables in
    let e = seen c.args.entry in
    kept_so (rest_refusal b e) tt b (rested b c.args.series.value e) (book_of c.rest-rested.new.self) c.rest-rested.result m.round c.kept-self.result
    (c.kept-self.ensures ∙ ap (λ v. cond v None m.round) c.is_ok.ensures.value) m.sound c.rest-rested.ensures

pub invariant_of-self : goal.invariant_of-self
invariant_of-self c = record { sound = (after c).0 }

pub returns : goal.returns
returns c = record { rested = c.rest-rested.ensures; round = (after (goal.at.returns c).After-kept-self).1 }
