-- Accepted, it leaves no round open; refused, it leaves the round.
use Rattle.std.proofs.Common.{◌≡◌, cond, None, ap, ◌∙◌}
use Rattle.market.specs.Book.{is_for, totals, taken_off}
use Rattle.market.specs.Market.{withdraw_refusal}
use Rattle.tables.specs.Held.{book_of, resting_of}
use Rattle.size_market.specs.Size.{ended_by}
use Rattle.size_market.specs.Going.{pending_in, Sound}
use Rattle.size_market.specs.Meaning.{round_of}
use Rattle.size_market.proofs.Keeping.{kept_so}
use Rattle.size_market.proofs.by_size.SizeMarketMarket.withdraw.Goals as goal
use Rattle.size_market.proofs.by_size.SizeMarketMarket.withdraw.Goals.{After-kept-self}

after : (c : goal.After-kept-self) →
    Sound (resting_of c.withdraw-withdrawn.new.self) c.kept-self.result
    × (pending_in (resting_of c.withdraw-withdrawn.new.self) c.kept-self.result ≡ ended_by c.withdraw-withdrawn.result (round_of c.args.self.now))
after c =
    let m = c.args.self.now in
    let b = book_of m.tables in
    let l = c.args.login.value in
    let n = c.args.number.value in
    kept_so (withdraw_refusal b l n) (totals (is_for l n) b.resting) b (taken_off (is_for l n) b) (book_of c.withdraw-withdrawn.new.self) c.withdraw-withdrawn.result m.round c.kept-self.result
    (c.kept-self.ensures ∙ ap (λ v. cond v None m.round) c.is_ok.ensures.value) m.sound c.withdraw-withdrawn.ensures

pub invariant_of-self : goal.invariant_of-self
invariant_of-self c = record { sound = (after c).0 }

pub returns : goal.returns
returns c = record { withdrawn = c.withdraw-withdrawn.ensures; round = (after (goal.at.returns c).After-kept-self).1 }
