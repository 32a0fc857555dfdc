-- The round after a trade goes on with the trades that are left.
use Rattle.std.proofs.Common.{◌≡◌, ℕ, suc, ◌+◌, ◌-◌, ◌≤◌, Bool, true, false, cond, eqb, ltb, List, [], ◌∷◌, get_or, take, drop, Some, None, Option, sym, refl, ap, ◌∙◌, arith}
use Rattle.std.proofs.lemmas.Bool.{cond-true, eq-eqb}
use Rattle.chains.specs.Asks.{oldest}
use Rattle.terms.specs.Tables.{any_of}
use Rattle.terms.specs.declared.events.Trade.{Trade}
use Rattle.market.specs.Book.{Entry}
use Rattle.market.specs.Market.{less}
use Rattle.market.specs.Seen.{seen}
use Rattle.tables.specs.Cross.{same}
use Rattle.tables.proofs.Crossings.{stands_found}
use Rattle.tables.proofs.Leaving.{parted}
use Rattle.shares.specs.Shares.{sum_of, share, shares}
use Rattle.shares.proofs.Laws.{share_left}
use Rattle.size_market.specs.declared.round.Round.{Round}
use Rattle.size_market.specs.declared.round.Due.{Due}
use Rattle.size_market.specs.Size.{makers_at, trade_with, sizes, given, dealt}
use Rattle.size_market.specs.Going.{makers_of, ahead, pending_in, within, Going, GoesOn}
use Rattle.size_market.specs.Steps.{Next}
use Rattle.size_market.proofs.Passing.{first_ahead}
use Rattle.size_market.proofs.After.{Leaves, past}

-- nothing is given out
dealt_none : (trade : Entry → ℕ → Trade) (ms : List Entry) → dealt trade 0 ms ≡ []
dealt_none trade [] = refl
dealt_none trade (m ∷ ms) =
    let z : share 0 m.contracts (m.contracts + sum_of (sizes ms)) ≡ 0 = omega (arith, share_left 0 m.contracts (sum_of (sizes ms))) in
    cond-true (eqb (share 0 m.contracts (m.contracts + sum_of (sizes ms))) 0) _ _ (eq-eqb _ 0 z)
    ∙ ap (λ v. given trade ms (shares (0 - v) (sizes ms))) z ∙ dealt_none trade ms

-- the trades that are left once d's share is traded
abbrev pub left_after : List (List Entry) → Due → List Trade
left_after ess d =
    dealt (trade_with (seen d.round.taker) d.round.price.value) (d.round.left - d.share.value) (drop (suc d.round.passed) (makers_of ess d.round))

-- the trade left its series
abbrev pub LeavesRound : (ess after : List (List Entry)) → Due → Type 0
LeavesRound ess after d =
    Leaves (get_or ess (d.round.series.value - 1) []) (get_or after (d.round.series.value - 1) []) (seen d.round.taker) (seen d.maker) d.round.price.value d.share.value d.round.passed

one_at_most : (b : Bool) → cond b 1 0 ≤ 1
one_at_most true = omega arith
one_at_most false = omega arith

pub follows : (ess after : List (List Entry)) (d : Due) (o : Option Round) → Going ess d.round → oldest (ahead ess d.round) ≡ Some (seen d.maker) →
    d.share.value ≡ share d.round.left d.maker.contracts.value d.round.rest → LeavesRound ess after d → Next d o → GoesOn after o × (pending_in after o ≡ left_after ess d)
follows ess after d None g oldest-is e l n =
    let T = trade_with (seen d.round.taker) d.round.price.value in
    let ms = drop (suc d.round.passed) (makers_of ess d.round) in
    let z : d.round.left - d.share.value ≡ 0 = omega (arith, n) in
    (tt, sym (ap (λ v. dealt T v ms) z ∙ dealt_none T ms))
follows ess after d (Some r) g oldest-is e l f =
    let T = seen d.round.taker in
    let M = seen d.maker in
    let n = d.share.value in
    let k = d.round.series.value - 1 in
    let p = d.round.passed in
    let price = d.round.price.value in
    let ms = makers_of ess d.round in
    let a = first_ahead ess d.round M g oldest-is in
    let part = parted ms p M oldest-is in
    let moved : ahead after r ≡ drop (p + cond (ltb n M.contracts) 1 0) (makers_at (less n T) price (get_or after k [])) =
    λ i. drop (f.passed i) (makers_at (f.taker i) (f.price i).value (get_or after ((f.series i).value - 1) [])) in
    let rest : ahead after r ≡ drop (suc p) ms =
    moved ∙ ap (drop (p + cond (ltb n M.contracts) 1 0)) l.makers ∙ past n M.contracts p M (take p ms) (drop (suc p) ms) refl (omega (arith, e, a.within)) part.front in
    let left : r.left ≡ d.round.left - n = omega (arith, f.left) in
    let stands = stands_found (get_or after k []) (less n T) (l.stands (omega (arith, f.left, f.some, g.taken))) in
    let limit : within price (less n T) ≡ true = g.limit in (
      record {
        stands = (λ i. any_of (same (f.taker i)) (get_or after ((f.series i).value - 1) [])) ∙ stands;
        limit = (λ i. within (f.price i).value (f.taker i)) ∙ limit;
        some = f.some;
        taken = omega (arith, left, g.taken, ap (λ v. v.contracts) f.taker);
        covered = omega (arith, left, a.after, e, f.rest, a.sum);
        rest = omega (arith, f.rest, a.sum, ap (λ v. sum_of (sizes v)) rest);
        bound = omega (arith, f.passed, f.rest, g.bound, one_at_most (ltb n M.contracts), d.maker.contracts.low);
      },
      (λ i. dealt (trade_with (f.taker i) (f.price i).value) (left i) (rest i)),
    )
