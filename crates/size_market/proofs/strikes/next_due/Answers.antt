-- The makers passed have no share, and there is one ahead that has.
use Rattle.std.proofs.Common.{◌≡◌, sym, ap, ◌∙◌, arith}
use Rattle.terms.specs.Kinds.{side_number}
use Rattle.market.specs.Seen.{seen}
use Rattle.tables.specs.Held.{resting_of}
use Rattle.shares.specs.Shares.{share}
use Rattle.size_market.proofs.Passing.{moved, first_ahead, moved_on, found_ahead, no_share}
use Rattle.size_market.proofs.strikes.next_due.Goals as goal

pub loop-maker-preserved : goal.loop-maker-preserved
loop-maker-preserved c =
    let ess = resting_of c.args.tables.now in
    let r = moved c.args.round c.loop-maker.passed c.loop-maker.rest in
    let m = seen c.in-Some.maker in
    let g = c.loop-maker.invariant.0 in
    let o = found_ahead ess r (side_number c.other-side.result) m c.other-side.ensures.number c.in-Some.ensures in
    let n : c.from-contracts.result ≡ m.contracts = c.from-contracts.ensures in
    let s : c.share.result ≡ share r.left m.contracts r.rest = c.share.ensures ∙ ap (λ v. share r.left v r.rest) n in
    let a = first_ahead ess r m g o in
    let z = no_share c.share.result m.contracts c.in_default-try_from.ensures.reads.1 (omega (arith, s, a.within)) c.in-Some.maker.contracts.high in
    moved_on ess c.args.round c.loop-maker.passed c.loop-maker.rest c.from-contracts.result m c.in-Some.maker.contracts.low c.loop-maker.invariant o (sym s ∙ z) n
