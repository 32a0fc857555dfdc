-- Each turn passes an item that does not meet the test, or takes off one that does.
use Rattle.std.proofs.Common.{◌+◌, sym, refl, ap, ◌∙◌, arith, rules}
use Rattle.chains.specs.Asks.{saturated}
use Rattle.chains.specs.Lists.{lists, parts}
use Rattle.chains.proofs.Kept.{sound}
use Rattle.chains.proofs.Whole.{here_below, head_at}
use Rattle.chains.proofs.Walk.{step}
use Rattle.chains.proofs.Clear.{cleared_none, cleared_no, cleared_yes, cleared_all, unlinked_less}
use Rattle.chains.proofs.table.Chains.remove_all.Goals as goal

pub loop-here-init : goal.loop-here-init
loop-here-init g c = let s = c.args.self.now in rw (head_at s c.args.k _ c.requires) (cleared_none _ _ (parts s) c.args.k (sound s) c.requires, refl)

pub slot-slot-requires : goal.slot-slot-requires
slot-slot-requires g c = let h = here_below (parts c.loop-here.self) _ _ _ _ c.loop-here.invariant.0.walked (omega arith) in search rules

pub loop-here-smaller-then-meets : goal.loop-here-smaller-then-meets
loop-here-smaller-then-meets g c =
    let i = c.loop-here.invariant.0 in
    unlinked_less _ _ _ _ _ _ _ _ (c.unlink.ensures.unlinked i.passed i.walked) i.walked (omega arith) c.slot-slot.ensures.item c.slot-slot.ensures.next

pub loop-here-preserved-then-meets : goal.loop-here-preserved-then-meets
loop-here-preserved-then-meets g c =
    let i = c.loop-here.invariant.0 in (
      cleared_yes _ _ _ _ _ _ _ _ _ _ _ _ i (omega arith) c.slot-slot.ensures.item c.slot-slot.ensures.next (sym c.meets.ensures ∙ c.if-meets.true)
          (c.saturating_add-sum.ensures ∙ ap (λ v. saturated (c.loop-here.sum + v)) (c.from.ensures ∙ c.weight.ensures))
          (c.unlink.ensures.unlinked i.passed i.walked),
      c.unlink.ensures.places ∙ c.loop-here.invariant.1,
    )

pub loop-here-smaller : goal.loop-here-smaller
loop-here-smaller g c = (step _ _ _ _ _ c.loop-here.invariant.0.walked.ahead (omega arith) c.slot-slot.ensures.item c.slot-slot.ensures.next).less

pub loop-here-preserved : goal.loop-here-preserved
loop-here-preserved g c =
    (cleared_no _ _ _ _ _ _ _ _ _ _ c.loop-here.invariant.0 (omega arith) c.slot-slot.ensures.item c.slot-slot.ensures.next (sym c.meets.ensures ∙ c.if-meets.false), c.loop-here.invariant.1)

pub returns : goal.returns
unfolding lists
returns g c =
    let d = cleared_all _ _ _ _ _ _ _ _ c.loop-here.invariant.0 c.loop-here-test.false in
    record { sum = d.sum; left = d.left; places = c.loop-here.invariant.1 }
