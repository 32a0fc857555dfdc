-- Each turn links one more place in front of the others.
use Rattle.std.proofs.Common.{◌≡◌, ℕ, ◌-◌, ◌<◌, length, refl, ◌∙◌, subst, arith}
use Rattle.std.proofs.lemmas.List.{length-map}
use Rattle.chains.specs.Slots.{nexts}
use Rattle.chains.specs.Chain.{Linked, down}
use Rattle.chains.proofs.Fresh.{down_next}
use Rattle.chains.proofs.slots.link_all.Goals as goal

pub loop-i-init : goal.loop-i-init
loop-i-init g c = (refl, refl, omega arith, refl)

pub loop-i-preserved : goal.loop-i-preserved
loop-i-preserved g c =
    let lt : c.loop-i.i < length (nexts c.loop-i.table) = rw length-map (omega arith) in (
      down_next (nexts c.loop-i.table) _ c.loop-i.i c.loop-i.first (omega arith) lt c.loop-i.invariant.1 c.set_next.ensures.nexts c.loop-i.invariant.0,
      omega arith,
      omega arith,
      c.set_next.ensures.items ∙ c.loop-i.invariant.3,
    )

pub returns : goal.returns
returns g c =
    let e : c.loop-i.i - 1 ≡ length c.args.table.now - 1 = omega arith in
    let P : ℕ → Type 0 = λ v. Linked (nexts c.loop-i.table) c.loop-i.first (down v) in
    record { linked = subst P e c.loop-i.invariant.0; items = c.loop-i.invariant.3 }
