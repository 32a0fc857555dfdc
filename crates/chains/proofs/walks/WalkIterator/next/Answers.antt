-- The place that is read is in the table, and leads on along the chain.
use Rattle.std.proofs.Common.{length, get_or, sym, refl, ap, subst, arith, rules}
use Rattle.chains.specs.Slots.{nexts}
use Rattle.chains.specs.Chain.{Chained}
use Rattle.chains.specs.Walks.{Passes}
use Rattle.chains.proofs.Link.{onward}
use Rattle.chains.proofs.Pick.{item_at, next_at}
use Rattle.chains.proofs.Walk.{is_chained, next_below, passed_left}
use Rattle.chains.proofs.walks.WalkIterator.next.Goals as goal

pub offset_bounds-self-here : goal.offset_bounds-self-here
offset_bounds-self-here g c = let lt = next_below c.args.self.now (omega arith) in search rules

pub bounds-self-here : goal.bounds-self-here
bounds-self-here g c = next_below c.args.self.now (omega arith)

pub invariant_of-self : goal.invariant_of-self
invariant_of-self g c =
    let w = c.args.self.now in
    let e = next_at w.table.now w.next c.index-self-here.result (next_below w (omega arith)) in
    record { chained = ∣ subst (Chained (nexts w.table.now)) (sym e) (onward _ _ (is_chained w) (omega arith)).chained ∣₁ }

pub returns : goal.returns
returns g c =
    let w = c.args.self.now in
    let r = c.index-self-here.result in
    let lt = next_below w (omega arith) in
    let p : Passes w (get_or w.table.now w.next r).item _ =
    record { some = omega arith; item = item_at w.table.now w.next r lt; table = refl; prev = refl; here = refl; next = next_at w.table.now w.next r lt } in
    record { steps = p; goes = record { on = λ _. (tt, tt, omega (arith, ap length (passed_left w _ _ p))); keeps = tt; rests = λ _. tt } }
