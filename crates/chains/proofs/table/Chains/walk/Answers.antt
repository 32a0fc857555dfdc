-- The walk from the first place of chain k goes over its list.
use Rattle.std.proofs.Common.{length, sym, ap, ◌∙◌, subst, arith}
use Rattle.chains.specs.Slots.{nexts, items}
use Rattle.chains.specs.Chain.{items_from, Chained}
use Rattle.chains.specs.Lists.{lists, parts}
use Rattle.chains.proofs.Kept.{sound}
use Rattle.chains.proofs.Whole.{list_at, list_short, chained, head_at}
use Rattle.chains.proofs.table.Chains.walk.Goals as goal

pub new-requires : goal.new-requires
new-requires g c =
    let s = c.args.self.now in
    subst (Chained (nexts s.table.now)) (sym (head_at s _ _ c.requires)) (chained (parts s) _ (sound s) c.requires)

pub returns : goal.returns
unfolding lists
returns g c =
    let s = c.args.self.now in
    let w = c.new.ensures in
    let e = w.next ∙ head_at s _ _ c.requires in
    let along = (λ i. items_from (nexts (w.table i)) (items (w.table i)) (e i)) ∙ sym (list_at (parts s) _ (sound s) c.requires) in
    record {
      starts = record { table = w.table; next = e; spot = w.spot };
      along = along;
      short = omega (arith, ap length along, list_short (parts s) _ (sound s) c.requires);
    }
