-- An item is written, and every next index stays.
use Rattle.std.proofs.Common.{set, sym, ap, ◌∙◌}
use Rattle.std.proofs.lemmas.List.{map-set, get_or-map, set-get_or}
use Rattle.chains.specs.Slots.{nexts}
use Rattle.chains.proofs.slots.set_item.Goals as goal

pub returns : goal.returns
returns g c =
    let tb = c.args.table.now in
    let i = c.args.i in
    let e = c.index-table-i.result in
    record {
      nexts = map-set (λ s. s.next) tb i _ ∙ ap (λ v. set (nexts tb) i v) (sym (get_or-map (λ s. s.next) tb i e 0 c.requires)) ∙ set-get_or (nexts tb) i 0;
      items = map-set (λ s. s.item) tb i _;
    }
