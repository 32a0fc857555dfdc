-- A next index is written, and every item stays.
use Rattle.std.proofs.Common.{set, sym, ap, ◌∙◌}
use Rattle.std.proofs.lemmas.List.{map-set, get_or-map, set-get_or}
use Rattle.chains.specs.Slots.{items}
use Rattle.chains.proofs.slots.set_next.Goals as goal

pub returns : goal.returns
returns g c =
    let tb = c.args.table.now in
    let i = c.args.i in
    let e = c.index-table-i.result in
    record {
      nexts = map-set (λ s. s.next) tb i _;
      items = map-set (λ s. s.item) tb i _ ∙ ap (λ v. set (items tb) i v) (sym (get_or-map (λ s. s.item) tb i e e.item c.requires)) ∙ set-get_or (items tb) i e.item;
    }
