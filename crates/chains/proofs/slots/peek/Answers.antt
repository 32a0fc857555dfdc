-- The slot that is read is the item at its place.
use Rattle.std.proofs.Common.{[], ◌∷◌, sym, ap, ◌∙◌}
use Rattle.chains.proofs.Pick.{item_at}
use Rattle.chains.proofs.slots.peek.Goals as goal

pub returns-clause-item : goal.returns-clause-item
returns-clause-item g c = item_at c.args.table.now c.args.i c.index-table-i.result c.requires ∙ ap (λ s. s.item ∷ []) (sym c.index-table-i.is)
