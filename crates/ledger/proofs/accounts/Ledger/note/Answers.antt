-- Contracts of the two sides of a trade are posted one after the other. Assumes nothing.
use Rattle.std.proofs.Common.{ap, ◌∙◌}
use Rattle.ledger.specs.Accounts.{posted}
use Rattle.ledger.proofs.Telling.{sides_noted}
use Rattle.ledger.proofs.accounts.Ledger.note.Goals as goal

pub returns-in-Some-Sides : goal.returns-in-Some-Sides
returns-in-Some-Sides c h t =
    sides_noted h c.args.event.now c.args.self.now _ c.in-Some-Sides.buyer c.in-Some-Sides.seller (cc) (c.post-in-Some-Sides-2.ensures ∙ ap (posted c.in-Some-Sides.seller) c.post-in-Some-Sides.ensures) t
