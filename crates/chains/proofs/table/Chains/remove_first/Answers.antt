-- Nothing was found and nothing changes, or what was found is taken off.
use Rattle.std.proofs.Common.{◌<◌, [], length, set, sym, ap, ◌∙◌, arith, rules}
use Rattle.chains.specs.Lists.{lists, parts}
use Rattle.chains.proofs.Kept.{sound}
use Rattle.chains.proofs.Whole.{here_below}
use Rattle.chains.proofs.Search.{missing, present, became_at, undone}
use Rattle.chains.proofs.Totals.{lists_count}
use Rattle.chains.proofs.table.Chains.remove_first.Goals as goal

pub returns-in_err-spot-clause-first : goal.returns-in_err-spot-clause-first
returns-in_err-spot-clause-first g c = c.from_residual.ensures ∙ (missing (g.P.Test.meets c.args.test.now) (lists c.args.self.now) c.args.k c.in_err-spot.ensures.none).first

pub returns-in_err-spot-clause-left : goal.returns-in_err-spot-clause-left
returns-in_err-spot-clause-left g c = (missing _ _ _ c.in_err-spot.ensures.none).stays []

pub returns-in_err-spot-clause-undoes : goal.returns-in_err-spot-clause-undoes
returns-in_err-spot-clause-undoes g c = undone _ _ _ _ ((missing _ _ _ c.in_err-spot.ensures.none).stays [])

pub slot-item-requires : goal.slot-item-requires
slot-item-requires g c = let f = c.in_ok-spot.ensures.found in let h = here_below (parts c.args.self.now) _ _ _ _ f.walked f.some in search rules

pub returns : goal.returns
unfolding lists
returns g c =
    let s = c.args.self.now in
    let f = c.in_ok-spot.ensures.found in
    let m = present _ (parts s) _ _ _ _ (sound s) c.requires f c.slot-item.ensures.item in
    let left = (c.unlink.ensures.unlinked f.passed f.walked).holds ∙ ap (λ v. set (lists s) c.args.k v) (sym (m.becomes [])) in
    let lt : c.args.k < length (lists s) = omega (arith, c.requires, lists_count s) in
    record { first = m.first; left = left; became = became_at _ [] (lists s) _ _ _ lt left m.first; undoes = undone _ _ _ _ left; places = c.unlink.ensures.places }
