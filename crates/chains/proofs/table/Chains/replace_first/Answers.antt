-- Nothing was found and nothing changes, or what was found is written over.
use Rattle.std.proofs.Common.{◌-◌, ◌<◌, [], ◌∷◌, length, set, sym, refl, ap, ◌∙◌, arith, rules}
use Rattle.chains.specs.Sound.{parts_of}
use Rattle.chains.specs.Lists.{lists, parts, places}
use Rattle.chains.proofs.Kept.{sound}
use Rattle.chains.proofs.Whole.{here_below}
use Rattle.chains.proofs.Search.{missing, present, became_at}
use Rattle.chains.proofs.Changes.{put}
use Rattle.chains.proofs.Totals.{lists_count}
use Rattle.chains.proofs.table.Chains.replace_first.Goals as goal

pub returns-in_err-spot-clause-first : goal.returns-in_err-spot-clause-first
returns-in_err-spot-clause-first g c = c.from_residual.ensures ∙ (missing (g.P.Test.meets c.args.test.now) (lists c.args.self.now) c.args.k c.in_err-spot.ensures.none).first

pub returns-in_err-spot-clause-replaced : goal.returns-in_err-spot-clause-replaced
returns-in_err-spot-clause-replaced g c = (missing _ _ _ c.in_err-spot.ensures.none).stays (c.args.x ∷ [])

pub slot-item-requires : goal.slot-item-requires
slot-item-requires g c = let f = c.in_ok-spot.ensures.found in let h = here_below (parts c.args.self.now) _ _ _ _ f.walked f.some in search rules

pub set_item-requires : goal.set_item-requires
set_item-requires g c = let f = c.in_ok-spot.ensures.found in here_below (parts c.args.self.now) _ _ _ _ f.walked f.some

pub invariant_of-self : goal.invariant_of-self
invariant_of-self g c =
    let s = c.args.self.now in
    let f = c.in_ok-spot.ensures.found in
    let d = put (parts s) (parts_of _ s.ends s.free s.room) c.args.k _ _ c.args.x f.passed (sound s) f.walked f.some c.requires c.set_item.ensures.nexts c.set_item.ensures.items refl refl refl refl in
    record { kept = ∣ d.sound ∣₁ }

pub returns : goal.returns
unfolding lists places
returns g c =
    let s = c.args.self.now in
    let f = c.in_ok-spot.ensures.found in
    let m = present _ (parts s) _ _ _ _ (sound s) c.requires f c.slot-item.ensures.item in
    let d = put (parts s) (parts_of _ s.ends s.free s.room) c.args.k _ _ c.args.x f.passed (sound s) f.walked f.some c.requires c.set_item.ensures.nexts c.set_item.ensures.items refl refl refl refl in
    let now = d.holds ∙ ap (λ v. set (lists s) c.args.k v) (sym (m.becomes (c.args.x ∷ []))) in
    let lt : c.args.k < length (lists s) = omega (arith, c.requires, lists_count s) in
    record { first = m.first; replaced = now; became = became_at _ (c.args.x ∷ []) (lists s) _ _ _ lt now m.first; places = ap (λ v. v - 1) c.set_item.auto.table }
