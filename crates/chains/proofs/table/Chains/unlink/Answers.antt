-- The places written are in the table, and the writes are those of an item less.
use Rattle.std.proofs.Common.{◌-◌, ap, ◌∙◌, arith, rules}
use Rattle.chains.specs.Lists.{parts, places}
use Rattle.chains.proofs.Kept.{sound}
use Rattle.chains.proofs.Whole.{here_below, prev_below, room_left}
use Rattle.chains.proofs.Changes.{unlinks}
use Rattle.chains.proofs.table.Chains.unlink.Goals as goal

pub slot-next-requires : goal.slot-next-requires
slot-next-requires g c = let h = here_below (parts c.args.self.now) _ _ _ _ c.requires.walked.1 c.requires.some in search rules

pub follow-requires : goal.follow-requires
follow-requires g c = prev_below (parts c.args.self.now) _ _ _ _ (sound c.args.self.now) c.requires.chain c.requires.walked.1

pub set_next-requires : goal.set_next-requires
set_next-requires g c = let h = here_below (parts c.args.self.now) _ _ _ _ c.requires.walked.1 c.requires.some in omega arith

pub overflow_add-room : goal.overflow_add-room
overflow_add-room g c =
    let s = c.args.self.now in
    let h = here_below (parts s) _ _ _ _ c.requires.walked.1 c.requires.some in
    omega (arith, room_left _ (sound s))

pub invariant_of-self : goal.invariant_of-self
invariant_of-self g c =
    let f = c.follow.ensures in
    let e = c.without.ensures in
    record { kept = ∣ (unlinks c.args.self.now _ _ _ _ _ _ _ _ _ c.requires.walked.1 c.requires.some c.requires.chain c.slot-next.ensures.next f.none f.nexts c.set_next.ensures.nexts (c.set_next.ensures.items ∙ f.items) e.first e.head e.last e.tail).sound ∣₁ }

pub returns : goal.returns
unfolding places
returns g c =
    let f = c.follow.ensures in
    let e = c.without.ensures in
    record {
      unlinked = λ xs w. (unlinks c.args.self.now _ _ _ _ _ _ _ _ xs w c.requires.some c.requires.chain c.slot-next.ensures.next f.none f.nexts c.set_next.ensures.nexts (c.set_next.ensures.items ∙ f.items) e.first e.head e.last e.tail).unlinked;
      places = ap (λ v. v - 1) (c.set_next.auto.table ∙ c.follow.auto.table);
    }
