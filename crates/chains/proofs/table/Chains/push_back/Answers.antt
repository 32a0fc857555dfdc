-- The places written are in the table, and the writes are those of an item more at the end.
use Rattle.std.proofs.Common.{◌≡◌, ℕ, cond, ◌-◌, set, refl, ap, ◌∙◌, arith, rules}
use Rattle.chains.specs.Lists.{lists, parts, places}
use Rattle.chains.proofs.Kept.{sound}
use Rattle.chains.proofs.Whole.{free_below, tail_below, room_left, room_some, room_none, tail_at}
use Rattle.chains.proofs.Changes.{pushes}
use Rattle.chains.proofs.table.Chains.push_back.Goals as goal

pub returns-then-n-eq0-clause-fits : goal.returns-then-n-eq0-clause-fits
unfolding lists places
returns-then-n-eq0-clause-fits g c =
    let s = c.args.self.now in
    let left = room_left (parts s) (sound s) in
    let none = room_none (parts s) (sound s) c.if-n-eq0.true in
    (λ e. let z : ◌≡◌ {A = ℕ} 1 0 = ap (λ b. cond b 0 1) e in absurd (omega (arith, z)), λ h. absurd (omega (arith, h)))

pub slot-next-requires : goal.slot-next-requires
slot-next-requires g c = let h = free_below (parts c.args.self.now) (sound c.args.self.now) (omega arith) in search rules

pub overflow_sub-room : goal.overflow_sub-room
overflow_sub-room g c = room_some (parts c.args.self.now) (sound c.args.self.now) (omega arith)

pub set_item-requires : goal.set_item-requires
set_item-requires g c = free_below (parts c.args.self.now) (sound c.args.self.now) (omega arith)

pub set_next-requires : goal.set_next-requires
set_next-requires g c = let h = free_below (parts c.args.self.now) (sound c.args.self.now) (omega arith) in search rules

pub follow-requires : goal.follow-requires
follow-requires g c =
    let s = c.args.self.now in
    let t = tail_at s c.args.k (record { head = 0; tail = 0 }) c.requires in
    λ h. let b = tail_below (parts s) c.args.k (sound s) (omega arith) in omega arith

pub invariant_of-self : goal.invariant_of-self
invariant_of-self g c =
    let f = c.follow.ensures in
    let e = c.with_last.ensures in
    record {
      kept = ∣ (pushes c.args.self.now _ _ _ _ _ _ c.args.x (omega arith) c.requires c.slot-next.ensures.next (c.set_next.ensures.nexts ∙ ap (λ v. set v c.args.self.now.free 0) c.set_item.ensures.nexts) f.none f.nexts
          (f.items ∙ c.set_next.ensures.items ∙ c.set_item.ensures.items) e.empty e.head e.tail).sound ∣₁;
    }

pub returns : goal.returns
unfolding lists places
returns g c =
    let s = c.args.self.now in
    let f = c.follow.ensures in
    let e = c.with_last.ensures in
    record {
      fits = (λ _. omega (arith, room_left (parts s) (sound s), room_some (parts s) (sound s) (omega arith)), λ _. refl);
      pushed = (pushes s _ _ _ _ _ _ c.args.x (omega arith) c.requires c.slot-next.ensures.next (c.set_next.ensures.nexts ∙ ap (λ v. set v s.free 0) c.set_item.ensures.nexts) f.none f.nexts
          (f.items ∙ c.set_next.ensures.items ∙ c.set_item.ensures.items) e.empty e.head e.tail).holds;
      full = tt;
      places = ap (λ v. v - 1) (c.follow.auto.table ∙ c.set_next.auto.table ∙ c.set_item.auto.table);
    }
