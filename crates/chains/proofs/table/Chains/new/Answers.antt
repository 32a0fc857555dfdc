-- The free chain has every place but 0, and the others are empty.
use Rattle.std.proofs.Common.{◌≡◌, ◌-◌, length, arith}
use Rattle.chains.specs.Lists.{lists, places}
use Rattle.chains.proofs.Fresh.{fresh}
use Rattle.chains.proofs.table.Chains.new.Goals as goal

pub invariant_of-result : goal.invariant_of-result
invariant_of-result g c =
    let e : length c.args.table.now - 1 ≡ length c.link_all-free.new.table - 1 = omega arith in
    record { kept = ∣ (fresh g.row.N _ _ _ _ c.link_all-free.ensures.linked e c.saturating_sub-room.ensures).sound ∣₁ }

pub returns : goal.returns
unfolding lists places
returns g c =
    let e : length c.args.table.now - 1 ≡ length c.link_all-free.new.table - 1 = omega arith in
    record { empty = (fresh g.row.N _ _ _ _ c.link_all-free.ensures.linked e c.saturating_sub-room.ensures).empty; places = omega arith }
