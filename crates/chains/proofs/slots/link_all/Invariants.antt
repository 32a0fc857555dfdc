-- The places below i are linked, from the last of them down to 1.
use Rattle.std.proofs.Common.{◌≡◌, ◌-◌, ◌≤◌, length}
use Rattle.chains.specs.Slots.{nexts, items}
use Rattle.chains.specs.Chain.{Linked, down}
use Rattle.chains.proofs.slots.link_all.Given as goal

abbrev pub invariant-loop-i : goal.invariant-loop-i
invariant-loop-i g l = Linked (nexts l.table) l.first (down (l.i - 1)) × (l.first ≡ l.i - 1) × (l.i - 1 ≤ length l.table - 1) × (items l.table ≡ items l.initial.table)
