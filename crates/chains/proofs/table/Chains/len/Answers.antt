-- The places that are not free hold the items.
use Rattle.std.proofs.Common.{arith}
use Rattle.chains.specs.Lists.{lists}
use Rattle.chains.proofs.Kept.{sound}
use Rattle.chains.proofs.Whole.{room_left}
use Rattle.chains.proofs.table.Chains.len.Goals as goal

pub returns : goal.returns
unfolding lists
returns g c = omega (arith, room_left _ (sound c.args.self.now))
