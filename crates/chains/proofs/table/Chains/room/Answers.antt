-- The counter is the length of the free chain.
use Rattle.chains.specs.Lists.{lists, places}
use Rattle.chains.proofs.Kept.{sound}
use Rattle.chains.proofs.Whole.{room_left}
use Rattle.chains.proofs.table.Chains.room.Goals as goal

pub returns : goal.returns
unfolding lists places
returns g c = room_left _ (sound c.args.self.now)
