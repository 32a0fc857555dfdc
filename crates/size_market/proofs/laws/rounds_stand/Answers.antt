-- The laws of the rounds.
use Rattle.size_market.proofs.Ordered.{in_order}
use Rattle.size_market.proofs.Lawful.{opens_so}
use Rattle.size_market.proofs.laws.rounds_stand.Goals as goal

pub returns : goal.returns
returns c = record { order = in_order; opens = opens_so }
