-- The laws of the shares.
use Rattle.shares.proofs.Laws.{shares_sum, shares_within, shares_length, shares_worked}
use Rattle.shares.proofs.shares_stand.Goals as goal

pub returns : goal.returns
returns c = record { sum = shares_sum; within = shares_within; length = shares_length; worked = shares_worked }
