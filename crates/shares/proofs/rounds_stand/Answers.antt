-- The laws of the rounds.
use Rattle.shares.proofs.Rounding.{strike_takes_next, strike_keeps_covered, round_goes_on, round_trades_shares, round_trades_all, strike_alone}
use Rattle.shares.proofs.rounds_stand.Goals as goal

pub returns : goal.returns
returns c = record { next = strike_takes_next; covered = strike_keeps_covered; on = round_goes_on; trades = round_trades_shares; all = round_trades_all; alone = strike_alone }
