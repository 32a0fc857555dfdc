use Rattle.std.proofs.Common.{refl}
use Rattle.history.proofs.refusals.Goals as goal

pub returns : goal.returns
returns c =
    record {
      tick_1 = refl;
      tick_14 = refl;
      tick_same = refl;
      values_1 = refl;
      open_1 = refl;
      open_12 = refl;
      retire_1 = refl;
      retire_11 = refl;
      limit_1 = refl;
      limit_11 = refl;
      limit_size = refl;
      enter_1 = refl;
      enter_11 = refl;
      enter_19 = refl;
      enter_31 = refl;
      enter_32 = refl;
      enter_43 = refl;
      cancel_1 = refl;
      cancel_11 = refl;
      cancel_15 = refl;
      take_1 = refl;
      take_11 = refl;
      take_16 = refl;
      take_17 = refl;
      receipt_1 = refl;
      receipt_11 = refl;
      receipt_18_in = refl;
      receipt_18_other = refl;
      receipt_0 = refl;
      put_back_18 = refl;
      kill_1 = refl;
      kill_11 = refl;
      kill_nobody = refl;
      release_1 = refl;
      release_11 = refl;
      release_free = refl;
    }
