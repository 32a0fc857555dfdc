-- An example of a check: how many entries each firm has left. Assumes nothing.
use Rattle.std.specs.Prelude.{ℕ, ◌-◌, cond, ◌==◌}
use Rattle.std.proofs.Common.{inr, lit≤}
use Rattle.terms.specs.declared.messages.Notice.{Notice}
use Rattle.terms.specs.declared.messages.Notice.TheVariants.{Ticked, Valued, Opened, Closed, Limited, Released, Entered, TurnedDown, Filled}
use Rattle.checks.specs.Judged.{either_ranged, zero_ranged}
use Rattle.checks.specs.Meaning.{Meaning, Lawful, no_cause}

-- an entry that is accepted takes one
abbrev pub left_after : Notice → ℕ → ℕ
left_after (Ticked t) left = left
left_after (Valued s v) left = left
left_after (Opened a l r c) left = left
left_after (Closed a l) left = left
left_after (Limited a x) left = left
left_after (Released a s) left = left
left_after (Entered k) left = left - 1
left_after (TurnedDown k n) left = left
left_after (Filled a f) left = left

-- the public record is how many each may have, and stays; a private one is how many a firm has left
abbrev pub quota : Meaning
quota = record {
  Pub = ℕ;
  Priv = ℕ;
  renewed = λ most. most;
  fresh = λ most. most;
  judged = λ k most left. cond (left == 0) 45 0;
  public_after = λ n most. most;
  private_after = λ n most left. left_after n left;
  causes = λ n most left. no_cause;
}

-- it gives 0 or a number from 41 to 59
pub quota_lawful : Lawful quota
quota_lawful = record { range = λ k most left. either_ranged (left == 0) _ _ (inr (lit≤ tt, lit≤ tt)) zero_ranged }
