-- Every run keeps the three promises. Assumes nothing.
use Rattle.std.proofs.Common.{subst}
use Rattle.checks.specs.Meaning.{Lawful, Meaning}
use Rattle.history.specs.Promises.{EveryDay}
use Rattle.history.specs.Step.{Happens}
use Rattle.history.proofs.Balance.{balance}
use Rattle.history.proofs.Holds.{holds_stand}
use Rattle.history.proofs.Isolation.{isolated}
use Rattle.history.proofs.Named.{named}

pub promised : (m : Meaning) → Lawful m → EveryDay m
promised m lawful p room h t =
    record {
      isolation = λ room₂ a k firm u same. isolated m p room room₂ a h k firm t u same;
      balance = λ a firm. balance m a p room h t;
      named = λ login f before e. named m p room login f before (subst (Happens m p room) e t);
      holds = λ x r before e. holds_stand m lawful p room before x r (subst (Happens m p room) e t);
    }
