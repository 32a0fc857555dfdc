use Rattle.history.proofs.Balance.{balance}
use Rattle.history.proofs.Named.{named}
use Rattle.history.proofs.contracts_add_up.Goals as goal

pub returns : goal.returns
returns g c = record { balance = λ p room a h firm t. balance g.C.Check.meaning a p room h t; named = named g.C.Check.meaning }
