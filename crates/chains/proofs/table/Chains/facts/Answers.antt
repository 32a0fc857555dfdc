-- Both facts are in the invariant.
use Rattle.chains.proofs.Totals.{lists_count, total_fits}
use Rattle.chains.proofs.table.Chains.facts.Goals as goal

pub returns : goal.returns
returns g c = record { count = lists_count c.args.self.now; room = total_fits c.args.self.now }
