-- Nothing trips, or the scopes of the causes are swept and held. Assumes nothing.
use Rattle.std.proofs.Common.{ap, ◌∙◌}
use Rattle.terms.proofs.Tables.{length_map}
use Rattle.history.specs.State.{Row}
use Rattle.gate.specs.Kept.{state_of}
use Rattle.gate.specs.Rows.{seen_row}
use Rattle.gate.proofs.Tripping.{trip_none, trip_none_sum, tripped, tripped_sum}
use Rattle.gate.proofs.desk.Gate.trip.Goals as goal

pub returns-then-eq : goal.returns-then-eq
returns-then-eq g c =
    let s = state_of g.M.Market g.C.Check c.args.self.now in
    let none = c.if-eq.ensures in
    record { sum = trip_none_sum s c.args.login c.args.causes none; after = trip_none s c.args.login c.args.causes none }

pub returns : goal.returns
returns g c =
    let s = state_of g.M.Market g.C.Check c.args.self.now in
    let len = length_map seen_row c.args.self.now.rows ∙ c.args.self.now.row_each in
    record {
      sum = tripped_sum s c.args.login c.sweep_all-cancelled.result c.args.causes len c.sweep_all-cancelled.ensures.sum;
      after =
          tripped s _ _ _ c.args.login _ c.args.causes len (c.acronym-firm.ensures ∙ ap (λ (r : Row). r.acronym) c.row.ensures)
          c.sweep_all-cancelled.ensures.after c.hold_scope.ensures c.hold_scope-2.ensures;
    }
