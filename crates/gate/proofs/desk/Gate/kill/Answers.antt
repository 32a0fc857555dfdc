-- The scope is swept and, with block, held. Assumes nothing.
use Rattle.std.proofs.Common.{sym, ap, ◌∙◌}
use Rattle.terms.specs.Kinds.{flag_number}
use Rattle.terms.proofs.Tables.{length_map}
use Rattle.gate.specs.Kept.{state_of}
use Rattle.gate.specs.Rows.{seen_row}
use Rattle.gate.proofs.Stepping.{kill_holds, kill_sweeps}
use Rattle.gate.proofs.desk.Gate.kill.Goals as goal

pub returns-then-kill : goal.returns-then-kill
returns-then-kill g c =
    let s = state_of g.M.Market g.C.Check c.args.self.now in
    let a = c.in_ok-kill.ensures in
    let len = length_map seen_row c.args.self.now.rows ∙ c.args.self.now.row_each in
    kill_holds s _ c.args.scope c.args.reach c.args.block c.sweep_all-cancelled.result _ a.0 len a.1.0
    c.sweep_all-cancelled.ensures.sum c.sweep_all-cancelled.ensures.after _ (ap flag_number (sym c.if-kill.true) ∙ a.1.1) c.hold_scope.ensures

pub returns-else-kill : goal.returns-else-kill
returns-else-kill g c =
    let s = state_of g.M.Market g.C.Check c.args.self.now in
    let a = c.in_ok-kill.ensures in
    let len = length_map seen_row c.args.self.now.rows ∙ c.args.self.now.row_each in
    kill_sweeps s _ c.args.scope c.args.reach c.args.block c.sweep_all-cancelled.result _ a.0 len a.1.0
    c.sweep_all-cancelled.ensures.sum c.sweep_all-cancelled.ensures.after (ap flag_number (sym c.if-kill.false) ∙ a.1.1)
