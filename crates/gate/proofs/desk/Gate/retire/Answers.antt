-- The login is swept, its row changed, and the checks are told. Assumes nothing.
use Rattle.std.proofs.Common.{refl, ap, ◌∙◌}
use Rattle.history.specs.State.{Row}
use Rattle.gate.specs.Kept.{state_of}
use Rattle.gate.proofs.Stepping.{retires}
use Rattle.gate.proofs.desk.Gate.retire.Goals as goal

pub returns : goal.returns
returns g c =
    let s = state_of g.M.Market g.C.Check c.args.self.now in
    let a = c.in_ok-leaver.ensures in
    retires s c.args.self.now.rows c.args.login _ _ c.index.result c.sweep-cancelled.result c.none_wait-settled.result _ c.retire.new.self _ _ refl c.args.self.now.row_each
    a.0 a.1 c.index.ensures.place c.index.ensures.bound (c.acronym-acronym.ensures ∙ ap (λ (r : Row). r.acronym) c.row.ensures) c.sweep-cancelled.ensures.does c.none_wait-settled.ensures c.retire.ensures c.tell.ensures.after
