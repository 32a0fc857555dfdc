-- One call more was played, and at the end all were. Assumes nothing.
use Rattle.std.proofs.Common.{◌≡◌, ◌<◌, length, arith}
use Rattle.gate.proofs.Playing.{none_yet, one_more, at_end, keeps}
use Rattle.gate.proofs.desk.Gate.run.Goals as goal

pub loop-i-init : goal.loop-i-init
loop-i-init g c = none_yet _ _ _

pub loop-i-preserved : goal.loop-i-preserved
loop-i-preserved g c =
    let in_calls : c.loop-i.i < length c.args.calls.now = omega (arith, c.min-count.ensures) in
    let in_events : c.loop-i.i < length c.loop-i.events = omega (arith, c.min-count.ensures) in
    one_more _ _ _ c.loop-i.i c.loop-i.events _ _ c.call.result _ c.loop-i.invariant in_calls in_events c.call.ensures.step
    c.call.ensures.asked

pub returns : goal.returns
returns g c =
    let is : c.loop-i.i ≡ c.min-count.result = omega arith in
    let up = at_end _ _ _ c.loop-i.i c.min-count.result c.loop-i.events _ is c.loop-i.invariant in
    record {
      count = c.min-count.ensures;
      answered = up.answered;
      leads = up.leads;
      keeps = keeps g.C.Check.meaning g.C.Check.lawful _ _ _ up.leads;
    }
