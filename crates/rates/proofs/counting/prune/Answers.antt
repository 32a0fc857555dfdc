-- A mark is kept exactly where it still counts. Assumes nothing.
use Rattle.std.proofs.Common.{◌≡◌, ◌-◌, ◌<◌, length, get_or, arith}
use Rattle.std.proofs.lemmas.List.Filters.{FiltersInPlace-more_no, FiltersInPlace-more_set}
use Rattle.std.proofs.lemmas.List.{get_or_default}
use Rattle.std.proofs.lemmas.Bool.{lt-ltb, le-ltb}
use Rattle.rates.specs.declared.window.Mark.{Mark}
use Rattle.rates.specs.Marks.{mark}
use Rattle.rates.proofs.counting.prune.Goals as goal
use Rattle.rates.proofs.counting.prune.Goals.{then-saturating_sub-interval, else-saturating_sub-interval}

pub loop-i-preserved : goal.loop-i-preserved
loop-i-preserved c =
    let x : Mark = get_or c.loop-i.marks c.loop-i.i (mark 0 0) in
    let lt : c.loop-i.i < length c.loop-i.marks = omega arith in
    let read : x ≡ get_or c.loop-i.marks c.loop-i.i x = get_or_default c.loop-i.marks c.loop-i.i (mark 0 0) x lt in
    elim c.if-saturating_sub-interval.branch [
      | then-saturating_sub-interval w ↦
          rw (w.marks-is, w.k-is) (FiltersInPlace-more_set {x = x} c.loop-i.invariant lt (lt-ltb (c.args.time - x.time) c.args.interval (omega arith)) read)
      | else-saturating_sub-interval w ↦
          rw (w.marks-is, w.k-is) (FiltersInPlace-more_no {x = x} c.loop-i.invariant lt (le-ltb (c.args.time - x.time) c.args.interval (omega arith)) read)
    ]
