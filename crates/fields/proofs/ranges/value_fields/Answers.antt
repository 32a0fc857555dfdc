-- The values of a series are read whole. Assumes nothing.
use Rattle.std.proofs.Common.{refl}
use Rattle.std.proofs.lemmas.Result.{err_from_is_err_and}
use Rattle.fields.proofs.Readable.{inside, values_fit, values_unfit}
use Rattle.fields.proofs.ranges.value_fields.Goals as goal

pub returns-in_err-try_from-2 : goal.returns-in_err-try_from-2
returns-in_err-try_from-2 c =
    let p = err_from_is_err_and c.from_residual-in_err-try_from-2.result c.from_residual-in_err-try_from-2.ensures.1 in
    let s = inside 1 16 c.args.series c.in_ok-try_from.ensures.reads.1 c.in_ok-try_from.ensures.reads.2 in
    let u = values_unfit c.args.series c.args.values.now _ s c.in_err-try_from-2.ensures in
    rw (p.1, p.2, u.0, u.1) refl

pub returns : goal.returns
returns c =
    let s = inside 1 16 c.args.series c.in_ok-try_from.ensures.reads.1 c.in_ok-try_from.ensures.reads.2 in
    rw (values_fit c.args.series c.args.values.now _ s c.in_ok-try_from-2.ensures) (refl, tt)
