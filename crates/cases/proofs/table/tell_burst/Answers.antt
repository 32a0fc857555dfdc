-- A burst is a tick and then one event after another. Assumes nothing.
use Rattle.std.proofs.Common.{◌≡◌, ℕ, List, ◌∷◌, ap, ◌∙◌, subst, arith}
use Rattle.terms.specs.declared.messages.Notice.{Notice}
use Rattle.terms.specs.declared.messages.Notice.TheVariants.{Ticked}
use Rattle.cases.specs.Cases.{repeated}
use Rattle.cases.specs.Playing.{Stands}
use Rattle.cases.proofs.table.tell_burst.Goals as goal

pub returns : goal.returns
returns c =
    let b = c.args.burst in
    let all : c.loop-i._i ≡ b.times = omega arith in
    λ ns s.
    let t : List Notice = Ticked b.moment.time ∷ ns in
    subst (λ (xs : List Notice). Stands c.loop-i.rates xs)
    (ap (λ (k : ℕ). repeated k c.from-event.result t) all ∙ ap (λ (e : Notice). repeated b.times e t) c.from-event.ensures)
    (c.loop-i.invariant t (c.tell.ensures.on ns s))
