-- A window counts an event: it is idle, or it trips, or it keeps one mark more. Assumes nothing.
use Rattle.std.proofs.Common.{◌≡◌, ℕ, ◌+◌, ◌<◌, ◌≤◌, true, false, ◌⊎◌, List, length, take, set, ap, ◌∙◌, inl, inr, ⊎_elim, arith, length-take-le}
use Rattle.rates.specs.declared.window.Mark.{Mark}
use Rattle.rates.specs.Views.{View, view, idle, adds}
use Rattle.rates.specs.Marks.{mark, amount_of}
use Rattle.rates.proofs.Steps.{on, off, idling, trip_yes, trip_no, added}
use Rattle.rates.proofs.Sound.{as_defined}
use Rattle.rates.proofs.window.Window.count.Goals as goal
use Rattle.rates.proofs.window.Window.count.Goals.{then-self-eq0-via-then-self-eq0, then-self-eq0-via-else-self-eq0+then-self}

pub returns-then-total-self : goal.returns-then-total-self
returns-then-total-self c =
    let v : View = view c.args.self.now in
    let is_on : idle v ≡ false = on v c.if-self-eq0.false c.if-self.false in
    let xs : List Mark = c.prune-used.new.marks in
    let r : ℕ = c.prune-used.result in
    let long : length (take r xs) ≡ r = length-take-le r xs (omega arith) in
    let h : (v.limit ≤ amount_of (take r xs) + c.args.amount) ⊎ (length (take r xs) ≡ 31) =
    ⊎_elim (λ g. inl (omega (arith, g, c.weight.ensures))) (λ g. inr (omega (arith, g.1, long))) c.then-total-self.either in
    let both = trip_yes c.args.time c.args.amount v is_on (take r xs) c.prune-used.ensures.kept h in
    record { trip = both.0; defined = as_defined _ c.args.time c.args.amount v both.0; next = both.1 }

pub returns : goal.returns
returns c =
    let v : View = view c.args.self.now in
    let is_on : idle v ≡ false = on v c.if-self-eq0.false c.if-self.false in
    let xs : List Mark = c.prune-used.new.marks in
    let r : ℕ = c.prune-used.result in
    let long : length (take r xs) ≡ r = length-take-le r xs (omega arith) in
    let less : amount_of (take r xs) + c.args.amount < v.limit = omega (arith, c.weight.ensures) in
    let below : r < 31 = omega arith in
    let both = trip_no c.args.time c.args.amount v is_on (take r xs) c.prune-used.ensures.kept less (omega arith) in
    let lt : r < length xs = omega arith in
    let next_kept : take (r + 1) (set xs r (mark c.args.time c.args.amount)) ≡ (adds c.args.time c.args.amount v).kept = added c.args.time c.args.amount v xs r lt c.prune-used.ensures.kept in
    record { trip = both.0; defined = as_defined _ c.args.time c.args.amount v both.0; next = ap (λ (ms : List Mark). record { limit = v.limit; interval = v.interval; stopped = v.stopped; kept = ms }) next_kept ∙ both.1 }

pub returns-then-self-eq0 : goal.returns-then-self-eq0
returns-then-self-eq0 c =
    let v : View = view c.args.self.now in
    let is_off : idle v ≡ true = elim c.then-self-eq0.branch [ then-self-eq0-via-then-self-eq0 w ↦ off v (inl w.if-self-eq0.true) | then-self-eq0-via-else-self-eq0+then-self w ↦ off v (inr w.if-self.true) ] in
    let both = idling c.args.time c.args.amount v is_off in
    record { trip = both.0; defined = as_defined _ c.args.time c.args.amount v both.0; next = both.1 }
