-- What is left goes into the entry's place, or the entry goes.
use Rattle.std.proofs.Common.{◌≡◌, ◌-◌, [], ◌∷◌, sym, refl, ap, ◌∙◌, arith}
use Rattle.terms.specs.declared.entries.Entry.{Entry}
use Rattle.market.specs.Seen.{seen}
use Rattle.tables.proofs.Trades.{Filled, filled, some_left, none_left, same_less}
use Rattle.tables.proofs.state.Tables.fill.Goals as goal
use Rattle.tables.proofs.state.Tables.fill.Goals.{After-replace_first, After-remove_first}

some : (c : goal.After-replace_first) → Filled c.args.self.now.entries c.replace_first.new.self (seen c.args.entry) c.args.contracts.value
some c =
    let t = c.args.self.now in
    let x = c.args.entry in
    let n = c.args.contracts.value in
    let left = c.in-Ok.contracts in
    let y : Entry = record { login = x.login; number = x.number; side = x.side; kind = x.kind; price = x.price; contracts = left } in
    let m : left.value ≡ x.contracts.value - n = omega (arith, c.in-Ok.ensures.reads.0, c.from.ensures, c.from-2.ensures) in
    filled t.entries _ c.index.result c.args.series.value x n (y ∷ []) t.few t.apart c.index.ensures.place (omega (arith, c.facts.ensures.count, c.index.ensures.bound)) c.requires.stands c.requires.enough
    (ap (λ v. v ∷ []) (same_less (seen x) n left.value m) ∙ sym (some_left (seen x) n left.value m left.low)) c.replace_first.ensures.replaced

none : (c : goal.After-remove_first) → Filled c.args.self.now.entries c.remove_first.new.self (seen c.args.entry) c.args.contracts.value
none c =
    let t = c.args.self.now in
    let x = c.args.entry in
    let n = c.args.contracts.value in
    let m : c.from.result - c.from-2.result ≡ x.contracts.value - n = omega (arith, c.from.ensures, c.from-2.ensures) in
    filled t.entries _ c.index-in-Err.result c.args.series.value x n [] t.few t.apart c.index-in-Err.ensures.place (omega (arith, c.facts.ensures.count, c.index-in-Err.ensures.bound)) c.requires.stands c.requires.enough
    (sym (none_left (seen x) n _ m c.in-Err.ensures.reads.1 x.contracts.high)) c.remove_first.ensures.left

pub invariant_of-self-clause-few : goal.invariant_of-self-clause-few
invariant_of-self-clause-few c = (some c).few

pub invariant_of-self-clause-apart : goal.invariant_of-self-clause-apart
invariant_of-self-clause-apart c = (some c).apart

pub invariant_of-self-in-Err-clause-few : goal.invariant_of-self-in-Err-clause-few
invariant_of-self-in-Err-clause-few c = (none c).few

pub invariant_of-self-in-Err-clause-apart : goal.invariant_of-self-in-Err-clause-apart
invariant_of-self-in-Err-clause-apart c = (none c).apart

pub returns-in-Ok : goal.returns-in-Ok
returns-in-Ok c = let d = some (goal.at.returns-in-Ok c).After-replace_first in record { filled = d.filled; slips = refl; own = d.own; others = d.others }

pub returns-in-Err : goal.returns-in-Err
returns-in-Err c = let d = none (goal.at.returns-in-Err c).After-remove_first in record { filled = d.filled; slips = refl; own = d.own; others = d.others }
