-- Each turn clears one series more.
use Rattle.std.proofs.Common.{◌<◌, ◌≤◌, [], length, get_or, ap, ◌∙◌, arith}
use Rattle.std.proofs.lemmas.List.{take_all}
use Rattle.chains.specs.Asks.{without_all, saturated}
use Rattle.chains.specs.Lists.{lists, changed}
use Rattle.tables.specs.Tally.{weighed}
use Rattle.tables.proofs.Listed.{done_at, done_more, done_all, weighed_more}
use Rattle.tables.proofs.held.take_off.Goals as goal

pub loop-k-preserved : goal.loop-k-preserved
loop-k-preserved g c =
    let p = g.P.Test.meets c.args.test.now in
    let ls = lists c.args.entries.now in
    let k = c.loop-k.k in
    let lt : k < length ls = omega (arith, c.facts.ensures.count) in
    let i = c.loop-k.invariant in
    let same = ap (λ v. get_or v k []) i.1 ∙ done_at (without_all p) k ls in (
      weighed_more (λ e. e.contracts.value) p ls (lists c.loop-k.entries) k _ _ _ lt same i.0 c.remove_all.ensures.sum c.saturating_add-sum.ensures,
      c.remove_all.ensures.left ∙ ap (λ v. changed (without_all p) v k) i.1 ∙ done_more (without_all p) k ls lt,
      c.remove_all.ensures.places ∙ i.2,
    )

pub returns : goal.returns
returns g c =
    let p = g.P.Test.meets c.args.test.now in
    let ls = lists c.args.entries.now in
    let le : length ls ≤ c.loop-k.k = omega (arith, c.facts.ensures.count) in
    let i = c.loop-k.invariant in
    record {
      sum = i.0 ∙ ap (λ v. saturated (weighed (λ e. e.contracts.value) p v)) (take_all c.loop-k.k ls le);
      left = i.1 ∙ done_all (without_all p) c.loop-k.k ls le;
      places = i.2;
    }
