-- The counts of the sixteen chains, which are within the total.
use Rattle.std.proofs.Common.{List, [], length, get_or, filter, refl, ◌∙◌, rules, arith}
use Rattle.std.proofs.lemmas.Iterator.{YieldsList-from_range, YieldsList-from_map}
use Rattle.std.proofs.lemmas.Iterator.Consumers.{sum_by_from_yields_List, fits_by_from_yields_list}
use Rattle.std.specs.List.{range_with_len}
use Rattle.terms.specs.declared.entries.Entry.{Entry}
use Rattle.chains.specs.Lists.{lists}
use Rattle.tables.proofs.Listed.{tally_le, by_place}
use Rattle.tables.proofs.state.Tables.count_of.Goals as goal

pub sum-requires-clause-fits : goal.sum-requires-clause-fits
sum-requires-clause-fits g c =
    let p = g.P.Test.meets c.args.test.now in
    let ls = lists c.args.self.now.entries in
    let count = λ (xs : List Entry). length (filter p xs) in
    fits_by_from_yields_list (λ k. count (get_or ls k [])) (range_with_len 0 16) c.map.result _
    (YieldsList-from_map _ (λ k. count (get_or ls k [])) (YieldsList-from_range 0 16 16 c.map.ensures.source refl) c.map.ensures.closure (λ x r q k. search rules))
    (omega (arith, c.len.ensures, c.len.type_inv, by_place count 16 ls c.facts.ensures.count, tally_le p ls))

pub returns : goal.returns
returns g c =
    let p = g.P.Test.meets c.args.test.now in
    let ls = lists c.args.self.now.entries in
    let count = λ (xs : List Entry). length (filter p xs) in
    sum_by_from_yields_List (λ k. count (get_or ls k [])) (range_with_len 0 16) c.map.result _ c.sum.ensures.ran
    (YieldsList-from_map _ (λ k. count (get_or ls k [])) (YieldsList-from_range 0 16 16 c.map.ensures.source refl) c.map.ensures.closure (λ x r q k. search rules))
    ∙ by_place count 16 ls c.facts.ensures.count
