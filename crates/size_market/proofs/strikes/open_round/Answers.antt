-- The pair that crosses tells the taker, the price and the makers.
use Rattle.std.proofs.Common.{min, [], Option, sym, ap, ◌∙◌, subst}
use Rattle.std.specs.Option.{option_map}
use Rattle.terms.specs.Kinds.{side_number}
use Rattle.tables.specs.Cross.{seen_crossing}
use Rattle.tables.specs.Held.{book_of}
use Rattle.size_market.specs.declared.round.Round.{Round}
use Rattle.size_market.specs.Steps.{Current}
use Rattle.size_market.proofs.Opening.{none_opens, opens}
use Rattle.size_market.proofs.strikes.open_round.Goals as goal

pub returns : goal.returns
returns c =
    let t = c.args.tables.now in
    opens (book_of t) c.in_ok-crossing.crossing.series (seen_crossing c.in_ok-crossing.crossing).pair c.by_age.result.1 c.by_age.result.0 (side_number c.other.result) c.min.result c.makers_sum-rest.result
    t.apart c.in_ok-crossing.ensures c.by_age.ensures.younger c.by_age.ensures.older c.other.ensures.number
    c.makers_sum-rest.ensures.sum c.makers_sum-rest.ensures.bound (c.min.ensures ∙ ap (λ n. min n c.makers_sum-rest.result) c.from.ensures)

pub returns-in_err-crossing : goal.returns-in_err-crossing
returns-in_err-crossing c =
    let b = book_of c.args.tables.now in
    let P : Option Round → Type 0 = Current b [] in
    subst P (sym c.from_residual.ensures) (none_opens b (sym (ap (option_map seen_crossing) c.in_err-crossing.was) ∙ c.crossing.ensures))
