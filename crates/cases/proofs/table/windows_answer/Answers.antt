-- The notices of a case, told one after another. Assumes nothing.
use Rattle.std.proofs.Common.{List, [], ◌∷◌, ap, ◌∙◌}
use Rattle.terms.specs.declared.messages.Notice.{Notice}
use Rattle.terms.specs.declared.messages.Notice.TheVariants.{Ticked, Limited}
use Rattle.cases.specs.Cases.{told, cause_at}
use Rattle.cases.proofs.table.windows_answer.Goals as goal

pub returns : goal.returns
returns c =
    let limit : List Notice = Limited 1 c.args.limit ∷ [] in
    let first = told c.args.first limit in
    let second = told c.args.second first in
    let s = c.tell.ensures.on [] (c.new-rates.ensures.time, c.new-rates.ensures.firms) in
    let t = c.tell_burst-2.ensures first (c.tell_burst.ensures limit s) in
    let ns : List Notice = Ticked c.args.last.time ∷ second in
    c.tell-3.ensures.cause ns (c.tell-2.ensures.on second t) ∙ ap (λ (e : Notice). cause_at (e ∷ ns)) c.from.ensures
