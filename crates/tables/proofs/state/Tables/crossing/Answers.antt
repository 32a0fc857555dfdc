-- The first series that crosses.
use Rattle.std.proofs.Common.{rules, ap, ◌∙◌, ◌+◌}
use Rattle.std.proofs.iter.runs.Sources.{inclusive_listed}
use Rattle.std.specs.Range.{range_inclusive_start, range_inclusive_end, range_inclusive_exhausted}
use Rattle.tables.specs.Held.{resting_of}
use Rattle.tables.proofs.Meeting.{lowest_found}
use Rattle.tables.proofs.Searching.{sought_by}
use Rattle.tables.proofs.state.Tables.crossing.Goals as goal

pub returns : goal.returns
returns c =
    let ess = resting_of c.args.self.now in
    let run = c.find_map.ensures.runs in
    let counts = inclusive_listed run.0 run.0.seen in
    lowest_found ess _ c.facts.ensures.series
    (sought_by _ ess run.0 c.find_map.result counts.0 counts.1 (counts.2 ∙ ap range_inclusive_start run.1 ∙ c.new.ensures.start)
    (counts.3 ∙ ap (λ v. range_inclusive_end v + 1) run.1 ∙ ap (λ v. v + 1) c.new.ensures.end) (counts.4 (ap range_inclusive_exhausted run.1 ∙ c.new.ensures.exhausted)).0
    run.2 (λ a r f' k. search rules) (λ x r k. search rules))
