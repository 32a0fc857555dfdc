-- How many series and logins the tables have, for the laws of a market. Assumes nothing.
use Rattle.std.proofs.Common.{◌≡◌, length, map, ◌∙◌}
use Rattle.std.proofs.lemmas.List.{length-map}
use Rattle.chains.specs.Lists.{lists}
use Rattle.chains.proofs.Totals.{lists_count}
use Rattle.market.specs.Seen.{seen, seen_slip}
use Rattle.tables.specs.Held.{book_of}
use Rattle.tables.specs.declared.state.Tables.{Tables}

pub series_count : (t : Tables) → length (book_of t).resting ≡ 16
series_count t = length-map (lists t.entries) (map seen) ∙ lists_count t.entries

pub logins_count : (t : Tables) → length (book_of t).slips ≡ 24
logins_count t = length-map (lists t.slips) (map seen_slip) ∙ lists_count t.slips
