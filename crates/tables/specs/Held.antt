-- The book that the two tables hold, and how long their slices have to be. Assumes nothing.
use Rattle.std.specs.Prelude.{◌≡◌, ℕ, ◌-◌, ◌≤◌, List, [], Ok, Err, Result, slice_index_or}
use Rattle.terms.specs.declared.refusal.Refusal.{Refusal}
use Rattle.terms.specs.declared.refusal.Refusal.TheVariants.{ShortTable}
use Rattle.terms.specs.declared.bounded.Bounded.{Bounded}
use Rattle.terms.specs.declared.entries.Entry.{Entry}
use Rattle.terms.specs.declared.entries.Slip.{Slip}
use Rattle.chains.specs.declared.table.Chains.{Chains}
use Rattle.chains.specs.Lists.{places}
use Rattle.market.specs.Book.{Book}
use Rattle.market.specs.Book as book
use Rattle.tables.specs.Kept.{seen_entries, seen_slips}
use Rattle.tables.specs.declared.state.Tables.{Tables}

-- the book of a table of entries and a table of slips
abbrev pub book_in : Chains Entry 16 → Chains Slip 24 → Book
book_in entries slips = record { resting = seen_entries entries; slips = seen_slips slips; room = places slips }

abbrev pub resting_of : Tables → List (List book.Entry)
resting_of t = seen_entries t.entries

-- the entries of one series, oldest first
abbrev pub series_of : Tables → Bounded 1 16 → List book.Entry
series_of t series = slice_index_or (resting_of t) (series.value - 1) []

abbrev pub slips_of : Tables → List (List book.Slip)
slips_of t = seen_slips t.slips

abbrev pub book_of : Tables → Book
book_of t = book_in t.entries t.slips

-- how many slots the entries and the slips need, of which the first is not used
abbrev pub LongEnough : (entries slips : ℕ) → Type 0
LongEnough entries slips = (385 ≤ entries) × (65 ≤ slips)

-- what the question answers: Ok exactly where it holds, and else that a table is short
abbrev pub Asked : {X : Type 0} → Type 0 → Result X Refusal → Type 0
Asked holds (Ok _) = holds
Asked holds (Err e) = (e ≡ ShortTable) × (holds → ⊥)
