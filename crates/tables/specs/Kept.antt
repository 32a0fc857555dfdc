-- What is always so of the two tables, of the chains alone. Assumes nothing.
use Rattle.std.specs.Prelude.{ℕ, ◌≤◌, List, map, nat_eq}
use Rattle.chains.specs.declared.table.Chains.{Chains}
use Rattle.chains.specs.Lists.{lists}
use Rattle.terms.specs.declared.entries.Entry.{Entry}
use Rattle.terms.specs.declared.entries.Slip.{Slip}
use Rattle.market.specs.Book as book
use Rattle.market.specs.Book.{is_for, counts}
use Rattle.market.specs.Seen.{seen, seen_slip}

-- the entries of each series, in plain numbers
abbrev pub seen_entries : Chains Entry 16 → List (List book.Entry)
seen_entries c = map (map seen) (lists c)

-- the slips of each login
abbrev pub seen_slips : Chains Slip 24 → List (List book.Slip)
seen_slips c = map (map seen_slip) (lists c)

-- a login rests at most 16 entries, and no number twice
abbrev pub Few : List (List book.Entry) → Type 0
Few ess = (login : ℕ) → counts (λ e. nat_eq e.login login) ess ≤ 16

abbrev pub Apart : List (List book.Entry) → Type 0
Apart ess = (login number : ℕ) → counts (is_for login number) ess ≤ 1
