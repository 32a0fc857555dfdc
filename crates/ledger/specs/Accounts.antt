-- What is promised of a ledger: it tells what the events come to. Assumes nothing.
use Rattle.std.specs.Prelude.{◌≡◌, ℕ, ◌≤◌, Bool, true, false, cond, List, length, Some, None, Option}
use Rattle.terms.specs.declared.events.Event.{Event}
use Rattle.terms.specs.Tables.{at, put}
use Rattle.ledger.specs.declared.sums.Sums.{Sums}
use Rattle.ledger.specs.declared.accounts.Account.{Account}
use Rattle.ledger.specs.declared.accounts.Ledger.{Ledger}
use Rattle.ledger.specs.declared.postings.Item.{Item}
use Rattle.ledger.specs.Sums.{nothing, plus, held}
use Rattle.ledger.specs.Postings.{whose, holders, total, opened}

-- ---- one firm

abbrev pub account : (is_opened : Bool) → Sums → Account
account o s = record { opened = o; sums = s }

abbrev pub unopened : Account
unopened = account false nothing

-- its contracts are told if a login was opened for it
abbrev pub told_of : Account → Option Sums
told_of x = cond x.opened (Some x.sums) None

-- ---- one change

abbrev pub added : List Account → Option ℕ → Sums → List Account
added table None s = table
added table (Some firm) s =
    put table firm (account (at unopened table firm).opened (held (plus (at unopened table firm).sums s)))

abbrev pub posted : Item → Ledger → Ledger
posted i g = record { holders = g.holders; accounts = added g.accounts (whose g.holders i.scope) i.sums }

abbrev pub marked : (login acronym : ℕ) → Ledger → Ledger
marked login acronym g =
    record { holders = put g.holders login (Some acronym); accounts = put g.accounts acronym (account true (at unopened g.accounts acronym).sums) }

-- ---- the law

-- A ledger tells of a list of events, the newest first: for each login the firm that it was last opened for, and for each firm whether a login was opened for it and the
-- contracts that were accepted, receipted and cancelled, each held to 64 bits.
pub record Tells (h : List Event) (g : Ledger) : Type 0 where
  pub holders_are : g.holders ≡ holders h
  pub firms : length g.accounts ≡ 8
  pub accounts_are : (a : ℕ) → 1 ≤ a → a ≤ 8 → at unopened g.accounts a ≡ account (opened a h) (held (total a h))

-- A firm for which a login was opened has its contracts told; any other, and a number that is no firm's, has none.
pub record Reported (h : List Event) (a : ℕ) (r : Option Sums) : Type 0 where
  pub firm : 1 ≤ a → a ≤ 8 → r ≡ cond (opened a h) (Some (held (total a h))) None
  pub other : (1 ≤ a → a ≤ 8 → ⊥) → r ≡ None
