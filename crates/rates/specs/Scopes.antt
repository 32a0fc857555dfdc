-- The three windows of a scope: what a notice is to each, and what they make of it. Assumes nothing.
use Rattle.std.specs.Prelude.{ℕ, Bool, cond, ◌==◌}
use Rattle.terms.specs.declared.kinds.LimitKind.TheVariants as kind
use Rattle.terms.specs.declared.messages.LimitNumbers.{LimitNumbers}
use Rattle.terms.specs.declared.messages.Notice.{Notice}
use Rattle.terms.specs.declared.messages.Notice.TheVariants.{Ticked, Valued, Opened, Closed, Limited, Released, Entered, TurnedDown, Filled}
use Rattle.terms.specs.declared.refusal.Refusal.TheVariants.{LimitPrice}
use Rattle.terms.specs.Kinds.{limit_kind_number}
use Rattle.terms.specs.Refusals.{number}
use Rattle.rates.specs.declared.windows.Rate.{Rate}
use Rattle.rates.specs.declared.windows.Rate.TheVariants.{Entries, Fills, TurnDowns}
use Rattle.rates.specs.declared.windows.ScopeWindows.{ScopeWindows}
use Rattle.rates.specs.Marks.{mark}
use Rattle.rates.specs.Runs.{Act, event, clearing, limiting, aside, acted, answered}
use Rattle.rates.specs.Views.{View, view, empty}

-- the kind of limit that a window goes by
abbrev pub kind_of : Rate → ℕ
kind_of Entries = limit_kind_number kind.Entries
kind_of Fills = limit_kind_number kind.Fills
kind_of TurnDowns = limit_kind_number kind.TurnDowns

-- the cause that its trip gives
abbrev pub cause_of : Rate → ℕ
cause_of Entries = 61
cause_of Fills = 62
cause_of TurnDowns = 63

-- an event of one kind, to the window of another
abbrev pub counted_by : (what window : Rate) → (time amount : ℕ) → Act
counted_by Entries Entries t a = event (mark t a)
counted_by Entries Fills t a = aside
counted_by Entries TurnDowns t a = aside
counted_by Fills Entries t a = aside
counted_by Fills Fills t a = event (mark t a)
counted_by Fills TurnDowns t a = aside
counted_by TurnDowns Entries t a = aside
counted_by TurnDowns Fills t a = aside
counted_by TurnDowns TurnDowns t a = event (mark t a)

-- a limit that is set for the scope, to a window of it: a limit of another kind clears it all the same
abbrev pub set_by : LimitNumbers → (window : Rate) → Act
set_by x k = cond (x.kind == kind_of k) (limiting x.limit x.interval) clearing

-- what a notice is to a window of a scope that it is for: opening and closing drop the limit, a limit of any kind and a release
-- clear, and an entry, a turn-down for the price and a fill count
abbrev pub act : Rate → (time : ℕ) → Notice → Act
act k t (Ticked u) = aside
act k t (Valued s v) = aside
act k t (Opened a l r c) = limiting 0 0
act k t (Closed a l) = limiting 0 0
act k t (Limited a x) = set_by x k
act k t (Released a s) = clearing
act k t (Entered e) = counted_by Entries k t 1
act k t (TurnedDown e n) = cond (n == number LimitPrice) (counted_by TurnDowns k t 1) aside
act k t (Filled a f) = counted_by Fills k t f.contracts

pub record ScopeView : Type 0 where
  pub entries : View
  pub fills : View
  pub turndowns : View

abbrev pub scope_view : ScopeWindows → ScopeView
scope_view s = record { entries = view s.entries; fills = view s.fills; turndowns = view s.turndowns }

-- no limit, and nothing counted
abbrev pub new_scope : ScopeView
new_scope = record { entries = empty 0 0; fills = empty 0 0; turndowns = empty 0 0 }

-- the windows after an act for each
abbrev pub scope_acted : (Rate → Act) → ScopeView → ScopeView
scope_acted x s = record {
  entries = acted (x Entries) s.entries;
  fills = acted (x Fills) s.fills;
  turndowns = acted (x TurnDowns) s.turndowns;
}

-- a cause where its window trips, and else the next
abbrev pub cause_or : Rate → Bool → ℕ → ℕ
cause_or k trips next = cond trips (cause_of k) next

-- the cause that the windows give at an act for each: no notice is an event to more than one
abbrev pub scope_answered : (Rate → Act) → ScopeView → ℕ
scope_answered x s =
    cause_or Entries (answered (x Entries) s.entries)
    (cause_or Fills (answered (x Fills) s.fills)
    (cause_or TurnDowns (answered (x TurnDowns) s.turndowns) 0))

-- the windows after a notice that is for them
abbrev pub scope_told : (time : ℕ) → Notice → ScopeView → ScopeView
scope_told t n s = scope_acted (λ k. act k t n) s

-- the cause that they give at it
abbrev pub scope_cause : (time : ℕ) → Notice → ScopeView → ℕ
scope_cause t n s = scope_answered (λ k. act k t n) s
