-- Calls played one after another: what they lead to, and what a gate promises of all that it ever answered. Assumes nothing.
use Rattle.std.specs.Prelude.{◌≡◌, ℕ, min, List, [], ◌∷◌, map, length, take, drop, Ok, Err, Result, ◌≢◌}
use Rattle.terms.specs.declared.events.Call.{Call}
use Rattle.terms.specs.declared.events.Event.{Event}
use Rattle.terms.specs.declared.refusal.Refusal.{Refusal}
use Rattle.terms.specs.declared.refusal.Refusal.TheVariants.{NotEmpty}
use Rattle.market.specs.Book.{empty}
use Rattle.market.specs.declared.Market.{Ghosts as MarketOf}
use Rattle.checks.specs.declared.checking.Check.{Ghosts as ChecksOf}
use Rattle.checks.specs.Meaning.{Meaning}
use Rattle.history.specs.State.{State, new_gate}
use Rattle.history.specs.Acts.{call_of}
use Rattle.history.specs.Step.{Step, Run}
use Rattle.history.specs.Promises.{Promised}
use Rattle.gate.specs.declared.desk.Gate.{Gate}
use Rattle.gate.specs.Kept.{state_of}

-- events, the oldest first, put onto a history, whose newest stands first
abbrev pub onto : List Event → List Event → List Event
onto [] h = h
onto (e ∷ es) h = onto es (e ∷ h)

module _ {m : Meaning} where
  -- events, the oldest first, lead from one state to another
  abbrev pub Leads : State m → List Event → State m → Type 0
  Leads b [] a = a ≡ b
  Leads b (e ∷ es) a = (s : State m) × Step b e s × Leads s es a

  -- After every history that led to a state, these events go on with it, and isolation, contract sum and holds stand for the whole.
  abbrev pub Keeps : State m → List Event → State m → Type 0
  Keeps b es a = (p : m.Pub) (room : ℕ) (h : List Event) → Run m p room h b → Run m p room (onto es h) a × Promised m p room (onto es h)

-- how many calls can be played where there is room for so many events
abbrev pub played : List Call → List Event → ℕ
played calls events = min (length calls) (length events)

-- The first n events answer the first n calls, in their order, and the others are as they were.
pub record Answered (n : ℕ) (calls : List Call) (before after : List Event) : Type 0 where
  pub each : map call_of (take n after) ≡ take n calls
  pub others : drop n after ≡ drop n before

module _ {M C : Type 0} (market : MarketOf M) (checks : ChecksOf C) where
  -- a gate is made over a market in which nothing rests and nothing waits, and over no other
  abbrev pub Made : M → C → Result (Gate M C market checks) Refusal → Type 0
  Made m c (Ok g) =
      (market.book m ≡ empty (market.book m).room)
      × (state_of market checks g ≡ new_gate checks.meaning (checks.public c) (market.book m).room)
  Made m c (Err e) = (e ≡ NotEmpty) × (market.book m ≢ empty (market.book m).room)

  -- A whole day from a new gate: it is a run, it keeps isolation, contract sum and holds, and its events answer the calls.
  pub record WholeDay (m : M) (c : C) (g : Gate M C market checks) (calls : List Call) (before after : List Event) : Type 0 where
    pub bare : market.book m ≡ empty (market.book m).room
    pub run : Run checks.meaning (checks.public c) (market.book m).room (onto (take (played calls before) after) []) (state_of market checks g)
    pub promised : Promised checks.meaning (checks.public c) (market.book m).room (onto (take (played calls before) after) [])
    pub answered : Answered (played calls before) calls before after

  abbrev pub Day : M → C → Result (Gate M C market checks) Refusal → List Call → (before after : List Event) → Type 0
  Day m c (Ok g) calls before after = WholeDay m c g calls before after
  Day m c (Err e) calls before after = (e ≡ NotEmpty) × (market.book m ≢ empty (market.book m).room) × (after ≡ before)
