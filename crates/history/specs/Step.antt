-- One event of a gate, and whole runs from a new one. Assumes nothing.
--
-- A reader's guide. State says what a gate keeps. Calls has a rule for each call but strike, which stands in Strikes: when it is refused,
-- what it answers and what it leaves. Step, below, is one event from the state before it to the state after it; a run is a list of events
-- from a new gate. Part says what of a run is one acronym's, Tally what it had accepted, receipted and cancelled, Held what is held by the
-- events alone. Promises states what holds of every run, Laws smaller facts of the same kind. The rest is what these are made of: Fields
-- (ranges), Scopes (holds), Trips (telling the checks), Entering (what an entry comes to), Acts (calls and answers). Days has days worked
-- out from these definitions. What a market and a check may do stands in their own crates: the definitions Market and Meaning.
use Rattle.std.specs.Prelude.{◌≡◌, ℕ, List, [], ◌∷◌}
use Rattle.terms.specs.declared.events.Event.{Event}
use Rattle.checks.specs.Meaning.{Meaning}
use Rattle.history.specs.State.{State, new_gate}
use Rattle.history.specs.Acts.{Moment, act, strike, moment}
use Rattle.history.specs.Calls.{reply, next}
use Rattle.history.specs.Strikes.{MayAnswer, struck_state}

module _ {m : Meaning} where
  -- the answer is one that may come: to strike any that the market may give, to any other call the one of its rule
  abbrev pub Allowed : State m → Moment → Type 0
  Allowed s (act c r) = r ≡ reply s c
  Allowed s (strike r) = MayAnswer s r

  -- what is so after it
  abbrev pub after : State m → Moment → State m
  after s (act c r) = next s c
  after s (strike r) = struck_state s r

  -- an event leads from one state to another
  abbrev pub Step : State m → Event → State m → Type 0
  Step b e a = Allowed b (moment e) × (a ≡ after b (moment e))

-- ---- runs from a new gate, over checks with the public record p and a market with room for so many slips. The newest event stands first.

module _ (m : Meaning) (p : m.Pub) (room : ℕ) where
  -- the state that the events lead to
  abbrev pub reached : List Event → State m
  reached [] = new_gate m p room
  reached (e ∷ h) = after (reached h) (moment e)

  -- every answer is one that may come, in the state that the events before it lead to
  abbrev pub Happens : List Event → Type 0
  Happens [] = Unit {0}
  Happens (e ∷ h) = Happens h × Allowed (reached h) (moment e)

  abbrev pub Run : List Event → State m → Type 0
  Run h s = Happens h × (s ≡ reached h)
