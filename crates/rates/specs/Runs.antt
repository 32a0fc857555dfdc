-- Windows over all that befalls them. Assumes nothing.
use Rattle.std.specs.Prelude.{◌≡◌, ℕ, ◌+◌, ◌<◌, ◌≤◌, Bool, true, false, List, [], ◌∷◌, sum_by}
use Rattle.rates.specs.declared.window.Mark.{Mark}
use Rattle.rates.specs.Marks.{mark, counted, counting, amount_of, tripped, trips}
use Rattle.rates.specs.Views.{View, empty, cleared, idle, answers, after}

-- what befalls a window: an event, that it is cleared, a new limit, or nothing that it looks at
pub data Act : Type 0 where
  event : Mark → Act
  clearing : Act
  limiting : (limit interval : ℕ) → Act
  aside : Act

-- the window after an act
abbrev pub acted : Act → View → View
acted (event e) v = after e.time e.amount v
acted clearing v = cleared v
acted (limiting l i) v = empty l i
acted aside v = v

-- does the act trip it
abbrev pub answered : Act → View → Bool
answered (event e) v = answers e.time e.amount v
answered clearing v = false
answered (limiting l i) v = false
answered aside v = false

-- the window after these acts, the newest first, from a new one without a limit
abbrev pub lived : List Act → View
lived [] = empty 0 0
lived (x ∷ acts) = acted x (lived acts)

-- ---- the definition, over the acts alone

-- the limit in force, and its interval
abbrev pub in_force : List Act → ℕ × ℕ
in_force [] = (0, 0)
in_force (event e ∷ acts) = in_force acts
in_force (clearing ∷ acts) = in_force acts
in_force (limiting l i ∷ acts) = (l, i)
in_force (aside ∷ acts) = in_force acts

-- the events since the window was last cleared; a new limit clears it too
abbrev pub since : List Act → List Mark
since [] = []
since (event e ∷ acts) = e ∷ since acts
since (clearing ∷ acts) = []
since (limiting l i ∷ acts) = []
since (aside ∷ acts) = since acts

-- the newest act trips the window
abbrev pub trips_now : List Act → Bool
trips_now [] = false
trips_now (event e ∷ acts) = trips (in_force acts).0 (in_force acts).1 e (since acts)
trips_now (clearing ∷ acts) = false
trips_now (limiting l i ∷ acts) = false
trips_now (aside ∷ acts) = false

-- the window has tripped and was not cleared since
abbrev pub tripped_in : List Act → Bool
tripped_in acts = tripped (in_force acts).0 (in_force acts).1 (since acts)

-- ---- the clock

-- the time of the newest
abbrev pub newest : List Mark → ℕ
newest [] = 0
newest (e ∷ es) = e.time

-- no event is older than the one before it
abbrev pub Ordered : List Mark → Type 0
Ordered [] = Unit {0}
Ordered (e ∷ es) = (newest es ≤ e.time) × Ordered es

-- ---- laws

-- A window answers its next event as the definition over all its events since it was cleared does, whatever befell it before.
abbrev pub AnswersSince : Type 0
AnswersSince = (acts : List Act) (e : Mark) → Ordered (e ∷ since acts) → answers e.time e.amount (lived acts) ≡ trips_now (event e ∷ acts)

-- It has stopped exactly where the definition says that it tripped.
abbrev pub StopsSince : Type 0
StopsSince = (acts : List Act) → Ordered (since acts) → (lived acts).stopped ≡ tripped_in acts

-- What it keeps weighs what the events since it was cleared weigh, at any time from the newest on.
abbrev pub WeighsSince : Type 0
WeighsSince =
    (acts : List Act) → Ordered (since acts) → idle (lived acts) ≡ false → (now : ℕ) → newest (since acts) ≤ now → (weight : Mark → ℕ)
    → sum_by weight (counted now (in_force acts).1 (lived acts).kept) ≡ sum_by weight (counted now (in_force acts).1 (since acts))

-- The total that trips a window is below its limit and what the last event adds.
abbrev pub TripsBelow : Type 0
TripsBelow = (l i : ℕ) (e : Mark) (es : List Mark) → Ordered (e ∷ es) → trips l i e es ≡ true → amount_of (counting i e es) < l + e.amount

-- of whatever acts v is the window, r says whether one more event trips it
abbrev pub AsDefined : Bool → (time amount : ℕ) → View → Type 0
AsDefined r t a v = (acts : List Act) → Ordered (mark t a ∷ since acts) → v ≡ lived acts → r ≡ trips_now (event (mark t a) ∷ acts)
