-- What the events alone tell: who has a login open, which series had values, and which scopes are held. Assumes nothing.
use Rattle.std.specs.Prelude.{ℕ, Bool, true, false, cond, not, ◌&&◌, ◌||◌, List, [], ◌∷◌, ◌++◌, Some, None, Ok, Err, ◌==◌}
use Rattle.terms.specs.Entered.{entered_number, entered_effect}
use Rattle.terms.specs.declared.messages.Causes.{Causes}
use Rattle.terms.specs.declared.messages.ScopeNumber.{ScopeNumber}
use Rattle.terms.specs.declared.messages.ScopeNumber.TheVariants.{Login, Acronym}
use Rattle.terms.specs.declared.events.Event.{Event}
use Rattle.history.specs.State.{nonzero}
use Rattle.history.specs.Acts.{Act, Tick, Values, Open, Retire, Limit, Enter, Cancel, Take, Receipt, PutBack, Kill, Release, Answer, plain, amount, entered, taken, told, Moment, act, strike, moment}
use Rattle.history.specs.Part.{accepted}

-- ---- the acronym that has a login open, 0 for none

abbrev pub opens : Act → (login before : ℕ) → ℕ
opens (Tick t) login before = before
opens (Values n v) login before = before
opens (Open l a role reach) login before = cond (l == login) a before
opens (Retire l) login before = cond (l == login) 0 before
opens (Limit x) login before = before
opens (Enter t) login before = before
opens (Cancel l n) login before = before
opens (Take l) login before = before
opens (Receipt f) login before = before
opens (PutBack f) login before = before
opens (Kill scope reach block) login before = before
opens (Release scope) login before = before

abbrev pub firm_after : Moment → (login before : ℕ) → ℕ
firm_after (act c r) login before = cond (accepted r) (opens c login before) before
firm_after (strike r) login before = before

abbrev pub firm_in : List Event → (login : ℕ) → ℕ
firm_in [] login = 0
firm_in (e ∷ h) login = firm_after (moment e) login (firm_in h login)

-- ---- the series that had values

abbrev pub values : Act → (series : ℕ) → Bool
values (Tick t) series = false
values (Values n v) series = n == series
values (Open l a role reach) series = false
values (Retire l) series = false
values (Limit x) series = false
values (Enter t) series = false
values (Cancel l n) series = false
values (Take l) series = false
values (Receipt f) series = false
values (PutBack f) series = false
values (Kill scope reach block) series = false
values (Release scope) series = false

abbrev pub values_after : Moment → (series : ℕ) → Bool → Bool
values_after (act c r) series before = (accepted r && values c series) || before
values_after (strike r) series before = before

abbrev pub valued_in : List Event → (series : ℕ) → Bool
valued_in [] series = false
valued_in (e ∷ h) series = values_after (moment e) series (valued_in h series)

-- ---- the scopes that are held

-- what an event says of the hold of a scope
pub record Word : Type 0 where
  pub scope : ScopeNumber
  pub holds : Bool
  pub lifts : Bool

-- an accepted kill with block holds its scope; an accepted release lifts its hold, and an opening the login's
abbrev pub words_of : Act → List Word
words_of (Tick t) = []
words_of (Values n v) = []
words_of (Open l a role reach) = record { scope = Login l; holds = false; lifts = true } ∷ []
words_of (Retire l) = []
words_of (Limit x) = []
words_of (Enter t) = []
words_of (Cancel l n) = []
words_of (Take l) = []
words_of (Receipt f) = []
words_of (PutBack f) = []
words_of (Kill scope reach block) = record { scope = scope; holds = (block == 1); lifts = false } ∷ []
words_of (Release scope) = record { scope = scope; holds = false; lifts = true } ∷ []

-- a cause other than 0 holds the login, or the acronym that has it open
abbrev pub trip_words : (firm : ℕ → ℕ) → (login : ℕ) → Causes → List Word
trip_words firm login c =
    record { scope = Login login; holds = nonzero c.login; lifts = false }
    ∷ record { scope = Acronym (firm login); holds = nonzero c.acronym; lifts = false }
    ∷ []

-- the trip that the answer to a call names: enter's, but for 21, whose causes are those of the holds
abbrev pub trips_of : (firm : ℕ → ℕ) → Act → Answer → List Word
trips_of firm (Tick t) r = []
trips_of firm (Values n v) r = []
trips_of firm (Open l a role reach) r = []
trips_of firm (Retire l) r = []
trips_of firm (Limit x) r = []
trips_of firm (Enter t) (plain r) = []
trips_of firm (Enter t) (amount r) = []
trips_of firm (Enter t) (entered x) = cond (entered_number x == 21) [] (trip_words firm t.login (entered_effect x).causes)
trips_of firm (Enter t) (taken r) = []
trips_of firm (Enter t) (told x) = []
trips_of firm (Cancel l n) r = []
trips_of firm (Take l) r = []
trips_of firm (Receipt f) r = []
trips_of firm (PutBack f) r = []
trips_of firm (Kill scope reach block) r = []
trips_of firm (Release scope) r = []

-- all that an event says, the oldest word first: of a trade the buyer's side, then the seller's
abbrev pub says : (firm : ℕ → ℕ) → Moment → List Word
says firm (act c r) = cond (accepted r) (words_of c) [] ++ trips_of firm c r
says firm (strike (Ok None)) = []
says firm (strike (Ok (Some x))) = trip_words firm x.trade.buyer.login x.buy.causes ++ trip_words firm x.trade.seller.login
    x.sell.causes
says firm (strike (Err x)) = []

abbrev pub same_scope : ScopeNumber → ScopeNumber → Bool
same_scope (Login l) (Login k) = l == k
same_scope (Login l) (Acronym a) = false
same_scope (Acronym b) (Login k) = false
same_scope (Acronym b) (Acronym a) = b == a

-- whether the scope is held after a word, by whether it was before
abbrev pub said : Word → ScopeNumber → Bool → Bool
said w scope before = cond (same_scope w.scope scope) (w.holds || (not w.lifts && before)) before

abbrev pub all_said : List Word → ScopeNumber → Bool → Bool
all_said [] scope before = before
all_said (w ∷ ws) scope before = all_said ws scope (said w scope before)

-- The scope is held: it was by a kill or a trip since the last release of it or, for a login, its opening, whichever is later.
abbrev pub held_in : List Event → ScopeNumber → Bool
held_in [] scope = false
held_in (e ∷ h) scope = all_said (says (firm_in h) (moment e)) scope (held_in h scope)
