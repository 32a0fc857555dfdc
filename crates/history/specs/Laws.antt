-- Laws that any run keeps, beside the three promises: what a gate's tables always hold, and what calls never do. Assumes nothing.
use Rattle.std.specs.Prelude.{◌≡◌, ℕ, ◌≤◌, true, false, cond, ◌&&◌, ◌||◌, ◌⊎◌, List, [], ◌∷◌, length, Some, None, Ok, Option, Result, ◌==◌}
use Rattle.std.specs.List.{AllByRecursion}
use Rattle.terms.specs.Entered.{entered_number, entered_effect}
use Rattle.terms.specs.declared.refusal.Refusal.{Refusal}
use Rattle.terms.specs.declared.messages.Causes.{Causes}
use Rattle.terms.specs.declared.messages.ScopeNumber.{ScopeNumber}
use Rattle.terms.specs.declared.messages.Ticket.{Ticket}
use Rattle.terms.specs.declared.events.EnterAnswer.{EnterAnswer}
use Rattle.terms.specs.declared.events.Event.{Event}
use Rattle.terms.specs.declared.events.Event.TheVariants.{Open, Enter}
use Rattle.market.specs.Book.{Trade, is_for, totals, any_in, taken_off, waiting_of}
use Rattle.market.specs.Market.{MayStrike}
use Rattle.market.specs.Laws.{Orderly, SmallSweeps, Settled}
use Rattle.market.specs.Sweeps.{Cut, swept_up_to, swept_sum}
use Rattle.checks.specs.Meaning.{Meaning}
use Rattle.history.specs.State.{State, row, is_free, is_open, nonzero}
use Rattle.history.specs.Scopes.{in_scope}
use Rattle.history.specs.Trips.{in_trip}
use Rattle.history.specs.Acts.{Act}
use Rattle.history.specs.Calls.{refusal, next, in_kill}
use Rattle.history.specs.Step.{Step, reached, Happens, Run}
use Rattle.history.specs.Promises.{Firm}

-- ---- what is so of every state that a run leads to

pub record InOrder {m : Meaning} (s : State m) : Type 0 where
  pub rows24 : length s.rows ≡ 24
  pub series16 : length s.book.resting ≡ 16
  pub slips24 : length s.book.slips ≡ 24
  pub holds8 : length s.holds ≡ 8
  pub valued16 : length s.valued ≡ 16
  pub private8 : length s.private ≡ 8
  -- only open logins rest entries
  pub open_rest : AllByRecursion (AllByRecursion (λ e. is_open (row s e.login) ≡ true)) s.book.resting
  -- a login whose slip waits is not free, and so not yet another firm's
  pub free_none : (login : ℕ) → is_free (row s login) ≡ true → waiting_of s.book login ≡ []
  pub free_nobody : (login : ℕ) → is_free (row s login) ≡ true → (row s login).acronym ≡ 0
  pub held_firm : (login : ℕ) → is_free (row s login) ≡ false → Firm (row s login).acronym
  -- each login rests a number once and 16 entries at most, each with contracts left: no sum of contracts overflows 32 bits
  pub orderly : Orderly s.book.resting
  pub small_sweeps : SmallSweeps s.book.resting
  -- strike has an answer, and of one kind only
  pub settled : Settled s.book

abbrev pub AlwaysInOrder : Meaning → Type 0
AlwaysInOrder m = (p : m.Pub) (room : ℕ) (h : List Event) → Happens m p room h → InOrder (reached m p room h)

-- ---- calls

pub record CallLaws (m : Meaning) : Type 0 where
  -- a call that is refused alters nothing
  pub refused_stands : (s : State m) (c : Act) (x : Refusal) → refusal s c ≡ Some x → next s c ≡ s
  -- an entry that is accepted rests, or is cancelled in the same answer
  pub rests_or_cancelled :
      (p : m.Pub) (room : ℕ) (h : List Event) (t : Ticket) (r : EnterAnswer) → Happens m p room (Enter t r ∷ h) → entered_number r ≡ 0
      → (any_in (is_for t.login t.number) (reached m p room (Enter t r ∷ h)).book.resting ≡ true) ⊎ (t.contracts ≤ (entered_effect r).cancelled)
  -- a new firm finds no slip on the login that it opens
  pub opened_none :
      (p : m.Pub) (room login acronym role reach : ℕ) (h : List Event) → Happens m p room (Open login acronym role reach (Ok tt) ∷ h)
      → waiting_of (reached m p room (Open login acronym role reach (Ok tt) ∷ h)).book login ≡ []
  -- to strike there is always an answer
  pub strike_answers : (p : m.Pub) (room : ℕ) (h : List Event) → Happens m p room h → (r : Result (Option Trade) Refusal)
      × MayStrike (reached m p room h).book r
  -- a run goes on with every step
  pub goes_on : (p : m.Pub) (room : ℕ) (h : List Event) (s u : State m) (e : Event) → Run m p room h s → Step s e u → Run m p room (e ∷ h) u

-- ---- sweeping login by login, as a gate's loops do

module _ {m : Meaning} where
  -- the reach of a kill for each login
  abbrev pub kill_cut : State m → ScopeNumber → (reach : ℕ) → Cut
  kill_cut s scope reach l = cond (is_open (row s l) && in_scope s scope l) (Some reach) None

  -- the reach of a trip for each login: its own
  abbrev pub trip_cut : State m → (login : ℕ) → Causes → Cut
  trip_cut s login c l =
      cond (is_open (row s l) && ((nonzero c.login && l == login) || (nonzero c.acronym && (row s l).acronym == (row s login).acronym)))
      (Some (row s l).reach) None

-- A kill and a trip take off and answer the same, whether all logins are swept one after another or at once.
pub record SweepsByLogin (m : Meaning) : Type 0 where
  pub kill_left : (s : State m) (scope : ScopeNumber) (reach : ℕ) → length s.rows ≡ 24
      → swept_up_to (kill_cut s scope reach) 24 s.book ≡ taken_off (in_kill s scope reach) s.book
  pub kill_sum : (s : State m) (scope : ScopeNumber) (reach : ℕ) → length s.rows ≡ 24
      → swept_sum (kill_cut s scope reach) 24 s.book ≡ totals (in_kill s scope reach) s.book.resting
  pub trip_left : (s : State m) (login : ℕ) (c : Causes) → length s.rows ≡ 24
      → swept_up_to (trip_cut s login c) 24 s.book ≡ taken_off (in_trip s login c) s.book
  pub trip_sum : (s : State m) (login : ℕ) (c : Causes) → length s.rows ≡ 24
      → swept_sum (trip_cut s login c) 24 s.book ≡ totals (in_trip s login c) s.book.resting
