-- What can be asked of a gate, and what it answers. Strike stands apart from the twelve other calls: what they answer is settled by
-- the state, while which pair is struck is the market's choice. Assumes nothing.
use Rattle.std.specs.Prelude.{ℕ, Option, Result}
use Rattle.terms.specs.declared.refusal.Refusal.{Refusal}
use Rattle.terms.specs.declared.values.ValueNumbers.{ValueNumbers}
use Rattle.terms.specs.declared.messages.ScopeNumber.{ScopeNumber}
use Rattle.terms.specs.declared.messages.LimitNumbers.{LimitNumbers}
use Rattle.terms.specs.declared.messages.Ticket.{Ticket}
use Rattle.terms.specs.declared.messages.Fill.{Fill}
use Rattle.terms.specs.declared.events.Effect.{Effect}
use Rattle.terms.specs.declared.events.EnterAnswer.{EnterAnswer}
use Rattle.terms.specs.declared.events.Struck.{Struck}
use Rattle.terms.specs.declared.events.Call.{Call}
use Rattle.terms.specs.declared.events.Call.TheVariants as asking
use Rattle.terms.specs.declared.events.Event.{Event}
use Rattle.terms.specs.declared.events.Event.TheVariants as event

-- a call other than strike
pub data Act : Type 0 where
  Tick : (time : ℕ) → Act
  Values : (series : ℕ) → ValueNumbers → Act
  Open : (login acronym role reach : ℕ) → Act
  Retire : (login : ℕ) → Act
  Limit : LimitNumbers → Act
  Enter : Ticket → Act
  Cancel : (login number : ℕ) → Act
  Take : (login : ℕ) → Act
  Receipt : Fill → Act
  PutBack : Fill → Act
  Kill : ScopeNumber → (reach block : ℕ) → Act
  Release : ScopeNumber → Act

-- an answer, to a call or to a side of a trade
pub data Answer : Type 0 where
  -- no more than that the call was accepted
  plain : Result (Unit {0}) Refusal → Answer
  -- the contracts cancelled
  amount : Result ℕ Refusal → Answer
  entered : EnterAnswer → Answer
  taken : Result Fill Refusal → Answer
  -- what came of telling the checks of a side of a trade
  told : Effect → Answer

-- an event, in either of its two forms
pub data Moment : Type 0 where
  act : Act → Answer → Moment
  strike : Result (Option Struck) Refusal → Moment

abbrev pub moment : Event → Moment
moment (event.Tick t r) = act (Tick t) (plain r)
moment (event.Values n v r) = act (Values n v) (plain r)
moment (event.Open l a role reach r) = act (Open l a role reach) (plain r)
moment (event.Retire l r) = act (Retire l) (amount r)
moment (event.Limit x r) = act (Limit x) (plain r)
moment (event.Enter t r) = act (Enter t) (entered r)
moment (event.Cancel l n r) = act (Cancel l n) (amount r)
moment (event.Strike r) = strike r
moment (event.Take l r) = act (Take l) (taken r)
moment (event.Receipt f r) = act (Receipt f) (plain r)
moment (event.PutBack f r) = act (PutBack f) (plain r)
moment (event.Kill s reach block r) = act (Kill s reach block) (amount r)
moment (event.Release s r) = act (Release s) (plain r)

-- the call that an event is the answer to
abbrev pub call_of : Event → Call
call_of (event.Tick t r) = asking.Tick t
call_of (event.Values n v r) = asking.Values n v
call_of (event.Open l a role reach r) = asking.Open l a role reach
call_of (event.Retire l r) = asking.Retire l
call_of (event.Limit x r) = asking.Limit x
call_of (event.Enter t r) = asking.Enter t
call_of (event.Cancel l n r) = asking.Cancel l n
call_of (event.Strike r) = asking.Strike
call_of (event.Take l r) = asking.Take l
call_of (event.Receipt f r) = asking.Receipt f
call_of (event.PutBack f r) = asking.PutBack f
call_of (event.Kill s reach block r) = asking.Kill s reach block
call_of (event.Release s r) = asking.Release s
