-- What every change of a book keeps holds along every run: that it is orderly, so that a login rests a number at most once. Assumes nothing.
use Rattle.std.proofs.Common.{◌≡◌, ℕ, Bool, true, List, [], ◌∷◌, map, replicate, Some, None, Ok, Err, refl, arith}
use Rattle.terms.specs.declared.events.Event.{Event}
use Rattle.terms.specs.declared.messages.Fill.{Fill}
use Rattle.terms.specs.declared.messages.ScopeNumber.TheVariants.{Acronym, Login}
use Rattle.terms.specs.declared.messages.ScopeNumber.{ScopeNumber}
use Rattle.terms.specs.declared.messages.Ticket.{Ticket}
use Rattle.terms.proofs.Answers.{unless_case}
use Rattle.market.specs.Book.{Book, Entry, in_reach, is_for, taken_off, without}
use Rattle.market.specs.Laws.{Orderly}
use Rattle.market.specs.Market.{buy_side, filled_in, rest_refusal, rested, sell_side}
use Rattle.market.proofs.Once.{Once, once_filled, once_off, once_rest}
use Rattle.market.proofs.Orders.{orderly_filled, orderly_none, orderly_off, orderly_rest}
use Rattle.checks.specs.Meaning.{Meaning}
use Rattle.history.specs.Acts.{Act, Cancel, Enter, Kill, Limit, Moment, Open, PutBack, Receipt, Release, Retire, Take, Tick, Values, act, moment, strike}
use Rattle.history.specs.Calls.{done, in_kill, next, refusal}
use Rattle.history.specs.Entering.{Verdict, cannot_rest, entry_of, judged_of, rests, turned, verdict, verdict_leaves}
use Rattle.history.specs.Fields.{good_ticket}
use Rattle.history.specs.Scopes.{hold_scope, lift_scope}
use Rattle.history.specs.State.{State, with_book}
use Rattle.history.specs.Step.{after, reached}
use Rattle.history.proofs.Accepted.{enter_ok, ticket_contracts}
use Rattle.history.proofs.Verdicts.{rests_so}

-- taking off, filling and resting an entry that the market takes keep P
record Lasting (P : List (List Entry) → Type 0) : Type 0 where
  off : (q : Entry → Bool) (ess : List (List Entry)) → P ess → P (map (without q) ess)
  filled : (f : Fill) (ess : List (List Entry)) → P ess → P (map (filled_in f) ess)
  rested_one : (b : Book) (t : Ticket) → good_ticket t ≡ true → rest_refusal b (entry_of t) ≡ None → P b.resting
      → P (rested b t.series (entry_of t)).resting
  none : P (replicate 16 [])

module _ (m : Meaning) (P : List (List Entry) → Type 0) (last : Lasting P) where
  abbrev In : State m → Type 0
  In s = P s.book.resting

  enter_keeps : (s : State m) (t : Ticket) → good_ticket t ≡ true → (v : Verdict) → verdict s t ≡ v → In s → In (verdict_leaves t s v)
  enter_keeps s t good (turned n) e o = last.off _ s.book.resting o
  enter_keeps s t good (cannot_rest x) e o = o
  enter_keeps s t good rests e o = last.off _ _ (last.rested_one s.book t good (rests_so (judged_of s t) _ e) o)

  held_keeps : (s : State m) (scope : ScopeNumber) (n : ℕ) → In s → In (hold_scope scope n s)
  held_keeps s (Login l) n o = o
  held_keeps s (Acronym a) n o = o

  lifted_keeps : (s : State m) (scope : ScopeNumber) → In s → In (lift_scope scope s)
  lifted_keeps s (Login l) o = o
  lifted_keeps s (Acronym a) o = o

  done_keeps : (s : State m) (c : Act) → refusal s c ≡ None → In s → In (done s c)
  done_keeps s (Tick t) e o = o
  done_keeps s (Values series v) e o = o
  done_keeps s (Open l a role reach) e o = o
  done_keeps s (Retire l) e o = last.off (in_reach l 3) s.book.resting o
  done_keeps s (Limit x) e o = o
  done_keeps s (Enter t) e o = enter_keeps s t (enter_ok m s t e).good (verdict s t) refl o
  done_keeps s (Cancel l n) e o = last.off (is_for l n) s.book.resting o
  done_keeps s (Take l) e o = o
  done_keeps s (Receipt f) e o = o
  done_keeps s (PutBack f) e o = o
  done_keeps s (Kill scope reach block) e o =
      held_keeps (with_book (taken_off (in_kill s scope reach) s.book) s) scope _ (last.off (in_kill s scope reach) s.book.resting o)
  done_keeps s (Release scope) e o = lifted_keeps s scope o

  next_keeps : (s : State m) (c : Act) → In s → In (next s c)
  next_keeps s c o = unless_case In (refusal s c) s (done s c) o (λ e. done_keeps s c e o)

  after_keeps : (s : State m) (x : Moment) → In s → In (after s x)
  after_keeps s (act c r) o = next_keeps s c o
  after_keeps s (strike (Ok None)) o = o
  after_keeps s (strike (Err x)) o = o
  after_keeps s (strike (Ok (Some x))) o =
      last.off _ _ (last.off _ _ (last.filled (sell_side x.trade) _ (last.filled (buy_side x.trade) s.book.resting o)))

  reached_keeps : (p : m.Pub) (room : ℕ) (h : List Event) → In (reached m p room h)
  reached_keeps p room [] = last.none
  reached_keeps p room (e ∷ h) = after_keeps (reached m p room h) (moment e) (reached_keeps p room h)

lasting_orderly : Lasting Orderly
lasting_orderly =
    record {
      off = orderly_off;
      filled = orderly_filled;
      rested_one = λ b t good h o. orderly_rest b t.series (entry_of t) (ticket_contracts t good) h o;
      none = orderly_none;
    }

lasting_once : Lasting Once
lasting_once =
    record {
      off = once_off;
      filled = once_filled;
      rested_one = λ b t good h o. once_rest b t.series (entry_of t) h o;
      none = λ l n. omega arith;
    }

module _ (m : Meaning) where
  pub orderly_reached : (p : m.Pub) (room : ℕ) (h : List Event) → Orderly (reached m p room h).book.resting
  orderly_reached = reached_keeps m Orderly lasting_orderly

  pub once_reached : (p : m.Pub) (room : ℕ) (h : List Event) → Once (reached m p room h).book.resting
  once_reached = reached_keeps m Once lasting_once

  pub once_next : (s : State m) (c : Act) → Once s.book.resting → Once (next s c).book.resting
  once_next = next_keeps m Once lasting_once
