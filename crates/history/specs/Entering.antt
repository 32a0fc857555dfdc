-- What an entry comes to once its fields are good, its login is open, its series has values and nobody holds it: first the checks judge it,
-- then the market takes it or not. Assumes nothing.
use Rattle.std.specs.Prelude.{ℕ, Bool, cond, ◌||◌, Some, None, Option, ◌==◌}
use Rattle.terms.specs.Refusals.{number}
use Rattle.terms.specs.declared.refusal.Refusal.{Refusal}
use Rattle.terms.specs.declared.messages.Ticket.{Ticket}
use Rattle.terms.specs.declared.messages.Asked.{Asked}
use Rattle.terms.specs.declared.messages.Causes.{Causes}
use Rattle.terms.specs.declared.messages.Notice.TheVariants.{Entered, TurnedDown}
use Rattle.terms.specs.declared.events.EnterAnswer.{EnterAnswer}
use Rattle.terms.specs.declared.events.EnterAnswer.TheVariants as answer
use Rattle.market.specs.Book.{Entry}
use Rattle.market.specs.Market.{rest_refusal, rested}
use Rattle.checks.specs.Meaning.{Meaning, no_cause}
use Rattle.history.specs.State.{State, row, hold_of, private_of, with_book, nonzero}
use Rattle.history.specs.Trips.{noticed, effect_of}

pub data Verdict : Type 0 where
  -- turned down by the checks, with a number from 41 to 59
  turned : ℕ → Verdict
  -- the market does not take it
  cannot_rest : Refusal → Verdict
  rests : Verdict

-- the checks' number goes before the market's refusal
abbrev pub verdict_of : (judged : ℕ) → Option Refusal → Verdict
verdict_of judged refusal = cond (judged == 0) (elim refusal [ None ↦ rests | Some x ↦ cannot_rest x ]) (turned judged)

-- what rests of a ticket
abbrev pub entry_of : Ticket → Entry
entry_of t = record { login = t.login; number = t.number; side = t.side; kind = t.kind; price = t.price; contracts = t.contracts }

module _ {m : Meaning} where
  -- the ticket as it is judged: with the acronym and the role of its login's row
  abbrev pub asked : State m → Ticket → Asked
  asked s t = record { acronym = (row s t.login).acronym; role = (row s t.login).role; ticket = t }

  abbrev pub judged_of : State m → Ticket → ℕ
  judged_of s t = m.judged (asked s t) s.public (private_of s (row s t.login).acronym)

  abbrev pub verdict : State m → Ticket → Verdict
  verdict s t = verdict_of (judged_of s t) (rest_refusal s.book (entry_of t))

  -- the entry rests
  abbrev pub with_entry : Ticket → State m → State m
  with_entry t s = with_book (rested s.book t.series (entry_of t)) s

  -- An entry that rests is told as entered, one that is turned down as turned down, and either may trip. One that the market does not take is not told.
  abbrev pub verdict_leaves : Ticket → State m → Verdict → State m
  verdict_leaves t s (turned n) = noticed t.login (TurnedDown (asked s t) n) s
  verdict_leaves t s (cannot_rest x) = s
  verdict_leaves t s rests = noticed t.login (Entered (asked s t)) (with_entry t s)

  abbrev pub verdict_answer : Ticket → State m → Verdict → EnterAnswer
  verdict_answer t s (turned n) = answer.TurnedDown n (effect_of t.login (TurnedDown (asked s t) n) s)
  verdict_answer t s (cannot_rest x) = answer.Refused x no_cause
  verdict_answer t s rests = answer.Accepted (effect_of t.login (Entered (asked s t)) (with_entry t s))

  -- the causes of the holds of a login and of its acronym, 0 for none
  abbrev pub holds_on : State m → (login : ℕ) → Causes
  holds_on s login = record { login = (row s login).hold; acronym = hold_of s (row s login).acronym }

  abbrev pub is_held : State m → (login : ℕ) → Bool
  is_held s login = nonzero (holds_on s login).login || nonzero (holds_on s login).acronym

  -- what enter answers: by its verdict, or where it is refused before, why; on 21 with the causes of the holds
  abbrev pub enter_reply : Ticket → State m → Option Refusal → EnterAnswer
  enter_reply t s None = verdict_answer t s (verdict s t)
  enter_reply t s (Some x) = answer.Refused x (cond (number x == 21) (holds_on s t.login) no_cause)
