-- An acronym's contracts: those accepted, receipted and cancelled by its part, and those that rest and wait in the book under the logins that it
-- holds. Assumes nothing.
use Rattle.std.specs.Prelude.{ℕ, ◌+◌, Bool, cond, ◌&&◌, List, [], ◌∷◌, ◌==◌}
use Rattle.terms.specs.Entered.{entered_effect}
use Rattle.terms.specs.declared.messages.Ticket.{Ticket}
use Rattle.terms.specs.declared.events.Event.{Event}
use Rattle.terms.specs.Tables.{up_to}
use Rattle.terms.specs.Answers.{ok_or0}
use Rattle.market.specs.Book.{Slip, totals, waiting_of}
use Rattle.checks.specs.Meaning.{Meaning}
use Rattle.history.specs.State.{State}
use Rattle.history.specs.Acts.{Act, Tick, Values, Open, Retire, Limit, Enter, Cancel, Take, Receipt, PutBack, Kill, Release, Answer, plain, amount, entered, taken, told, Moment, act, strike, moment}
use Rattle.history.specs.Part.{Item, own_call, own_side, accepted, has, own}

-- ---- from the part

-- the contracts that a call offers
abbrev pub offered : Act → ℕ
offered (Tick t) = 0
offered (Values n v) = 0
offered (Open l b role reach) = 0
offered (Retire l) = 0
offered (Limit x) = 0
offered (Enter t) = t.contracts
offered (Cancel l n) = 0
offered (Take l) = 0
offered (Receipt f) = 0
offered (PutBack f) = 0
offered (Kill scope reach block) = 0
offered (Release scope) = 0

-- the contracts that a call receipts
abbrev pub received : Act → ℕ
received (Tick t) = 0
received (Values n v) = 0
received (Open l b role reach) = 0
received (Retire l) = 0
received (Limit x) = 0
received (Enter t) = 0
received (Cancel l n) = 0
received (Take l) = 0
received (Receipt f) = f.contracts
received (PutBack f) = 0
received (Kill scope reach block) = 0
received (Release scope) = 0

-- the contracts cancelled that an answer tells
abbrev pub cancelled : Answer → ℕ
cancelled (plain r) = 0
cancelled (amount r) = ok_or0 r
cancelled (entered x) = (entered_effect x).cancelled
cancelled (taken r) = 0
cancelled (told x) = x.cancelled

abbrev pub when_call : (Act → ℕ) → Item → ℕ
when_call f (own_call c) = f c
when_call f (own_side x) = 0

-- an entry that is accepted counts with all its contracts, also where the same call sweeps it again
abbrev pub accepted_by : Item × Answer → ℕ
accepted_by x = cond (accepted x.1) (when_call offered x.0) 0

abbrev pub receipted_by : Item × Answer → ℕ
receipted_by x = cond (accepted x.1) (when_call received x.0) 0

abbrev pub cancelled_by : Item × Answer → ℕ
cancelled_by x = cancelled x.1

abbrev pub summed : (Item × Answer → ℕ) → List (Item × Answer) → ℕ
summed f [] = 0
summed f (x ∷ xs) = f x + summed f xs

module _ (m : Meaning) (p : m.Pub) (room a : ℕ) where
  abbrev pub accepted_contracts : List Event → ℕ
  accepted_contracts h = summed accepted_by (own m p room a h)

  abbrev pub receipted_contracts : List Event → ℕ
  receipted_contracts h = summed receipted_by (own m p room a h)

  abbrev pub cancelled_contracts : List Event → ℕ
  cancelled_contracts h = summed cancelled_by (own m p room a h)

-- ---- from the book

abbrev pub on_slips : List Slip → ℕ
on_slips [] = 0
on_slips (s ∷ ss) = s.contracts + on_slips ss

module _ {m : Meaning} where
  -- on slips that wait, one that is out included
  abbrev pub waiting_contracts : (a : ℕ) → State m → ℕ
  waiting_contracts a s = up_to 24 (λ l. cond (has a s l) (on_slips (waiting_of s.book l)) 0)

  abbrev pub resting_contracts : (a : ℕ) → State m → ℕ
  resting_contracts a s = totals (λ e. has a s e.login) s.book.resting

-- ---- the entries accepted of a login since its last opening, by the events alone

abbrev pub notes : Act → (login : ℕ) → List Ticket → List Ticket
notes (Tick t) login before = before
notes (Values n v) login before = before
notes (Open l a role reach) login before = cond (l == login) [] before
notes (Retire l) login before = before
notes (Limit x) login before = before
notes (Enter t) login before = cond (t.login == login) (t ∷ before) before
notes (Cancel l n) login before = before
notes (Take l) login before = before
notes (Receipt f) login before = before
notes (PutBack f) login before = before
notes (Kill scope reach block) login before = before
notes (Release scope) login before = before

abbrev pub noted_after : Moment → (login : ℕ) → List Ticket → List Ticket
noted_after (act c r) login before = cond (accepted r) (notes c login before) before
noted_after (strike r) login before = before

abbrev pub accepted_in : List Event → (login : ℕ) → List Ticket
accepted_in [] login = []
accepted_in (e ∷ h) login = noted_after (moment e) login (accepted_in h login)

-- a slip names an entry by login, number and side
abbrev pub names : (login : ℕ) → Slip → Ticket → Bool
names login s t = t.login == login && (t.number == s.number && t.side == s.side)
