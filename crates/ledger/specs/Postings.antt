-- What the ledger writes down of an event, and what the events of a day come to. Assumes nothing.
use Rattle.std.specs.Prelude.{ℕ, Bool, false, cond, ◌||◌, List, [], ◌∷◌, replicate, Some, None, Ok, Err, Option, Result, ◌==◌}
use Rattle.terms.specs.declared.refusal.Refusal.{Refusal}
use Rattle.terms.specs.declared.messages.ScopeNumber.{ScopeNumber}
use Rattle.terms.specs.declared.messages.ScopeNumber.TheVariants.{Login, Acronym}
use Rattle.terms.specs.declared.messages.Fill.{Fill}
use Rattle.terms.specs.declared.messages.Ticket.{Ticket}
use Rattle.terms.specs.declared.events.EnterAnswer.{EnterAnswer}
use Rattle.terms.specs.declared.events.Struck.{Struck}
use Rattle.terms.specs.Entered.{entered_effect, entered_number}
use Rattle.terms.specs.declared.events.Event.{Event}
use Rattle.terms.specs.declared.events.Event.TheVariants.{Tick, Values, Open, Retire, Limit, Enter, Cancel, Strike, Take, Receipt, PutBack, Kill, Release}
use Rattle.terms.specs.Tables.{at, put}
use Rattle.ledger.specs.declared.sums.Sums.{Sums}
use Rattle.ledger.specs.declared.postings.Item.{Item}
use Rattle.ledger.specs.declared.postings.Posting.{Posting}
use Rattle.ledger.specs.declared.postings.Posting.TheVariants.{Opened, Contracts, Sides}
use Rattle.ledger.specs.Sums.{sums, nothing, plus}

-- ---- one event

abbrev pub item : ScopeNumber → Sums → Item
item scope s = record { scope = scope; sums = s }

abbrev pub cancelling : ScopeNumber → ℕ → Item
cancelling scope n = item scope (sums 0 0 n)

-- an entry that is accepted counts with all its contracts, also where the same call sweeps it again
abbrev pub accepting : Ticket → EnterAnswer → Item
accepting t r = item (Login t.login) (sums (cond (entered_number r == 0) t.contracts 0) 0 (entered_effect r).cancelled)

abbrev pub receipting : Fill → Item
receipting f = item (Login f.login) (sums 0 f.contracts 0)

-- what a call comes to that is answered at all, and nothing where it is refused
abbrev pub if_done : {X : Type 0} → Result X Refusal → (X → Option Posting) → Option Posting
if_done (Ok x) f = f x
if_done (Err e) f = None

abbrev pub striking : Option Struck → Option Posting
striking None = None
striking (Some x) =
    Some (Sides (cancelling (Login x.trade.buyer.login) x.buy.cancelled) (cancelling (Login x.trade.seller.login) x.sell.cancelled))

abbrev pub posting : Event → Option Posting
posting (Tick t r) = None
posting (Values n v r) = None
posting (Open l a role reach r) = if_done r (λ u. Some (Opened l a))
posting (Retire l r) = if_done r (λ n. Some (Contracts (cancelling (Login l) n)))
posting (Limit x r) = None
posting (Enter t r) = Some (Contracts (accepting t r))
posting (Cancel l n r) = if_done r (λ k. Some (Contracts (cancelling (Login l) k)))
posting (Strike r) = if_done r striking
posting (Take l r) = None
posting (Receipt f r) = if_done r (λ u. Some (Contracts (receipting f)))
posting (PutBack f r) = None
posting (Kill s reach block r) = if_done r (λ n. Some (Contracts (cancelling s n)))
posting (Release s r) = None

-- ---- a day, the newest event first

-- an opening gives its login to its firm
abbrev pub held_after : Option Posting → List (Option ℕ) → List (Option ℕ)
held_after None table = table
held_after (Some (Opened l a)) table = put table l (Some a)
held_after (Some (Contracts i)) table = table
held_after (Some (Sides i j)) table = table

-- the firm that each of 24 logins was last opened for
abbrev pub holders : List Event → List (Option ℕ)
holders [] = replicate 24 None
holders (e ∷ h) = held_after (posting e) (holders h)

abbrev pub whose : List (Option ℕ) → ScopeNumber → Option ℕ
whose table (Login l) = at None table l
whose table (Acronym a) = Some a

abbrev pub is_firm : (a : ℕ) → Option ℕ → Bool
is_firm a None = false
is_firm a (Some b) = b == a

-- what of an item is the firm a's
abbrev pub share : (a : ℕ) → List (Option ℕ) → Item → Sums
share a table i = cond (is_firm a (whose table i.scope)) i.sums nothing

-- the firm a's contracts with what a posting adds to them
abbrev pub total_after : (a : ℕ) → List (Option ℕ) → Option Posting → Sums → Sums
total_after a table None s = s
total_after a table (Some (Opened l b)) s = s
total_after a table (Some (Contracts i)) s = plus (share a table i) s
total_after a table (Some (Sides i j)) s = plus (share a table j) (plus (share a table i) s)

abbrev pub total : (a : ℕ) → List Event → Sums
total a [] = nothing
total a (e ∷ h) = total_after a (holders h) (posting e) (total a h)

abbrev pub opens : (a : ℕ) → Option Posting → Bool
opens a None = false
opens a (Some (Opened l b)) = b == a
opens a (Some (Contracts i)) = false
opens a (Some (Sides i j)) = false

-- a login was opened for the firm a
abbrev pub opened : (a : ℕ) → List Event → Bool
opened a [] = false
opened a (e ∷ h) = opens a (posting e) || opened a h
