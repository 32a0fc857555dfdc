-- What holds of every run of a gate, over any check and any market. Assumes nothing.
use Rattle.std.specs.Prelude.{◌≡◌, ℕ, ◌+◌, ◌≤◌, true, ◌||◌, ◌↔◌, List, ◌∷◌, Ok}
use Rattle.terms.specs.Entered.{entered_number}
use Rattle.terms.specs.declared.messages.Fill.{Fill}
use Rattle.terms.specs.declared.messages.Ticket.{Ticket}
use Rattle.terms.specs.declared.messages.ScopeNumber.TheVariants.{Login, Acronym}
use Rattle.terms.specs.declared.events.EnterAnswer.{EnterAnswer}
use Rattle.terms.specs.declared.events.Event.{Event}
use Rattle.terms.specs.declared.events.Event.TheVariants.{Enter, Take}
use Rattle.terms.specs.Tables.{any_of}
use Rattle.market.specs.Book.{slip_of}
use Rattle.checks.specs.Meaning.{Meaning}
use Rattle.history.specs.Fields.{good_ticket}
use Rattle.history.specs.State.{nonzero}
use Rattle.history.specs.Step.{reached, Happens}
use Rattle.history.specs.Part.{part_of, answers_of}
use Rattle.history.specs.Tally.{accepted_contracts, receipted_contracts, cancelled_contracts, waiting_contracts, resting_contracts, accepted_in, names}
use Rattle.history.specs.Held.{firm_in, valued_in, held_in}

-- the number of an acronym, a firm
abbrev pub Firm : ℕ → Type 0
Firm a = (1 ≤ a) × (a ≤ 8)

-- Isolation. Where an acronym's parts of two runs are alike, so are its answers, whatever others sent and the markets chose. The checks start
-- with the same records; the markets and their room for slips may differ.
abbrev pub Isolation : Meaning → Type 0
Isolation m =
    (p : m.Pub) (room₁ room₂ a : ℕ) (h k : List Event) → Firm a → Happens m p room₁ h → Happens m p room₂ k
    → part_of m p room₁ a h ≡ part_of m p room₂ a k → answers_of m p room₁ a h ≡ answers_of m p room₂ a k

-- Contract sum. Of each acronym, after every event: as many contracts were accepted as were receipted, wait on slips, rest and were cancelled.
abbrev pub Balance : (m : Meaning) → m.Pub → (room a : ℕ) → List Event → Type 0
Balance m p room a h =
    accepted_contracts m p room a h
    ≡ ((receipted_contracts m p room a h + waiting_contracts a (reached m p room h)) + resting_contracts a (reached m p room h))
    + cancelled_contracts m p room a h

pub record ContractSum (m : Meaning) : Type 0 where
  pub balance : (p : m.Pub) (room a : ℕ) (h : List Event) → Firm a → Happens m p room h → Balance m p room a h
  -- every slip taken names an entry accepted since its login's last opening
  pub named :
      (p : m.Pub) (room login : ℕ) (f : Fill) (h : List Event) → Happens m p room (Take login (Ok f) ∷ h)
      → any_of (names f.login (slip_of f)) (accepted_in h f.login) ≡ true

-- Holds. An entry with good fields, of an open login, in a series with values is answered 21 exactly when its login or its acronym is held.
abbrev pub Holds : Meaning → Type 0
Holds m =
    (p : m.Pub) (room : ℕ) (h : List Event) (t : Ticket) (r : EnterAnswer) → Happens m p room (Enter t r ∷ h)
    → good_ticket t ≡ true → nonzero (firm_in h t.login) ≡ true → valued_in h t.series ≡ true
    → (entered_number r ≡ 21) ↔ ((held_in h (Login t.login) || held_in h (Acronym (firm_in h t.login))) ≡ true)

-- ---- all three, of one run: what a gate can promise of its own day, as far as it has come

pub record Promised (m : Meaning) (p : m.Pub) (room : ℕ) (h : List Event) : Type 0 where
  pub isolation :
      (room₂ a : ℕ) (k : List Event) → Firm a → Happens m p room₂ k → part_of m p room a h ≡ part_of m p room₂ a k
      → answers_of m p room a h ≡ answers_of m p room₂ a k
  pub balance : (a : ℕ) → Firm a → Balance m p room a h
  pub named :
      (login : ℕ) (f : Fill) (before : List Event) → h ≡ Take login (Ok f) ∷ before
      → any_of (names f.login (slip_of f)) (accepted_in before f.login) ≡ true
  pub holds :
      (t : Ticket) (r : EnterAnswer) (before : List Event) → h ≡ Enter t r ∷ before → good_ticket t ≡ true
      → nonzero (firm_in before t.login) ≡ true → valued_in before t.series ≡ true
      → (entered_number r ≡ 21) ↔ ((held_in before (Login t.login) || held_in before (Acronym (firm_in before t.login))) ≡ true)

abbrev pub EveryDay : Meaning → Type 0
EveryDay m = (p : m.Pub) (room : ℕ) (h : List Event) → Happens m p room h → Promised m p room h
