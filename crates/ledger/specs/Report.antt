-- The lines of the hand-over. Assumes nothing.
use Rattle.std.specs.Prelude.{ℕ, ◌+◌, ◌-◌, Bool, true, false, cond, List, [], ◌∷◌, ◌++◌, Some, None, codes, decimal, Option}
use Rattle.std.specs.List.{list_any}
use Rattle.ledger.specs.declared.sums.Sums.{Sums}
use Rattle.ledger.specs.declared.report.Standing.{Standing}
use Rattle.ledger.specs.declared.report.Standing.TheVariants as standing
use Rattle.ledger.specs.declared.report.Listing.{Listing}
use Rattle.ledger.specs.declared.report.Listing.TheVariants.{Free, Open, Leaving}

-- ---- logins

abbrev pub word_of : Listing → List ℕ
word_of Free = codes "free"
word_of Open = codes "open"
word_of Leaving = codes "leaving"

abbrev pub is_among : Listing → Standing → Bool
is_among Free standing.Free = true
is_among Free (standing.Open a) = false
is_among Free (standing.Leaving a) = false
is_among Open standing.Free = false
is_among Open (standing.Open a) = true
is_among Open (standing.Leaving a) = false
is_among Leaving standing.Free = false
is_among Leaving (standing.Open a) = false
is_among Leaving (standing.Leaving a) = true

-- an open login and a leaving one are listed with their firm
abbrev pub firm_of : Standing → Option ℕ
firm_of standing.Free = None
firm_of (standing.Open a) = Some a
firm_of (standing.Leaving a) = Some a

abbrev pub entry_text : (login : ℕ) → Option ℕ → List ℕ
entry_text login None = 32 ∷ decimal login
entry_text login (Some a) = 32 ∷ (decimal login ++ (codes " (acronym " ++ (decimal a ++ codes ")")))

-- the logins that are listed, of those from a number on
abbrev pub listed : Listing → (login : ℕ) → List Standing → List ℕ
listed listing login [] = []
listed listing login (s ∷ ss) =
    cond (is_among listing s) (entry_text login (firm_of s)) [] ++ listed listing (login + 1) ss

abbrev pub or_none : Listing → List Standing → List ℕ
or_none listing ss = cond (list_any (is_among listing) ss) (listed listing 1 ss) (codes " none")

abbrev pub logins_text : Listing → List Standing → List ℕ
logins_text listing ss = word_of listing ++ (codes ":" ++ or_none listing ss)

-- ---- firms

abbrev pub firm_text : (acronym : ℕ) → Sums → List ℕ
firm_text a s =
    codes "acronym " ++ (decimal a ++ (codes ": accepted " ++ (decimal s.accepted ++ (codes ", receipted " ++ (decimal s.receipted ++ (codes ", cancelled " ++ (decimal s.cancelled ++ (codes ", in the venue " ++ decimal (s.accepted - s.receipted - s.cancelled)))))))))
