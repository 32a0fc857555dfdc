-- What a check means: its records, its judgement, and what a notice does to them. Assumes nothing.
-- A check keeps a public record, and a private one for each acronym (a firm). Whom a notice touches and which ones can trip holds
-- by the definitions below, whatever a check does with them.
use Rattle.std.specs.Prelude.{◌≡◌, ℕ, suc, ◌≤◌, Bool, true, false, cond, ◌||◌, ◌⊎◌, List, [], ◌∷◌, Ok, Err, Result, ◌==◌}
use Rattle.terms.specs.declared.bounded.Bounded.{Bounded}
use Rattle.terms.specs.declared.messages.Asked.{Asked}
use Rattle.terms.specs.declared.messages.Causes.{Causes}
use Rattle.terms.specs.declared.messages.Notice.{Notice}
use Rattle.terms.specs.declared.messages.Notice.TheVariants.{Ticked, Valued, Opened, Closed, Limited, Released, Entered, TurnedDown, Filled}

pub record Meaning : Type 1 where
  pub Pub : Type 0
  pub Priv : Type 0
  -- the records of a new gate: what was set when the check was made stays in the public one
  pub renewed : Pub → Pub
  pub fresh : Pub → Priv
  -- 0, or a number from 41 to 59
  pub judged : Asked → Pub → Priv → ℕ
  pub public_after : Notice → Pub → Pub
  pub private_after : Notice → Pub → Priv → Priv
  pub causes : Notice → Pub → Priv → Causes

-- the number that a judgement gives: 0 where the entry passes
abbrev pub turned_down : Result (Unit {0}) (Bounded 41 59) → ℕ
turned_down (Ok u) = 0
turned_down (Err n) = n.value

-- Only the numbers of turn-downs are given by a judgement.
pub record Lawful (m : Meaning) : Type 0 where
  pub range : (e : Asked) (p : m.Pub) (q : m.Priv) → (m.judged e p q ≡ 0) ⊎ ((41 ≤ m.judged e p q) × (m.judged e p q ≤ 59))

-- the notice is everybody's
abbrev pub for_all : Notice → Bool
for_all (Ticked t) = true
for_all (Valued n v) = true
for_all (Opened a l r c) = false
for_all (Closed a l) = false
for_all (Limited a x) = false
for_all (Released a s) = false
for_all (Entered k) = false
for_all (TurnedDown k n) = false
for_all (Filled a f) = false

-- whom it names: 0 for nobody
abbrev pub whose : Notice → ℕ
whose (Ticked t) = 0
whose (Valued n v) = 0
whose (Opened a l r c) = a
whose (Closed a l) = a
whose (Limited a x) = a
whose (Released a s) = a
whose (Entered k) = k.acronym
whose (TurnedDown k n) = k.acronym
whose (Filled a f) = a

-- only an entry, a turn-down and a fill can trip
abbrev pub trips : Notice → Bool
trips (Ticked t) = false
trips (Valued n v) = false
trips (Opened a l r c) = false
trips (Closed a l) = false
trips (Limited a x) = false
trips (Released a s) = false
trips (Entered k) = true
trips (TurnedDown k n) = true
trips (Filled a f) = true

abbrev pub no_cause : Causes
no_cause = record { login = 0; acronym = 0 }

-- the public record changes by a notice that is everybody's
abbrev pub told_public : (m : Meaning) → Notice → m.Pub → m.Pub
told_public m n p = cond (for_all n) (m.public_after n p) p

-- the private record of an acronym changes by a notice that is everybody's or its own
abbrev pub told_private : (m : Meaning) → (acronym : ℕ) → Notice → m.Pub → m.Priv → m.Priv
told_private m a n p q = cond (for_all n || whose n == a) (m.private_after n p q) q

abbrev pub told_causes : (m : Meaning) → Notice → m.Pub → m.Priv → Causes
told_causes m n p q = cond (trips n) (m.causes n p q) no_cause

-- the private records of the acronyms from a on
abbrev pub told_each : (m : Meaning) → (from : ℕ) → Notice → m.Pub → List m.Priv → List m.Priv
told_each m a n p [] = []
told_each m a n p (q ∷ qs) = told_private m a n p q ∷ told_each m (suc a) n p qs
