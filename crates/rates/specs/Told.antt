-- Each window by all that a check was told since it was new: which notices are for it, and what they come to. Assumes nothing.
use Rattle.std.specs.Prelude.{◌≡◌, ℕ, ◌≤◌, Bool, cond, ◌&&◌, List, [], ◌∷◌, replicate, ◌==◌}
use Rattle.terms.specs.declared.messages.Causes.{Causes}
use Rattle.terms.specs.declared.messages.Notice.{Notice}
use Rattle.checks.specs.Meaning.{whose, told_each}
use Rattle.rates.specs.declared.windows.Rate.{Rate}
use Rattle.rates.specs.declared.windows.Rate.TheVariants.{Entries, Fills, TurnDowns}
use Rattle.rates.specs.Runs.{Act, aside, trips_now}
use Rattle.rates.specs.Scopes.{act, cause_or}
use Rattle.rates.specs.Firms.{login_of, for_firm, FirmView, new_firm, time_after, rates}

-- the time after these notices, the newest first
abbrev pub clock : List Notice → ℕ
clock [] = 0
clock (n ∷ ns) = time_after n (clock ns)

-- the clock never goes back
abbrev pub Forward : List Notice → Type 0
Forward [] = Unit {0}
Forward (n ∷ ns) = (clock ns ≤ clock (n ∷ ns)) × Forward ns

-- the private records of a new check that was told these notices
abbrev pub firms_after : List Notice → List FirmView
firms_after [] = replicate 8 new_firm
firms_after (n ∷ ns) = told_each rates 1 n (clock ns) (firms_after ns)

-- the notices that are for the windows of the firm a as a whole
abbrev pub of_firm : (a : ℕ) → Notice → Bool
of_firm a n = whose n == a && for_firm n

-- those for the windows of its login l
abbrev pub of_login : (a l : ℕ) → Notice → Bool
of_login a l n = whose n == a && login_of n == l

-- all that befell a window: of each notice, what it is to the window if it is for it
abbrev pub acts : (mine : Notice → Bool) → Rate → List Notice → List Act
acts mine k [] = []
acts mine k (n ∷ ns) = cond (mine n) (act k (clock ns) n) aside ∷ acts mine k ns

-- the cause that a scope gives at the newest notice, by the definition of its three windows
abbrev pub cause_over : (mine : Notice → Bool) → List Notice → ℕ
cause_over mine ns =
    cause_or Entries (trips_now (acts mine Entries ns))
    (cause_or Fills (trips_now (acts mine Fills ns))
    (cause_or TurnDowns (trips_now (acts mine TurnDowns ns)) 0))

-- the causes for a firm and its login at the newest notice
abbrev pub causes_over : (a l : ℕ) → List Notice → Causes
causes_over a l ns = record { login = cause_over (of_login a l) ns; acronym = cause_over (of_firm a) ns }

-- Of whatever notices these are the records of a check, r is what the definition gives over all of them, for a firm from 1 to 8 and a
-- login from 1 to 24.
abbrev pub AsTold : Causes → Notice → (time : ℕ) → List FirmView → Type 0
AsTold r n time firms =
    (ns : List Notice) → Forward ns → time ≡ clock ns → firms ≡ firms_after ns → 1 ≤ whose n → whose n ≤ 8 → 1 ≤ login_of n → login_of n ≤ 24
    → r ≡ causes_over (whose n) (login_of n) (n ∷ ns)
