-- Sweeping some logins, each within a reach of its own: one after another, or by one test over all entries. Assumes nothing.
use Rattle.std.specs.Prelude.{◌≡◌, ℕ, zero, suc, ◌+◌, Bool, false, ◌&&◌, Some, None, Option, ◌==◌}
use Rattle.market.specs.Book.{Entry, Book, reaches, totals, taken_off}

-- within a reach, if there is one
abbrev pub reached_by : Option ℕ → (kind : ℕ) → Bool
reached_by None kind = false
reached_by (Some reach) kind = reaches reach kind

-- a cut gives the reach within which each login is swept, none for one that is left alone
abbrev pub Cut : Type 0
Cut = (login : ℕ) → Option ℕ

-- what it takes off of one login
abbrev pub in_cut : Cut → (login : ℕ) → Entry → Bool
in_cut cut login e = e.login == login && reached_by (cut login) e.kind

-- what it takes off of all
abbrev pub swept_by : Cut → Entry → Bool
swept_by cut e = reached_by (cut e.login) e.kind

-- what is left once the logins 1 to n were swept, one after another
abbrev pub swept_up_to : Cut → ℕ → Book → Book
swept_up_to cut zero b = b
swept_up_to cut (suc n) b = taken_off (in_cut cut (suc n)) (swept_up_to cut n b)

-- the contracts that these sweeps answer, added up
abbrev pub swept_sum : Cut → ℕ → Book → ℕ
swept_sum cut zero b = 0
swept_sum cut (suc n) b = swept_sum cut n b + totals (in_cut cut (suc n)) (swept_up_to cut n b).resting

-- Sweeping the 24 logins one after another takes off what the cut takes off, and answers its contracts.
pub record ByLogin (cut : Cut) (b : Book) : Type 0 where
  pub left : swept_up_to cut 24 b ≡ taken_off (swept_by cut) b
  pub sum : swept_sum cut 24 b ≡ totals (swept_by cut) b.resting
