-- What holds of the book of any market that was driven by a gate. Assumes nothing.
use Rattle.std.specs.Prelude.{◌≡◌, ℕ, ◌≤◌, true, List, nat_eq}
use Rattle.std.specs.List.{AllByRecursion}
use Rattle.market.specs.Book.{Entry, Trade, Book, is_for, in_reach, totals, counts}
use Rattle.market.specs.Market.{crosses, tradeable}

-- an entry has contracts left, and no more than a ticket can ask for
abbrev pub Left : Entry → Type 0
Left e = (1 ≤ e.contracts) × (e.contracts ≤ 65535)

-- A login rests a number at most once, and 16 entries at most; each has contracts left. So what a sweep of it answers is small.
pub record Orderly (ess : List (List Entry)) : Type 0 where
  pub once : (login number : ℕ) → counts (is_for login number) ess ≤ 1
  pub sixteen : (login : ℕ) → counts (λ e. nat_eq e.login login) ess ≤ 16
  pub left : AllByRecursion (AllByRecursion Left) ess

abbrev pub SmallSweeps : List (List Entry) → Type 0
SmallSweeps ess = (login reach : ℕ) → totals (in_reach login reach) ess ≤ 1048560

-- Something crosses exactly where a trade may be made: none, 33 and a trade leave no gap between them.
pub record Settled (b : Book) : Type 0 where
  pub pair_trades : crosses b ≡ true → (t : Trade) × (tradeable b t ≡ true)
  pub trade_crosses : (t : Trade) → tradeable b t ≡ true → crosses b ≡ true
