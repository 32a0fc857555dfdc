-- What a market holds: entries that rest, slips that wait. All in plain numbers; the firm is not in it, for a market knows logins only. Assumes nothing.
use Rattle.std.specs.Prelude.{ℕ, ◌+◌, Bool, cond, ◌&&◌, ◌||◌, List, [], ◌∷◌, map, length, replicate, ◌==◌}
-- a buyer and a seller by login and number, contracts and price
pub use Rattle.terms.specs.declared.events.Trade.{Trade}
use Rattle.terms.specs.declared.messages.Fill.{Fill}
use Rattle.terms.specs.Tables.{at, put, any_of}

-- an order or a quote that rests, with the contracts left
pub record Entry : Type 0 where
  pub login : ℕ
  pub number : ℕ
  pub side : ℕ
  pub kind : ℕ
  pub price : ℕ
  pub contracts : ℕ

-- what a login is told of a trade, while it waits to be taken
pub record Slip : Type 0 where
  pub number : ℕ
  pub side : ℕ
  pub contracts : ℕ
  pub price : ℕ

-- For each of 16 series the entries, for each of 24 logins the slips, oldest first; and how many slips there is room for.
pub record Book : Type 0 where
  pub resting : List (List Entry)
  pub slips : List (List Slip)
  pub room : ℕ

abbrev pub empty : ℕ → Book
empty room = record { resting = replicate 16 []; slips = replicate 24 []; room = room }

-- ---- which entries

-- an entry is found by login and number, in any series
abbrev pub is_for : (login number : ℕ) → Entry → Bool
is_for login number e = e.login == login && e.number == number

-- A reach says which kinds a sweep takes: 1 is quotes (kind 2), 2 orders (kind 1), 3 both.
abbrev pub reaches : (reach kind : ℕ) → Bool
reaches reach kind = reach == 3 || reach + kind == 3

-- the entries of a login within a reach
abbrev pub in_reach : (login reach : ℕ) → Entry → Bool
in_reach login reach e = e.login == login && reaches reach e.kind

-- ---- what rests, added up, counted and taken off

-- contracts of the entries that p picks, in a series
abbrev pub total : (Entry → Bool) → List Entry → ℕ
total p [] = 0
total p (e ∷ es) = cond (p e) e.contracts 0 + total p es

-- in all series
abbrev pub totals : (Entry → Bool) → List (List Entry) → ℕ
totals p [] = 0
totals p (es ∷ ess) = total p es + totals p ess

-- how many entries p picks, in a series
abbrev pub count : (Entry → Bool) → List Entry → ℕ
count p [] = 0
count p (e ∷ es) = cond (p e) 1 0 + count p es

-- in all series
abbrev pub counts : (Entry → Bool) → List (List Entry) → ℕ
counts p [] = 0
counts p (es ∷ ess) = count p es + counts p ess

-- p picks one in some series
abbrev pub any_in : (Entry → Bool) → List (List Entry) → Bool
any_in p ess = any_of (any_of p) ess

-- the entries that p does not pick
abbrev pub without : (Entry → Bool) → List Entry → List Entry
without p [] = []
without p (e ∷ es) = cond (p e) (without p es) (e ∷ without p es)

abbrev pub with_resting : Book → List (List Entry) → Book
with_resting b ess = record { resting = ess; slips = b.slips; room = b.room }

-- all entries that p picks are taken off
abbrev pub taken_off : (Entry → Bool) → Book → Book
taken_off p b = with_resting b (map (without p) b.resting)

-- ---- what waits

abbrev pub waiting_of : Book → (login : ℕ) → List Slip
waiting_of b login = at [] b.slips login

abbrev pub with_slips_of : Book → (login : ℕ) → List Slip → Book
with_slips_of b login ss = record { resting = b.resting; slips = put b.slips login ss; room = b.room }

abbrev pub slip_count : List (List Slip) → ℕ
slip_count [] = 0
slip_count (ss ∷ sss) = length ss + slip_count sss

-- one side of a trade as the slip that its login gets
abbrev pub slip_of : Fill → Slip
slip_of f = record { number = f.number; side = f.side; contracts = f.contracts; price = f.price }

-- a slip as it is handed out, with its login
abbrev pub handed : (login : ℕ) → Slip → Fill
handed login s = record { login = login; number = s.number; side = s.side; contracts = s.contracts; price = s.price }
