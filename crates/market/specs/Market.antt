-- What each function of a market answers, and does to its book. Every answer is given under its condition and under no other.
-- Free is only which crossing pair is struck, how much and at what price. Assumes nothing.
use Rattle.std.specs.Prelude.{◌≡◌, ℕ, ◌+◌, ◌-◌, Bool, true, false, cond, not, ◌&&◌, List, [], ◌∷◌, ◌++◌, map, Some, None, Ok, Err, Option, Result, ◌==◌, nat_eq, nat_le, nat_lt}
use Rattle.terms.specs.declared.messages.Fill.{Fill}
use Rattle.terms.specs.declared.refusal.Refusal.{Refusal}
use Rattle.terms.specs.declared.refusal.Refusal.TheVariants.{InUse, Allotment, NoOrder, SlipsFull}
use Rattle.terms.specs.Tables.{at, put, any_of}
use Rattle.terms.specs.Answers.{first_of, Does}
use Rattle.market.specs.Book.{Entry, Slip, Trade, Book, empty, is_for, in_reach, totals, counts, any_in, with_resting, taken_off, waiting_of, with_slips_of, slip_count, slip_of}

-- ---- rest puts an entry last in its series

-- 31 where the login rests that number already, else 32 where it rests 16 entries
abbrev pub rest_refusal : Book → Entry → Option Refusal
rest_refusal b e =
    first_of
    ((any_in (is_for e.login e.number) b.resting, InUse)
    ∷ (nat_le 16 (counts (λ o. nat_eq o.login e.login) b.resting), Allotment)
    ∷ [])

abbrev pub rested : Book → (series : ℕ) → Entry → Book
rested b series e = with_resting b (put b.resting series (at [] b.resting series ++ (e ∷ [])))

abbrev pub Rested : Book → (series : ℕ) → Entry → Result (Unit {0}) Refusal → Book → Type 0
Rested b series e r a = Does (rest_refusal b e) tt b (rested b series e) r a

-- ---- withdraw takes off a login's entry by number, and answers its contracts left

abbrev pub withdraw_refusal : Book → (login number : ℕ) → Option Refusal
withdraw_refusal b login number = first_of ((not (any_in (is_for login number) b.resting), NoOrder) ∷ [])

abbrev pub Withdrawn : Book → (login number : ℕ) → Result ℕ Refusal → Book → Type 0
Withdrawn b login number r a =
    Does (withdraw_refusal b login number) (totals (is_for login number) b.resting) b (taken_off (is_for login number) b) r a

-- ---- sweep takes off a login's entries within a reach, and answers their contracts

abbrev pub Swept : Book → (login reach : ℕ) → ℕ → Book → Type 0
Swept b login reach r a = (r ≡ totals (in_reach login reach) b.resting) × (a ≡ taken_off (in_reach login reach) b)

-- ---- strike trades a buy with a sell of its series that is not priced above it

abbrev pub buy_side : Trade → Fill
buy_side t = record { login = t.buyer.login; number = t.buyer.number; side = 1; contracts = t.contracts; price = t.price }

abbrev pub sell_side : Trade → Fill
sell_side t = record { login = t.seller.login; number = t.seller.number; side = 2; contracts = t.contracts; price = t.price }

-- one side of a trade names its entry by login, number and side
abbrev pub fills : Fill → Entry → Bool
fills f e = is_for f.login f.number e && e.side == f.side

-- a buy is priced at or above a sell
abbrev pub cross : (buy sell : Entry) → Bool
cross buy sell = buy.side == 1 && (sell.side == 2 && nat_le sell.price buy.price)

-- some series has a buy priced at or above a sell
abbrev pub crosses : Book → Bool
crosses b = any_of (λ es. any_of (λ buy. any_of (λ sell. cross buy sell) es) es) b.resting

-- fewer than two slip places are free
abbrev pub slips_full : Book → Bool
slips_full b = nat_lt b.room (slip_count b.slips + 2)

-- an entry that a side of a trade may fill: it has the contracts
abbrev pub fillable : Fill → Entry → Bool
fillable f e = fills f e && nat_le f.contracts e.contracts

-- a trade that a market may make: 1 or more contracts of a buy and a sell of one series, at a price from the sell's to the buy's
abbrev pub tradeable : Book → Trade → Bool
tradeable b t =
    nat_le 1 t.contracts
    && any_of
    (λ es.
    any_of (λ e. fillable (buy_side t) e && nat_le t.price e.price) es
    && any_of (λ e. fillable (sell_side t) e && nat_le e.price t.price) es)
    b.resting

abbrev pub less : ℕ → Entry → Entry
less n e = record { login = e.login; number = e.number; side = e.side; kind = e.kind; price = e.price; contracts = e.contracts - n }

-- an entry left with 0 goes
abbrev pub keep : Entry → List Entry → List Entry
keep e es = cond (e.contracts == 0) es (e ∷ es)

-- the entry that a side of a trade fills loses the contracts, and keeps its place
abbrev pub filled_in : Fill → List Entry → List Entry
filled_in f [] = []
filled_in f (e ∷ es) = cond (fills f e) (keep (less f.contracts e) (filled_in f es)) (e ∷ filled_in f es)

-- what one side of a trade does: its entry is filled, and its login gets a slip, last
abbrev pub side_traded : Fill → Book → Book
side_traded f b = with_slips_of (with_resting b (map (filled_in f) b.resting)) f.login (waiting_of b f.login ++ (slip_of f ∷ []))

-- the buyer's slip first
abbrev pub traded : Trade → Book → Book
traded t b = side_traded (sell_side t) (side_traded (buy_side t) b)

-- none where nothing crosses; 33 where something does and fewer than two slip places are free; else a trade
abbrev pub MayStrike : Book → Result (Option Trade) Refusal → Type 0
MayStrike b (Ok None) = crosses b ≡ false
MayStrike b (Err x) = (x ≡ SlipsFull) × (crosses b ≡ true) × (slips_full b ≡ true)
MayStrike b (Ok (Some t)) = (tradeable b t ≡ true) × (slips_full b ≡ false)

abbrev pub struck_book : Book → Result (Option Trade) Refusal → Book
struck_book b (Ok None) = b
struck_book b (Err x) = b
struck_book b (Ok (Some t)) = traded t b

abbrev pub Struck : Book → Result (Option Trade) Refusal → Book → Type 0
Struck b r a = MayStrike b r × (a ≡ struck_book b r)

-- ---- first slip shows, and drop removes, a login's oldest slip; without one either answers none

abbrev pub oldest : List Slip → Option Slip
oldest [] = None
oldest (s ∷ ss) = Some s

abbrev pub younger : List Slip → List Slip
younger [] = []
younger (s ∷ ss) = ss

abbrev pub Shown : Book → (login : ℕ) → Option Slip → Type 0
Shown b login r = r ≡ oldest (waiting_of b login)

abbrev pub dropped : Book → (login : ℕ) → Book
dropped b login = with_slips_of b login (younger (waiting_of b login))

abbrev pub Dropped : Book → (login : ℕ) → Option Slip → Book → Type 0
Dropped b login r a = (r ≡ oldest (waiting_of b login)) × (a ≡ dropped b login)

-- ---- bare tells whether nothing rests and nothing waits

abbrev pub Bare : Book → Bool → Type 0
Bare b true = b ≡ empty b.room
Bare b false = b ≡ empty b.room → ⊥
