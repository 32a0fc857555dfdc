-- Limit price: the reference, the exemptions, the distance, and what they make of a request. Assumes nothing.
use Rattle.std.specs.Prelude.{◌≡◌, ℕ, ◌+◌, ◌<◌, ◌≤◌, Bool, true, false, cond, not, ◌&&◌, List, [], ◌∷◌, Some, None, Ok, Err, Option, Result, nat_le, nat_lt, slice_index, codes}
use Rattle.terms.specs.declared.kinds.Side.{Side}
use Rattle.terms.specs.declared.kinds.Side.TheVariants.{Buy, Sell}
use Rattle.terms.specs.declared.kinds.Kind.{Kind}
use Rattle.terms.specs.declared.kinds.Kind.TheVariants.{Order, Quote}
use Rattle.terms.specs.declared.kinds.Role.{Role}
use Rattle.terms.specs.declared.kinds.Role.TheVariants.{Member, MarketMaker}
use Rattle.terms.specs.declared.kinds.Class.{Class}
use Rattle.terms.specs.declared.kinds.Class.TheVariants.{One, Two, Three, Four}
use Rattle.terms.specs.declared.kinds.Phase.{Phase}
use Rattle.terms.specs.declared.kinds.Phase.TheVariants.{BeforeOpening, Open, Halt}
use Rattle.terms.specs.declared.refusal.Refusal.{Refusal}
use Rattle.terms.specs.declared.refusal.Refusal.TheVariants.{LimitPrice}
use Rattle.terms.specs.declared.values.BidOffer.{BidOffer}
use Rattle.terms.specs.declared.values.Conditions.{Conditions}
use Rattle.terms.specs.declared.values.Request.{Request}
use Rattle.terms.specs.Refusals.{answer}
use Rattle.terms.specs.Ranges.{Price}
use Rattle.checks.specs.declared.pricing.Basis.{Basis}
use Rattle.checks.specs.declared.pricing.Basis.TheVariants as judged_by
use Rattle.checks.specs.declared.pricing.Exemption.{Exemption}
use Rattle.checks.specs.declared.pricing.Exemption.TheVariants as exempt

-- ---- the reference

-- both sides are there, with the bid at or above the offer
abbrev pub meet : Option Price → Option Price → Bool
meet None offer = false
meet (Some bid) None = false
meet (Some bid) (Some offer) = nat_le offer.value bid.value

abbrev pub crossed : BidOffer → Bool
crossed q = meet q.bid q.offer

-- what an order would trade with: for a buy the offer, for a sell the bid
abbrev pub facing : Side → BidOffer → Option Price
facing Buy q = q.offer
facing Sell q = q.bid

-- the other side: for a buy the bid, for a sell the offer
abbrev pub own : Side → BidOffer → Option Price
own Buy q = q.bid
own Sell q = q.offer

-- the national best bid and offer count while their flag is on and they are not crossed
abbrev pub usable : Conditions → Bool
usable c = c.flag && not (crossed c.national)

-- a price, if the test holds
abbrev pub provided : Bool → Option Price → Option Price
provided b p = cond b p None

-- the first of two prices that is there
abbrev pub or_else : Option Price → Option Price → Option Price
or_else None q = q
or_else (Some p) q = Some p

-- the close does not lie through a price of the order's own side: for a buy not below the bid, for a sell not above the offer
abbrev pub clear : Side → (close own : ℕ) → Bool
clear Buy close own = nat_le own close
clear Sell close own = nat_le close own

-- the close, unless it lies through the own side
abbrev pub clear_close : Side → (own close : Option Price) → Option Price
clear_close side None close = close
clear_close side (Some own) None = None
clear_close side (Some own) (Some close) = provided (clear side close.value own.value) (Some close)

-- by phase: the usable national price, and without it the close before the opening, the venue's own when open, nothing in a halt
abbrev pub reference_in : Phase → Side → Conditions → Option Price
reference_in BeforeOpening side c =
    or_else (provided (usable c) (facing side c.national)) (clear_close side (provided (usable c) (own side c.national)) c.close)
reference_in Open side c = or_else (provided (usable c) (facing side c.national)) (facing side c.venue)
reference_in Halt side c = provided (usable c) (facing side c.national)

-- what an order's price is held against, whether or not the order is exempt
abbrev pub reference : Side → Conditions → Option Price
reference side c = reference_in c.phase side c

-- ---- the exemptions

abbrev pub before_opening : Phase → Bool
before_opening BeforeOpening = true
before_opening Open = false
before_opening Halt = false

abbrev pub is_open : Phase → Bool
is_open BeforeOpening = false
is_open Open = true
is_open Halt = false

abbrev pub makes_markets : Role → Bool
makes_markets Member = false
makes_markets MarketMaker = true

-- how an exemption is printed
abbrev pub exemption_word : Exemption → List ℕ
exemption_word exempt.Stop = codes "stop order"
exemption_word exempt.Sweep = codes "intermarket sweep"
exemption_word exempt.MarketMaker = codes "market-maker"

-- stop orders always; intermarket sweeps but when open; market-makers before the opening
abbrev pub exemption : Request → Phase → Option Exemption
exemption q phase =
    cond q.marks.stop (Some exempt.Stop)
    (cond (q.marks.sweep && not (is_open phase)) (Some exempt.Sweep)
    (cond (makes_markets q.role && before_opening phase) (Some exempt.MarketMaker) None))

-- ---- the distance

-- the last price of each band but the highest
abbrev pub tops : List ℕ
tops = 99 ∷ 299 ∷ 999 ∷ 2999 ∷ 9999 ∷ []

-- how many of the tops a price lies above
abbrev pub above : ℕ → List ℕ → ℕ
above p [] = 0
above p (top ∷ ts) = cond (nat_lt top p) 1 0 + above p ts

abbrev pub band : ℕ → ℕ
band p = above p tops

-- cents, by band
abbrev pub distances : Class → List ℕ
distances One = 15 ∷ 25 ∷ 50 ∷ 80 ∷ 120 ∷ 200 ∷ []
distances Two = 4 ∷ 8 ∷ 20 ∷ 40 ∷ 80 ∷ 150 ∷ []
distances Three = 30 ∷ 50 ∷ 100 ∷ 160 ∷ 240 ∷ 400 ∷ []
distances Four = 2 ∷ 4 ∷ 10 ∷ 20 ∷ 40 ∷ 80 ∷ []

-- how far an order may be priced through a reference, which alone says the band
abbrev pub distance : Class → (reference : ℕ) → ℕ
distance class reference = slice_index (distances class) (band reference)

-- A higher reference never has a smaller distance, and class 3 is allowed twice what class 1 is.
pub record Scaled (class : Class) (reference d : ℕ) : Type 0 where
  pub wider : (p : ℕ) → p ≤ reference → distance class p ≤ d
  pub double : class ≡ Three → d ≡ distance One reference + distance One reference

-- ---- the judgement

-- a buy is past its limit above reference + distance, a sell where price + distance is below the reference
abbrev pub past : Side → (price reference distance : ℕ) → Bool
past Buy price reference distance = nat_lt (reference + distance) price
past Sell price reference distance = nat_lt (price + distance) reference

abbrev pub against : Class → Option Price → Basis
against class None = judged_by.NoReference
against class (Some p) = judged_by.Against p (distance class p.value)

abbrev pub unless_exempt : Option Exemption → Basis → Basis
unless_exempt None b = b
unless_exempt (Some e) b = judged_by.Exempt e

-- what a request is judged by
abbrev pub basis_of : Kind → Request → Conditions → Basis
basis_of Quote q c = judged_by.Quote
basis_of Order q c = unless_exempt (exemption q c.phase) (against c.class (reference q.side c))

abbrev pub basis : Request → Conditions → Basis
basis q c = basis_of q.kind q c

-- the distance that a request is allowed, 0 where none is asked for
abbrev pub allowed : Basis → ℕ
allowed judged_by.Quote = 0
allowed (judged_by.Exempt e) = 0
allowed judged_by.NoReference = 0
allowed (judged_by.Against p d) = d

abbrev pub if_past : Bool → Result (Unit {0}) Refusal
if_past true = Err LimitPrice
if_past false = Ok tt

abbrev pub judged_on : Request → Basis → Result (Unit {0}) Refusal
judged_on q judged_by.Quote = Ok tt
judged_on q (judged_by.Exempt e) = Ok tt
judged_on q judged_by.NoReference = Ok tt
judged_on q (judged_by.Against p d) = if_past (past q.side q.price.value p.value d)

abbrev pub limit_price : Request → Conditions → Result (Unit {0}) Refusal
limit_price q c = judged_on q (basis q c)

-- ---- laws

-- the last price that passes, and the first that does not
abbrev pub Edge : Side → (price reference distance n : ℕ) → Type 0
Edge Buy price p d n = (price ≤ p + d → n ≡ 0) × (p + d < price → n ≡ 43)
Edge Sell price p d n = (p ≤ price + d → n ≡ 0) × (price + d < p → n ≡ 43)

-- An order with a reference and no exemption passes up to the distance and not a cent beyond it.
abbrev pub Edges : Request → Conditions → Result (Unit {0}) Refusal → Type 0
Edges q c r =
    (p : Price) → q.kind ≡ Order → exemption q c.phase ≡ None → reference q.side c ≡ Some p → Edge q.side q.price.value p.value (distance c.class p.value) (answer r)
