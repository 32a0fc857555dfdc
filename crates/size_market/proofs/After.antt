-- What a trade leaves of its round: the makers after the one that traded, and the taker with the contracts that it has left.
use Rattle.std.proofs.Common.{◌≡◌, ℕ, suc, ◌+◌, ◌-◌, ◌<◌, ◌≤◌, Bool, true, false, cond, ◌&&◌, eqb, ltb, List, ◌∷◌, ◌++◌, length, take, drop, Some, sym, refl, ap, ◌∙◌, subst, ⊎_elim, add-zero, arith, drop_at}
use lib.Seq.{drop-append-add}
use Rattle.std.proofs.lemmas.Bool.{cases_lt, and_parts, and_from, eqb-true, eq-eqb, ne_eqb, lt-ltb, le-ltb}
use Rattle.chains.specs.Asks.{oldest}
use Rattle.terms.specs.Kinds.{side_number}
use Rattle.terms.specs.declared.kinds.Side.{Side}
use Rattle.terms.specs.declared.kinds.Side.TheVariants.{Buy, Sell}
use Rattle.market.specs.Book.{Entry, is_for, count}
use Rattle.market.specs.Market.{fills, less, keep, filled_in, buy_side, sell_side}
use Rattle.tables.specs.Cross.{at_price, fill_of, names, trade_of, Stands}
use Rattle.tables.proofs.Leaving.{Left, left, filled_stands}
use Rattle.tables.proofs.Pairs.{is_for_self, unfilled_stands}
use Rattle.size_market.specs.Size.{other_side, makers_at}
use Rattle.size_market.proofs.Facing.{buyer, seller, Known}

-- ---- a series after a trade

-- the makers, and the taker where something is left of it
pub record Leaves (es after : List Entry) (taker maker : Entry) (price n p : ℕ) : Type 0 where
  pub makers : makers_at taker price after ≡ take p (makers_at taker price es) ++ keep (less n maker) (drop (suc p) (makers_at taker price es))
  pub stands : n < taker.contracts → Stands after (less n taker)

-- a trade's sides as the fills of its entries
buy_fill : (buy sell : Entry) (n price : ℕ) → buy.side ≡ 1 → buy_side (trade_of buy sell n price) ≡ fill_of buy n price
buy_fill buy sell n price e = λ i. record { login = buy.login; number = buy.number; side = sym e i; contracts = n; price = price }

sell_fill : (buy sell : Entry) (n price : ℕ) → sell.side ≡ 2 → sell_side (trade_of buy sell n price) ≡ fill_of sell n price
sell_fill buy sell n price e = λ i. record { login = sell.login; number = sell.number; side = sym e i; contracts = n; price = price }

-- what the trade makes of the series
abbrev pub both : (buy sell : Entry) (n price : ℕ) → List Entry → List Entry
both buy sell n price es = filled_in (sell_side (trade_of buy sell n price)) (filled_in (buy_side (trade_of buy sell n price)) es)

both_fills : (buy sell : Entry) (n price : ℕ) (es : List Entry) → buy.side ≡ 1 → sell.side ≡ 2 → both buy sell n price es ≡ filled_in (fill_of sell n price) (filled_in (fill_of buy n price) es)
both_fills buy sell n price es eb es' = λ i. filled_in (sell_fill buy sell n price es' i) (filled_in (buy_fill buy sell n price eb i) es)

-- a maker's side is not the taker's
opposite : (a b : ℕ) → a ≡ other_side b → a ≡ b → ⊥
opposite a b e f = omega (arith, e, f)

unlike : (taker : Entry) (price n : ℕ) (e : Entry) → at_price (other_side taker.side) price e ≡ true → fills (fill_of taker n price) e ≡ false
unlike taker price n e y =
    let w = and_parts (eqb e.side (other_side taker.side)) (eqb e.price price) y in
    let z = ne_eqb e.side taker.side (opposite e.side taker.side (eqb-true e.side (other_side taker.side) w.0)) in
    off (is_for taker.login taker.number e) (eqb e.side taker.side) z
  where
    off : (a b : Bool) → b ≡ false → (a && b) ≡ false
    off true b k = k
    off false b k = refl

pub leaves : (side : Side) (es : List Entry) (taker maker : Entry) (price n p : ℕ) → taker.side ≡ side_number side → Known es price taker maker → count (names maker) es ≤ 1 →
    oldest (drop p (makers_at taker price es)) ≡ Some maker → Leaves es (both (buyer side taker maker) (seller side taker maker) n price es) taker maker price n p
leaves side es taker maker price n p e k one o = by_side side e
  where
    own : Left (at_price (other_side taker.side) price) (fill_of taker n price) (fill_of maker n price) es p maker
    own =
        left (at_price (other_side taker.side) price) (λ x m. refl) (fill_of taker n price) (fill_of maker n price) es p maker (unlike taker price n)
        (and_from _ _ (is_for_self maker) (eq-eqb maker.side maker.side refl)) one o

    apart : maker.side ≡ taker.side → ⊥
    apart q = opposite maker.side taker.side k.side q

    by_side : (side : Side) → taker.side ≡ side_number side → Leaves es (both (buyer side taker maker) (seller side taker maker) n price es) taker maker price n p
    by_side Buy e =
        let same = both_fills taker maker n price es e (omega (arith, k.side, e)) in
        record {
          makers = ap (makers_at taker price) same ∙ own.own_last;
          stands = λ h.
              let P : List Entry → Type 0 = λ v. Stands v (less n taker) in
              subst P (sym same) (unfilled_stands (fill_of maker n price) (less n taker) (filled_in (fill_of taker n price) es) apart (filled_stands es taker n price h k.taker_stands));
        }
    by_side Sell e =
        let same = both_fills maker taker n price es (omega (arith, k.side, e)) e in
        record {
          makers = ap (makers_at taker price) same ∙ own.own_first;
          stands = λ h.
              let P : List Entry → Type 0 = λ v. Stands v (less n taker) in
              subst P (sym same) (filled_stands (filled_in (fill_of maker n price) es) taker n price h (unfilled_stands (fill_of maker n price) taker es apart k.taker_stands));
        }

-- ---- the makers not passed

-- one that is left with contracts is passed, and one that is left with none is gone
pub past : (n c p : ℕ) (m : Entry) (xs ys : List Entry) → m.contracts ≡ c → n ≤ c → length xs ≡ p → drop (p + cond (ltb n c) 1 0) (xs ++ keep (less n m) ys) ≡ ys
past n c p m xs ys e le h =
    ⊎_elim
    (λ lt. let yes = lt-ltb n c lt in
    let none = ne_eqb (m.contracts - n) 0 (λ z. omega (arith, z, e, lt)) in
    ap (λ v. drop (p + cond v 1 0) (xs ++ keep (less n m) ys)) yes
    ∙ ap (λ v. drop (p + 1) (xs ++ cond v ys (less n m ∷ ys))) none
    ∙ ap (λ v. drop (v + 1) (xs ++ (less n m ∷ ys))) (sym h)
    ∙ drop-append-add xs (less n m ∷ ys) 1)
    (λ ge. let yes = le-ltb n c ge in
    let gone = eq-eqb (m.contracts - n) 0 (omega (arith, e, ge)) in
    ap (λ v. drop (p + cond v 1 0) (xs ++ keep (less n m) ys)) yes
    ∙ ap (λ v. drop (p + 0) (xs ++ cond v ys (less n m ∷ ys))) gone
    ∙ ap (λ v. drop v (xs ++ ys)) (add-zero p)
    ∙ drop_at xs ys p h)
    (cases_lt n c)
