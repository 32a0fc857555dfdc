-- A taker and a maker of its round as a buy and a sell that may trade.
use Rattle.std.proofs.Common.{◌≡◌, ℕ, ◌-◌, ◌<◌, ◌≤◌, true, eqb, List, [], length, get_or, Some, None, Option, sym, refl, ◌∙◌, arith, le-leb}
use Rattle.std.proofs.lemmas.Bool.{cond-true, cond-false, and_parts, and_from, eqb-true, eq-eqb, ne_eqb, leb-true}
use Rattle.chains.specs.Asks.{oldest}
use Rattle.terms.specs.Tables.{any_of}
use Rattle.terms.specs.Kinds.{side_number}
use Rattle.terms.specs.declared.kinds.Side.{Side}
use Rattle.terms.specs.declared.kinds.Side.TheVariants.{Buy, Sell}
use Rattle.market.specs.Book.{Entry, Book}
use Rattle.market.specs.Market.{cross, crosses}
use Rattle.market.specs.Seen.{seen}
use Rattle.tables.specs.Cross.{on_side, at_price, names, trade_of, Stands, Meet, Fair}
use Rattle.tables.specs.Kept.{Apart}
use Rattle.tables.proofs.Crossings.{picked_stands, found_stands}
use Rattle.tables.proofs.Pairs.{stands_any, any_at}
use Rattle.size_market.specs.declared.round.Round.{Round}
use Rattle.size_market.specs.Size.{other_side, trade_with}
use Rattle.size_market.specs.Going.{ahead, within, Going}
use Rattle.size_market.proofs.Passing.{some_ahead}

-- they stand in one series, and the price is within both limits
pub record Faces (es : List Entry) (buy sell : Entry) (price : ℕ) : Type 0 where
  pub meet : Meet es buy sell
  pub low : sell.price ≤ price
  pub high : price ≤ buy.price

-- the one of two that buys, and the one that sells, where the first is on a side
abbrev pub buyer : Side → (taker maker : Entry) → Entry
buyer Buy taker maker = taker
buyer Sell taker maker = maker

abbrev pub seller : Side → (taker maker : Entry) → Entry
seller Buy taker maker = maker
seller Sell taker maker = taker

-- what is known of a taker and of a maker
pub record Known (es : List Entry) (at : ℕ) (taker maker : Entry) : Type 0 where
  pub taker_stands : Stands es taker
  pub maker_stands : Stands es maker
  pub limit : within at taker ≡ true
  pub side : maker.side ≡ other_side taker.side
  pub price : maker.price ≡ at

pub known : (ess : List (List Entry)) (r : Round) (m : Entry) → Apart ess → length ess ≡ 16 → Going ess r → oldest (ahead ess r) ≡ Some m → Known (get_or ess (r.series.value - 1) []) r.price.value (seen r.taker) m
known ess r m apart sixteen g o =
    let h : r.series.value - 1 < length ess = omega (arith, sixteen, r.series.high) in
    let q = at_price (other_side (seen r.taker).side) r.price.value in
    let p = picked_stands q ess (r.series.value - 1) r.passed m apart h o in
    let w = and_parts (eqb m.side (other_side (seen r.taker).side)) (eqb m.price r.price.value) p.1 in
    record {
      taker_stands = found_stands ess (r.series.value - 1) (seen r.taker) apart h g.stands;
      maker_stands = p.0;
      limit = g.limit;
      side = eqb-true m.side (other_side (seen r.taker).side) w.0;
      price = eqb-true m.price r.price.value w.1;
    }

pub faces : (side : Side) (es : List Entry) (price : ℕ) (taker maker : Entry) → taker.side ≡ side_number side → Known es price taker maker → Faces es (buyer side taker maker) (seller side taker maker) price
faces Buy es price taker maker e k = record {
  meet = record { buys = e; sells = omega (arith, k.side, e); buy_stands = k.taker_stands; sell_stands = k.maker_stands };
  low = omega (arith, k.price);
  high = leb-true price taker.price (sym (cond-true (on_side 1 taker) _ _ (eq-eqb taker.side 1 e)) ∙ k.limit);
}
faces Sell es price taker maker e k = record {
  meet = record { buys = omega (arith, k.side, e); sells = e; buy_stands = k.maker_stands; sell_stands = k.taker_stands };
  low = leb-true taker.price price (sym (cond-false (on_side 1 taker) _ _ (ne_eqb taker.side 1 (λ z. omega (arith, z, e)))) ∙ k.limit);
  high = omega (arith, k.price);
}

pub faces_fair : (es : List Entry) (buy sell : Entry) (n price : ℕ) → Faces es buy sell price → 1 ≤ n → n ≤ buy.contracts → n ≤ sell.contracts → Fair buy sell n price
faces_fair es buy sell n price f some bought sold = record { some = some; bought = bought; sold = sold; low = f.low; high = f.high }

-- ---- so something crosses

faces_cross : (b : Book) (k : ℕ) (buy sell : Entry) (price : ℕ) → k < length b.resting → Faces (get_or b.resting k []) buy sell price → crosses b ≡ true
faces_cross b k buy sell price h f =
    let es = get_or b.resting k [] in
    let m = f.meet in
    any_at [] (λ es. any_of (λ buy. any_of (λ sell. cross buy sell) es) es) b.resting k h
    (stands_any (names buy) (λ buy. any_of (λ sell. cross buy sell) es) es buy m.buy_stands
    (stands_any (names sell) (λ sell. cross buy sell) es sell m.sell_stands
    (and_from _ _ (eq-eqb buy.side 1 m.buys) (and_from _ _ (eq-eqb sell.side 2 m.sells) (le-leb sell.price buy.price (omega (arith, f.low, f.high)))))))

pub going_crosses : (b : Book) (r : Round) → Apart b.resting → length b.resting ≡ 16 → Going b.resting r → crosses b ≡ true
going_crosses b r apart sixteen g = go (oldest (ahead b.resting r)) refl
  where
    go : (o : Option Entry) → oldest (ahead b.resting r) ≡ o → crosses b ≡ true
    go None e = absurd (some_ahead b.resting r g (sym e))
    go (Some m) e =
        faces_cross b (r.series.value - 1) (buyer r.taker.side (seen r.taker) m) (seller r.taker.side (seen r.taker) m) r.price.value (omega (arith, sixteen, r.series.high))
        (faces r.taker.side (get_or b.resting (r.series.value - 1) []) r.price.value (seen r.taker) m refl (known b.resting r m apart sixteen g e))

-- ---- the trade of the two

pub trade_by_side : (side : Side) (taker maker : Entry) (n price : ℕ) → taker.side ≡ side_number side → trade_of (buyer side taker maker) (seller side taker maker) n price ≡ trade_with taker price maker n
trade_by_side Buy taker maker n price e = sym (cond-true (on_side 1 taker) _ _ (eq-eqb taker.side 1 e))
trade_by_side Sell taker maker n price e = sym (cond-false (on_side 1 taker) _ _ (ne_eqb taker.side 1 (λ z. omega (arith, z, e))))
