-- Something crosses exactly where a trade may be made. Assumes nothing.
use Rattle.std.proofs.Common.{◌≡◌, Bool, true, ◌&&◌, eqb, leb, List, refl, arith}
use Rattle.std.specs.List.{AllByRecursion}
use Rattle.std.proofs.lemmas.Bool.{and_parts, eq-eqb, le-leb, leb-true}
use Rattle.terms.specs.Tables.{any_of}
use Rattle.terms.specs.declared.messages.Fill.{Fill}
use Rattle.terms.proofs.Tables.{and_so, any_find, any_less}
use Rattle.market.specs.Book.{Book, Entry, Trade, is_for}
use Rattle.market.specs.Laws.{Left, Orderly, Settled}
use Rattle.market.specs.Market.{buy_side, cross, crosses, fillable, fills, sell_side, tradeable}

-- one contract of a pair that crosses, at the seller's price
abbrev one_of : Entry → Entry → Trade
one_of buy sell =
    record {
      buyer = record { login = buy.login; number = buy.number };
      seller = record { login = sell.login; number = sell.number };
      contracts = 1;
      price = sell.price;
    }

-- an entry with contracts left can be filled by a side that names it with one contract
one_fills : (f : Fill) (e : Entry) → e.login ≡ f.login → e.number ≡ f.number → eqb e.side f.side ≡ true → f.contracts ≡ 1
    → Left e → fillable f e ≡ true
one_fills f e l n d one left =
    and_so _ _ (and_so _ _ (and_so _ _ (eq-eqb _ _ l) (eq-eqb _ _ n)) d) (le-leb f.contracts e.contracts (omega (arith, one, left.0)))

pub pair_trades : (b : Book) → AllByRecursion (AllByRecursion Left) b.resting → crosses b ≡ true → (t : Trade) × (tradeable b t ≡ true)
pair_trades b left h =
    let s = any_find (AllByRecursion Left) _ b.resting left h in
    let es = s.0 in
    let x = any_find Left _ es s.2 s.1 in
    let y = any_find Left _ es s.2 x.1 in
    let buy = x.0 in
    let sell = y.0 in
    let t = one_of buy sell in
    let c = and_parts _ _ y.1 in
    let d = and_parts _ _ c.1 in
    let bought = and_so _ _ (one_fills (buy_side t) buy refl refl c.0 refl x.2) d.1 in
    let sold = and_so _ _ (one_fills (sell_side t) sell refl refl d.0 refl y.2) (le-leb sell.price sell.price (omega arith)) in
    (t, s.3 _ (and_so _ _ (x.3 _ bought) (y.3 _ sold)))

fillable_side : (f : Fill) (e : Entry) → fillable f e ≡ true → eqb e.side f.side ≡ true
fillable_side f e h = (and_parts (is_for f.login f.number e) (eqb e.side f.side)
    (and_parts (fills f e) (leb f.contracts e.contracts) h).0).1

pub trade_crosses : (b : Book) (t : Trade) → tradeable b t ≡ true → crosses b ≡ true
trade_crosses b t h = any_less _ _ series b.resting (and_parts _ _ h).1
  where
    Buys : Entry → Bool
    Buys e = fillable (buy_side t) e && leb t.price e.price

    Sells : Entry → Bool
    Sells e = fillable (sell_side t) e && leb e.price t.price

    pair : (buy sell : Entry) → Buys buy ≡ true → Sells sell ≡ true → cross buy sell ≡ true
    pair buy sell p q =
        let u = and_parts (fillable (buy_side t) buy) (leb t.price buy.price) p in
        let v = and_parts (fillable (sell_side t) sell) (leb sell.price t.price) q in
        and_so _ _ (fillable_side (buy_side t) buy u.0)
        (and_so _ _ (fillable_side (sell_side t) sell v.0)
        (le-leb sell.price buy.price (omega (arith, leb-true t.price buy.price u.1, leb-true sell.price t.price v.1))))

    series : (es : List Entry) → (any_of Buys es && any_of Sells es) ≡ true → any_of (λ buy. any_of (λ sell. cross buy sell) es) es ≡ true
    series es k =
        let w = and_parts (any_of Buys es) (any_of Sells es) k in
        any_less (λ buy. any_of (λ sell. cross buy sell) es) Buys
        (λ buy p. any_less (λ sell. cross buy sell) Sells (λ sell q. pair buy sell p q) es w.1) es w.0

pub settled : (b : Book) → Orderly b.resting → Settled b
settled b o = record { pair_trades = pair_trades b o.left; trade_crosses = trade_crosses b }
