-- A buy and a sell of one series: what a trade of the two asks, and what it does.
use Rattle.std.proofs.Common.{◌≡◌, ℕ, zero, suc, ◌+◌, ◌<◌, Bool, true, false, cond, ◌&&◌, eqb, leb, ◌⊎◌, List, [], ◌∷◌, map, length, get_or, Some, Ok, filter, sym, refl, ap, ◌∙◌, subst, inl, inr, ⊎_elim, arith, le-leb}
use Rattle.std.proofs.lemmas.List.{get_or-map}
use Rattle.std.proofs.lemmas.Bool.{cases_Bool, cond-true, cond-false, and_parts, and_from, or_left, or_right, eqb-true, eq-eqb}
use Rattle.chains.specs.Asks.{oldest}
use Rattle.terms.specs.declared.events.Trade.{Trade}
use Rattle.terms.specs.declared.events.Party.{Party}
use Rattle.terms.specs.declared.messages.Fill.{Fill}
use Rattle.terms.specs.Tables.{any_of}
use Rattle.market.specs.Book.{Entry, Book, is_for, totals}
use Rattle.market.specs.Market.{fills, fillable, less, filled_in, side_traded, buy_side, sell_side, traded, tradeable, slips_full, Struck}
use Rattle.tables.specs.Cross.{on_side, fill_of, trade_of, names, Stands, Meet, Fair, BothLose}

-- ---- a test that one that stands meets

pub stands_any : (p q : Entry → Bool) (es : List Entry) (e : Entry) → oldest (filter p es) ≡ Some e → q e ≡ true → any_of q es ≡ true
stands_any p q [] e o y = let z : ◌≡◌ {A = ℕ} 0 1 = cc in absurd (omega arith)
stands_any p q (x ∷ es) e o y =
    ⊎_elim
    (λ t. let o2 : Some x ≡ Some e = sym (ap oldest (cond-true (p x) (x ∷ filter p es) (filter p es) t)) ∙ o in
    let s : x ≡ e = cc in or_left (q x) (any_of q es) (ap q s ∙ y))
    (λ n. let o2 : oldest (filter p es) ≡ Some e = sym (ap oldest (cond-false (p x) (x ∷ filter p es) (filter p es) n)) ∙ o in or_right (q x) (any_of q es) (stands_any p q es e o2 y))
    (cases_Bool (p x))

pub any_at : {X : Type 0} (d : X) (q : X → Bool) (xs : List X) (k : ℕ) → k < length xs → q (get_or xs k d) ≡ true → any_of q xs ≡ true
any_at d q [] k h y = absurd (omega arith)
any_at d q (x ∷ xs) zero h y = or_left (q x) (any_of q xs) y
any_at d q (x ∷ xs) (suc k) h y = or_right (q x) (any_of q xs) (any_at d q xs k (omega arith) y)

pub is_for_self : (e : Entry) → is_for e.login e.number e ≡ true
is_for_self e = and_from _ _ (eq-eqb e.login e.login refl) (eq-eqb e.number e.number refl)

-- ---- the trade is one that a market may make

pub may_trade : (b : Book) (k : ℕ) (buy sell : Entry) (n price : ℕ) → k < length b.resting → Meet (get_or b.resting k []) buy sell → Fair buy sell n price → tradeable b (trade_of buy sell n price) ≡ true
may_trade b k buy sell n price h m f =
    let es = get_or b.resting k [] in
    let t = trade_of buy sell n price in
    let p = λ (e : Entry). fillable (buy_side t) e && leb price e.price in
    let q = λ (e : Entry). fillable (sell_side t) e && leb e.price price in
    let yb : p buy ≡ true = and_from _ _ (and_from _ _ (and_from _ _ (is_for_self buy) (eq-eqb buy.side 1 m.buys)) (le-leb n buy.contracts f.bought)) (le-leb price buy.price f.high) in
    let ys : q sell ≡ true = and_from _ _ (and_from _ _ (and_from _ _ (is_for_self sell) (eq-eqb sell.side 2 m.sells)) (le-leb n sell.contracts f.sold)) (le-leb sell.price price f.low) in
    and_from (leb 1 n) _ (le-leb 1 n f.some)
    (any_at [] (λ es. any_of p es && any_of q es) b.resting k h (and_from _ _ (stands_any (names buy) p es buy m.buy_stands yb) (stands_any (names sell) q es sell m.sell_stands ys)))

-- ---- once the buy is filled, the sell still stands

kept_filled : (b : Bool) (q : Entry → Bool) (x : Entry) (xs : List Entry) → q x ≡ false → filter q (cond b xs (x ∷ xs)) ≡ filter q xs
kept_filled true q x xs n = refl
kept_filled false q x xs n = cond-false (q x) _ _ n

stays : (f : Fill) (s : Entry) → (f.side ≡ s.side → ⊥) → (es : List Entry) → filter (names s) (filled_in f es) ≡ filter (names s) es
stays f s ne [] = refl
stays f s ne (e ∷ es) =
    let r = stays f s ne es in
    ⊎_elim
    (λ y. let not_s : names s e ≡ false = not_named (cases_Bool (names s e)) y in
    ap (filter (names s)) (cond-true (fills f e) _ _ y) ∙ kept_filled (eqb (less f.contracts e).contracts 0) (names s) (less f.contracts e) (filled_in f es) not_s ∙ r ∙ sym (cond-false (names s e) _ _ not_s))
    (λ n. ap (filter (names s)) (cond-false (fills f e) _ _ n) ∙ ap (λ v. cond (names s e) (e ∷ v) v) r)
    (cases_Bool (fills f e))
  where
    not_named : (names s e ≡ true) ⊎ (names s e ≡ false) → fills f e ≡ true → names s e ≡ false
    not_named (inl t) y = absurd (ne (sym (eqb-true e.side f.side (and_parts _ _ y).1) ∙ eqb-true e.side s.side (and_parts _ _ t).1))
    not_named (inr n) y = n

pub unfilled_stands : (f : Fill) (s : Entry) (es : List Entry) → (f.side ≡ s.side → ⊥) → Stands es s → Stands (filled_in f es) s
unfilled_stands f s es ne o = ap oldest (stays f s ne es) ∙ o

pub still_stands : (f : Fill) (s : Entry) (ess : List (List Entry)) (k : ℕ) → (f.side ≡ s.side → ⊥) → k < length ess → Stands (get_or ess k []) s → Stands (get_or (map (filled_in f) ess) k []) s
still_stands f s ess k ne h o = ap (λ v. oldest (filter (names s) v)) (get_or-map (filled_in f) ess k [] [] h) ∙ ap oldest (stays f s ne (get_or ess k [])) ∙ o

-- ---- both sides

same_fill : (e : Entry) (side n price : ℕ) → e.side ≡ side → fill_of e n price ≡ record { login = e.login; number = e.number; side = side; contracts = n; price = price }
same_fill e side n price s = λ i. record { login = e.login; number = e.number; side = s i; contracts = n; price = price }

pub both_sides : (b mid a : Book) (buy sell : Entry) (n price : ℕ) → buy.side ≡ 1 → sell.side ≡ 2 → mid ≡ side_traded (fill_of buy n price) b → a ≡ side_traded (fill_of sell n price) mid →
    a ≡ traded (trade_of buy sell n price) b
both_sides b mid a buy sell n price sb ss em ea =
    ea ∙ ap (λ f. side_traded f mid) (same_fill sell 2 n price ss) ∙ ap (λ v. side_traded (sell_side (trade_of buy sell n price)) v) (em ∙ ap (λ f. side_traded f b) (same_fill buy 1 n price sb))

pub struck_so : (b a : Book) (k : ℕ) (buy sell : Entry) (n price : ℕ) (t : Trade) → t ≡ trade_of buy sell n price → k < length b.resting → Meet (get_or b.resting k []) buy sell → Fair buy sell n price →
    slips_full b ≡ false → a ≡ traded (trade_of buy sell n price) b → Struck b (Ok (Some t)) a
struck_so b a k buy sell n price t e h m f room ea =
    let P : Trade → Type 0 = λ v. Struck b (Ok (Some v)) a in
    subst P (sym e) ((may_trade b k buy sell n price h m f, room), ea)

pub stands_in : (b mid : Book) (f : Fill) (s : Entry) (k : ℕ) → (f.side ≡ s.side → ⊥) → k < length b.resting → mid ≡ side_traded f b → Stands (get_or b.resting k []) s → Stands (get_or mid.resting k []) s
stands_in b mid f s k ne h e o = let P : List (List Entry) → Type 0 = λ v. Stands (get_or v k []) s in subst P (sym (ap (λ v. v.resting) e)) (still_stands f s b.resting k ne h o)

pub trade_is : (buy sell : Entry) (n price : ℕ) (p q : Party) (m c : ℕ) → p ≡ record { login = buy.login; number = buy.number } → q ≡ record { login = sell.login; number = sell.number } → m ≡ n → c ≡ price →
    ◌≡◌ {A = Trade} (record { buyer = p; seller = q; contracts = m; price = c }) (trade_of buy sell n price)
trade_is buy sell n price p q m c ep eq em ec = λ i. record { buyer = ep i; seller = eq i; contracts = em i; price = ec i }

-- ---- contracts bought and sold

pub both_lose : (buy sell : Entry) (n m : ℕ) (b mid a : List (List Entry)) → buy.side ≡ 1 → sell.side ≡ 2 → m ≡ n →
    totals (on_side buy.side) mid + n ≡ totals (on_side buy.side) b → ((side : ℕ) → (buy.side ≡ side → ⊥) → totals (on_side side) mid ≡ totals (on_side side) b) →
    totals (on_side sell.side) a + n ≡ totals (on_side sell.side) mid → ((side : ℕ) → (sell.side ≡ side → ⊥) → totals (on_side side) a ≡ totals (on_side side) mid) → BothLose m b a
both_lose buy sell n m b mid a sb ss em ob qb os qs =
    let at_side = λ (s : ℕ) (v : List (List Entry)). totals (on_side s) v in
    record {
      bought = omega (arith, qs 1 (λ q. omega arith), ob, ap (λ s. at_side s mid) sb, ap (λ s. at_side s b) sb);
      sold = omega (arith, qb 2 (λ q. omega arith), os, ap (λ s. at_side s a) ss, ap (λ s. at_side s mid) ss);
    }
