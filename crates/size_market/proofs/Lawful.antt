-- What holds of every trade, and of a round that opens.
use Rattle.std.proofs.Common.{◌≡◌, ℕ, ◌-◌, ◌≤◌, Bool, true, false, cond, eqb, List, [], ◌∷◌, get_or, Some, None, Option, sym, refl, ap, ◌∙◌, subst, arith}
use Rattle.std.specs.List.{AllByRecursion}
use Rattle.std.proofs.lemmas.Bool.{cond_both}
use Rattle.terms.specs.declared.events.Trade.{Trade}
use Rattle.market.specs.Book.{Entry, Book}
use Rattle.market.specs.Seen.{seen}
use Rattle.tables.specs.declared.cross.Crossing as code
use Rattle.tables.specs.Cross.{on_side, Pair, Crossing, lowest, trade_of}
use Rattle.tables.proofs.Crossings.{At, found_at, older_fair, no_pair, buy_leads, sell_leads}
use Rattle.shares.specs.Shares.{sum_of, shares}
use Rattle.shares.proofs.Laws.{shares_within}
use Rattle.size_market.specs.declared.round.Due.{Due}
use Rattle.size_market.specs.Size.{older, younger, makers_at, trade_with, sizes, given, amount, opening, opened_by, due, Opens, BySizeOf}
use Rattle.size_market.proofs.Dealing.{dealt_amounts, dealt_sum}
use Rattle.size_market.proofs.Striking.{Ready}

-- a taker's trades are all at the makers' price
with_price : (taker : Entry) (price : ℕ) (m : Entry) (n : ℕ) → (trade_with taker price m n).price ≡ price
with_price taker price m n = cond_both (on_side 1 taker) (trade_of taker m n price) (trade_of m taker n price) (λ t. t.price ≡ price) (λ _. refl) (λ _. refl)

all_priced : (trade : Entry → ℕ → Trade) (price : ℕ) → ((m : Entry) (n : ℕ) → (trade m n).price ≡ price) → (ms : List Entry) (ss : List ℕ) → AllByRecursion (λ t. t.price ≡ price) (given trade ms ss)
all_priced trade price h [] ss = tt
all_priced trade price h (m ∷ ms) [] = tt
all_priced trade price h (m ∷ ms) (s ∷ ss) = go (eqb s 0) (all_priced trade price h ms ss)
  where
    go : (b : Bool) → AllByRecursion (λ t. t.price ≡ price) (given trade ms ss) → AllByRecursion (λ t. t.price ≡ price) (cond b (given trade ms ss) (trade m s ∷ given trade ms ss))
    go true r = r
    go false r = (h m s, r)

opens_at : (b : Book) (k : ℕ) (p : Pair) → At b k p → Opens b (opening (get_or b.resting k []) p)
opens_at b k p w =
    let es = get_or b.resting k [] in
    let T = younger es p in
    let price = (older es p).price in
    let ms = makers_at T price es in
    let o = older_fair es p w.paired.over in
    let enough : amount T ms ≤ sum_of (sizes ms) = omega arith in
    record {
      series = k;
      pair = p;
      within = w.below;
      lower = λ j h. no_pair (get_or b.resting j []) (w.lower j h);
      buy_leads = buy_leads es (Some p.buy) w.paired.buy;
      sell_leads = sell_leads es (Some p.sell) w.paired.sell;
      low = o.0;
      high = o.1;
      prices = all_priced (trade_with T price) price (with_price T price) ms (shares (amount T ms) (sizes ms));
      amounts = dealt_amounts T price (amount T ms) ms;
      sum = dealt_sum T price (amount T ms) ms enough;
      none_above = shares_within (amount T ms) (sizes ms) enough;
    }

-- where something is due, the round that opens keeps the law
pub opens_so : (b : Book) (t : Trade) (ts : List Trade) → opened_by b (lowest b.resting) ≡ t ∷ ts → Opens b (opened_by b (lowest b.resting))
opens_so b t ts e = go (lowest b.resting) refl e
  where
    go : (o : Option Crossing) → lowest b.resting ≡ o → opened_by b o ≡ t ∷ ts → Opens b (opened_by b (lowest b.resting))
    go None l q = let z : ◌≡◌ {A = ℕ} 0 1 = cc in absurd (omega arith)
    go (Some x) l q =
        let P : Option Crossing → Type 0 = λ v. Opens b (opened_by b v) in
        subst P (sym l) (opens_at b x.series x.pair (found_at b x.series x.pair (sym l)))

pub by_size : (b : Book) (round ts : List Trade) (d : Due) (x : code.Crossing) (t : Trade) → Ready b.resting d x → t ≡ trade_of (seen x.buy) (seen x.sell) d.share.value d.round.price.value →
    due b round ≡ t ∷ ts → BySizeOf b round t
by_size b round ts d x t r e first =
    let n = ap (λ v. v.contracts) e in
    let p = ap (λ v. v.price) e in
    let buy = seen x.buy in
    let sell = seen x.sell in
    record {
      series = x.series.value - 1;
      pair = record { buy = buy; sell = sell };
      meet = r.meet;
      fair = record { some = omega (arith, n, r.fair.some); bought = omega (arith, n, r.fair.bought); sold = omega (arith, n, r.fair.sold); low = omega (arith, p, r.fair.low); high = omega (arith, p, r.fair.high) };
      is = e ∙ (λ i. trade_of buy sell (sym n i) (sym p i));
      opens = λ z. opens_so b t ts (sym (ap (due b) z) ∙ first);
    }
