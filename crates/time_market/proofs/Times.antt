-- A strike by price, then time: what its trade may be, and what it shows.
use Rattle.std.proofs.Common.{◌≡◌, ℕ, ◌≤◌, min, false, List, [], get_or, Some, Ok, sym, ap, ◌∙◌, arith}
use Rattle.std.proofs.lemmas.Bool.{cond-false}
use Rattle.terms.specs.declared.events.Trade.{Trade}
use Rattle.market.specs.Book.{Entry, Book}
use Rattle.market.specs.Market.{slips_full}
use Rattle.tables.specs.Cross.{Pair, lowest, before, older, trade_of, Fair}
use Rattle.tables.proofs.Crossings.{Paired, found_at, older_fair, no_pair, buy_leads, sell_leads}
use Rattle.tables.proofs.Listed.{cond_out}
use Rattle.time_market.specs.Time.{older_price, trade_in, answer_at, time_answer, ByPriceAndTime}

-- the older's price, either way
priced : (es : List Entry) (p : Pair) → (older es p).price ≡ older_price es p
priced es p = cond_out (λ e. e.price) (before p.buy p.sell es) p.buy p.sell

pub fair : (es : List Entry) (p : Pair) (n price : ℕ) → Paired es p → n ≡ min p.buy.contracts p.sell.contracts → 1 ≤ n → price ≡ (older es p).price → Fair p.buy p.sell n price
fair es p n price d en low ep =
    let o = older_fair es p d.over in
    record { some = low; bought = omega arith; sold = omega arith; low = omega (arith, o.0); high = omega (arith, o.1) }

-- what a trade of the pair that was found shows
pub record Traded (b : Book) (t : Trade) : Type 0 where
  pub exact : Ok (Some t) ≡ time_answer b
  pub orderly : ByPriceAndTime b t

pub traded_so : (b : Book) (k : ℕ) (p : Pair) (n price : ℕ) (t : Trade) → Some (record { series = k; pair = p }) ≡ lowest b.resting → slips_full b ≡ false →
    n ≡ min p.buy.contracts p.sell.contracts → price ≡ (older (get_or b.resting k []) p).price → t ≡ trade_of p.buy p.sell n price → Traded b t
traded_so b k p n price t e room en eo et =
    let w = found_at b k p e in
    let es = get_or b.resting k [] in
    let ep = eo ∙ priced es p in
    let o = older_fair es p w.paired.over in
    let same : trade_of p.buy p.sell n price ≡ trade_in es p = λ i. trade_of p.buy p.sell (en i) (ep i) in
    record {
      exact = ap (λ v. Ok (Some v)) (et ∙ same) ∙ sym (cond-false (slips_full b) _ _ room) ∙ ap (answer_at b) e;
      orderly = record {
        series = k;
        pair = p;
        within = w.below;
        lower = λ j h. no_pair (get_or b.resting j []) (w.lower j h);
        is = et ∙ (λ i. trade_of p.buy p.sell (sym (ap (λ v. v.contracts) et) i) (sym (ap (λ v. v.price) et) i));
        buy_leads = buy_leads es (Some p.buy) w.paired.buy;
        sell_leads = sell_leads es (Some p.sell) w.paired.sell;
        contracts = ap (λ v. v.contracts) et ∙ en;
        price = ap (λ v. v.price) et ∙ ep;
        low = omega (arith, ap (λ v. v.price) et, eo, o.0);
        high = omega (arith, ap (λ v. v.price) et, eo, o.1);
      };
    }
