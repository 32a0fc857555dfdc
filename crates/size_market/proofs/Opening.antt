-- The round that a strike trades in: one that is open goes on, and else the lowest series that crosses opens one.
use Rattle.std.proofs.Common.{◌≡◌, ℕ, ◌+◌, ◌-◌, ◌<◌, ◌≤◌, min, Bool, true, false, cond, List, [], ◌∷◌, length, get_or, Some, None, filter, Option, sym, refl, ap, ◌∙◌, subst, arith, le-leb}
use Rattle.std.proofs.lemmas.Bool.{cond-true, cond-false, eq-eqb, ne_eqb}
use Rattle.terms.specs.declared.bounded.Bounded.{Bounded}
use Rattle.terms.specs.declared.entries.Entry as code
use Rattle.terms.specs.declared.events.Trade.{Trade}
use Rattle.market.specs.Book.{Entry, Book, total}
use Rattle.market.specs.Seen.{seen}
use Rattle.tables.specs.Cross.{on_side, at_price, Pair, lowest, before, Stands}
use Rattle.tables.specs.Kept.{Apart}
use Rattle.tables.proofs.Crossings.{Paired, found_at, pair_meets, pair_weighs, nothing_crosses, stands_found}
use Rattle.shares.specs.Shares.{sum_of}
use Rattle.size_market.specs.declared.round.Round.{Round}
use Rattle.size_market.specs.Size.{older, younger, other_side, makers_at, trade_with, sizes, dealt, amount, opened_by, due}
use Rattle.size_market.specs.Going.{ahead, pending_at, pending_in, within, Sound}
use Rattle.size_market.specs.Steps.{Current}
use Rattle.size_market.proofs.Keeping.{going}
use Rattle.size_market.proofs.Dealing.{dealt_sum, not_over}

-- ---- a round that is open

pub still_open : (b : Book) (o : Option Round) (r : Round) → o ≡ Some r → Sound b.resting o → Current b (pending_in b.resting o) (Some r)
still_open b o r e h =
    let P : Option Round → Type 0 = Sound b.resting in
    let g = going b.resting r (subst P e h) in
    let sum = dealt_sum (seen r.taker) r.price.value r.left (ahead b.resting r) (omega (arith, g.covered, g.rest)) in
    (g, sym (ap (λ v. due b (pending_in b.resting v)) e ∙ not_over b (pending_at b.resting r) (omega (arith, sum, g.some))))

-- ---- nothing crosses

pub none_opens : (b : Book) → None ≡ lowest b.resting → Current b [] None
none_opens b e = (nothing_crosses 0 b.resting (sym e), ap (opened_by b) (sym e))

-- ---- a pair that crosses

-- the younger stands, the older's price is within its limit, and the older is one of the makers
pub record Aged (es : List Entry) (taker maker : Entry) : Type 0 where
  pub stands : Stands es taker
  pub limit : within maker.price taker ≡ true
  pub weighs : maker.contracts ≤ total (at_price (other_side taker.side) maker.price) es

aged : (ess : List (List Entry)) (k : ℕ) (p : Pair) → Apart ess → k < length ess → Paired (get_or ess k []) p → Aged (get_or ess k []) (younger (get_or ess k []) p) (older (get_or ess k []) p)
aged ess k p apart h d = go (before p.buy p.sell es)
  where
    es : List Entry
    es = get_or ess k []

    go : (b : Bool) → Aged es (cond b p.sell p.buy) (cond b p.buy p.sell)
    go true =
        let m = pair_meets ess k p apart h d in
        let w = (pair_weighs es p d).0 in
        record {
          stands = m.sell_stands;
          limit = cond-false (on_side 1 p.sell) _ _ (ne_eqb p.sell.side 1 (λ e. omega (arith, e, m.sells))) ∙ le-leb p.sell.price p.buy.price d.over;
          weighs = omega (arith, w, ap (λ s. total (at_price (other_side s) p.buy.price) es) m.sells);
        }
    go false =
        let m = pair_meets ess k p apart h d in
        let w = (pair_weighs es p d).1 in
        record {
          stands = m.buy_stands;
          limit = cond-true (on_side 1 p.buy) _ _ (eq-eqb p.buy.side 1 m.buys) ∙ le-leb p.sell.price p.buy.price d.over;
          weighs = omega (arith, w, ap (λ s. total (at_price (other_side s) p.sell.price) es) m.buys);
        }

-- what the entries that are picked have
total_sizes : (q : Entry → Bool) (es : List Entry) → total q es ≡ sum_of (sizes (filter q es))
total_sizes q [] = refl
total_sizes q (e ∷ es) = go (q e) (total_sizes q es)
  where
    go : (b : Bool) → total q es ≡ sum_of (sizes (filter q es)) → cond b e.contracts 0 + total q es ≡ sum_of (sizes (cond b (e ∷ filter q es) (filter q es)))
    go true h = omega (arith, h)
    go false h = omega (arith, h)

pub opens : (b : Book) (series : Bounded 1 16) (p : Pair) (taker maker : code.Entry) (side left rest : ℕ) → Apart b.resting → Some (record { series = series.value - 1; pair = p }) ≡ lowest b.resting →
    seen taker ≡ younger (get_or b.resting (series.value - 1) []) p → seen maker ≡ older (get_or b.resting (series.value - 1) []) p → side ≡ other_side (seen taker).side →
    rest ≡ total (at_price side maker.price.value) (get_or b.resting (series.value - 1) []) → rest ≤ 25165440 → left ≡ min taker.contracts.value rest →
    Current b [] (Some (record { series = series; taker = taker; price = maker.price; left = left; passed = 0; rest = rest }))
opens b series p taker maker side left rest apart e et em eside er bound el =
    let k = series.value - 1 in
    let w = found_at b k p e in
    let es = get_or b.resting k [] in
    let a = aged b.resting k p apart w.below w.paired in
    let P : Entry → Type 0 = λ v. Aged es v (older es p) in
    let Q : Entry → Type 0 = λ v. Aged es (seen taker) v in
    let d : Aged es (seen taker) (seen maker) = subst Q (sym em) (subst P (sym et) a) in
    let ms = makers_at (seen taker) maker.price.value es in
    let sum : rest ≡ sum_of (sizes ms) = er ∙ ap (λ s. total (at_price s maker.price.value) es) eside ∙ total_sizes (at_price (other_side (seen taker).side) maker.price.value) es in
    let much : left ≡ amount (seen taker) ms = el ∙ ap (min taker.contracts.value) sum in
    let F : Entry → ℕ → List Trade = λ t price. dealt (trade_with t price) (amount t (makers_at t price es)) (makers_at t price es) in (
      record {
        stands = stands_found es (seen taker) d.stands;
        limit = d.limit;
        some = omega (arith, el, taker.contracts.low, maker.contracts.low, d.weighs, er, ap (λ s. total (at_price s maker.price.value) es) eside);
        taken = omega (arith, el);
        covered = omega (arith, el);
        rest = sum;
        bound = omega (arith, bound);
      },
      ap (λ n. dealt (trade_with (seen taker) maker.price.value) n ms) much
          ∙ (λ i. F (et i) (em i).price)
          ∙ ap (opened_by b) e,
    )
