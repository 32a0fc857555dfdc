-- Contracts given out over makers: the first trade and those after it, and what they have together.
use Rattle.std.proofs.Common.{◌≡◌, ℕ, zero, suc, ◌+◌, ◌-◌, ◌<◌, ◌≤◌, eqb, List, [], ◌∷◌, map, length, sym, refl, ap, ◌∙◌, arith}
use native.Mathlib.Nat.{sub-zero}
use Rattle.std.proofs.lemmas.List.{length-map}
use Rattle.std.proofs.lemmas.Bool.{cond-true, cond-false, cond_both, eq-eqb, ne_eqb}
use Rattle.terms.specs.declared.events.Trade.{Trade}
use Rattle.market.specs.Book.{Entry, Book}
use Rattle.tables.specs.Cross.{on_side, trade_of}
use Rattle.shares.specs.Shares.{sum_of, share, shares, positive}
use Rattle.shares.specs.Rounds.{pending, opened}
use Rattle.shares.proofs.Laws.{shares_sum, shares_length}
use Rattle.shares.proofs.Rounding.{sum_positive}
use Rattle.size_market.specs.Size.{trade_with, sizes, given, dealt, due}

-- ---- the first maker

pub passed_over : (trade : Entry → ℕ → Trade) (r s : ℕ) (m : Entry) (ms : List Entry) → s ≡ share r m.contracts (m.contracts + sum_of (sizes ms)) → s ≡ 0 →
    dealt trade r (m ∷ ms) ≡ dealt trade r ms
passed_over trade r s m ms e z =
    let n = sym e ∙ z in
    cond-true (eqb (share r m.contracts (m.contracts + sum_of (sizes ms))) 0) _ _ (eq-eqb _ 0 n)
    ∙ ap (λ v. given trade ms (shares (r - v) (sizes ms))) n ∙ ap (λ v. given trade ms (shares v (sizes ms))) (sub-zero r)

pub traded_first : (trade : Entry → ℕ → Trade) (r s : ℕ) (m : Entry) (ms : List Entry) → s ≡ share r m.contracts (m.contracts + sum_of (sizes ms)) → 0 < s →
    dealt trade r (m ∷ ms) ≡ trade m s ∷ dealt trade (r - s) ms
traded_first trade r s m ms e h =
    cond-false (eqb (share r m.contracts (m.contracts + sum_of (sizes ms))) 0) _ _ (ne_eqb _ 0 (λ z. omega (arith, e, z, h)))
    ∙ ap (λ v. trade m v ∷ given trade ms (shares (r - v) (sizes ms))) (sym e)

-- ---- how much each trades

amounts : (trade : Entry → ℕ → Trade) → ((m : Entry) (n : ℕ) → (trade m n).contracts ≡ n) → (ms : List Entry) (ss : List ℕ) → length ss ≡ length ms →
    map (λ t. t.contracts) (given trade ms ss) ≡ positive ss
amounts trade h [] [] e = refl
amounts trade h [] (s ∷ ss) e = absurd (omega (arith, e))
amounts trade h (m ∷ ms) [] e = absurd (omega (arith, e))
amounts trade h (m ∷ ms) (zero ∷ ss) e = amounts trade h ms ss (omega (arith, e))
amounts trade h (m ∷ ms) (suc n ∷ ss) e =
    ap (map (λ t. t.contracts)) (cond-false (eqb (suc n) 0) _ _ (ne_eqb (suc n) 0 (λ z. omega (arith, z))))
    ∙ ap (λ v. v ∷ map (λ t. t.contracts) (given trade ms ss)) (h m (suc n)) ∙ ap (λ (v : List ℕ). suc n ∷ v) (amounts trade h ms ss (omega (arith, e)))

pub with_contracts : (taker : Entry) (price : ℕ) (m : Entry) (n : ℕ) → (trade_with taker price m n).contracts ≡ n
with_contracts taker price m n = cond_both (on_side 1 taker) (trade_of taker m n price) (trade_of m taker n price) (λ t. t.contracts ≡ n) (λ _. refl) (λ _. refl)

-- the shares, without those of 0
pub dealt_amounts : (taker : Entry) (price r : ℕ) (ms : List Entry) → map (λ t. t.contracts) (dealt (trade_with taker price) r ms) ≡ pending (opened r (sizes ms))
dealt_amounts taker price r ms =
    amounts (trade_with taker price) (with_contracts taker price) ms (shares r (sizes ms)) (shares_length r (sizes ms) ∙ length-map ms (λ e. e.contracts))

-- all of r is traded
pub dealt_sum : (taker : Entry) (price r : ℕ) (ms : List Entry) → r ≤ sum_of (sizes ms) → sum_of (map (λ t. t.contracts) (dealt (trade_with taker price) r ms)) ≡ r
dealt_sum taker price r ms h = ap sum_of (dealt_amounts taker price r ms) ∙ sum_positive (shares r (sizes ms)) ∙ shares_sum r (sizes ms) h

-- a round that has something left is not opened again
pub not_over : (b : Book) (ts : List Trade) → 0 < sum_of (map (λ t. t.contracts) ts) → due b ts ≡ ts
not_over b [] h = absurd (omega arith)
not_over b (t ∷ ts) h = refl
