-- The entries of a side at a price, seen as plain numbers, and what bounds their contracts.
use Rattle.std.proofs.Common.{◌≡◌, ℕ, zero, suc, ◌+◌, ◌-◌, ◌<◌, ◌≤◌, Bool, List, [], ◌∷◌, map, length, get_or, drop, sum_by, filter, Option, sym, ap, ◌∙◌, arith}
use Rattle.std.specs.Option.{option_map}
use Rattle.std.proofs.lemmas.List.{drop-map, get_or-map, length-map}
use Rattle.std.proofs.lemmas.List.Sums.{sum_by-cons}
use Rattle.chains.specs.Asks.{oldest, saturated}
use Rattle.terms.specs.declared.entries.Entry.{Entry}
use Rattle.market.specs.Book as book
use Rattle.market.specs.Book.{total}
use Rattle.market.specs.Seen.{seen}
use Rattle.tables.specs.Kept.{Few}
use Rattle.tables.proofs.Listed.{kept_map, total_seen, count_kept, kept_short}
use Rattle.tables.proofs.Books.{total_le, all_few}
use Rattle.tables.proofs.Meeting.{oldest_map}

pub nth_in : (p : book.Entry → Bool) (ls : List (List Entry)) (k s n : ℕ) (r : Option Entry) → k + 1 ≡ s → k < length ls →
    r ≡ oldest (drop n (filter (λ e. p (seen e)) (get_or ls k []))) → option_map seen r ≡ oldest (drop n (filter p (get_or (map (map seen) ls) (s - 1) [])))
nth_in p ls k s n r ks h e =
    let place : k ≡ s - 1 = omega arith in
    let xs = filter (λ e. p (seen e)) (get_or ls k []) in
    ap (option_map seen) e ∙ oldest_map seen (drop n xs) ∙ ap oldest (sym (drop-map seen n xs)) ∙ ap (λ v. oldest (drop n v)) (sym (kept_map seen p (get_or ls k [])))
    ∙ ap (λ v. oldest (drop n (filter p v))) (sym (get_or-map (map seen) ls k [] [] h)) ∙ ap (λ v. oldest (drop n (filter p (get_or (map (map seen) ls) v [])))) place

-- one series rests no more entries than all
within_all : (ls : List (List Entry)) (k : ℕ) → k < length ls → length (get_or ls k []) ≤ sum_by length ls
within_all [] k h = absurd (omega arith)
within_all (xs ∷ ls) zero h = omega (arith, sum_by-cons (λ (ys : List Entry). length ys) xs ls)
within_all (xs ∷ ls) (suc k) h = omega (arith, within_all ls k (omega arith), sum_by-cons (λ (ys : List Entry). length ys) xs ls)

-- the entries of a series that are picked have 384 × 65,535 contracts at most
most : (p : book.Entry → Bool) (ls : List (List Entry)) (k : ℕ) → Few (map (map seen) ls) → k < length ls → total p (map seen (get_or ls k [])) ≤ 25165440
most p ls k few h =
    let es = get_or ls k [] in
    omega (
      arith,
      total_le p es,
      count_kept p (map seen es),
      kept_short p (map seen es),
      length-map es seen,
      within_all ls k h,
      all_few 24 (λ e. e.login.high) ls few,
    )

pub record Summed (p : book.Entry → Bool) (es : List book.Entry) (r : ℕ) : Type 0 where
  pub sum : r ≡ total p es
  pub bound : r ≤ 25165440

pub sum_in : (p : book.Entry → Bool) (ls : List (List Entry)) (k s r : ℕ) → Few (map (map seen) ls) → k + 1 ≡ s → k < length ls →
    r ≡ saturated (sum_by (λ x. x.contracts.value) (filter (λ e. p (seen e)) (get_or ls k []))) → Summed p (get_or (map (map seen) ls) (s - 1) []) r
sum_in p ls k s r few ks h e =
    let place : s - 1 ≡ k = omega arith in
    let here : get_or (map (map seen) ls) (s - 1) [] ≡ map seen (get_or ls k []) = ap (λ v. get_or (map (map seen) ls) v []) place ∙ get_or-map (map seen) ls k [] [] h in
    let small = most p ls k few h in
    let same = total_seen p (get_or ls k []) in
    let sum : r ≡ total p (map seen (get_or ls k [])) = omega (arith, e, same, small) in
    record { sum = sum ∙ ap (total p) (sym here); bound = omega (arith, sum, small) }
