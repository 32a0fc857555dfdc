-- Tests, counts and sums over lists of lists, and lists seen through a function.
use Rattle.std.proofs.Common.{◌≡◌, ℕ, zero, suc, ◌+◌, ◌<◌, ◌≤◌, Bool, true, false, cond, not, ◌||◌, ltb, List, [], ◌∷◌, map, length, get_or, take, sum_by, filter, sym, refl, ap, ◌∙◌, add-one, arith, ltb-false, ltb-true, lt-ltb}
use Rattle.std.proofs.lemmas.List.{length-map}
use Rattle.std.proofs.lemmas.List.Sums.{sum_by-cons, length-filter, count_by-le-length, sum_by_more}
use Rattle.std.specs.List.{range_with_len}
use Rattle.chains.specs.Asks.{without_all, saturated}
use Rattle.chains.specs.Lists.{changed}
use Rattle.terms.specs.Tables.{any_of}
use Rattle.terms.specs.declared.entries.Entry.{Entry}
use Rattle.market.specs.Book as book
use Rattle.market.specs.Book.{total, totals, count, counts, any_in, without}
use Rattle.market.specs.Seen.{seen}
use Rattle.tables.specs.Tally.{tally, weighed}

pub cond_out : {A B : Type 0} (f : A → B) (b : Bool) (x y : A) → f (cond b x y) ≡ cond b (f x) (f y)
cond_out f true x y = refl
cond_out f false x y = refl

-- ---- a filter of a list seen through f

pub kept_map : {X Y : Type 0} (f : X → Y) (p : Y → Bool) (xs : List X) → filter p (map f xs) ≡ map f (filter (λ x. p (f x)) xs)
kept_map f p [] = refl
kept_map f p (x ∷ xs) =
    ap (λ v. cond (p (f x)) (f x ∷ v) v) (kept_map f p xs) ∙ sym (cond_out (map f) (p (f x)) (x ∷ filter (λ y. p (f y)) xs) (filter (λ y. p (f y)) xs))

swapped : {A : Type 0} (b : Bool) (x y : A) → cond b x y ≡ cond (not b) y x
swapped true x y = refl
swapped false x y = refl

without_kept : (p : book.Entry → Bool) (es : List book.Entry) → without p es ≡ filter (λ e. not (p e)) es
without_kept p [] = refl
without_kept p (e ∷ es) = ap (λ v. cond (p e) v (e ∷ v)) (without_kept p es) ∙ swapped (p e) (filter (λ x. not (p x)) es) (e ∷ filter (λ x. not (p x)) es)

pub without_seen : (p : book.Entry → Bool) (ls : List (List Entry)) → map (map seen) (map (without_all (λ e. p (seen e))) ls) ≡ map (without p) (map (map seen) ls)
without_seen p [] = refl
without_seen p (es ∷ ls) =
    let a = without_kept p (map seen es) in
    let b = kept_map seen (λ e. not (p e)) es in
    let r = without_seen p ls in
    cc

-- ---- counts and sums

one_more : {X : Type 0} (b : Bool) (x : X) (xs : List X) (m : ℕ) → m ≡ length xs → cond b 1 0 + m ≡ length (cond b (x ∷ xs) xs)
one_more true x xs m e = omega arith
one_more false x xs m e = omega arith

pub count_kept : (p : book.Entry → Bool) (es : List book.Entry) → count p es ≡ length (filter p es)
count_kept p [] = refl
count_kept p (e ∷ es) = one_more (p e) e (filter p es) (count p es) (count_kept p es)

pub counts_seen : (p : book.Entry → Bool) (ls : List (List Entry)) → counts p (map (map seen) ls) ≡ tally (λ e. p (seen e)) ls
counts_seen p [] = refl
counts_seen p (es ∷ ls) =
    omega (
      arith,
      count_kept p (map seen es),
      ap length (kept_map seen p es),
      length-map (filter (λ e. p (seen e)) es) seen,
      counts_seen p ls,
      sum_by-cons (λ xs. length (filter (λ e. p (seen e)) xs)) es ls,
    )

weigh_more : (b : Bool) (e : Entry) (es : List Entry) (m : ℕ) → m ≡ sum_by (λ x. x.contracts.value) es →
    cond b e.contracts.value 0 + m ≡ sum_by (λ x. x.contracts.value) (cond b (e ∷ es) es)
weigh_more true e es m h = omega (arith, sum_by-cons (λ (x : Entry). x.contracts.value) e es)
weigh_more false e es m h = omega arith

pub total_seen : (p : book.Entry → Bool) (es : List Entry) → total p (map seen es) ≡ sum_by (λ x. x.contracts.value) (filter (λ e. p (seen e)) es)
total_seen p [] = refl
total_seen p (e ∷ es) = weigh_more (p (seen e)) e (filter (λ x. p (seen x)) es) (total p (map seen es)) (total_seen p es)

pub totals_seen : (p : book.Entry → Bool) (ls : List (List Entry)) → totals p (map (map seen) ls) ≡ weighed (λ x. x.contracts.value) (λ e. p (seen e)) ls
totals_seen p [] = refl
totals_seen p (es ∷ ls) =
    omega (arith, total_seen p es, totals_seen p ls, sum_by-cons (λ xs. sum_by (λ (x : Entry). x.contracts.value) (filter (λ e. p (seen e)) xs)) es ls)

-- ---- one is there where the count is above 0

any_sum : (a b : Bool) (m n : ℕ) → a ≡ ltb 0 m → b ≡ ltb 0 n → (a || b) ≡ ltb 0 (m + n)
any_sum true b m n e f = sym (lt-ltb 0 (m + n) (omega (arith, ltb-true 0 m (sym e))))
any_sum false b m n e f = f ∙ ap (ltb 0) (omega (arith, ltb-false 0 m (sym e)))

one_is : (b : Bool) → b ≡ ltb 0 (cond b 1 0)
one_is true = refl
one_is false = refl

any_count : (p : book.Entry → Bool) (es : List book.Entry) → any_of p es ≡ ltb 0 (count p es)
any_count p [] = refl
any_count p (e ∷ es) = any_sum (p e) (any_of p es) (cond (p e) 1 0) (count p es) (one_is (p e)) (any_count p es)

pub any_counts : (p : book.Entry → Bool) (ess : List (List book.Entry)) → any_in p ess ≡ ltb 0 (counts p ess)
any_counts p [] = refl
any_counts p (es ∷ ess) = any_sum (any_of p es) (any_in p ess) (count p es) (counts p ess) (any_count p es) (any_counts p ess)

-- ---- a tally is within the total

pub kept_short : {X : Type 0} (p : X → Bool) (xs : List X) → length (filter p xs) ≤ length xs
kept_short p xs = omega (arith, length-filter p xs, count_by-le-length p xs)

pub tally_le : {X : Type 0} (p : X → Bool) (ls : List (List X)) → tally p ls ≤ sum_by length ls
tally_le p [] = omega arith
tally_le {X} p (xs ∷ ls) =
    omega (arith, tally_le p ls, kept_short p xs, sum_by-cons (λ (ys : List X). length (filter p ys)) xs ls, sum_by-cons (λ (ys : List X). length ys) xs ls)

-- ---- a sum by place

placed : {X : Type 0} (h : ℕ → ℕ) (w : List X → ℕ) (a : ℕ) (ls : List (List X)) → ((k : ℕ) → k < length ls → h (a + k) ≡ w (get_or ls k [])) → sum_by h (range_with_len a (length ls)) ≡ sum_by w ls
placed h w a [] e = refl
placed h w a (xs ∷ ls) e =
    let next : (k : ℕ) → k < length ls → h (a + 1 + k) ≡ w (get_or ls k []) = λ k lt. let q : a + 1 + k ≡ a + suc k = omega arith in ap h q ∙ e (suc k) (omega arith) in
    let here : h a ≡ w xs = let q : a ≡ a + 0 = omega arith in ap h q ∙ e 0 (omega arith) in
    omega (arith, here, placed h w (a + 1) ls next, sum_by-cons h a (range_with_len (a + 1) (length ls)), sum_by-cons w xs ls)

pub by_place : {X : Type 0} (w : List X → ℕ) (n : ℕ) (ls : List (List X)) → length ls ≡ n → sum_by (λ k. w (get_or ls k [])) (range_with_len 0 n) ≡ sum_by w ls
by_place w n ls e =
    let z : (k : ℕ) → 0 + k ≡ k = λ k. omega arith in
    ap (λ m. sum_by (λ k. w (get_or ls k [])) (range_with_len 0 m)) (sym e) ∙ placed (λ k. w (get_or ls k [])) w 0 ls (λ k lt. ap (λ v. w (get_or ls v [])) (z k))

-- ---- each list changed in turn

-- the first k lists changed by f
abbrev pub done_to : {X : Type 0} → (List X → List X) → ℕ → List (List X) → List (List X)
done_to f zero ls = ls
done_to f (suc k) [] = []
done_to f (suc k) (xs ∷ ls) = f xs ∷ done_to f k ls

pub done_at : {X : Type 0} (f : List X → List X) (k : ℕ) (ls : List (List X)) → get_or (done_to f k ls) k [] ≡ get_or ls k []
done_at f zero ls = refl
done_at f (suc k) [] = refl
done_at f (suc k) (xs ∷ ls) = done_at f k ls

done_suc : {X : Type 0} (f : List X → List X) (k : ℕ) (ls : List (List X)) → k < length ls → changed f (done_to f k ls) k ≡ done_to f (suc k) ls
done_suc f zero [] h = absurd (omega arith)
done_suc f zero (xs ∷ ls) h = refl
done_suc f (suc k) [] h = refl
done_suc f (suc k) (xs ∷ ls) h = ap (λ v. f xs ∷ v) (done_suc f k ls (omega arith))

pub done_more : {X : Type 0} (f : List X → List X) (k : ℕ) (ls : List (List X)) → k < length ls → changed f (done_to f k ls) k ≡ done_to f (k + 1) ls
done_more f k ls h = done_suc f k ls h ∙ ap (λ n. done_to f n ls) (sym (add-one k))

pub done_all : {X : Type 0} (f : List X → List X) (k : ℕ) (ls : List (List X)) → length ls ≤ k → done_to f k ls ≡ map f ls
done_all f zero [] h = refl
done_all f zero (xs ∷ ls) h = absurd (omega arith)
done_all f (suc k) [] h = refl
done_all f (suc k) (xs ∷ ls) h = ap (λ v. f xs ∷ v) (done_all f k ls (omega arith))

-- ---- sums as a u64 has them

pub weighed_more : {X : Type 0} (w : X → ℕ) (p : X → Bool) (ls ms : List (List X)) (k n r s : ℕ) → k < length ls → get_or ms k [] ≡ get_or ls k [] →
    n ≡ saturated (weighed w p (take k ls)) → r ≡ saturated (sum_by w (filter p (get_or ms k []))) → s ≡ saturated (n + r) → s ≡ saturated (weighed w p (take (k + 1) ls))
weighed_more {X} w p ls ms k n r s h e en er es =
    let here = ap (λ v. sum_by w (filter p v)) e in
    let more = sum_by_more (λ (xs : List X). sum_by w (filter p xs)) ls k [] h in
    omega (arith, here, more)
