-- One side of a trade: its entry filled in place, and its slip.
use Rattle.std.proofs.Common.{◌≡◌, ℕ, zero, suc, ◌+◌, ◌-◌, ◌<◌, ◌≤◌, Bool, true, false, cond, not, eqb, leb, ◌⊎◌, List, [], ◌∷◌, ◌++◌, map, length, get_or, set, Some, sum_by, filter, sym, refl, ap, ◌∙◌, subst, inl, inr, ⊎_elim, arith, le-ltb, lt-ltb, le-leb}
use borrow.Author.Tests.{lt-leb}
use Rattle.std.proofs.lemmas.List.{length-map, map-append}
use Rattle.std.proofs.lemmas.List.Sums.{sum_by-cons}
use Rattle.std.proofs.lemmas.Bool.{cases_Bool, cases_lt, cond-true, cond-false, and_parts, eqb-true, eq-eqb, ne_eqb}
use Rattle.chains.specs.declared.table.Chains.{Chains}
use Rattle.chains.specs.Asks.{oldest, first_becomes}
use Rattle.chains.specs.Lists.{lists, places, changed, appended}
use Rattle.chains.proofs.Totals.{total_appended}
use Rattle.terms.specs.declared.entries.Entry.{Entry}
use Rattle.terms.specs.declared.entries.Slip.{Slip}
use Rattle.terms.specs.declared.messages.Fill.{Fill}
use Rattle.market.specs.Book as book
use Rattle.market.specs.Book.{Book, total, totals, count, counts, is_for, slip_count, slip_of, with_resting, with_slips_of, waiting_of}
use Rattle.market.specs.Market.{fills, less, keep, filled_in, side_traded, slips_full}
use Rattle.market.specs.Seen.{seen, seen_slip}
use Rattle.tables.specs.declared.state.Tables.{Tables}
use Rattle.tables.specs.Cross.{on_side, fill_of, names, Stands}
use Rattle.tables.specs.Kept.{seen_entries, seen_slips, Few, Apart}
use Rattle.tables.specs.Held.{book_in, book_of, resting_of, slips_of}
use Rattle.tables.proofs.Listed.{cond_out, count_kept}
use Rattle.tables.proofs.Places.{at_place, put_place}
use Rattle.tables.proofs.Books.{counts_narrower}
use Rattle.tables.proofs.Doing.{same_book}
use Rattle.tables.proofs.Rest.{changed_seen, appended_seen}

-- ---- the entry that a side names

first_map : {X Y : Type 0} (f : X → Y) (p : Y → Bool) (zs xs : List X) → map f (first_becomes (λ x. p (f x)) zs xs) ≡ first_becomes p (map f zs) (map f xs)
first_map f p zs [] = refl
first_map f p zs (x ∷ xs) =
    let a = cond_out (map f) (p (f x)) (zs ++ xs) (x ∷ first_becomes (λ y. p (f y)) zs xs) in
    let b = map-append f zs xs in
    let r = first_map f p zs xs in
    cc

-- none that it names: nothing changes
pub fill_none : (f : Fill) (es : List book.Entry) → count (fills f) es ≡ 0 → filled_in f es ≡ es
fill_none f [] z = refl
fill_none f (e ∷ es) z =
    ⊎_elim (λ y. absurd (omega (arith, z, cond-true {A = ℕ} (fills f e) 1 0 y))) (λ n. cond-false (fills f e) _ _ n ∙ ap (λ v. e ∷ v) (fill_none f es (omega (arith, z)))) (cases_Bool (fills f e))

fill_nowhere : (f : Fill) (ess : List (List book.Entry)) → counts (fills f) ess ≡ 0 → map (filled_in f) ess ≡ ess
fill_nowhere f [] z = refl
fill_nowhere f (es ∷ ess) z =
    let a = fill_none f es (omega (arith, z)) in
    let b = fill_nowhere f ess (omega (arith, z)) in
    cc

keep_on : (e : book.Entry) (es : List book.Entry) → keep e es ≡ keep e [] ++ es
keep_on e es = sym (cond_out (λ v. v ++ es) (eqb e.contracts 0) [] (e ∷ []))

-- the only one that it names, which is the first
fill_one : (f : Fill) (es : List book.Entry) (e : book.Entry) → count (fills f) es ≤ 1 → oldest (filter (fills f) es) ≡ Some e →
    first_becomes (fills f) (keep (less f.contracts e) []) es ≡ filled_in f es
fill_one f [] e h o = refl
fill_one f (x ∷ es) e h o =
    ⊎_elim
    (λ y. let o2 : Some x ≡ Some e = sym (ap oldest (cond-true (fills f x) (x ∷ filter (fills f) es) (filter (fills f) es) y)) ∙ o in
    let q : x ≡ e = cc in
    let z : count (fills f) es ≡ 0 = omega (arith, h, cond-true {A = ℕ} (fills f x) 1 0 y) in
    cond-true (fills f x) _ _ y ∙ ap (λ v. keep (less f.contracts v) [] ++ es) (sym q) ∙ sym (keep_on (less f.contracts x) es)
    ∙ ap (keep (less f.contracts x)) (sym (fill_none f es z)) ∙ sym (cond-true (fills f x) _ _ y))
    (λ n. let o2 : oldest (filter (fills f) es) ≡ Some e = sym (ap oldest (cond-false (fills f x) (x ∷ filter (fills f) es) (filter (fills f) es) n)) ∙ o in
    cond-false (fills f x) _ _ n ∙ ap (λ v. x ∷ v) (fill_one f es e (omega (arith, h)) o2) ∙ sym (cond-false (fills f x) _ _ n))
    (cases_Bool (fills f x))

some_counted : (p : book.Entry → Bool) (es : List book.Entry) (e : book.Entry) → oldest (filter p es) ≡ Some e → 1 ≤ count p es
some_counted p es e o = nonempty (filter p es) o (count_kept p es)
  where
    nonempty : (xs : List book.Entry) → oldest xs ≡ Some e → count p es ≡ length xs → 1 ≤ count p es
    nonempty [] q c = let z : ◌≡◌ {A = ℕ} 0 1 = cc in absurd (omega arith)
    nonempty (x ∷ xs) q c = omega arith

some_at : (p : book.Entry → Bool) (ess : List (List book.Entry)) (k : ℕ) (e : book.Entry) → k < length ess → oldest (filter p (get_or ess k [])) ≡ Some e → 1 ≤ counts p ess
some_at p [] k e h o = absurd (omega arith)
some_at p (es ∷ ess) zero e h o = omega (arith, some_counted p es e o)
some_at p (es ∷ ess) (suc k) e h o = omega (arith, some_at p ess k e (omega arith) o)

-- over all series: only the series that it stands in changes
fill_lists : (f : Fill) (ess : List (List book.Entry)) (k : ℕ) (e : book.Entry) → k < length ess → counts (fills f) ess ≤ 1 → oldest (filter (fills f) (get_or ess k [])) ≡ Some e →
    changed (first_becomes (fills f) (keep (less f.contracts e) [])) ess k ≡ map (filled_in f) ess
fill_lists f [] k e h one o = absurd (omega arith)
fill_lists f (es ∷ ess) zero e h one o =
    let a = fill_one f es e (omega (arith, one)) o in
    let b = fill_nowhere f ess (omega (arith, one, some_counted (fills f) es e o)) in
    cc
fill_lists f (es ∷ ess) (suc k) e h one o =
    let a = fill_none f es (omega (arith, one, some_at (fills f) ess k e (omega arith) o)) in
    let b = fill_lists f ess k e (omega arith) (omega (arith, one)) o in
    cc

-- ---- what stays so

kept_count : (b : Bool) (q : book.Entry → Bool) (e x : book.Entry) (es : List book.Entry) (n : ℕ) → q x ≡ q e → count q es ≤ n → count q (cond b es (x ∷ es)) ≤ cond (q e) 1 0 + n
kept_count true q e x es n s h = omega arith
kept_count false q e x es n s h = omega (arith, ap (λ v. cond {A = ℕ} v 1 0) s)

count_filled : (f : Fill) (q : book.Entry → Bool) → ((e : book.Entry) → q (less f.contracts e) ≡ q e) → (es : List book.Entry) → count q (filled_in f es) ≤ count q es
count_filled f q s [] = omega arith
count_filled f q s (e ∷ es) =
    let r = count_filled f q s es in
    ⊎_elim (λ y. let P : List book.Entry → Type 0 = λ v. count q v ≤ cond (q e) 1 0 + count q es in
    subst P (sym (cond-true (fills f e) _ _ y)) (kept_count (eqb (less f.contracts e).contracts 0) q e (less f.contracts e) (filled_in f es) (count q es) (s e) r))
    (λ n. let P : List book.Entry → Type 0 = λ v. count q v ≤ cond (q e) 1 0 + count q es in subst P (sym (cond-false (fills f e) _ _ n)) (omega (arith, r))) (cases_Bool (fills f e))

counts_filled : (f : Fill) (q : book.Entry → Bool) → ((e : book.Entry) → q (less f.contracts e) ≡ q e) → (ess : List (List book.Entry)) → counts q (map (filled_in f) ess) ≤ counts q ess
counts_filled f q s [] = omega arith
counts_filled f q s (es ∷ ess) = omega (arith, count_filled f q s es, counts_filled f q s ess)

-- ---- contracts on each side

keep_total : (s n : ℕ) (x : book.Entry) (es : List book.Entry) → n ≤ x.contracts → on_side s x ≡ true → total (on_side s) (keep (less n x) es) + n ≡ x.contracts + total (on_side s) es
keep_total s n x es h y =
    ⊎_elim
    (λ z. omega (arith, ap (total (on_side s)) (cond-true (eqb (x.contracts - n) 0) es (less n x ∷ es) z), eqb-true (x.contracts - n) 0 z))
    (λ z. omega (arith, ap (total (on_side s)) (cond-false (eqb (x.contracts - n) 0) es (less n x ∷ es) z), cond-true {A = ℕ} (on_side s x) (x.contracts - n) 0 y))
    (cases_Bool (eqb (x.contracts - n) 0))

total_one : (f : Fill) (es : List book.Entry) (e : book.Entry) → count (fills f) es ≤ 1 → oldest (filter (fills f) es) ≡ Some e → f.contracts ≤ e.contracts →
    total (on_side f.side) (filled_in f es) + f.contracts ≡ total (on_side f.side) es
total_one f [] e h o le = let z : ◌≡◌ {A = ℕ} 0 1 = cc in absurd (omega arith)
total_one f (x ∷ es) e h o le =
    let s = f.side in
    ⊎_elim
    (λ y. let o2 : Some x ≡ Some e = sym (ap oldest (cond-true (fills f x) (x ∷ filter (fills f) es) (filter (fills f) es) y)) ∙ o in
    let q : x ≡ e = cc in
    let z : count (fills f) es ≡ 0 = omega (arith, h, cond-true {A = ℕ} (fills f x) 1 0 y) in
    let side : on_side s x ≡ true = (and_parts (is_for f.login f.number x) (on_side s x) y).1 in
    let now : filled_in f (x ∷ es) ≡ keep (less f.contracts x) es = cond-true (fills f x) _ _ y ∙ ap (keep (less f.contracts x)) (fill_none f es z) in
    omega (arith, ap (total (on_side s)) now, keep_total s f.contracts x es (omega (arith, ap (λ v. v.contracts) q)) side, cond-true {A = ℕ} (on_side s x) x.contracts 0 side))
    (λ n. let o2 : oldest (filter (fills f) es) ≡ Some e = sym (ap oldest (cond-false (fills f x) (x ∷ filter (fills f) es) (filter (fills f) es) n)) ∙ o in
    omega (arith, ap (total (on_side s)) (cond-false (fills f x) (keep (less f.contracts x) (filled_in f es)) (x ∷ filled_in f es) n), total_one f es e (omega (arith, h)) o2 le))
    (cases_Bool (fills f x))

totals_one : (f : Fill) (ess : List (List book.Entry)) (k : ℕ) (e : book.Entry) → k < length ess → counts (fills f) ess ≤ 1 → oldest (filter (fills f) (get_or ess k [])) ≡ Some e → f.contracts ≤ e.contracts →
    totals (on_side f.side) (map (filled_in f) ess) + f.contracts ≡ totals (on_side f.side) ess
totals_one f [] k e h one o le = absurd (omega arith)
totals_one f (es ∷ ess) zero e h one o le =
    omega (arith, total_one f es e (omega (arith, one)) o le, ap (totals (on_side f.side)) (fill_nowhere f ess (omega (arith, one, some_counted (fills f) es e o))))
totals_one f (es ∷ ess) (suc k) e h one o le =
    omega (arith, ap (total (on_side f.side)) (fill_none f es (omega (arith, one, some_at (fills f) ess k e (omega arith) o))), totals_one f ess k e (omega arith) (omega (arith, one)) o le)

total_other : (f : Fill) (s : ℕ) → (f.side ≡ s → ⊥) → (es : List book.Entry) → total (on_side s) (filled_in f es) ≡ total (on_side s) es
total_other f s ne [] = refl
total_other f s ne (x ∷ es) =
    ⊎_elim
    (λ y. let off : on_side s x ≡ false = ne_eqb x.side s (λ q. ne (sym (eqb-true x.side f.side (and_parts _ _ y).1) ∙ q)) in
    omega (
      arith,
      ap (total (on_side s)) (cond-true (fills f x) (keep (less f.contracts x) (filled_in f es)) (x ∷ filled_in f es) y),
      kept_off (eqb (x.contracts - f.contracts) 0) (less f.contracts x) (filled_in f es) off,
      cond-false {A = ℕ} (on_side s x) x.contracts 0 off,
      total_other f s ne es,
    ))
    (λ n. omega (arith, ap (total (on_side s)) (cond-false (fills f x) (keep (less f.contracts x) (filled_in f es)) (x ∷ filled_in f es) n), total_other f s ne es))
    (cases_Bool (fills f x))
  where
    kept_off : (b : Bool) (y : book.Entry) (ys : List book.Entry) → on_side s y ≡ false → total (on_side s) (cond b ys (y ∷ ys)) ≡ total (on_side s) ys
    kept_off true y ys off = refl
    kept_off false y ys off = omega (arith, cond-false {A = ℕ} (on_side s y) y.contracts 0 off)

totals_other : (f : Fill) (s : ℕ) → (f.side ≡ s → ⊥) → (ess : List (List book.Entry)) → totals (on_side s) (map (filled_in f) ess) ≡ totals (on_side s) ess
totals_other f s ne [] = refl
totals_other f s ne (es ∷ ess) = omega (arith, total_other f s ne es, totals_other f s ne ess)

-- ---- an entry filled

pub record Filled (es es' : Chains Entry 16) (e : book.Entry) (n : ℕ) : Type 0 where
  pub few : Few (seen_entries es')
  pub apart : Apart (seen_entries es')
  pub filled : (price : ℕ) → seen_entries es' ≡ map (filled_in (fill_of e n price)) (seen_entries es)
  pub own : totals (on_side e.side) (seen_entries es') + n ≡ totals (on_side e.side) (seen_entries es)
  pub others : (side : ℕ) → (e.side ≡ side → ⊥) → totals (on_side side) (seen_entries es') ≡ totals (on_side side) (seen_entries es)

pub filled : (es es' : Chains Entry 16) (k s : ℕ) (x : Entry) (n : ℕ) (zs : List Entry) → Few (seen_entries es) → Apart (seen_entries es) → k + 1 ≡ s → k < length (lists es) → Stands (get_or (seen_entries es) (s - 1) []) (seen x) →
    n ≤ x.contracts.value → map seen zs ≡ keep (less n (seen x)) [] → lists es' ≡ changed (first_becomes (λ e. names (seen x) (seen e)) zs) (lists es) k → Filled es es' (seen x) n
filled es es' k s x n zs few apart ks h stands le ez el =
    let ess = seen_entries es in
    let place : s - 1 ≡ k = omega arith in
    let S : ℕ → Type 0 = λ v. Stands (get_or ess v []) (seen x) in
    let o = subst S place stands in
    let kl : k < length ess = omega (arith, length-map (lists es) (map seen)) in
    let one : counts (names (seen x)) ess ≤ 1 = omega (arith, counts_narrower (names (seen x)) (is_for x.login.value x.number.value) (λ e y. (and_parts _ _ y).0) ess, apart x.login.value x.number.value) in
    let first = changed_seen seen (first_becomes (λ e. names (seen x) (seen e)) zs) (first_becomes (names (seen x)) (map seen zs)) (lists es) k h (first_map seen (names (seen x)) zs (get_or (lists es) k [])) in
    let now : (price : ℕ) → seen_entries es' ≡ map (filled_in (fill_of (seen x) n price)) ess =
    λ price. ap (map (map seen)) el ∙ first ∙ ap (λ v. changed (first_becomes (names (seen x)) v) ess k) ez ∙ fill_lists (fill_of (seen x) n price) ess k (seen x) kl one o in
    let P : List (List book.Entry) → Type 0 = Few in
    let Q : List (List book.Entry) → Type 0 = Apart in
    let f = fill_of (seen x) n 0 in
    let fewer : Few (map (filled_in f) ess) = λ l. omega (arith, counts_filled f (λ e. eqb e.login l) (λ e. refl) ess, few l) in
    let still : Apart (map (filled_in f) ess) = λ l m. omega (arith, counts_filled f (is_for l m) (λ e. refl) ess, apart l m) in
    record {
      few = subst P (sym (now 0)) fewer;
      apart = subst Q (sym (now 0)) still;
      filled = now;
      own = omega (arith, ap (totals (on_side (seen x).side)) (now 0), totals_one f ess k (seen x) kl one o le);
      others = λ side ne. ap (totals (on_side side)) (now 0) ∙ totals_other f side ne ess;
    }

-- what is left of it: the same entry with the contracts left, or nothing
pub some_left : (x : book.Entry) (n m : ℕ) → m ≡ x.contracts - n → 1 ≤ m → keep (less n x) [] ≡ less n x ∷ []
some_left x n m e h = cond-false (eqb (x.contracts - n) 0) _ _ (ne_eqb (x.contracts - n) 0 (λ z. omega arith))

pub none_left : (x : book.Entry) (n m : ℕ) → m ≡ x.contracts - n → (1 ≤ m → m ≤ 65535 → ⊥) → x.contracts ≤ 65535 → keep (less n x) [] ≡ []
none_left x n m e h high = cond-true (eqb (x.contracts - n) 0) _ _ (eq-eqb (x.contracts - n) 0 (zero_left (cases_lt m 1)))
  where
    zero_left : (m < 1) ⊎ (1 ≤ m) → x.contracts - n ≡ 0
    zero_left (inl l) = omega arith
    zero_left (inr l) = absurd (h l (omega arith))

pub same_less : (x : book.Entry) (n m : ℕ) → m ≡ x.contracts - n →
    ◌≡◌ {A = book.Entry} (record { login = x.login; number = x.number; side = x.side; kind = x.kind; price = x.price; contracts = m }) (less n x)
same_less x n m e = λ i. record { login = x.login; number = x.number; side = x.side; kind = x.kind; price = x.price; contracts = e i }

-- ---- a slip given

slip_count_seen : (ls : List (List Slip)) → slip_count (map (map seen_slip) ls) ≡ sum_by length ls
slip_count_seen [] = refl
slip_count_seen (xs ∷ ls) = omega (arith, slip_count_seen ls, length-map xs seen_slip, sum_by-cons (λ (ys : List Slip). length ys) xs ls)

pub slips_counted : (t : Tables) → slip_count (slips_of t) ≡ sum_by length (lists t.slips)
slips_counted t = slip_count_seen (lists t.slips)

pub record Handed (es : Chains Entry 16) (ss ss' : Chains Slip 24) (login : ℕ) (s : Slip) : Type 0 where
  pub given : book_in es ss' ≡ with_slips_of (book_in es ss) login (waiting_of (book_in es ss) login ++ seen_slip s ∷ [])
  pub more : slip_count (seen_slips ss') ≡ slip_count (seen_slips ss) + 1

pub handed : (es : Chains Entry 16) (ss ss' : Chains Slip 24) (k login : ℕ) (s : Slip) → k + 1 ≡ login → k < length (lists ss) →
    lists ss' ≡ appended (lists ss) k s → places ss' ≡ places ss → Handed es ss ss' login s
handed es ss ss' k login s e h el ep =
    let sss = seen_slips ss in
    let seen_now : seen_slips ss' ≡ appended sss k (seen_slip s) = ap (map (map seen_slip)) el ∙ appended_seen seen_slip (lists ss) k s h in
    let b = book_in es ss in
    let after = with_slips_of b login (waiting_of b login ++ seen_slip s ∷ []) in
    let named : after.slips ≡ appended sss k (seen_slip s) = put_place sss k login _ e ∙ ap (λ v. set sss k (v ++ seen_slip s ∷ [])) (at_place [] sss k login e) in
    record {
      given = same_book (book_in es ss') after refl (seen_now ∙ sym named) ep;
      more = omega (arith, slip_count_seen (lists ss), slip_count_seen (lists ss'), ap (λ v. sum_by length v) el, total_appended (lists ss) k s h);
    }

-- ---- room for two slips

pub room_test : (t : Tables) (r : ℕ) → r + sum_by length (lists t.slips) ≡ places t.slips → leb 2 r ≡ not (slips_full (book_of t))
room_test t r e =
    ⊎_elim (λ l. lt-leb 2 r l ∙ sym (ap not (lt-ltb _ _ (omega (arith, slips_counted t)))))
    (λ l. le-leb 2 r l ∙ sym (ap not (le-ltb _ _ (omega (arith, slips_counted t))))) (cases_lt r 2)

-- ---- one side of a trade

pub same_count : (t u : Tables) → t.slips ≡ u.slips → slip_count (slips_of t) ≡ slip_count (slips_of u)
same_count t u e = ap (λ v. slip_count (seen_slips v)) e

pub side_done : (t u v : Tables) (f : Fill) → resting_of u ≡ map (filled_in f) (resting_of t) → u.slips ≡ t.slips →
    book_of v ≡ with_slips_of (book_of u) f.login (waiting_of (book_of u) f.login ++ slip_of f ∷ []) → book_of v ≡ side_traded f (book_of t)
side_done t u v f er es ev =
    let mid : book_of u ≡ with_resting (book_of t) (map (filled_in f) (resting_of t)) =
    same_book (book_of u) (with_resting (book_of t) (map (filled_in f) (resting_of t))) er (ap (λ c. map (map seen_slip) (lists c)) es) (ap places es) in
    ev ∙ ap (λ b. with_slips_of b f.login (waiting_of b f.login ++ slip_of f ∷ [])) mid
