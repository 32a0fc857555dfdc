-- The oldest slip of a login, and tables with nothing in them.
use Rattle.std.proofs.Common.{◌≡◌, ℕ, zero, suc, ◌+◌, ◌<◌, Bool, true, false, eqb, List, [], ◌∷◌, map, length, get_or, drop, set, replicate, sum_by, Option, sym, refl, ap, ◌∙◌, subst, ⊎_elim, arith}
use Rattle.std.proofs.lemmas.Bool.{cases_eq, eq-eqb, ne_eqb}
use Rattle.std.proofs.lemmas.List.{length-map, get_or-map}
use Rattle.std.proofs.lemmas.List.Sums.{sum_by-cons}
use Rattle.chains.specs.declared.table.Chains.{Chains}
use Rattle.chains.specs.Asks as asks
use Rattle.chains.specs.Lists.{lists, places, changed}
use Rattle.terms.specs.declared.entries.Entry.{Entry}
use Rattle.terms.specs.declared.entries.Slip.{Slip}
use Rattle.market.specs.Book.{empty, waiting_of}
use Rattle.market.specs.Market.{oldest, younger, Shown, Dropped, dropped, Bare}
use Rattle.market.specs.Seen.{seen, seen_slip, seen_oldest}
use Rattle.tables.specs.declared.state.Tables.{Tables}
use Rattle.tables.specs.Kept.{seen_slips}
use Rattle.tables.specs.Held.{book_in, book_of, resting_of, slips_of}
use Rattle.tables.proofs.Places.{at_place, put_place}
use Rattle.tables.proofs.Doing.{same_book}
use Rattle.tables.proofs.Rest.{changed_seen}

-- ---- the oldest slip

oldest_seen : (xs : List Slip) → seen_oldest (asks.oldest xs) ≡ oldest (map seen_slip xs)
oldest_seen [] = refl
oldest_seen (x ∷ xs) = refl

drop_seen : (xs : List Slip) → map seen_slip (drop 1 xs) ≡ younger (map seen_slip xs)
drop_seen [] = refl
drop_seen (x ∷ xs) = refl

waiting_at : (es : Chains Entry 16) (ss : Chains Slip 24) (k login : ℕ) → k + 1 ≡ login → k < length (lists ss) → waiting_of (book_in es ss) login ≡ map seen_slip (get_or (lists ss) k [])
waiting_at es ss k login e h = at_place [] (seen_slips ss) k login e ∙ get_or-map (map seen_slip) (lists ss) k [] [] h

pub shown : (es : Chains Entry 16) (ss : Chains Slip 24) (k login : ℕ) (r : Option Slip) → k + 1 ≡ login → k < length (lists ss) → r ≡ asks.oldest (get_or (lists ss) k []) → Shown (book_in es ss) login (seen_oldest r)
shown es ss k login r e h er = ap seen_oldest er ∙ oldest_seen (get_or (lists ss) k []) ∙ ap oldest (sym (waiting_at es ss k login e h))

pub one_gone : (es : Chains Entry 16) (ss ss' : Chains Slip 24) (k login : ℕ) (r : Option Slip) → k + 1 ≡ login → k < length (lists ss) → r ≡ asks.oldest (get_or (lists ss) k []) →
    lists ss' ≡ changed (drop 1) (lists ss) k → places ss' ≡ places ss → Dropped (book_in es ss) login (seen_oldest r) (book_in es ss')
one_gone es ss ss' k login r e h er el ep =
    let sss = seen_slips ss in
    let now : seen_slips ss' ≡ changed younger sss k = ap (map (map seen_slip)) el ∙ changed_seen seen_slip (drop 1) younger (lists ss) k h (drop_seen (get_or (lists ss) k [])) in
    let named : (dropped (book_in es ss) login).slips ≡ changed younger sss k = put_place sss k login _ e ∙ ap (λ v. set sss k (younger v)) (at_place [] sss k login e) in
    (shown es ss k login r e h er, same_book (book_in es ss') (dropped (book_in es ss) login) refl (now ∙ sym named) ep)

-- ---- nothing in the tables

none_listed : {X : Type 0} (n : ℕ) (ls : List (List X)) → length ls ≡ n → sum_by length ls ≡ 0 → ls ≡ replicate n []
none_listed zero [] e z = refl
none_listed zero (xs ∷ ls) e z = absurd (omega arith)
none_listed (suc n) [] e z = absurd (omega arith)
none_listed {X} (suc n) ([] ∷ ls) e z = ap (λ v. [] ∷ v) (none_listed n ls (omega arith) (omega (arith, sum_by-cons (λ (xs : List X). length xs) [] ls)))
none_listed {X} (suc n) ((x ∷ xs) ∷ ls) e z = absurd (omega (arith, sum_by-cons (λ (xs : List X). length xs) (x ∷ xs) ls))

listed_none : {X : Type 0} (n : ℕ) (ls : List (List X)) → ls ≡ replicate n [] → sum_by length ls ≡ 0
listed_none {X} n ls e = ap (λ v. sum_by (λ (xs : List X). length xs) v) e ∙ empties n
  where
    empties : (n : ℕ) → sum_by (λ (xs : List X). length xs) (replicate n []) ≡ 0
    empties zero = refl
    empties (suc n) = omega (arith, sum_by-cons (λ (xs : List X). length xs) [] (replicate n []), empties n)

seen_total : {X Y : Type 0} (f : X → Y) (ls : List (List X)) → sum_by length (map (map f) ls) ≡ sum_by length ls
seen_total f [] = refl
seen_total {X} {Y} f (xs ∷ ls) =
    omega (arith, sum_by-cons (λ (xs : List Y). length xs) (map f xs) (map (map f) ls), sum_by-cons (λ (xs : List X). length xs) xs ls, length-map xs f, seen_total f ls)

pub seen_none : {X Y : Type 0} (f : X → Y) (n : ℕ) → map (map f) (replicate n []) ≡ replicate n []
seen_none f zero = refl
seen_none f (suc n) = ap (λ v. [] ∷ v) (seen_none f n)

bare : (t : Tables) → length (resting_of t) ≡ 16 → length (slips_of t) ≡ 24 → sum_by length (lists t.entries) ≡ 0 → sum_by length (lists t.slips) ≡ 0 → Bare (book_of t) true
bare t le ls ze zs =
    same_book (book_of t) (empty (places t.slips)) (none_listed 16 (resting_of t) le (seen_total seen (lists t.entries) ∙ ze))
    (none_listed 24 (slips_of t) ls (seen_total seen_slip (lists t.slips) ∙ zs)) refl

rests_some : (t : Tables) → (sum_by length (lists t.entries) ≡ 0 → ⊥) → Bare (book_of t) false
rests_some t n e = n (sym (seen_total seen (lists t.entries)) ∙ listed_none 16 (resting_of t) (ap (λ b. b.resting) e))

waits_some : (t : Tables) → (sum_by length (lists t.slips) ≡ 0 → ⊥) → Bare (book_of t) false
waits_some t n e = n (sym (seen_total seen_slip (lists t.slips)) ∙ listed_none 24 (slips_of t) (ap (λ b. b.slips) e))

pub bare_slips : (t : Tables) (n : ℕ) → length (resting_of t) ≡ 16 → length (slips_of t) ≡ 24 → sum_by length (lists t.entries) ≡ 0 → n ≡ sum_by length (lists t.slips) → Bare (book_of t) (eqb n 0)
bare_slips t n le ls ze en =
    let P : Bool → Type 0 = Bare (book_of t) in
    ⊎_elim (λ z. subst P (sym (eq-eqb n 0 z)) (bare t le ls ze (sym en ∙ z))) (λ ne. subst P (sym (ne_eqb n 0 ne)) (waits_some t (λ z. ne (en ∙ z)))) (cases_eq n 0)

pub bare_entries : (t : Tables) (n : ℕ) → n ≡ sum_by length (lists t.entries) → (n ≡ 0 → ⊥) → Bare (book_of t) (eqb n 0)
bare_entries t n en ne = let P : Bool → Type 0 = Bare (book_of t) in subst P (sym (ne_eqb n 0 ne)) (rests_some t (λ z. ne (en ∙ z)))
