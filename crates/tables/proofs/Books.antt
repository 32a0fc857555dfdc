-- What a change of the book does to counts: an entry more, entries less; and what bounds them.
use Rattle.std.proofs.Common.{◌≡◌, ℕ, zero, suc, ◌+◌, ◌*◌, ◌<◌, ◌≤◌, Bool, true, false, cond, eqb, List, [], ◌∷◌, ◌++◌, map, length, get_or, set, sum_by, refl, ap, ⊎_elim, arith, eq-eqb, ne_eqb}
use Rattle.std.proofs.lemmas.List.Sums.{sum_by-cons}
use Rattle.std.proofs.lemmas.Bool.{cases_eq, cond-true, cond-false, and_parts}
use Rattle.terms.specs.Tables.{up_to}
use Rattle.terms.specs.declared.entries.Entry.{Entry}
use Rattle.market.specs.Book as book
use Rattle.market.specs.Book.{total, totals, count, counts, without, is_for, in_reach}
use Rattle.market.specs.Seen.{seen}
use Rattle.tables.specs.Kept.{Few}

-- ---- an entry more

count_append : (q : book.Entry → Bool) (es : List book.Entry) (e : book.Entry) → count q (es ++ e ∷ []) ≡ count q es + cond (q e) 1 0
count_append q [] e = omega arith
count_append q (x ∷ es) e = omega (arith, count_append q es e)

pub counts_set : (q : book.Entry → Bool) (ess : List (List book.Entry)) (k : ℕ) (es : List book.Entry) → k < length ess →
    counts q (set ess k es) + count q (get_or ess k []) ≡ counts q ess + count q es
counts_set q [] k es h = absurd (omega arith)
counts_set q (xs ∷ ess) zero es h = omega arith
counts_set q (xs ∷ ess) (suc k) es h = omega (arith, counts_set q ess k es (omega arith))

pub counts_append : (q : book.Entry → Bool) (ess : List (List book.Entry)) (k : ℕ) (e : book.Entry) → k < length ess →
    counts q (set ess k (get_or ess k [] ++ e ∷ [])) ≡ counts q ess + cond (q e) 1 0
counts_append q ess k e h = omega (arith, counts_set q ess k (get_or ess k [] ++ e ∷ []) h, count_append q (get_or ess k []) e)

-- ---- entries less

less_one : (b : Bool) (n : ℕ) (q : book.Entry → Bool) (e : book.Entry) (es : List book.Entry) → count q es ≤ n → count q (cond b es (e ∷ es)) ≤ cond (q e) 1 0 + n
less_one true n q e es h = omega arith
less_one false n q e es h = omega arith

count_without : (p q : book.Entry → Bool) (es : List book.Entry) → count q (without p es) ≤ count q es
count_without p q [] = omega arith
count_without p q (e ∷ es) = less_one (p e) (count q es) q e (without p es) (count_without p q es)

pub counts_without : (p q : book.Entry → Bool) (ess : List (List book.Entry)) → counts q (map (without p) ess) ≤ counts q ess
counts_without p q [] = omega arith
counts_without p q (es ∷ ess) = omega (arith, count_without p q es, counts_without p q ess)

-- ---- a test that asks more picks fewer

narrower : (a b : Bool) → (a ≡ true → b ≡ true) → cond a 1 0 ≤ cond b 1 0
narrower true b h = omega (arith, cond-true {A = ℕ} b 1 0 (h refl))
narrower false true h = omega arith
narrower false false h = omega arith

count_narrower : (p q : book.Entry → Bool) → ((e : book.Entry) → p e ≡ true → q e ≡ true) → (es : List book.Entry) → count p es ≤ count q es
count_narrower p q h [] = omega arith
count_narrower p q h (e ∷ es) = omega (arith, narrower (p e) (q e) (h e), count_narrower p q h es)

pub counts_narrower : (p q : book.Entry → Bool) → ((e : book.Entry) → p e ≡ true → q e ≡ true) → (ess : List (List book.Entry)) → counts p ess ≤ counts q ess
counts_narrower p q h [] = omega arith
counts_narrower p q h (es ∷ ess) = omega (arith, count_narrower p q h es, counts_narrower p q h ess)

-- ---- what the entries that are picked have together

heavy : (b : Bool) (n : ℕ) → n ≤ 65535 → cond b n 0 ≤ 65535 * cond b 1 0
heavy true n h = omega arith
heavy false n h = omega arith

pub total_le : (p : book.Entry → Bool) (es : List Entry) → total p (map seen es) ≤ 65535 * count p (map seen es)
total_le p [] = omega arith
total_le p (e ∷ es) = omega (arith, heavy (p (seen e)) e.contracts.value e.contracts.high, total_le p es)

pub totals_le : (p : book.Entry → Bool) (ls : List (List Entry)) → totals p (map (map seen) ls) ≤ 65535 * counts p (map (map seen) ls)
totals_le p [] = omega arith
totals_le p (es ∷ ls) = omega (arith, total_le p es, totals_le p ls)

-- the entries of one login have 16 × 65,535 contracts at most
pub login_total : (p : book.Entry → Bool) (login : ℕ) → ((e : book.Entry) → p e ≡ true → eqb e.login login ≡ true) → (ls : List (List Entry)) → Few (map (map seen) ls) →
    totals p (map (map seen) ls) ≤ 1048560
login_total p login h ls few = omega (arith, totals_le p ls, counts_narrower p (λ e. eqb e.login login) h (map (map seen) ls), few login)

pub is_for_login : (login number : ℕ) (e : book.Entry) → is_for login number e ≡ true → eqb e.login login ≡ true
is_for_login login number e h = (and_parts _ _ h).0

pub in_reach_login : (login reach : ℕ) (e : book.Entry) → in_reach login reach e ≡ true → eqb e.login login ≡ true
in_reach_login login reach e h = (and_parts _ _ h).0

-- ---- how many entries rest, login by login

up_to_add : (n : ℕ) (f g : ℕ → ℕ) → up_to n (λ l. f l + g l) ≡ up_to n f + up_to n g
up_to_add zero f g = omega arith
up_to_add (suc n) f g = omega (arith, up_to_add n f g)

up_to_none : (n : ℕ) → up_to n (λ _. 0) ≡ 0
up_to_none zero = refl
up_to_none (suc n) = omega (arith, up_to_none n)

past_all : (n v : ℕ) → n < v → up_to n (λ l. cond (eqb v l) 1 0) ≡ 0
past_all zero v h = refl
past_all (suc n) v h = omega (arith, past_all n v (omega arith), cond-false {A = ℕ} (eqb v (suc n)) 1 0 (ne_eqb v (suc n) (λ e. omega arith)))

once : (n v : ℕ) → 1 ≤ v → v ≤ n → up_to n (λ l. cond (eqb v l) 1 0) ≡ 1
once zero v low high = absurd (omega arith)
once (suc n) v low high =
    ⊎_elim (λ e. omega (arith, past_all n v (omega arith), cond-true {A = ℕ} (eqb v (suc n)) 1 0 (eq-eqb v (suc n) e)))
    (λ ne. omega (arith, once n v low (omega arith), cond-false {A = ℕ} (eqb v (suc n)) 1 0 (ne_eqb v (suc n) ne))) (cases_eq v (suc n))

by_login : (n : ℕ) → ((e : Entry) → e.login.value ≤ n) → (es : List Entry) → up_to n (λ l. count (λ e. eqb e.login l) (map seen es)) ≡ length es
by_login n h [] = up_to_none n
by_login n h (e ∷ es) =
    omega (arith, up_to_add n (λ l. cond (eqb e.login.value l) 1 0) (λ l. count (λ x. eqb x.login l) (map seen es)), once n e.login.value e.login.low (h e), by_login n h es)

by_logins : (n : ℕ) → ((e : Entry) → e.login.value ≤ n) → (ls : List (List Entry)) → up_to n (λ l. counts (λ e. eqb e.login l) (map (map seen) ls)) ≡ sum_by length ls
by_logins n h [] = up_to_none n
by_logins n h (es ∷ ls) =
    omega (
      arith,
      up_to_add n (λ l. count (λ x. eqb x.login l) (map seen es)) (λ l. counts (λ x. eqb x.login l) (map (map seen) ls)),
      by_login n h es,
      by_logins n h ls,
      sum_by-cons (λ (xs : List Entry). length xs) es ls,
    )

up_to_le : (n : ℕ) (f : ℕ → ℕ) → ((l : ℕ) → f l ≤ 16) → up_to n f ≤ 16 * n
up_to_le zero f h = omega arith
up_to_le (suc n) f h = omega (arith, h (suc n), up_to_le n f h)

up_to_lt : (n : ℕ) (f : ℕ → ℕ) (v : ℕ) → ((l : ℕ) → f l ≤ 16) → 1 ≤ v → v ≤ n → f v < 16 → up_to n f < 16 * n
up_to_lt zero f v h low high lt = absurd (omega arith)
up_to_lt (suc n) f v h low high lt =
    ⊎_elim (λ e. omega (arith, up_to_le n f h, ap f e)) (λ ne. omega (arith, h (suc n), up_to_lt n f v h low (omega arith) lt)) (cases_eq v (suc n))

-- all rest 16 entries of each login at most
pub all_few : (n : ℕ) → ((e : Entry) → e.login.value ≤ n) → (ls : List (List Entry)) → Few (map (map seen) ls) → sum_by length ls ≤ 16 * n
all_few n h ls few = omega (arith, by_logins n h ls, up_to_le n (λ l. counts (λ e. eqb e.login l) (map (map seen) ls)) few)

-- while a login rests fewer than 16, there is a place for one more
pub room_left : (n : ℕ) → ((e : Entry) → e.login.value ≤ n) → (ls : List (List Entry)) (login : ℕ) → Few (map (map seen) ls) → 1 ≤ login → login ≤ n →
    counts (λ e. eqb e.login login) (map (map seen) ls) < 16 → sum_by length ls < 16 * n
room_left n h ls login few low high lt =
    omega (arith, by_logins n h ls, up_to_lt n (λ l. counts (λ e. eqb e.login l) (map (map seen) ls)) login few low high lt)
