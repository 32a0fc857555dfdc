-- The best of a list seen through a function, and the walk to the lowest series that crosses.
use Rattle.std.proofs.Common.{◌≡◌, ℕ, zero, suc, ◌+◌, ◌-◌, ◌<◌, ◌≤◌, ◌⊎◌, Bool, true, false, cond, not, ◌&&◌, ◌||◌, List, [], ◌∷◌, map, length, get_or, drop, Some, None, Ok, Err, fold, filter, Option, Result, sym, refl, ap, ◌∙◌, inl, inr, add-one, arith}
use Rattle.std.specs.Result.{result_ok}
use Rattle.std.proofs.lemmas.Bool.{cases_lt}
use Rattle.std.specs.Option.{option_map, MatchOption}
use Rattle.std.proofs.lemmas.List.{drop_more, drop_all, get_or-map}
use Rattle.chains.specs.Asks.{preferred, best, oldest}
use Rattle.terms.specs.declared.entries.Entry.{Entry}
use Rattle.terms.specs.declared.kinds.Side.{Side}
use Rattle.terms.specs.declared.kinds.Side.TheVariants.{Buy, Sell}
use Rattle.terms.specs.declared.bounded.Bounded.{Bounded}
use Rattle.terms.specs.declared.refusal.Refusal.{Refusal}
use Rattle.terms.specs.Kinds.{side_number}
use Rattle.terms.specs.Ranges.{Reads}
use Rattle.terms.specs.Tables.{at}
use Rattle.terms.proofs.Tables.{at_past}
use Rattle.market.specs.Book as book
use Rattle.market.specs.Book.{is_for}
use Rattle.market.specs.Seen.{seen}
use Rattle.tables.specs.Cross.{on_side, best_buy, best_sell, beats, best_on, Crossing, pair_in, or_else, crossing_from, lowest, crossing_at, before}
use Rattle.tables.proofs.Listed.{cond_out, kept_map}
use Rattle.tables.proofs.Places.{at_place}

-- ---- the best

preferred_map : {X Y : Type 0} (f : X → Y) (beats : Y → Y → Bool) (o : Option X) (x : X) → option_map f (preferred (λ a b. beats (f a) (f b)) o x) ≡ preferred beats (option_map f o) (f x)
preferred_map f beats None x = refl
preferred_map f beats (Some y) x = ap Some (cond_out f (beats (f x) (f y)) x y)

folded_map : {X Y : Type 0} (f : X → Y) (beats : Y → Y → Bool) (o : Option X) (xs : List X) →
    option_map f (fold (preferred (λ a b. beats (f a) (f b))) o xs) ≡ fold (preferred beats) (option_map f o) (map f xs)
folded_map f beats o [] = refl
folded_map f beats o (x ∷ xs) = folded_map f beats (preferred (λ a b. beats (f a) (f b)) o x) xs ∙ ap (λ v. fold (preferred beats) v (map f xs)) (preferred_map f beats o x)

pub best_in : (beats : book.Entry → book.Entry → Bool) (p : book.Entry → Bool) (ls : List (List Entry)) (k s : ℕ) (r : Option Entry) → k + 1 ≡ s → k < length ls →
    r ≡ best (λ a b. beats (seen a) (seen b)) (filter (λ e. p (seen e)) (get_or ls k [])) → option_map seen r ≡ best beats (filter p (get_or (map (map seen) ls) (s - 1) []))
best_in beats p ls k s r ks h e =
    let place : k ≡ s - 1 = omega arith in
    ap (option_map seen) e ∙ folded_map seen beats None (filter (λ e. p (seen e)) (get_or ls k [])) ∙ ap (best beats) (sym (kept_map seen p (get_or ls k [])))
    ∙ ap (λ v. best beats (filter p v)) (sym (get_or-map (map seen) ls k [] [] h)) ∙ ap (λ v. best beats (filter p (get_or (map (map seen) ls) v []))) place

pub best_by_side : (side : Side) (es : List book.Entry) → best (beats side) (filter (on_side (side_number side)) es) ≡ best_on side es
unfolding best_buy best_sell
best_by_side Buy es = refl
best_by_side Sell es = refl

-- ---- the walk

walk_on : (ess : List (List book.Entry)) (k : ℕ) → k < length ess → crossing_from k (drop k ess) ≡ or_else (crossing_at ess (1 + k)) (crossing_from (k + 1) (drop (k + 1) ess))
walk_on ess k h =
    let here : pair_in (get_or ess k []) ≡ pair_in (at [] ess (1 + k)) = ap pair_in (sym (at_place [] ess k (1 + k) (omega arith))) in
    let place : k ≡ 1 + k - 1 = omega arith in
    ap (crossing_from k) (drop_more ess k [] h)
    ∙ (λ i. or_else (option_map (λ p. record { series = place i; pair = p }) (here i)) (crossing_from (suc k) (drop (k + 1) ess)))
    ∙ ap (λ n. or_else (crossing_at ess (1 + k)) (crossing_from n (drop (k + 1) ess))) (sym (add-one k))

-- the series before the k-th do not cross
passed : (ess : List (List book.Entry)) (k : ℕ) → k ≤ length ess → ((j : ℕ) → j < k → None ≡ crossing_at ess (1 + j)) → lowest ess ≡ crossing_from k (drop k ess)
passed ess zero h none = refl
passed ess (suc k) h none =
    passed ess k (omega arith) (λ j lt. none j (omega arith)) ∙ walk_on ess k (omega arith)
    ∙ ap (λ v. or_else v (crossing_from (k + 1) (drop (k + 1) ess))) (sym (none k (omega arith))) ∙ ap (λ n. crossing_from n (drop n ess)) (add-one k)

-- a search of the series in order
abbrev pub Sought : List (List book.Entry) → Option Crossing → Type 0
Sought ess r = MatchOption r ((k : ℕ) → k < 16 → None ≡ crossing_at ess (1 + k)) (λ x. (i : ℕ) × (i < 16) × (Some x ≡ crossing_at ess (1 + i)) × ((k : ℕ) → k < i → None ≡ crossing_at ess (1 + k)))

pub lowest_found : (ess : List (List book.Entry)) (r : Option Crossing) → length ess ≡ 16 → Sought ess r → r ≡ lowest ess
lowest_found ess None sixteen s =
    sym (passed ess 16 (omega arith) s ∙ ap (crossing_from 16) (drop_all 16 ess (omega arith)))
lowest_found ess (Some x) sixteen s =
    sym (passed ess s.0 (omega (arith, s.1)) s.3 ∙ walk_on ess s.0 (omega (arith, s.1)) ∙ ap (λ v. or_else v (crossing_from (s.0 + 1) (drop (s.0 + 1) ess))) (sym s.2))

-- ---- which of two is first

-- whether a is the one that was found first
abbrev pub first_is : (a : book.Entry) → Option book.Entry → Bool
first_is a None = false
first_is a (Some e) = is_for a.login a.number e

before_step : (x y rest : Bool) (a e : book.Entry) (es : List book.Entry) → is_for a.login a.number e ≡ x → rest ≡ first_is a (oldest es) →
    (x || (not y && rest)) ≡ first_is a (oldest (cond (x || y) (e ∷ es) es))
before_step true y rest a e es ex er = sym ex
before_step false true rest a e es ex er = sym ex
before_step false false rest a e es ex er = er

pub before_first : (a b : book.Entry) (es : List book.Entry) →
    before a b es ≡ first_is a (oldest (filter (λ e. is_for a.login a.number e || is_for b.login b.number e) es))
before_first a b [] = refl
before_first a b (e ∷ es) = before_step (is_for a.login a.number e) (is_for b.login b.number e) (before a b es) a e _ refl (before_first a b es)

pub oldest_map : {X Y : Type 0} (f : X → Y) (xs : List X) → option_map f (oldest xs) ≡ oldest (map f xs)
oldest_map f [] = refl
oldest_map f (x ∷ xs) = refl

-- what the first that meets either test is
pub first_in : (p : book.Entry → Bool) (ls : List (List Entry)) (k s : ℕ) (r : Option Entry) → k + 1 ≡ s → k < length ls →
    r ≡ oldest (filter (λ e. p (seen e)) (get_or ls k [])) → option_map seen r ≡ oldest (filter p (get_or (map (map seen) ls) (s - 1) []))
first_in p ls k s r ks h e =
    let place : k ≡ s - 1 = omega arith in
    ap (option_map seen) e ∙ oldest_map seen (filter (λ e. p (seen e)) (get_or ls k [])) ∙ ap oldest (sym (kept_map seen p (get_or ls k [])))
    ∙ ap (λ v. oldest (filter p v)) (sym (get_or-map (map seen) ls k [] [] h)) ∙ ap (λ v. oldest (filter p (get_or (map (map seen) ls) v []))) place

-- ---- a number that no series has

pub no_series : (n : ℕ) (o : Result (Bounded 1 16) Refusal) → Reads (λ b. b.value) 1 16 n o → result_ok o ≡ None → (1 ≤ n → n ≤ 16 → ⊥)
no_series n (Ok s) r e = let z : ◌≡◌ {A = ℕ} 0 1 = cc in absurd (omega arith)
no_series n (Err x) r e = r.1

pub pair_past : (ess : List (List book.Entry)) (n : ℕ) → length ess ≡ 16 → (1 ≤ n → n ≤ 16 → ⊥) → pair_in (at [] ess n) ≡ None
unfolding best_buy
pair_past ess n sixteen out = ap pair_in (at_past [] ess n (outside (cases_lt n 1)))
  where
    outside : (n < 1) ⊎ (1 ≤ n) → (n < 1) ⊎ (length ess < n)
    outside (inl l) = inl l
    outside (inr l) = elim (cases_lt 16 n) [ inl p ↦ inr (omega arith) | inr p ↦ absurd (out l p) ]
