-- What is known of a series can be read exactly when each of its numbers lies in its range. Assumes nothing.
use Rattle.std.proofs.Common.{◌≡◌, ℕ, ◌+◌, ◌<◌, ◌≤◌, Bool, true, false, ◌&&◌, ◌⊎◌, List, [], ◌∷◌, Some, None, Ok, Err, Option, sym, refl, subst, ◌∙◌, inl, inr, ⊎_elim, arith, lit≤}
use Rattle.std.proofs.lemmas.Bool.Decides.{nat_tests, eqb_tells, leb_tells}
use Rattle.std.specs.Option.{option_map}
use Rattle.terms.specs.Kinds.{named, class, class_number, phase, phase_number, flag_of, flag_number, option_type, option_type_number}
use Rattle.terms.specs.Ranges.{Price, bounded, optional, or_field, within}
use Rattle.terms.specs.Values.{◌then◌, bid_offer, conditions, values}
use Rattle.terms.specs.declared.kinds.Class.TheVariants.{One, Two, Three, Four}
use Rattle.terms.specs.declared.kinds.Phase.TheVariants.{BeforeOpening, Open, Halt}
use Rattle.terms.specs.declared.kinds.OptionType.TheVariants.{Call, Put}
use Rattle.terms.specs.declared.refusal.Refusal.{Refusal}
use Rattle.terms.specs.declared.refusal.Refusal.TheVariants.{Field}
use Rattle.terms.specs.declared.values.BidOffer.{BidOffer}
use Rattle.terms.specs.declared.values.Values.{Values}
use Rattle.terms.specs.declared.values.ConditionNumbers.{ConditionNumbers}
use Rattle.terms.specs.declared.values.ValueNumbers.{ValueNumbers}
use Rattle.terms.proofs.Reading.{read_inside, read_below, read_above}
use Rattle.history.specs.Fields.{good_conditions, good_values, good_series}

-- the test says whether there is a value
abbrev Says : {X : Type 0} → Bool → Option X → Type 0
Says b None = b ≡ false
Says b (Some x) = b ≡ true

says_then : {X Y : Type 0} (b c : Bool) (o : Option X) (f : X → Option Y) → Says b o → ((x : X) → Says c (f x)) → Says (b && c) (o then f)
says_then b c None f e h = rw e refl
says_then b c (Some x) f e h = rw e (h x)

says_some : {X : Type 0} (b : Bool) (o : Option X) {y : X} → o ≡ Some y → b ≡ true → Says b o
says_some b o e h = rw e h

says_none : {X : Type 0} (b : Bool) (o : Option X) → o ≡ None → b ≡ false → Says b o
says_none b o e h = rw e h

says_map : {X Y : Type 0} (b : Bool) (f : X → Y) (o : Option X) → Says b o → Says b (option_map f o)
says_map b f None e = e
says_map b f (Some x) e = e

pub inside : (low high n : ℕ) → low ≤ n → n ≤ high → within low high n ≡ true
inside low high n p q = grind (arith, nat_tests)

outside : (low high n : ℕ) → (n < low) ⊎ (high < n) → within low high n ≡ false
outside low high n h = ⊎_elim (λ p. grind (arith, nat_tests)) (λ p. grind (arith, nat_tests)) h

bounded_says : (low high n : ℕ) → Says (within low high n) (bounded low high n)
bounded_says low high n =
    ⊎_elim
    (λ p.
    ⊎_elim
    (λ q. says_some _ _ (read_inside low high n p.1 q.1) (inside low high n p.1 q.1))
    (λ q. says_none _ _ (read_above low high n q.1) (outside low high n (inr q.1)))
    (leb_tells n high))
    (λ p. says_none _ _ (read_below low high n p.1) (outside low high n (inl p.1)))
    (leb_tells low n)

optional_says : (n : ℕ) → Says (within 0 1000000 n) (optional n)
optional_says n =
    ⊎_elim
    (λ p. rw p.0 (inside 0 1000000 n (omega arith) (omega (arith, p.1))))
    (λ p. rw p.0 (says_map _ Some (bounded 1 1000000 n) (subst (λ b. Says b (bounded 1 1000000 n)) (above n p.1) (bounded_says 1 1000000 n))))
    (eqb_tells n 0)
  where
    above : (n : ℕ) → (n ≡ 0 → ⊥) → within 1 1000000 n ≡ within 0 1000000 n
    above n h = grind (arith, nat_tests)

-- the numbers of some values go up one by one, from low to high
abbrev Counts : {X : Type 0} → (X → ℕ) → ℕ → List X → ℕ → Type 0
Counts number low [] high = high + 1 ≡ low
Counts number low (x ∷ xs) high = (number x ≡ low) × (low ≤ high) × Counts number (low + 1) xs high

named_says : {X : Type 0} (number : X → ℕ) (low : ℕ) (xs : List X) (high : ℕ) → Counts number low xs high
    → (n : ℕ) → Says (within low high n) (named number xs n)
named_says number low [] high h n = empty low high n h
  where
    empty : (low high n : ℕ) → high + 1 ≡ low → within low high n ≡ false
    empty low high n h = grind (arith, nat_tests)
named_says number low (x ∷ xs) high h n =
    ⊎_elim
    (λ p. rw p.0 (inside low high n (omega (arith, p.1, h.0)) (omega (arith, p.1, h.0, h.1))))
    (λ p. rw p.0 (subst (λ b. Says b (named number xs n)) (next low high n (λ e. p.1 (e ∙ sym h.0))) (named_says number (low + 1) xs high h.2 n)))
    (eqb_tells n (number x))
  where
    next : (low high n : ℕ) → (n ≡ low → ⊥) → within (low + 1) high n ≡ within low high n
    next low high n h = grind (arith, nat_tests)

class_says : (n : ℕ) → Says (within 1 4 n) (class n)
class_says = named_says class_number 1 (One ∷ Two ∷ Three ∷ Four ∷ []) 4 (refl, lit≤ tt, (refl, lit≤ tt, (refl, lit≤ tt, (refl, lit≤ tt, refl))))

phase_says : (n : ℕ) → Says (within 1 3 n) (phase n)
phase_says = named_says phase_number 1 (BeforeOpening ∷ Open ∷ Halt ∷ []) 3 (refl, lit≤ tt, (refl, lit≤ tt, (refl, lit≤ tt, refl)))

flag_says : (n : ℕ) → Says (within 0 1 n) (flag_of n)
flag_says = named_says flag_number 0 (false ∷ true ∷ []) 1 (refl, lit≤ tt, (refl, lit≤ tt, refl))

option_type_says : (n : ℕ) → Says (within 1 2 n) (option_type n)
option_type_says = named_says option_type_number 1 (Call ∷ Put ∷ []) 2 (refl, lit≤ tt, (refl, lit≤ tt, refl))

-- a bid and an offer, before what is read after them
offers_then :
    {Y : Type 0} (bid offer : ℕ) (c : Bool) (f : BidOffer → Option Y) → ((x : BidOffer) → Says c (f x))
    → Says (within 0 1000000 bid && (within 0 1000000 offer && c)) (bid_offer bid offer then f)
unfolding bid_offer
offers_then {Y = Y} bid offer c f h =
    subst (λ (o : Option Y). Says (within 0 1000000 bid && (within 0 1000000 offer && c)) o) (assoc (optional bid) (optional offer) f)
    (says_then _ _ (optional bid) _ (optional_says bid) (λ b. says_then _ _ (optional offer) _ (optional_says offer) (λ o. h (record { bid = b; offer = o }))))
  where
    assoc : (a b : Option (Option Price)) (f : BidOffer → Option Y)
        → (a then λ x. b then λ y. f (record { bid = x; offer = y })) ≡ ((a then λ x. b then λ y. Some (record { bid = x; offer = y })) then f)
    assoc None b f = refl
    assoc (Some x) None f = refl
    assoc (Some x) (Some y) f = refl

conditions_say : (n : ConditionNumbers) → Says (good_conditions n) (conditions n)
unfolding conditions
conditions_say n =
    says_then _ _ (class n.class) _ (class_says n.class) (λ class. says_then _ _ (phase n.phase) _ (phase_says n.phase) (λ phase.
    says_then _ _ (flag_of n.flag) _ (flag_says n.flag) (λ flag. offers_then n.nbb n.nbo _ _ (λ national. offers_then n.bid n.offer _ _ (λ venue.
    says_then _ _ (optional n.close) _ (optional_says n.close) (λ close. refl))))))

values_say : (series : ℕ) (v : ValueNumbers) → good_series series ≡ true → Says (good_values series v) (values v)
unfolding values
values_say series v s =
    rw s
    (says_then _ _ (option_type v.option) _ (option_type_says v.option) (λ option. says_then _ _ (bounded 1 1000000 v.strike) _ (bounded_says 1 1000000 v.strike) (λ strike.
    says_then _ _ (conditions v.conditions) _ (conditions_say v.conditions) (λ conditions. says_then _ _ (optional v.underlying) _ (optional_says v.underlying) (λ underlying. refl)))))

-- what reading answers: the values, or that a field is out of its range
pub values_fit :
    (series : ℕ) (v : ValueNumbers) (x : Values) → good_series series ≡ true → Ok x ≡ or_field (values v) → good_values series v ≡ true
values_fit series v x s e = go (values v) (values_say series v s) e
  where
    go : (o : Option Values) → Says (good_values series v) o → Ok x ≡ or_field o → good_values series v ≡ true
    go None h e = let z : ◌≡◌ {A = ℕ} 0 1 = cc in absurd (omega arith)
    go (Some y) h e = h

pub values_unfit :
    (series : ℕ) (v : ValueNumbers) (e : Refusal) → good_series series ≡ true → Err e ≡ or_field (values v)
    → (good_values series v ≡ false) × (e ≡ Field)
values_unfit series v f s e = go (values v) (values_say series v s) e
  where
    go : (o : Option Values) → Says (good_values series v) o → Err f ≡ or_field o → (good_values series v ≡ false) × (f ≡ Field)
    go None h e = (h, cc)
    go (Some y) h e = let z : ◌≡◌ {A = ℕ} 0 1 = cc in absurd (omega arith)
