-- One event at a window. Assumes nothing.
use Rattle.std.proofs.Common.{◌≡◌, ℕ, ◌+◌, ◌<◌, ◌≤◌, true, false, eqb, leb, ◌⊎◌, List, [], ◌∷◌, ◌++◌, length, take, set, ap, ◌∙◌, inl, inr, add-one, arith, take-suc-set, ne_eqb, le-leb}
use borrow.Author.Tests.{lt-leb}
use Rattle.std.proofs.lemmas.List.Sums.{sum_by-cons}
use Rattle.std.proofs.lemmas.Bool.{or_from, or_right}
use Rattle.rates.specs.declared.window.Mark.{Mark}
use Rattle.rates.specs.Marks.{mark, amount_of, reaches}
use Rattle.rates.specs.Views.{View, idle, over, still, answers, stops, adds, after}

pub reaches_yes : (l t a : ℕ) (ms : List Mark) → (l ≤ amount_of ms + a) ⊎ (length ms ≡ 31) → reaches l (mark t a ∷ ms) ≡ true
reaches_yes l t a ms (inl h) =
    let e : leb l (amount_of (mark t a ∷ ms)) ≡ true = le-leb l (amount_of (mark t a ∷ ms)) (omega (arith, sum_by-cons (λ m. m.amount) (mark t a) ms)) in
    rw e
reaches_yes l t a ms (inr h) = or_right (leb l (amount_of (mark t a ∷ ms))) (leb 32 (length (mark t a ∷ ms))) (le-leb 32 (length (mark t a ∷ ms)) (omega arith))

pub reaches_no : (l t a : ℕ) (ms : List Mark) → amount_of ms + a < l → length ms < 31 → reaches l (mark t a ∷ ms) ≡ false
reaches_no l t a ms g h =
    or_from (leb l (amount_of (mark t a ∷ ms))) (leb 32 (length (mark t a ∷ ms)))
    (lt-leb l (amount_of (mark t a ∷ ms)) (omega (arith, sum_by-cons (λ m. m.amount) (mark t a) ms)))
    (lt-leb 32 (length (mark t a ∷ ms)) (omega arith))

pub on : (v : View) → (v.limit ≡ 0 → ⊥) → v.stopped ≡ false → idle v ≡ false
on v g h = or_from (eqb v.limit 0) v.stopped (ne_eqb v.limit 0 g) h

module _ (t a : ℕ) (v : View) (is_on : idle v ≡ false) (ms : List Mark) (same : ms ≡ still t v) where
  pub trip_yes : (v.limit ≤ amount_of ms + a) ⊎ (length ms ≡ 31) → (true ≡ answers t a v) × (stops v ≡ after t a v)
  trip_yes h =
      let o : over t a v ≡ true = rw (← same) (reaches_yes v.limit t a ms h) in
      (rw (is_on, o), rw (is_on, o))

  pub trip_no : amount_of ms + a < v.limit → length ms < 31 → (false ≡ answers t a v) × (adds t a v ≡ after t a v)
  trip_no g h =
      let o : over t a v ≡ false = rw (← same) (reaches_no v.limit t a ms g h) in
      (rw (is_on, o), rw (is_on, o))

pub added : (t a : ℕ) (v : View) (xs : List Mark) (r : ℕ) → r < length xs → take r xs ≡ still t v → take (r + 1) (set xs r (mark t a)) ≡ (adds t a v).kept
added t a v xs r lt same = rw add-one (take-suc-set xs r (mark t a) lt ∙ ap (λ ms. ms ++ (mark t a ∷ [])) same)

pub off : (v : View) → (v.limit ≡ 0) ⊎ (v.stopped ≡ true) → idle v ≡ true
off v (inl h) = rw h
off v (inr h) = or_right (eqb v.limit 0) v.stopped h

pub idling : (t a : ℕ) (v : View) → idle v ≡ true → (false ≡ answers t a v) × (v ≡ after t a v)
idling t a v h = (rw h, rw h)
