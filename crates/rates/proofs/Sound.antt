-- A window that drops what no longer counts answers as all its events would. Assumes nothing.
use Rattle.std.proofs.Common.{◌≡◌, ℕ, ◌-◌, ◌<◌, ◌≤◌, Bool, true, false, cond, not, ◌&&◌, ◌||◌, eqb, leb, List, [], ◌∷◌, ◌++◌, length, sum_by, filter, sym, refl, ap, ◌∙◌, subst, arith, ltb-false, le-ltb, leb-false}
use borrow.Author.Tests.{eqb-false, clash}
use Rattle.std.proofs.lemmas.List.Sums.{sum_by-cons, sum_by-append}
use Rattle.std.proofs.lemmas.List.Elements.{filter-append}
use Rattle.std.proofs.lemmas.Bool.{and_parts, or_parts, not-true}
use Rattle.rates.specs.declared.window.Mark.{Mark}
use Rattle.rates.specs.Marks.{mark, counts, counted, counting, amount_of, reaches, brings, tripped, trips}
use Rattle.rates.specs.Views.{View, idle, over, still, answers, stops, adds, after, empty}
use Rattle.rates.specs.Runs.{Act, event, clearing, limiting, aside, lived, in_force, since, newest, Ordered, AsDefined, AnswersSince, StopsSince, WeighsSince, TripsBelow}

module _ {X : Type 0} (p q : X → Bool) (falls : (x : X) → p x ≡ false → q x ≡ false) where
  -- what p drops q would drop too
  pub kept_twice : (xs : List X) → filter q (filter p xs) ≡ filter q xs
  kept_twice [] = refl
  kept_twice (x ∷ xs) = step (p x) refl (kept_twice xs)
    where
      step : (b : Bool) → p x ≡ b → filter q (filter p xs) ≡ filter q xs → filter q (cond b (x ∷ filter p xs) (filter p xs)) ≡ filter q (x ∷ xs)
      step true e same = ap (λ r. cond (q x) (x ∷ r) r) same
      step false e same = rw (falls x e) same

-- what no longer counts never counts again
pub pruned : (n m i : ℕ) → n ≤ m → (xs : List Mark) → counted m i (counted n i xs) ≡ counted m i xs
pruned n m i le xs = kept_twice (counts n i) (counts m i) (λ x h. le-ltb (m - x.time) i (omega (arith, ltb-false (n - x.time) i h))) xs

ones : (ms : List Mark) → sum_by (λ _. 1) ms ≡ length ms
ones [] = refl
ones (m ∷ ms) = sum_by-cons (λ _. 1) m ms ∙ omega (arith, ones ms)

-- the limit sees only sums
reaches_same : (l : ℕ) (e : Mark) (ms ns : List Mark) → ((f : Mark → ℕ) → sum_by f ms ≡ sum_by f ns) → reaches l (e ∷ ms) ≡ reaches l (e ∷ ns)
reaches_same l e ms ns same =
    let a : amount_of (e ∷ ms) ≡ amount_of (e ∷ ns) = omega (arith, sum_by-cons (λ m. m.amount) e ms, sum_by-cons (λ m. m.amount) e ns, same (λ m. m.amount)) in
    let n : length (e ∷ ms) ≡ length (e ∷ ns) = omega (arith, ones ms, ones ns, same (λ _. 1)) in
    ap (λ x. leb l x || leb 32 (length (e ∷ ms))) a ∙ ap (λ y. leb l (amount_of (e ∷ ns)) || leb 32 y) n

pub record Sound (v : View) (es : List Mark) : Type 0 where
  pub stopped_is : v.stopped ≡ tripped v.limit v.interval es
  pub weighs : idle v ≡ false → (n : ℕ) → newest es ≤ n → (f : Mark → ℕ) → sum_by f (counted n v.interval v.kept) ≡ sum_by f (counted n v.interval es)

idle_stays : (z s T R : Bool) → (z || s) ≡ true → s ≡ T → s ≡ (T || (not z && R))
idle_stays true s true R h e = e
idle_stays true s false R h e = e
idle_stays false true true R h e = refl
idle_stays false true false R h e = absurd (clash (sym e))
idle_stays false false T R h e = absurd (clash h)

stops_now : (z s T R : Bool) → (z || s) ≡ false → s ≡ T → R ≡ true → true ≡ (T || (not z && R))
stops_now true s T R h e r = absurd (clash (sym h))
stops_now false s true R h e r = refl
stops_now false s false R h e r = sym r

goes_on : (z s T R : Bool) → s ≡ T → R ≡ false → s ≡ (T || (not z && R))
goes_on z s true R e r = e
goes_on true s false R e r = e
goes_on false s false R e r = e ∙ sym r

says_so : (z s T R : Bool) → s ≡ T → (not (z || s) && R) ≡ (not T && (not z && R))
says_so true s true R e = refl
says_so true s false R e = refl
says_so false s T R e = rw e

stopped_idles : (z : Bool) → (z || true) ≡ false → ⊥
stopped_idles true h = clash (sym h)
stopped_idles false h = clash (sym h)

module _ (t a : ℕ) (v : View) (es : List Mark) (sound : Sound v es) (later : newest es ≤ t) where
  same_over : idle v ≡ false → over t a v ≡ reaches v.limit (mark t a ∷ counted t v.interval es)
  same_over on = reaches_same v.limit (mark t a) (still t v) (counted t v.interval es) (sound.weighs on t later)

  added_weighs : idle v ≡ false → (n : ℕ) → t ≤ n → (f : Mark → ℕ) → sum_by f (counted n v.interval (still t v ++ (mark t a ∷ []))) ≡ sum_by f (counted n v.interval (mark t a ∷ es))
  added_weighs on n le f =
      let p : Mark → Bool = counts n v.interval in
      let one : List Mark = mark t a ∷ [] in
      let x = ap (sum_by f) (filter-append p (still t v) one) ∙ sum_by-append f (filter p (still t v)) (filter p one) in
      let y = ap (sum_by f) (filter-append p one es) ∙ sum_by-append f (filter p one) (filter p es) in
      let z = ap (sum_by f) (pruned t n v.interval le v.kept) in
      let u = sound.weighs on n (omega arith) f in
      omega (arith, x, y, z, u)

  cases : (b o : Bool) → idle v ≡ b → over t a v ≡ o → Sound (cond b v (cond o (stops v) (adds t a v))) (mark t a ∷ es)
  cases true o is ov = record {
    stopped_is = idle_stays (eqb v.limit 0) v.stopped (tripped v.limit v.interval es) (reaches v.limit (mark t a ∷ counted t v.interval es)) is sound.stopped_is;
    weighs = λ on. absurd (clash (sym on ∙ is));
  }
  cases false true is ov = record {
    stopped_is = stops_now (eqb v.limit 0) v.stopped (tripped v.limit v.interval es) (reaches v.limit (mark t a ∷ counted t v.interval es)) is sound.stopped_is (sym (same_over is) ∙ ov);
    weighs = λ on. absurd (stopped_idles (eqb v.limit 0) on);
  }
  cases false false is ov = record {
    stopped_is = goes_on (eqb v.limit 0) v.stopped (tripped v.limit v.interval es) (reaches v.limit (mark t a ∷ counted t v.interval es)) sound.stopped_is (sym (same_over is) ∙ ov);
    weighs = λ on n le f. added_weighs is n le f;
  }

  pub sound_after : Sound (after t a v) (mark t a ∷ es)
  sound_after = cases (idle v) (over t a v) refl refl

  gated : (b : Bool) → idle v ≡ b → answers t a v ≡ (not (idle v) && reaches v.limit (mark t a ∷ counted t v.interval es))
  gated true is = rw is
  gated false is = ap (λ r. not (idle v) && r) (same_over is)

  pub says : answers t a v ≡ trips v.limit v.interval (mark t a) es
  says = gated (idle v) refl ∙ says_so (eqb v.limit 0) v.stopped (tripped v.limit v.interval es) (reaches v.limit (mark t a ∷ counted t v.interval es)) sound.stopped_is

-- the limit of a window with its interval
abbrev bound : View → ℕ × ℕ
bound v = (v.limit, v.interval)

same_bound : (t a : ℕ) (v : View) (b o : Bool) → bound (cond b v (cond o (stops v) (adds t a v))) ≡ bound v
same_bound t a v true o = refl
same_bound t a v false true = refl
same_bound t a v false false = refl

lived_bound : (acts : List Act) → bound (lived acts) ≡ in_force acts
lived_bound [] = refl
lived_bound (event e ∷ acts) = same_bound e.time e.amount (lived acts) (idle (lived acts)) (over e.time e.amount (lived acts)) ∙ lived_bound acts
lived_bound (clearing ∷ acts) = lived_bound acts
lived_bound (limiting l i ∷ acts) = refl
lived_bound (aside ∷ acts) = lived_bound acts

nothing_yet : (l i : ℕ) → Sound (empty l i) []
nothing_yet l i = record { stopped_is = refl; weighs = λ on n le f. refl }

lived_sound : (acts : List Act) → Ordered (since acts) → Sound (lived acts) (since acts)
lived_sound [] o = nothing_yet 0 0
lived_sound (event e ∷ acts) o = sound_after e.time e.amount (lived acts) (since acts) (lived_sound acts o.1) o.0
lived_sound (clearing ∷ acts) o = nothing_yet (lived acts).limit (lived acts).interval
lived_sound (limiting l i ∷ acts) o = nothing_yet l i
lived_sound (aside ∷ acts) o = lived_sound acts o

pub answers_since : AnswersSince
answers_since acts e o =
    says e.time e.amount (lived acts) (since acts) (lived_sound acts o.1) o.0
    ∙ ap (λ (b : ℕ × ℕ). trips b.0 b.1 e (since acts)) (lived_bound acts)

pub stops_since : StopsSince
stops_since acts o = (lived_sound acts o).stopped_is ∙ ap (λ (b : ℕ × ℕ). tripped b.0 b.1 (since acts)) (lived_bound acts)

pub weighs_since : WeighsSince
weighs_since acts o on n le f =
    subst (λ (b : ℕ × ℕ). sum_by f (counted n b.1 (lived acts).kept) ≡ sum_by f (counted n b.1 (since acts))) (lived_bound acts) ((lived_sound acts o).weighs on n le f)

pub as_defined : (r : Bool) (t a : ℕ) (v : View) → r ≡ answers t a v → AsDefined r t a v
as_defined r t a v e acts o is = e ∙ ap (answers t a) is ∙ answers_since acts (mark t a) o

-- a filter keeps no more than there was
keeps_less : (p : Mark → Bool) (ms : List Mark) → amount_of (filter p ms) ≤ amount_of ms
keeps_less p [] = omega arith
keeps_less p (m ∷ ms) = step (p m) (keeps_less p ms)
  where
    step : (b : Bool) → amount_of (filter p ms) ≤ amount_of ms → amount_of (cond b (m ∷ filter p ms) (filter p ms)) ≤ amount_of (m ∷ ms)
    step true h = omega (arith, sum_by-cons (λ x. x.amount) m (filter p ms), sum_by-cons (λ x. x.amount) m ms)
    step false h = omega (arith, sum_by-cons (λ x. x.amount) m ms)

-- what counts later is no more than what counted as the newest came
later_less : (n i : ℕ) (e : Mark) (es : List Mark) → e.time ≤ n → amount_of (counted n i (e ∷ es)) ≤ amount_of (counting i e es)
later_less n i e es le =
    let same : counted n i (counting i e es) ≡ counted n i (e ∷ es) = ap (λ ms. cond (counts n i e) (e ∷ ms) ms) (pruned e.time n i le es) in
    omega (arith, keeps_less (counts n i) (counting i e es), ap amount_of same)

not_reached : (l : ℕ) (ms : List Mark) → reaches l ms ≡ false → amount_of ms < l
not_reached l ms h = leb-false l (amount_of ms) (or_parts (leb l (amount_of ms)) (leb 32 (length ms)) h).0

-- a window that has a limit and did not trip is below it
below : (l i n : ℕ) (es : List Mark) → eqb l 0 ≡ false → newest es ≤ n → tripped l i es ≡ false → amount_of (counted n i es) < l
below l i n [] some le h = omega (arith, eqb-false l 0 some)
below l i n (e ∷ es) some le h =
    let quiet : brings l i e es ≡ false = (or_parts (tripped l i es) (brings l i e es) h).1 in
    let reached : reaches l (counting i e es) ≡ false = rw some at quiet in
    omega (arith, not_reached l (counting i e es) reached, later_less n i e es le)

pub trips_below : TripsBelow
trips_below l i e es o h =
    let both = and_parts (not (tripped l i es)) (brings l i e es) h in
    let calm : tripped l i es ≡ false = not-true (tripped l i es) both.0 in
    let some : eqb l 0 ≡ false = not-true (eqb l 0) (and_parts (not (eqb l 0)) (reaches l (counting i e es)) both.1).0 in
    omega (arith, sum_by-cons (λ x. x.amount) e (counted e.time i es), below l i e.time es some o.0 calm)
