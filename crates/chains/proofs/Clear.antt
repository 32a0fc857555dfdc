-- A walk that takes off every item that meets a test.
use Rattle.std.proofs.Common.{◌≡◌, ℕ, ◌+◌, ◌^◌, ◌<◌, Bool, true, false, not, List, [], ◌∷◌, ◌++◌, length, get_or, set, sum_by, filter, sym, ap, ◌∙◌, subst, arith}
use Rattle.std.proofs.lemmas.List.{append_assoc, set-set, set-get_or}
use Rattle.std.proofs.lemmas.Bool.{not_from_true, not_from_false}
use Rattle.chains.specs.Slots.{nexts, items}
use Rattle.chains.specs.Chain.{at}
use Rattle.chains.specs.Asks.{without_all, saturated}
use Rattle.chains.specs.Sound.{Parts, Sound, listed}
use Rattle.chains.specs.Lists.{changed}
use Rattle.chains.specs.Steps.{Walked, ahead, after, Unlinked}
use Rattle.chains.proofs.Questions.{kept_yes, kept_no, sum_yes, sum_no}
use Rattle.chains.proofs.Walk.{items_none, Step, step, passed_none, passed_more}
use Rattle.chains.proofs.Whole.{list_at, chained}

-- c is before with the items off that meet p, as far as the place here of chain k; n is the sum of their numbers w
pub record Cleared {X : Type 0} (p : X → Bool) (w : X → ℕ) (before c : Parts X) (k prev here n : ℕ) : Type 0 where
  pub passed : List X
  pub walked : Walked c k prev here passed
  pub holds : listed c ≡ set (listed before) k (passed ++ ahead c here)
  pub left : passed ++ without_all p (ahead c here) ≡ without_all p (get_or (listed before) k [])
  pub small : n < 2 ^ 64
  pub sum : saturated (n + sum_by w (filter p (ahead c here))) ≡ saturated (sum_by w (filter p (get_or (listed before) k [])))

pub cleared_none : {X : Type 0} {N : ℕ} (p : X → Bool) (w : X → ℕ) (c : Parts X) (k : ℕ) → Sound N c → k < N → Cleared p w c c k 0 (get_or c.heads k 0) 0
cleared_none p w c k r kN = record {
  passed = [];
  walked = passed_none (nexts c.slots) (items c.slots) (get_or c.heads k 0) (chained c k r kN);
  holds = sym (set-get_or (listed c) k []) ∙ ap (set (listed c) k) e;
  left = ap (without_all p) (sym e);
  small = omega arith;
  sum = ap (λ v. saturated (0 + sum_by w (filter p v))) (sym e) ∙ ap saturated (omega arith);
}
  where
    e : get_or (listed c) k [] ≡ ahead c (get_or c.heads k 0)
    e = list_at c k r kN

-- an item that does not meet the test is passed
pub cleared_no : {X : Type 0} (p : X → Bool) (w : X → ℕ) (before c : Parts X) (k prev here n : ℕ) (x : X) (next : ℕ) → Cleared p w before c k prev here n → 0 < here →
    at (items c.slots) here ≡ x ∷ [] → next ≡ after c here → p x ≡ false → Cleared p w before c k here next n
cleared_no p w before c k prev here n x next d pos ex en no-p = record {
  passed = d.passed ++ x ∷ [];
  walked = passed_more _ _ _ prev here next d.passed x d.walked pos ex en;
  holds = d.holds ∙ ap (λ v. set (listed before) k v) (ap (λ v. d.passed ++ v) s.holds ∙ sym (append_assoc d.passed (x ∷ []) (ahead c next)));
  left = append_assoc d.passed (x ∷ []) (without_all p (ahead c next)) ∙ ap (λ v. d.passed ++ v) (sym (kept_yes (λ y. not (p y)) x (ahead c next) (not_from_false (p x) no-p)))
      ∙ ap (λ v. d.passed ++ without_all p v) (sym s.holds) ∙ d.left;
  small = d.small;
  sum = sum_no w p n x (ahead c next) no-p ∙ ap (λ v. saturated (n + sum_by w (filter p v))) (sym s.holds) ∙ d.sum;
}
  where
    s : Step (nexts c.slots) (items c.slots) here next x
    s = step (nexts c.slots) (items c.slots) here next x d.walked.ahead pos ex en

-- a place that is taken off leaves what is ahead of it
unlinked_ahead : {X : Type 0} (c c' : Parts X) (k prev here next : ℕ) (xs : List X) → Unlinked c c' k prev here xs → next ≡ after c here → ahead c' next ≡ ahead c next
unlinked_ahead c c' k prev here next xs u en = ap (ahead c') en ∙ u.same ∙ ap (ahead c) (sym en)

pub unlinked_less : {X : Type 0} (c c' : Parts X) (k prev here next : ℕ) (x : X) (xs : List X) → Unlinked c c' k prev here xs → Walked c k prev here xs → 0 < here →
    at (items c.slots) here ≡ x ∷ [] → next ≡ after c here → length (ahead c' next) < length (ahead c here)
unlinked_less c c' k prev here next x xs u w pos ex en =
    omega (arith, ap length (unlinked_ahead c c' k prev here next xs u en), (step (nexts c.slots) (items c.slots) here next x w.ahead pos ex en).less)

-- an item that meets the test is taken off
pub cleared_yes : {X : Type 0} (p : X → Bool) (w : X → ℕ) (before c c' : Parts X) (k prev here n n' : ℕ) (x : X) (next : ℕ) (d : Cleared p w before c k prev here n) → 0 < here →
    at (items c.slots) here ≡ x ∷ [] → next ≡ after c here → p x ≡ true → n' ≡ saturated (n + w x) → Unlinked c c' k prev here d.passed →
    Cleared p w before c' k prev next n'
cleared_yes p w before c c' k prev here n n' x next d pos ex en yes_p eq u = record {
  passed = d.passed;
  walked = let P : ℕ → Type 0 = λ v. Walked c' k prev v d.passed in subst P (sym en) u.walked;
  holds = u.holds ∙ ap (λ v. set v k (d.passed ++ ahead c (after c here))) d.holds ∙ set-set (listed before) k _ _ ∙ ap (λ v. set (listed before) k (d.passed ++ v)) (ap (ahead c) (sym en) ∙ sym ea);
  left = ap (λ v. d.passed ++ without_all p v) ea ∙ ap (λ v. d.passed ++ v) (sym (kept_no (λ y. not (p y)) x (ahead c next) (not_from_true (p x) yes_p)))
      ∙ ap (λ v. d.passed ++ without_all p v) (sym s.holds) ∙ d.left;
  small = omega arith;
  sum = ap (λ v. saturated (n' + sum_by w (filter p v))) ea ∙ sum_yes w p n n' x (ahead c next) yes_p eq ∙ ap (λ v. saturated (n + sum_by w (filter p v))) (sym s.holds) ∙ d.sum;
}
  where
    s : Step (nexts c.slots) (items c.slots) here next x
    s = step (nexts c.slots) (items c.slots) here next x d.walked.ahead pos ex en

    ea : ahead c' next ≡ ahead c next
    ea = unlinked_ahead c c' k prev here next d.passed u en

pub record Clear {X : Type 0} (p : X → Bool) (w : X → ℕ) (before c : Parts X) (k n : ℕ) : Type 0 where
  pub left : listed c ≡ changed (without_all p) (listed before) k
  pub sum : n ≡ saturated (sum_by w (filter p (get_or (listed before) k [])))

pub cleared_all : {X : Type 0} (p : X → Bool) (w : X → ℕ) (before c : Parts X) (k prev here n : ℕ) → Cleared p w before c k prev here n → here ≡ 0 → Clear p w before c k n
cleared_all p w before c k prev here n d z = record {
  left = d.holds ∙ ap (λ v. set (listed before) k v) (ap (λ v. d.passed ++ v) none ∙ sym (ap (λ v. d.passed ++ without_all p v) none) ∙ d.left);
  sum = omega (arith, ap (λ v. sum_by w (filter p v)) none, d.sum, d.small);
}
  where
    none : ahead c here ≡ []
    none = items_none (nexts c.slots) (items c.slots) here z
