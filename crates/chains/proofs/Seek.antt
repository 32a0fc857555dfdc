-- A search along a walk: what it passed does not meet the test, and what it came to does.
use Rattle.std.proofs.Common.{◌≡◌, ℕ, Bool, true, false, List, [], ◌∷◌, ◌++◌, get_or, Some, None, sym, refl, ap, ◌∙◌, subst, arith}
use denote.Param.Members.{Mut}
use denote.Ref.{Bor}
use Rattle.std.specs.Fn.{CalledAt}
use Rattle.std.specs.List.{FoldsTo}
use Rattle.std.specs.Iterator.{Yields, FindsItem}
use Rattle.std.proofs.ByRecursion.{All-push}
use Rattle.std.proofs.lemmas.List.{append-nil}
use Rattle.chains.specs.declared.slots.Slot.{Slot}
use Rattle.chains.specs.declared.walks.Walk.{Walk}
use Rattle.chains.specs.Slots.{nexts, items}
use Rattle.chains.specs.Chain.{at, Passed, Sought}
use Rattle.chains.specs.Asks.{NoneOf}
use Rattle.chains.specs.Walks.{left, Passes, Strides}
use Rattle.chains.proofs.Walk.{items_none, is_chained, passed_none, passed_more, passed_all}

-- t has come here from place h of the slots, and no item that it passed meets the test p
record Missed {X : Type 0} (p : X → Bool) (slots : List (Slot X)) (h : ℕ) (t : Walk X) : Type 0 where
  table : t.table.now ≡ slots
  passed : List X
  walked : Passed (nexts slots) (items slots) h t.spot.here t.next passed
  missed : NoneOf p passed

missed_more : {X : Type 0} (p : X → Bool) (slots : List (Slot X)) (h : ℕ) (s t : Walk X) (x : X) → Missed p slots h s → Passes s x t → p x ≡ false → Missed p slots h t
missed_more {X} p slots h s t x m e fails = record {
  table = e.table ∙ m.table;
  passed = m.passed ++ x ∷ [];
  walked = let P : ℕ → Type 0 = λ v. Passed (nexts slots) (items slots) h v t.next (m.passed ++ x ∷ []) in
      subst P (sym e.here)
      (passed_more _ _ h _ s.next t.next m.passed x m.walked e.some (ap (λ v. at (items v) s.next) (sym m.table) ∙ e.item) (e.next ∙ ap (λ v. get_or (nexts v) s.next 0) m.table));
  missed = All-push (λ y. p y ≡ false) m.passed x m.missed fails;
}

module _ {X F : Type 0} (p : X → Bool) (g : Mut F (Bor (Bor X) × Unit {0}) Bool) (f : F) (acts : (x : Bor X) (b : Bool) (q : F) → CalledAt g f x b q → (q ≡ f) × (b ≡ p x.now)) where
  missed_all : (slots : List (Slot X)) (h : ℕ) (xs : List (Bor X)) (s t : Walk X) (q j : F) → q ≡ f → Missed p slots h s → Yields Strides s xs t → FoldsTo (λ a x b. CalledAt g a x false b) q xs j → Missed p slots h t × (j ≡ f)
  missed_all slots h [] s t q j e m y d = (subst (Missed p slots h) y m, sym d ∙ e)
  missed_all slots h (x ∷ xs) s t q j e m y d =
      let P : F → Type 0 = λ v. CalledAt g v x false d.0 in
      let a = acts x false d.0 (subst P e d.1) in
      missed_all slots h xs y.0 t d.0 j a.0 (missed_more p slots h s y.0 x.now m y.1 (sym a.1)) y.2 d.2

  missed_none : (s : Walk X) → s.spot.here ≡ 0 → Missed p s.table.now s.next s
  missed_none s z = record {
    table = refl;
    passed = [];
    walked = let P : ℕ → Type 0 = λ v. Passed (nexts s.table.now) (items s.table.now) s.next v s.next [] in subst P (sym z) (passed_none _ _ s.next (is_chained s));
    missed = tt;
  }

  -- a search that finds none has passed all
  pub seeks_none : (s u : Walk X) → s.spot.here ≡ 0 → FindsItem Strides g s f None u → NoneOf p (left s)
  seeks_none s u z d =
      let m = (missed_all s.table.now s.next d.0 s d.2.0 f d.1 refl (missed_none s z) d.2.1 d.3).0 in
      let all : left s ≡ m.passed = passed_all _ _ _ _ _ m.passed m.walked ∙ ap (λ v. m.passed ++ v) (items_none _ _ d.2.0.next d.2.2.0) ∙ append-nil m.passed in
      subst (NoneOf p) (sym all) m.missed

  pub seeks_some : (s u : Walk X) (r : Bor X) → s.spot.here ≡ 0 → FindsItem Strides g s f (Some r) u → Sought p (nexts s.table.now) (items s.table.now) s.next u.spot.prev u.spot.here
  seeks_some s u r z d =
      let k = missed_all s.table.now s.next d.0 s d.2.0 f d.1 refl (missed_none s z) d.2.1 d.3 in
      let m = k.0 in
      let e = d.2.2 in
      let C : F → Type 0 = λ v. CalledAt g v r true d.4.0 in
      let yes_p : p r.now ≡ true = sym (acts r true d.4.0 (subst C k.1 d.4.1)).1 in
      let it : at (items s.table.now) u.spot.here ≡ r.now ∷ [] = ap (at (items s.table.now)) e.here ∙ ap (λ v. at (items v) d.2.0.next) (sym m.table) ∙ e.item in
      record {
        passed = m.passed;
        walked = let P : ℕ → ℕ → Type 0 = λ v w. Passed (nexts s.table.now) (items s.table.now) s.next v w m.passed in subst (λ v. P v u.spot.here) (sym e.prev) (subst (P d.2.0.spot.here) (sym e.here) m.walked);
        missed = m.missed;
        some = omega (arith, e.some, e.here);
        met = λ x ex. let same : r.now ∷ [] ≡ x ∷ [] = sym it ∙ ex in let q : r.now ≡ x = cc in ap p (sym q) ∙ yes_p;
      }
