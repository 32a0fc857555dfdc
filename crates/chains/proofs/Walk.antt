-- A walk along a chain: one place further, less is left, and what it has passed.
use Rattle.std.proofs.Common.{◌≡◌, ℕ, ◌<◌, List, [], ◌∷◌, ◌++◌, length, get_or, Some, None, Option, sym, refl, ap, ◌∙◌, subst, arith}
use denote.Ref.{Bor}
use Rattle.std.specs.Option.{option_map}
use Rattle.std.proofs.lemmas.List.{append_assoc, length-map}
use Rattle.std.proofs.lemmas.Iterator.{YieldsList}
use Rattle.std.proofs.lemmas.Iterator.Consumers.{YieldsList-from_shown}
use Rattle.chains.specs.declared.walks.Walk.{Walk}
use Rattle.chains.specs.Slots.{nexts, items}
use Rattle.chains.specs.Chain.{places_from, at, pick, items_from, Chained, Passed}
use Rattle.chains.specs.Walks.{left, Passes, Strides}
use Rattle.chains.specs.Asks.{oldest}
use Rattle.chains.proofs.Kept.{chained_once}
use Rattle.chains.proofs.Link.{last_append, places_none, onward}
use Rattle.chains.proofs.Pick.{pick_none, pick_cons, pick_append, pick_mid}

pub items_none : {X : Type 0} (nx : List ℕ) (its : List X) (h : ℕ) → h ≡ 0 → items_from nx its h ≡ []
items_none nx its h z = ap (items_from nx its) z ∙ ap (pick its) (places_none nx) ∙ pick_none its

-- from the place here the walk goes on to next; x stands at here
pub record Step {X : Type 0} (nx : List ℕ) (its : List X) (here next : ℕ) (x : X) : Type 0 where
  pub places : places_from nx here ≡ here ∷ places_from nx next
  pub holds : items_from nx its here ≡ x ∷ items_from nx its next
  pub ahead : Chained nx next
  pub less : length (items_from nx its next) < length (items_from nx its here)

pub step : {X : Type 0} (nx : List ℕ) (its : List X) (here next : ℕ) (x : X) → Chained nx here → 0 < here → at its here ≡ x ∷ [] → next ≡ get_or nx here 0 → Step nx its here next x
step nx its here next x l pos ex en =
    let o = onward nx here l pos in
    let P : ℕ → Type 0 = λ v. Chained nx v in
    let places : places_from nx here ≡ here ∷ places_from nx next = o.places ∙ ap (λ v. here ∷ places_from nx v) (sym en) in
    let holds : items_from nx its here ≡ x ∷ items_from nx its next = ap (pick its) places ∙ pick_cons its here x (places_from nx next) ex in
    record { places = places; holds = holds; ahead = subst P (sym en) o.chained; less = omega (arith, ap length holds) }

pub passed_none : {X : Type 0} (nx : List ℕ) (its : List X) (h : ℕ) → Chained nx h → Passed nx its h 0 h []
passed_none nx its h l = record { done = []; split = refl; before = refl; holds = pick_none its; ahead = l }

pub passed_more : {X : Type 0} (nx : List ℕ) (its : List X) (h prev here next : ℕ) (xs : List X) (x : X) → Passed nx its h prev here xs → 0 < here → at its here ≡ x ∷ [] → next ≡ get_or nx here 0 → Passed nx its h here next (xs ++ x ∷ [])
passed_more nx its h prev here next xs x p pos ex en =
    let s = step nx its here next x p.ahead pos ex en in
    record {
      done = p.done ++ here ∷ [];
      split = p.split ∙ ap (λ v. p.done ++ v) s.places ∙ sym (append_assoc p.done (here ∷ []) (places_from nx next));
      before = sym (last_append p.done here []);
      holds = pick_mid its p.done here x [] ex ∙ ap (λ v. v ++ x ∷ pick its []) p.holds ∙ ap (λ v. xs ++ x ∷ v) (pick_none its);
      ahead = s.ahead;
    }

pub passed_all : {X : Type 0} (nx : List ℕ) (its : List X) (h prev here : ℕ) (xs : List X) → Passed nx its h prev here xs → items_from nx its h ≡ xs ++ items_from nx its here
passed_all nx its h prev here xs p = ap (pick its) p.split ∙ pick_append its p.done (places_from nx here) ∙ ap (λ v. v ++ items_from nx its here) p.holds

-- ---- the iterator

pub is_chained : {X : Type 0} (w : Walk X) → Chained (nexts w.table.now) w.next
is_chained w = chained_once _ _ w.chained

pub next_below : {X : Type 0} (w : Walk X) → 0 < w.next → w.next < length w.table.now
next_below w pos = let lt = (onward _ _ (is_chained w) pos).lt in rw length-map at lt

-- a step yields the first of the items that are left
pub passed_left : {X : Type 0} (s t : Walk X) (x : X) → Passes s x t → left s ≡ x ∷ left t
passed_left s t x p =
    (step _ _ s.next t.next x (is_chained s) p.some p.item p.next).holds ∙ ap (λ v. x ∷ items_from (nexts v) (items v) t.next) (sym p.table)

pub yields : {X : Type 0} (w : Walk X) → YieldsList Strides (λ y. y.now) w (left w)
yields w = YieldsList-from_shown Strides (λ y. y.now) left (λ s t e. ap length (items_none _ _ s.next e.0)) (λ s x t p. passed_left s t x.now p) w

pub yields_first : {X : Type 0} (s t : Walk X) (r : Option (Bor X)) → Strides s r t → option_map (λ y. y.now) r ≡ oldest (left s)
yields_first s t None e = sym (ap oldest (items_none _ _ s.next e.0))
yields_first s t (Some x) p = sym (ap oldest (passed_left s t x.now p))
