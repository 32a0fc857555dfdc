-- The struct: how it is sound again after a change, what its chains hold, and how many items that are.
use Rattle.std.proofs.Common.{◌≡◌, ℕ, suc, ◌+◌, ◌-◌, ◌<◌, ◌≤◌, List, [], ◌∷◌, map, length, get_or, drop, sum_by, sym, refl, ap, ◌∙◌, subst, arith}
use Rattle.std.proofs.lemmas.List.{length-map, get_or-map, append-nil}
use Rattle.std.proofs.lemmas.List.Sums.{sum_by-cons}
use Rattle.chains.specs.declared.table.Chains.{Chains}
use Rattle.chains.specs.declared.table.Ends.{Ends}
use Rattle.chains.specs.Slots.{nexts, items}
use Rattle.chains.specs.Chain.{places_from, pick, items_from, Linked, Chained}
use Rattle.chains.specs.Sound.{Layout, Parts, Sound, walks, listed}
use Rattle.chains.specs.Lists.{parts, total}
use Rattle.chains.specs.Steps.{Walked}
use Rattle.chains.proofs.Link.{places_le, last_lt, linked_none, Onward, onward}
use Rattle.chains.proofs.Pick.{length_pick}
use Rattle.chains.proofs.Kept.{sound}
use Rattle.chains.proofs.Layouts.{walks_are}

-- s has the free places fs, and the places jss in its chains
pub record Rebuilt {X : Type 0} (N : ℕ) (s : Parts X) (jss : List (List ℕ)) : Type 0 where
  pub sound : Sound N s
  pub chains : walks (nexts s.slots) s.heads ≡ jss
  pub holds : listed s ≡ map (pick (items s.slots)) jss

pub rebuilt : {X : Type 0} {N : ℕ} (s : Parts X) (fs : List ℕ) (jss : List (List ℕ)) → length s.heads ≡ N → length s.tails ≡ N →
    Layout (nexts s.slots) (s.free ∷ s.heads) s.tails (fs ∷ jss) 0 → s.room ≡ length fs → Rebuilt N s jss
unfolding listed
rebuilt s fs jss hl tl r counted =
    let nx = nexts s.slots in
    let w = walks_are nx (s.free ∷ s.heads) s.tails (fs ∷ jss) 0 r in
    let P : List (List ℕ) → Type 0 = λ v. Layout nx (s.free ∷ s.heads) s.tails v 0 in
    record {
      sound = record { heads = hl; tails = tl; layout = subst P (sym w) r; counted = counted ∙ sym (ap (λ v. length (get_or v 0 [])) w) };
      chains = ap (drop 1) w;
      holds = ap (map (pick (items s.slots))) (ap (drop 1) w);
    }

-- the places of the chains, as many as there are chains
pub places_at : {X : Type 0} {N : ℕ} (s : Parts X) (k : ℕ) → Sound N s → k < N → get_or (walks (nexts s.slots) s.heads) k [] ≡ places_from (nexts s.slots) (get_or s.heads k 0)
places_at s k r lt = get_or-map (places_from (nexts s.slots)) s.heads k 0 [] (omega (arith, r.heads))

pub chains_count : {X : Type 0} {N : ℕ} (s : Parts X) → Sound N s → length (walks (nexts s.slots) s.heads) ≡ N
chains_count s r = length-map s.heads _ ∙ r.heads

pub listed_count : {X : Type 0} {N : ℕ} (s : Parts X) → Sound N s → length (listed s) ≡ N
unfolding listed
listed_count s r = length-map (walks (nexts s.slots) s.heads) _ ∙ chains_count s r

-- the list of chain k is what a walk from its first place finds
pub list_at : {X : Type 0} {N : ℕ} (s : Parts X) (k : ℕ) → Sound N s → k < N → get_or (listed s) k [] ≡ items_from (nexts s.slots) (items s.slots) (get_or s.heads k 0)
unfolding listed
list_at s k r lt =
    let jss = walks (nexts s.slots) s.heads in
    let kl : k < length jss = omega (arith, chains_count s r) in
    get_or-map (pick (items s.slots)) jss k [] [] kl ∙ ap (pick (items s.slots)) (places_at s k r lt)

pub chained : {X : Type 0} {N : ℕ} (s : Parts X) (k : ℕ) → Sound N s → k < N → Chained (nexts s.slots) (get_or s.heads k 0)
chained s k r lt =
    let P : List ℕ → Type 0 = λ v. Linked (nexts s.slots) (get_or s.heads k 0) v in
    subst P (places_at s k r lt) (r.layout.linked (suc k))

pub free_onward : {X : Type 0} {N : ℕ} (s : Parts X) → Sound N s → 0 < s.free → Onward (nexts s.slots) s.free
free_onward s r pos = onward (nexts s.slots) s.free (r.layout.linked 0) pos

-- ---- the ends of a chain as they stand in the struct

pub ends_count : {X : Type 0} {N : ℕ} (c : Chains X N) → length c.ends ≡ N
ends_count c = sym (length-map c.ends _) ∙ (sound c).heads

pub head_at : {X : Type 0} {N : ℕ} (c : Chains X N) (k : ℕ) (d : Ends) → k < N → (get_or c.ends k d).head ≡ get_or (parts c).heads k 0
head_at c k d lt = sym (get_or-map (λ e. e.head) c.ends k d 0 (omega (arith, ends_count c)))

pub tail_at : {X : Type 0} {N : ℕ} (c : Chains X N) (k : ℕ) (d : Ends) → k < N → (get_or c.ends k d).tail ≡ get_or (parts c).tails k 0
tail_at c k d lt = sym (get_or-map (λ e. e.tail) c.ends k d 0 (omega (arith, ends_count c)))

-- ---- the places that are read and written are in the table

pub free_below : {X : Type 0} {N : ℕ} (s : Parts X) → Sound N s → 0 < s.free → s.free < length s.slots
free_below s r pos = let lt = (free_onward s r pos).lt in rw length-map at lt

pub tail_below : {X : Type 0} {N : ℕ} (s : Parts X) (k : ℕ) → Sound N s → 0 < get_or s.tails k 0 → get_or s.tails k 0 < length s.slots
tail_below s k r pos =
    let nx = nexts s.slots in
    let is = get_or (walks nx s.heads) k [] in
    let P : List ℕ → Type 0 = λ v. Linked nx (get_or s.heads k 0) v in
    let lt = last_lt nx (get_or s.heads k 0) (get_or s.tails k 0) is [] (subst P (sym (append-nil is)) (r.layout.linked (suc k))) (r.layout.ends k) pos in
    rw length-map at lt

pub here_below : {X : Type 0} (s : Parts X) (k prev here : ℕ) (xs : List X) → Walked s k prev here xs → 0 < here → here < length s.slots
here_below s k prev here xs w pos = let lt = (onward (nexts s.slots) here w.ahead pos).lt in rw length-map at lt

pub prev_below : {X : Type 0} {N : ℕ} (s : Parts X) (k prev here : ℕ) (xs : List X) → Sound N s → k < N → Walked s k prev here xs → 0 < prev → prev < length s.slots
prev_below s k prev here xs r kN w pos =
    let nx = nexts s.slots in
    let P : List ℕ → Type 0 = λ v. Linked nx (get_or s.heads k 0) v in
    let lt = last_lt nx (get_or s.heads k 0) prev w.done (places_from nx here) (subst P w.split (chained s k r kN)) (sym w.before) pos in
    rw length-map at lt

-- ---- how many items there are

total_picked : {X : Type 0} (its : List X) (nx : List ℕ) (h : ℕ → ℕ) (jss : List (List ℕ)) → length its ≡ length nx → ((k : ℕ) → Linked nx (h k) (get_or jss k [])) → total (map (pick its) jss) ≡ sum_by length jss
total_picked its nx h [] e l = refl
total_picked its nx h (js ∷ jss) e l =
    omega (arith, sum_by-cons length (pick its js) (map (pick its) jss), sum_by-cons length js jss, length_pick its nx (h 0) js e (l 0), total_picked its nx (λ k. h (suc k)) jss e (λ k. l (suc k)))

pub room_left : {X : Type 0} {N : ℕ} (s : Parts X) → Sound N s → s.room + total (listed s) ≡ length s.slots - 1
unfolding listed
room_left s r =
    let nx = nexts s.slots in
    let a = total_picked (items s.slots) nx (λ k. get_or s.heads k 0) (walks nx s.heads) (length-map s.slots _ ∙ sym (length-map s.slots _)) (λ k. r.layout.linked (suc k)) in
    omega (arith, a, r.counted, r.layout.cover, sum_by-cons length (places_from nx s.free) (walks nx s.heads), length-map s.slots (λ t. t.next))

pub room_some : {X : Type 0} {N : ℕ} (s : Parts X) → Sound N s → 0 < s.free → 0 < s.room
room_some s r pos = omega (arith, r.counted, ap length (free_onward s r pos).places)

pub room_none : {X : Type 0} {N : ℕ} (s : Parts X) → Sound N s → s.free ≡ 0 → s.room ≡ 0
room_none s r z = r.counted ∙ ap length (linked_none (nexts s.slots) s.free (places_from (nexts s.slots) s.free) (r.layout.linked 0) z)

-- no chain has more items than the table has places
pub list_short : {X : Type 0} {N : ℕ} (s : Parts X) (k : ℕ) → Sound N s → k < N → length (get_or (listed s) k []) ≤ length s.slots
list_short s k r kN =
    let nx = nexts s.slots in
    let its = items s.slots in
    omega (
      arith,
      ap length (list_at s k r kN),
      length_pick its nx (get_or s.heads k 0) (places_from nx (get_or s.heads k 0)) (length-map s.slots _ ∙ sym (length-map s.slots _)) (chained s k r kN),
      places_le nx (get_or s.heads k 0),
      length-map s.slots (λ t. t.next),
    )
