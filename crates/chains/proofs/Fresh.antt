-- A new table, of which every place but 0 is free.
use Rattle.std.proofs.Common.{◌≡◌, ℕ, zero, suc, ◌+◌, ◌-◌, ◌<◌, ◌≤◌, List, [], ◌∷◌, map, length, get_or, set, replicate, sum_by, sym, refl, ap, ◌∙◌, subst, inl, inr, arith}
use Rattle.std.proofs.lemmas.List.{length-set, length-map, length-replicate, get_or-set_same}
use Rattle.std.proofs.lemmas.List.Sums.{sum_by-cons}
use Rattle.chains.specs.Slots.{nexts, items}
use Rattle.chains.specs.Chain.{pick, In, Linked, last0, down}
use Rattle.chains.specs.declared.slots.Slot.{Slot}
use Rattle.chains.specs.Sound.{Layout, Parts, parts_of, Sound, listed}
use Rattle.chains.proofs.Link.{linked_frame}
use Rattle.chains.proofs.Pick.{pick_none}
use Rattle.chains.proofs.Whole.{rebuilt}

in_down : (i n : ℕ) → In i (down n) → i ≤ n
in_down i zero p = absurd p
in_down i (suc n) (inl e) = omega arith
in_down i (suc n) (inr p) = omega (arith, in_down i n p)

pub length_down : (n : ℕ) → length (down n) ≡ n
length_down zero = refl
length_down (suc n) = ap suc (length_down n)

down_more : (nx : List ℕ) (n h : ℕ) → suc n < length nx → h ≡ n → Linked nx h (down n) → Linked (set nx (suc n) h) (suc n) (down (suc n))
down_more nx n h lt e l =
    (refl, omega arith, rw length-set lt, rw (get_or-set_same nx (suc n) h 0 lt) (linked_frame nx h (suc n) h (down n) (λ p. omega (arith, in_down (suc n) n p)) l))

-- one more place is linked
pub down_next : (nx nx' : List ℕ) (j h : ℕ) → 1 ≤ j → j < length nx → h ≡ j - 1 → nx' ≡ set nx j h → Linked nx h (down (j - 1)) → Linked nx' j (down (j + 1 - 1))
down_next nx nx' zero h pos lt eh en l = absurd (omega arith)
down_next nx nx' (suc n) h pos lt eh en l =
    let a : suc n - 1 ≡ n = omega arith in
    let b : suc n + 1 - 1 ≡ suc n = omega arith in
    let P : ℕ → Type 0 = λ v. Linked nx h (down v) in
    let Q : ℕ → Type 0 = λ v. Linked nx' (suc n) (down v) in
    let R : List ℕ → Type 0 = λ v. Linked v (suc n) (down (suc n)) in
    subst Q (sym b) (subst R (sym en) (down_more nx n h lt (omega arith) (subst P a l)))

-- ---- the struct over a new table

at_same : {A : Type 0} (n k : ℕ) (a : A) → get_or (replicate n a) k a ≡ a
at_same zero k a = refl
at_same (suc n) zero a = refl
at_same (suc n) (suc k) a = at_same n k a

no_sum : (n : ℕ) → sum_by {X = List ℕ} length (replicate n []) ≡ 0
no_sum zero = refl
no_sum (suc n) = sum_by-cons length [] (replicate n []) ∙ omega (arith, no_sum n)

fresh_layout : (nx : List ℕ) (h m n : ℕ) → Linked nx h (down m) → m ≡ length nx - 1 → Layout nx (h ∷ replicate n 0) (replicate n 0) (down m ∷ replicate n []) 0
fresh_layout nx h m n l e = record {
  count = ap suc (length-replicate n [] ∙ sym (length-replicate n 0));
  linked = linked;
  ends = λ k. ap last0 (at_same n k []) ∙ sym (at_same n k 0);
  apart = apart;
  cover = omega (arith, sum_by-cons length (down m) (replicate n []), no_sum n, length_down m);
}
  where
    linked : (k : ℕ) → Linked nx (get_or (h ∷ replicate n 0) k 0) (get_or (down m ∷ replicate n []) k [])
    linked zero = l
    linked (suc k) = rw (at_same {A = List ℕ} n k [], at_same {A = ℕ} n k 0) refl

    none : (k i : ℕ) → In i (get_or (replicate n []) k []) → ⊥
    none k i p = let P : List ℕ → Type 0 = In i in subst P (at_same n k []) p

    apart : (j k i : ℕ) → In i (get_or (down m ∷ replicate n []) j []) → In i (get_or (down m ∷ replicate n []) k []) → j ≡ k
    apart zero zero i p q = refl
    apart zero (suc k) i p q = absurd (none k i q)
    apart (suc j) k i p q = absurd (none j i p)

map_none : {X : Type 0} (its : List X) (n : ℕ) → map (pick its) (replicate n []) ≡ replicate n []
map_none its zero = refl
map_none its (suc n) = let e = pick_none its in let r = map_none its n in cc

pub record Fresh {X : Type 0} (N : ℕ) (s : Parts X) : Type 0 where
  pub sound : Sound N s
  pub empty : listed s ≡ replicate N []

map_same : {A B : Type 0} (f : A → B) (n : ℕ) (a : A) → map f (replicate n a) ≡ replicate n (f a)
map_same f zero a = refl
map_same f (suc n) a = ap (λ v. f a ∷ v) (map_same f n a)

pub fresh : {X : Type 0} (N : ℕ) (slots : List (Slot X)) (free room m : ℕ) → Linked (nexts slots) free (down m) → m ≡ length slots - 1 → room ≡ m →
    Fresh N (parts_of slots (replicate N (record { head = 0; tail = 0 })) free room)
fresh {X} N slots free room m l e er =
    let s = parts_of slots (replicate N (record { head = 0; tail = 0 })) free room in
    let nx = nexts slots in
    let eh : s.heads ≡ replicate N 0 = map_same (λ e. e.head) N _ in
    let et : s.tails ≡ replicate N 0 = map_same (λ e. e.tail) N _ in
    let f = fresh_layout nx free m N l (e ∙ ap (λ u. u - 1) (sym (length-map slots _))) in
    let r : Layout nx (free ∷ s.heads) s.tails (down m ∷ replicate N []) 0 = rw (eh, et) f in
    let b = rebuilt s (down m) (replicate N []) (ap length eh ∙ length-replicate N 0) (ap length et ∙ length-replicate N 0) r (er ∙ sym (length_down m)) in
    record { sound = b.sound; empty = b.holds ∙ map_none (items slots) N }
