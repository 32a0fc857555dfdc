-- The items at some places: what a read finds there, how many they are, and what a write leaves of them.
use Rattle.std.proofs.Common.{◌≡◌, ℕ, zero, suc, ◌<◌, ◌≢◌, List, [], ◌∷◌, ◌++◌, length, get_or, set, sym, refl, ap, ◌∙◌, inl, inr, arith}
use Rattle.std.proofs.lemmas.List.{length-append, length-map, get_or-map, append_assoc}
use Rattle.chains.specs.declared.slots.Slot.{Slot}
use Rattle.chains.specs.Slots.{nexts, items}
use Rattle.chains.specs.Chain.{at, pick, In, Linked}

at_is : {X : Type 0} (xs : List X) (n : ℕ) (d : X) → n < length xs → at xs n ≡ get_or xs n d ∷ []
unfolding at
at_is [] n d lt = absurd (omega arith)
at_is (x ∷ xs) zero d lt = refl
at_is (x ∷ xs) (suc n) d lt = at_is xs n d (omega arith)

-- a slot read from the table
pub item_at : {X : Type 0} (table : List (Slot X)) (i : ℕ) (d : Slot X) → i < length table → at (items table) i ≡ (get_or table i d).item ∷ []
item_at table i d lt =
    let x = (get_or table i d).item in
    let li : i < length (items table) = rw length-map lt in
    at_is (items table) i x li ∙ ap (λ v. v ∷ []) (get_or-map (λ t. t.item) table i d x lt)

pub next_at : {X : Type 0} (table : List (Slot X)) (i : ℕ) (d : Slot X) → i < length table → (get_or table i d).next ≡ get_or (nexts table) i 0
next_at table i d lt = sym (get_or-map (λ t. t.next) table i d 0 lt)

at_one : {X : Type 0} (xs : List X) (i : ℕ) → i < length xs → length (at xs i) ≡ 1
unfolding at
at_one [] i lt = absurd (omega arith)
at_one (x ∷ xs) zero lt = refl
at_one (x ∷ xs) (suc i) lt = at_one xs i (omega arith)

at_set_other : {X : Type 0} (xs : List X) (i j : ℕ) (x : X) → i ≢ j → at (set xs j x) i ≡ at xs i
unfolding at
at_set_other [] i j x ne = refl
at_set_other (y ∷ xs) zero zero x ne = absurd (ne refl)
at_set_other (y ∷ xs) zero (suc j) x ne = refl
at_set_other (y ∷ xs) (suc i) zero x ne = refl
at_set_other (y ∷ xs) (suc i) (suc j) x ne = at_set_other xs i j x (λ e. ne (ap suc e))

pub at_set_same : {X : Type 0} (xs : List X) (i : ℕ) (x : X) → i < length xs → at (set xs i x) i ≡ x ∷ []
unfolding at
at_set_same [] i x lt = absurd (omega arith)
at_set_same (y ∷ xs) zero x lt = refl
at_set_same (y ∷ xs) (suc i) x lt = at_set_same xs i x (omega arith)

pub pick_cons : {X : Type 0} (its : List X) (n : ℕ) (x : X) (is : List ℕ) → at its n ≡ x ∷ [] → pick its (n ∷ is) ≡ x ∷ pick its is
unfolding pick
pick_cons its n x is e = ap (λ v. v ++ pick its is) e

pub pick_append : {X : Type 0} (its : List X) (is js : List ℕ) → pick its (is ++ js) ≡ pick its is ++ pick its js
unfolding pick
pick_append its [] js = refl
pick_append its (i ∷ is) js = ap (λ v. at its i ++ v) (pick_append its is js) ∙ sym (append_assoc (at its i) (pick its is) (pick its js))

pub pick_none : {X : Type 0} (its : List X) → pick its [] ≡ []
unfolding pick
pick_none its = refl

-- an item at a place among others
pub pick_mid : {X : Type 0} (its : List X) (is : List ℕ) (n : ℕ) (x : X) (js : List ℕ) → at its n ≡ x ∷ [] → pick its (is ++ n ∷ js) ≡ pick its is ++ x ∷ pick its js
pick_mid its is n x js e = pick_append its is (n ∷ js) ∙ ap (λ v. pick its is ++ v) (pick_cons its n x js e)

-- a write at another place
pub pick_frame : {X : Type 0} (its : List X) (j : ℕ) (x : X) (is : List ℕ) → (In j is → ⊥) → pick (set its j x) is ≡ pick its is
unfolding pick
pick_frame its j x [] out = refl
pick_frame its j x (i ∷ is) out =
    let e = at_set_other its i j x (λ e. out (inl (sym e))) in
    let r = pick_frame its j x is (λ m. out (inr m)) in
    cc

-- each place of a chain holds one item
pub length_pick : {X : Type 0} (its : List X) (nx : List ℕ) (h : ℕ) (is : List ℕ) → length its ≡ length nx → Linked nx h is → length (pick its is) ≡ length is
unfolding pick
length_pick its nx h [] e l = refl
length_pick its nx h (i ∷ is) e l = omega (arith, length-append (at its i) (pick its is), at_one its i (omega (arith, l.2)), length_pick its nx (get_or nx i 0) is e l.3)
