-- Reading and writing tables numbered from 1, and what holds of each of a list. Assumes nothing.
use Rattle.std.proofs.Common.{◌≡◌, ℕ, zero, suc, ◌+◌, ◌<◌, ◌≤◌, Bool, true, false, cond, ◌&&◌, ◌||◌, eqb, ◌⊎◌, List, [], ◌∷◌, ◌++◌, map, length, get_or, replicate, sym, refl, ap, ◌∙◌, inl, inr, ⊎_elim, arith, length-set, get_or-set_other, get_or-set_same}
use Rattle.std.specs.List.{AllByRecursion}
use Rattle.std.proofs.lemmas.List.{get_or_past}
use Rattle.std.proofs.lemmas.Bool.{and_parts, eq-eqb, ne_eqb}
use Rattle.std.proofs.lemmas.Bool.Decides.{eqb_tells, leb_tells}
use Rattle.terms.specs.Tables.{all_of, any_of, at, put, up_to}

pub never : (A : Type 0) → ⊥ → A
never A z = elim z [ ]

pub mixed : (A : Type 0) → true ≡ false → A
mixed A e = let z : ◌≡◌ {A = ℕ} 0 1 = cc in never A (omega arith)

-- ---- tables

pub at_put : {X : Type 0} (d : X) (xs : List X) (l k : ℕ) (x : X) → 1 ≤ l → l ≤ length xs → at d (put xs l x) k ≡ cond (eqb l k) x (at d xs k)
at_put d xs zero k x h1 h2 = never _ (omega arith)
at_put d xs (suc i) zero x h1 h2 = rw (ne_eqb (suc i) 0 (omega arith))
at_put d xs (suc i) (suc j) x h1 h2 =
    ⊎_elim
    (λ p. let e : i ≡ j = omega (arith, p.1) in rw p.0 (rw (← e) (get_or-set_same xs i x d (omega arith))))
    (λ p. rw p.0 (get_or-set_other xs i j x d (λ e. p.1 (ap suc (sym e)))))
    (eqb_tells (suc i) (suc j))

pub at_same : {X : Type 0} (d : X) (xs : List X) (l i : ℕ) (x : X) → 1 ≤ l → l ≤ length xs → l ≡ i → at d (put xs l x) i ≡ x
at_same d xs l i x low high e = let h = at_put d xs l i x low high in let t = eq-eqb l i e in rw t at h

pub at_other : {X : Type 0} (d : X) (xs : List X) (l i : ℕ) (x : X) → 1 ≤ l → l ≤ length xs → eqb l i ≡ false → at d (put xs l x) i ≡ at d xs i
at_other d xs l i x low high e = let h = at_put d xs l i x low high in rw e at h

pub length_put : {X : Type 0} (xs : List X) (l : ℕ) (x : X) → length (put xs l x) ≡ length xs
length_put xs zero x = refl
length_put xs (suc i) x = length-set xs i x

-- what stands there already changes nothing
pub put_same : {X : Type 0} (d : X) (xs : List X) (n : ℕ) → put xs n (at d xs n) ≡ xs
put_same d xs zero = refl
put_same d [] (suc i) = refl
put_same d (x ∷ xs) (suc zero) = refl
put_same d (x ∷ xs) (suc (suc i)) = ap (λ ys. x ∷ ys) (put_same d xs (suc i))

-- a table read through f
pub at_map : {X Y : Type 0} (f : X → Y) (d : X) (xs : List X) (n : ℕ) → at (f d) (map f xs) n ≡ f (at d xs n)
at_map f d xs zero = refl
at_map f d [] (suc i) = refl
at_map f d (x ∷ xs) (suc zero) = refl
at_map f d (x ∷ xs) (suc (suc i)) = at_map f d xs (suc i)

pub put_map : {X Y : Type 0} (f : X → Y) (xs : List X) (n : ℕ) (x : X) → map f (put xs n x) ≡ put (map f xs) n (f x)
put_map f xs zero x = refl
put_map f [] (suc i) x = refl
put_map f (y ∷ xs) (suc zero) x = refl
put_map f (y ∷ xs) (suc (suc i)) x = ap (λ ys. f y ∷ ys) (put_map f xs (suc i) x)

-- past its end a table says nothing
pub at_past : {X : Type 0} (d : X) (xs : List X) (l : ℕ) → (l < 1) ⊎ (length xs < l) → at d xs l ≡ d
at_past d xs zero h = refl
at_past d xs (suc i) h = get_or_past xs i d (omega arith)

-- a place that says something is in the table
pub in_table : {X : Type 0} (P : X → Bool) (d : X) (xs : List X) (l n : ℕ) → length xs ≡ n → P d ≡ false → P (at d xs l) ≡ true → (1 ≤ l) × (l ≤ n)
in_table P d xs l n len nay yea =
    let past = at_past d xs l in
    let wrong : ((l < 1) ⊎ (length xs < l)) → ⊥ = λ h. mixed ⊥ (sym yea ∙ ap P (past h) ∙ nay) in (
      elim (leb_tells 1 l) [ inl p ↦ p.1 | inr p ↦ never _ (wrong (inl p.1)) ],
      elim (leb_tells l n) [ inl p ↦ p.1 | inr p ↦ never _ (wrong (inr (omega arith))) ],
    )

-- a table of one value says that everywhere
pub same_all : {X : Type 0} (d : X) (n l : ℕ) → at d (replicate n d) l ≡ d
same_all d n zero = refl
same_all d n (suc i) = go n i
  where
    go : (n i : ℕ) → get_or (replicate n d) i d ≡ d
    go zero i = refl
    go (suc n) zero = refl
    go (suc n) (suc i) = go n i

pub length_map : {X Y : Type 0} (f : X → Y) (xs : List X) → length (map f xs) ≡ length xs
length_map f [] = refl
length_map f (x ∷ xs) = ap suc (length_map f xs)

-- ---- what holds of each of a list

module _ {X : Type 0} (P : X → Type 0) where
  pub any_all : (q : X → Bool) (xs : List X) → AllByRecursion P xs → any_of q xs ≡ true → (x : X) × P x × (q x ≡ true)
  any_all q [] a e = mixed _ (sym e)
  any_all q (x ∷ xs) a e = go (q x) refl e (any_all q xs a.1)
    where
      go : (b : Bool) → q x ≡ b → (b || any_of q xs) ≡ true → (any_of q xs ≡ true → (y : X) × P y × (q y ≡ true)) → (y : X) × P y × (q y ≡ true)
      go true h k ih = (x, a.0, h)
      go false h k ih = ih k

  pub all_any : (q : X → Bool) (xs : List X) → ((x : X) → P x → q x ≡ true → ⊥) → AllByRecursion P xs → any_of q xs ≡ false
  all_any q [] n a = refl
  all_any q (x ∷ xs) n a = go (q x) refl (all_any q xs n a.1)
    where
      go : (b : Bool) → q x ≡ b → any_of q xs ≡ false → (b || any_of q xs) ≡ false
      go true h k = never _ (n x a.0 h)
      go false h k = k

  pub all_at : (d : X) (xs : List X) (l : ℕ) → P d → AllByRecursion P xs → P (at d xs l)
  all_at d xs zero pd a = pd
  all_at d [] (suc i) pd a = pd
  all_at d (x ∷ xs) (suc zero) pd a = a.0
  all_at d (x ∷ xs) (suc (suc i)) pd a = all_at d xs (suc i) pd a.1

  pub all_put : (xs : List X) (l : ℕ) (x : X) → P x → AllByRecursion P xs → AllByRecursion P (put xs l x)
  all_put xs zero x px a = a
  all_put [] (suc i) x px a = tt
  all_put (y ∷ xs) (suc zero) x px a = (px, a.1)
  all_put (y ∷ xs) (suc (suc i)) x px a = (a.0, all_put xs (suc i) x px a.1)

  pub all_joined : (xs ys : List X) → AllByRecursion P xs → AllByRecursion P ys → AllByRecursion P (xs ++ ys)
  all_joined [] ys a b = b
  all_joined (x ∷ xs) ys a b = (a.0, all_joined xs ys a.1 b)

pub all_map : {X : Type 0} (P Q : X → Type 0) (f : X → X) (xs : List X) → ((x : X) → P x → Q (f x)) → AllByRecursion P xs → AllByRecursion Q (map f xs)
all_map P Q f [] h a = tt
all_map P Q f (x ∷ xs) h a = (h x a.0, all_map P Q f xs h a.1)

pub all_weak : {X : Type 0} (P Q : X → Type 0) (xs : List X) → ((x : X) → P x → Q x) → AllByRecursion P xs → AllByRecursion Q xs
all_weak P Q [] h a = tt
all_weak P Q (x ∷ xs) h a = (h x a.0, all_weak P Q xs h a.1)

pub all_same : {X : Type 0} (P : X → Type 0) (x : X) (n : ℕ) → P x → AllByRecursion P (replicate n x)
all_same P x zero h = tt
all_same P x (suc n) h = (h, all_same P x n h)

-- what holds of everything holds of each
pub all_from_each : {X : Type 0} (P : X → Type 0) → ((x : X) → P x) → (xs : List X) → AllByRecursion P xs
all_from_each P h [] = tt
all_from_each P h (x ∷ xs) = (h x, all_from_each P h xs)

-- ---- tests

pub or_so : (b c : Bool) → c ≡ true → (b || c) ≡ true
or_so true c k = refl
or_so false c k = k

pub any_less : {X : Type 0} (p q : X → Bool) → ((x : X) → q x ≡ true → p x ≡ true) → (xs : List X) → any_of q xs ≡ true → any_of p xs ≡ true
any_less p q h [] e = e
any_less p q h (x ∷ xs) e = go (q x) (h x) e (any_less p q h xs)
  where
    go : (b : Bool) → (b ≡ true → p x ≡ true) → (b || any_of q xs) ≡ true → (any_of q xs ≡ true → any_of p xs ≡ true) → (p x || any_of p xs) ≡ true
    go true k e ih = rw (k refl)
    go false k e ih = or_so (p x) (any_of p xs) (ih e)

pub and_so : (b c : Bool) → b ≡ true → c ≡ true → (b && c) ≡ true
and_so b c h k = rw (h, k)

-- each of the tests is passed where all are
pub passed : (bs : List Bool) (n : ℕ) → all_of bs ≡ true → at true bs n ≡ true
passed bs zero e = refl
passed [] (suc i) e = refl
passed (b ∷ bs) (suc zero) e = (and_parts b (all_of bs) e).0
passed (b ∷ bs) (suc (suc i)) e = passed bs (suc i) (and_parts b (all_of bs) e).1

-- the one that a test finds: whatever other test it passes finds one too
pub any_find :
    {X : Type 0} (P : X → Type 0) (q : X → Bool) (xs : List X) → AllByRecursion P xs → any_of q xs ≡ true
    → (x : X) × (q x ≡ true) × P x × ((p : X → Bool) → p x ≡ true → any_of p xs ≡ true)
any_find P q [] a e = mixed _ (sym e)
any_find P q (x ∷ xs) a e = go (q x) refl e (any_find P q xs a.1)
  where
    Found : Type 0
    Found = (y : _) × (q y ≡ true) × P y × ((p : _ → Bool) → p y ≡ true → (p x || any_of p xs) ≡ true)

    go : (b : Bool) → q x ≡ b → (b || any_of q xs) ≡ true → (any_of q xs ≡ true → (y : _) × (q y ≡ true) × P y × ((p : _ → Bool) → p y ≡ true → any_of p xs ≡ true)) → Found
    go true h k ih = (x, h, a.0, λ p w. ap (λ b. b || any_of p xs) w)
    go false h k ih = let r = ih k in (r.0, r.1, r.2, λ p w. or_so (p x) (any_of p xs) (r.3 p w))

-- ---- sums over 1 to n

pub up_to_same : (n : ℕ) (f g : ℕ → ℕ) → ((k : ℕ) → f k ≡ g k) → up_to n f ≡ up_to n g
up_to_same zero f g h = refl
up_to_same (suc n) f g h = omega (arith, h (suc n), up_to_same n f g h)

-- two that agree but at l
up_to_below : (n : ℕ) (f g : ℕ → ℕ) (l : ℕ) → n < l → ((k : ℕ) → eqb l k ≡ false → f k ≡ g k) → up_to n f ≡ up_to n g
up_to_below zero f g l h e = refl
up_to_below (suc n) f g l h e = omega (arith, e (suc n) (ne_eqb l (suc n) (omega arith)), up_to_below n f g l (omega arith) e)

pub up_to_one : (n : ℕ) (f g : ℕ → ℕ) (l : ℕ) → 1 ≤ l → l ≤ n → ((k : ℕ) → eqb l k ≡ false → f k ≡ g k) → up_to n f + g l ≡ up_to n g + f l
up_to_one zero f g l low high e = never _ (omega arith)
up_to_one (suc n) f g l low high e =
    ⊎_elim
    (λ p. let q : l ≡ suc n = p.1 in omega (arith, ap f q, ap g q, up_to_below n f g l (omega arith) e))
    (λ p. omega (arith, e (suc n) p.0, up_to_one n f g l low (below n l high p.1) e))
    (eqb_tells l (suc n))
  where
    below : (n l : ℕ) → l ≤ suc n → (l ≡ suc n → ⊥) → l ≤ n
    below n l h k = elim (leb_tells l n) [ inl p ↦ p.1 | inr p ↦ never _ (k (omega arith)) ]
