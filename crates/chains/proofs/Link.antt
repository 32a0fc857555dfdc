-- One chain by its places: no place comes twice, what a write leaves of it, one place more or less, and that a walk goes through it.
use Rattle.std.proofs.Common.{◌≡◌, ℕ, zero, suc, ◌<◌, ◌≤◌, ◌≢◌, ◌⊎◌, List, [], ◌∷◌, ◌++◌, length, get_or, set, sym, refl, ap, ◌∙◌, subst, inl, inr, ⊎_elim, arith}
use Rattle.std.proofs.lemmas.List.{length-set, get_or-set_same, get_or-set_other}
use Rattle.chains.specs.Chain.{walk, places_from, In, Linked, Chained, last0}

-- ---- membership

pub in_left : (i : ℕ) (xs ys : List ℕ) → In i xs → In i (xs ++ ys)
in_left i [] ys p = absurd p
in_left i (x ∷ xs) ys (inl e) = inl e
in_left i (x ∷ xs) ys (inr p) = inr (in_left i xs ys p)

pub in_right : (i : ℕ) (xs ys : List ℕ) → In i ys → In i (xs ++ ys)
in_right i [] ys p = p
in_right i (x ∷ xs) ys p = inr (in_right i xs ys p)

pub in_mid : (n : ℕ) (xs ys : List ℕ) → In n (xs ++ n ∷ ys)
in_mid n [] ys = inl refl
in_mid n (x ∷ xs) ys = inr (in_mid n xs ys)

pub in_more : (i n : ℕ) (xs ys : List ℕ) → In i (xs ++ ys) → In i (xs ++ n ∷ ys)
in_more i n [] ys p = inr p
in_more i n (x ∷ xs) ys (inl e) = inl e
in_more i n (x ∷ xs) ys (inr p) = inr (in_more i n xs ys p)

pub in_push : (i n : ℕ) (is : List ℕ) → In i (is ++ n ∷ []) → In i is ⊎ (i ≡ n)
in_push i n [] (inl e) = inr e
in_push i n [] (inr p) = absurd p
in_push i n (x ∷ is) (inl e) = inl (inl e)
in_push i n (x ∷ is) (inr p) = ⊎_elim (λ q. inl (inr q)) inr (in_push i n is p)

-- ---- the last place

pub last_in : (i : ℕ) (is : List ℕ) → In (last0 (i ∷ is)) (i ∷ is)
last_in i [] = inl refl
last_in i (j ∷ is) = inr (last_in j is)

pub last_append : (xs : List ℕ) (y : ℕ) (ys : List ℕ) → last0 (xs ++ y ∷ ys) ≡ last0 (y ∷ ys)
last_append [] y ys = refl
last_append (x ∷ []) y ys = refl
last_append (x ∷ (z ∷ xs)) y ys = last_append (z ∷ xs) y ys

pub last_none : (nx : List ℕ) (h : ℕ) (is : List ℕ) → Linked nx h is → last0 is ≡ 0 → is ≡ []
last_none nx h [] l e = refl
last_none nx h (i ∷ []) l e = absurd (omega (arith, l.1))
last_none nx h (i ∷ (j ∷ is)) l e =
    let n : j ∷ is ≡ [] = last_none nx (get_or nx i 0) (j ∷ is) l.3 e in
    absurd (omega (arith, ap length n))

pub last_lt : (nx : List ℕ) (h t : ℕ) (xs ys : List ℕ) → Linked nx h (xs ++ ys) → last0 xs ≡ t → 0 < t → t < length nx
last_lt nx h t [] ys l e pos = absurd (omega arith)
last_lt nx h t (i ∷ []) ys l e pos = omega (arith, l.2)
last_lt nx h t (i ∷ (j ∷ is)) ys l e pos = last_lt nx (get_or nx i 0) t (j ∷ is) ys l.3 e pos

-- ---- a linked chain

pub linked_none : (nx : List ℕ) (h : ℕ) (is : List ℕ) → Linked nx h is → h ≡ 0 → is ≡ []
linked_none nx h [] l e = refl
linked_none nx h (i ∷ is) l e = absurd (omega (arith, l.0, l.1))

-- the first place, 0 if there is none
abbrev pub first0 : List ℕ → ℕ
first0 [] = 0
first0 (i ∷ is) = i

pub linked_first : (nx : List ℕ) (h : ℕ) (is : List ℕ) → Linked nx h is → h ≡ first0 is
linked_first nx h [] l = l
linked_first nx h (i ∷ is) l = l.0

pub linked_rest : (nx : List ℕ) (h : ℕ) (xs ys : List ℕ) → Linked nx h (xs ++ ys) → Linked nx (first0 ys) ys
linked_rest nx h [] [] l = refl
linked_rest nx h [] (y ∷ ys) l = (refl, l.1, l.2, l.3)
linked_rest nx h (x ∷ xs) ys l = linked_rest nx (get_or nx x 0) xs ys l.3

pub zero_out : (nx : List ℕ) (h : ℕ) (is : List ℕ) → Linked nx h is → In 0 is → ⊥
zero_out nx h [] l p = p
zero_out nx h (i ∷ is) l (inl e) = omega (arith, l.1)
zero_out nx h (i ∷ is) l (inr p) = zero_out nx (get_or nx i 0) is l.3 p

unique : (nx : List ℕ) (h : ℕ) (is js : List ℕ) → Linked nx h is → Linked nx h js → is ≡ js
unique nx h [] [] a b = refl
unique nx h [] (j ∷ js) a b = absurd (omega (arith, a, b.0, b.1))
unique nx h (i ∷ is) [] a b = absurd (omega (arith, b, a.0, a.1))
unique nx h (i ∷ is) (j ∷ js) a b =
    let e : i ≡ j = sym a.0 ∙ b.0 in
    let P : ℕ → Type 0 = λ n. Linked nx (get_or nx n 0) is in
    let t = unique nx (get_or nx j 0) is js (subst P e a.3) b.3 in
    cc

suffix : (nx : List ℕ) (h i : ℕ) (is : List ℕ) → In i is → Linked nx h is → (js : List ℕ) × (Linked nx i (i ∷ js)) × (length js < length is)
suffix nx h i [] m l = absurd m
suffix nx h i (x ∷ is) (inl e) l =
    let P : ℕ → Type 0 = λ n. Linked nx n (n ∷ is) in
    (is, subst P (sym e) (refl, l.1, l.2, l.3), omega arith)
suffix nx h i (x ∷ is) (inr m) l =
    let r = suffix nx (get_or nx x 0) i is m l.3 in
    (r.0, r.1, omega (arith, r.2))

-- a chain that ends goes through no place twice
pub once : (nx : List ℕ) (h i : ℕ) (is : List ℕ) → Linked nx h (i ∷ is) → In i is → ⊥
once nx h i is l m =
    let r = suffix nx (get_or nx i 0) i is m l.3 in
    let e = unique nx (get_or nx i 0) is r.0 l.3 r.1.3 in
    omega (arith, r.2, ap length e)

pub once_mid : (nx : List ℕ) (h n : ℕ) (xs ys : List ℕ) → Linked nx h (xs ++ n ∷ ys) → In n (xs ++ ys) → ⊥
once_mid nx h n [] ys l p = once nx h n ys l p
once_mid nx h n (x ∷ xs) ys l (inl e) =
    let P : ℕ → Type 0 = λ v. In v (xs ++ n ∷ ys) in
    once nx h x (xs ++ n ∷ ys) l (subst P e (in_mid n xs ys))
once_mid nx h n (x ∷ xs) ys l (inr p) = once_mid nx (get_or nx x 0) n xs ys l.3 p

-- ---- writes

-- a write at a place that is not in the chain
pub linked_frame : (nx : List ℕ) (h j v : ℕ) (is : List ℕ) → (In j is → ⊥) → Linked nx h is → Linked (set nx j v) h is
linked_frame nx h j v [] out l = l
linked_frame nx h j v (i ∷ is) out l =
    let ne : i ≢ j = λ e. out (inl (sym e)) in
    let r = linked_frame nx (get_or nx i 0) j v is (λ m. out (inr m)) l.3 in
    (l.0, l.1, rw length-set l.2, rw get_or-set_other r)

-- one more place at the end
pub linked_push : (nx : List ℕ) (h i n : ℕ) (is : List ℕ) → (In n (i ∷ is) → ⊥) → 0 < n → n < length nx → get_or nx n 0 ≡ 0 → Linked nx h (i ∷ is) → Linked (set nx (last0 (i ∷ is)) n) h (i ∷ (is ++ n ∷ []))
linked_push nx h i n [] out pos lt z l =
    let ne : n ≢ i = λ e. out (inl e) in
    let li : i < length nx = l.2 in
    let e : get_or (set nx i n) n 0 ≡ 0 = rw get_or-set_other z in
    (l.0, l.1, rw length-set l.2, (get_or-set_same nx i n 0 li, pos, rw length-set lt, e))
linked_push nx h i n (j ∷ is) out pos lt z l =
    let ne : i ≢ last0 (j ∷ is) = λ e. (let P : ℕ → Type 0 = λ k. In k (j ∷ is) in once nx h i (j ∷ is) l (subst P (sym e) (last_in j is))) in
    let r = linked_push nx (get_or nx i 0) j n is (λ m. out (inr m)) pos lt z l.3 in
    (l.0, l.1, rw length-set l.2, rw get_or-set_other r)

-- one place less: the last of those before it leads to the next
pub linked_cut : (nx : List ℕ) (h d n : ℕ) (ds ys : List ℕ) → Linked nx h (d ∷ (ds ++ n ∷ ys)) → Linked (set nx (last0 (d ∷ ds)) (get_or nx n 0)) h (d ∷ (ds ++ ys))
linked_cut nx h d n [] ys l =
    let ld : d < length nx = l.2 in
    let r = linked_frame nx (get_or nx n 0) d (get_or nx n 0) ys (λ p. once nx h d (n ∷ ys) l (inr p)) l.3.3 in
    (l.0, l.1, rw length-set l.2, rw (get_or-set_same nx d (get_or nx n 0) 0 ld) r)
linked_cut nx h d n (e ∷ es) ys l =
    let P : ℕ → Type 0 = λ v. In v (e ∷ (es ++ n ∷ ys)) in
    let ne : d ≢ last0 (e ∷ es) = λ q. once nx h d (e ∷ (es ++ n ∷ ys)) l (subst P (sym q) (in_left (last0 (e ∷ es)) (e ∷ es) (n ∷ ys) (last_in e es))) in
    let r = linked_cut nx (get_or nx d 0) e n es ys l.3 in
    (l.0, l.1, rw length-set l.2, rw (get_or-set_other nx (last0 (e ∷ es)) d (get_or nx n 0) 0 ne) r)

-- ---- walks

walk_le : (f : ℕ) (nx : List ℕ) (h : ℕ) → length (walk f nx h) ≤ f
unfolding walk
walk_le zero nx h = omega arith
walk_le (suc f) nx zero = omega arith
walk_le (suc f) nx (suc h) = omega (arith, walk_le f nx (get_or nx (suc h) 0))

-- a walk goes through the chain's places
pub walk_is : (f : ℕ) (nx : List ℕ) (h : ℕ) (is : List ℕ) → length is ≤ f → Linked nx h is → walk f nx h ≡ is
unfolding walk
walk_is zero nx h [] le l = refl
walk_is zero nx h (i ∷ is) le l = absurd (omega arith)
walk_is (suc f) nx zero [] le l = refl
walk_is (suc f) nx (suc h) [] le l = absurd (omega (arith, l))
walk_is (suc f) nx zero (i ∷ is) le l = absurd (omega (arith, l.0, l.1))
walk_is (suc f) nx (suc h) (i ∷ is) le l =
    let le2 : length is ≤ f = omega arith in
    let P : ℕ → Type 0 = λ n. Linked nx (get_or nx n 0) is in
    let t = walk_is f nx (get_or nx (suc h) 0) is le2 (subst P (sym l.0) l.3) in
    let e = l.0 in
    cc

pub places_none : (nx : List ℕ) → places_from nx 0 ≡ []
unfolding walk
places_none nx = none (length nx)
  where
    none : (f : ℕ) → walk f nx 0 ≡ []
    none zero = refl
    none (suc f) = refl

pub places_le : (nx : List ℕ) (h : ℕ) → length (places_from nx h) ≤ length nx
places_le nx h = walk_le (length nx) nx h

-- a place of a chain, and the chain from the next one on
pub record Onward (nx : List ℕ) (h : ℕ) : Type 0 where
  pub places : places_from nx h ≡ h ∷ places_from nx (get_or nx h 0)
  pub chained : Chained nx (get_or nx h 0)
  pub lt : h < length nx

pub onward : (nx : List ℕ) (h : ℕ) → Chained nx h → 0 < h → Onward nx h
onward nx h l pos = step (places_from nx h) refl l
  where
    step : (is : List ℕ) → places_from nx h ≡ is → Linked nx h is → Onward nx h
    step [] e l = absurd (omega (arith, l))
    step (i ∷ is) e l =
        let P : ℕ → Type 0 = λ n. Linked nx (get_or nx n 0) is in
        let lk : Linked nx (get_or nx h 0) is = subst P (sym l.0) l.3 in
        let le : length is ≤ length nx = omega (arith, places_le nx h, ap length e) in
        let w : places_from nx (get_or nx h 0) ≡ is = walk_is (length nx) nx (get_or nx h 0) is le lk in
        let Q : List ℕ → Type 0 = Linked nx (get_or nx h 0) in
        record { places = e ∙ ap (λ n. n ∷ is) (sym l.0) ∙ ap (λ v. h ∷ v) (sym w); chained = subst Q (sym w) lk; lt = omega (arith, l.0, l.2) }
