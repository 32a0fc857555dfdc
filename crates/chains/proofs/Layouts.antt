-- All the chains of a table by their places: what one step leaves of them.
use Rattle.std.proofs.Common.{◌≡◌, ℕ, zero, suc, ◌+◌, ◌-◌, ◌<◌, ◌≤◌, ◌≢◌, ◌⊎◌, List, [], ◌∷◌, ◌++◌, length, get_or, set, sym, refl, ap, ◌∙◌, subst, inl, inr, ⊎_elim, arith}
use Rattle.std.proofs.lemmas.List.{length-set, length-map, length-append, append-nil, get_or-set_same, get_or-set_other, get_or-map, ext_get_or}
use Rattle.std.proofs.lemmas.List.Sums.{sum_by-set, get_or-le-sum_by}
use Rattle.std.proofs.lemmas.Bool.{cases_eq}
use Rattle.chains.specs.Chain.{places_from, In, Linked, last0}
use Rattle.chains.specs.Sound.{Layout, walks}
use Rattle.chains.proofs.Link.{in_left, in_mid, in_more, in_push, last_in, last_append, last_none, linked_rest, zero_out, once, once_mid, linked_frame, linked_push, linked_cut, walk_is}

-- the place n is in no chain
abbrev pub Loose : List (List ℕ) → ℕ → Type 0
Loose iss n = (k : ℕ) → In n (get_or iss k []) → ⊥

-- the walks go through the places
pub walks_are : (nx hs ts : List ℕ) (iss : List (List ℕ)) (m : ℕ) → Layout nx hs ts iss m → walks nx hs ≡ iss
walks_are nx hs ts iss m r =
    ext_get_or [] (walks nx hs) iss (length-map hs _ ∙ sym r.count)
    (λ k h. let lt : k < length hs = rw length-map at h in
    let li : k < length iss = omega (arith, r.count) in
    let le : length (get_or iss k []) ≤ length nx = omega (arith, get_or-le-sum_by length iss k [] li, r.cover) in
    get_or-map (places_from nx) hs k 0 [] lt ∙ walk_is (length nx) nx (get_or hs k 0) (get_or iss k []) le (r.linked k))

-- the places of one chain replaced by others, each of which was in that chain or in none
pub replaced : (nx hs ts : List ℕ) (iss : List (List ℕ)) (m : ℕ) → Layout nx hs ts iss m →
    (nx' hs' ts' : List ℕ) (m' k : ℕ) (js : List ℕ) → k < length iss → length nx' ≡ length nx → length hs' ≡ length hs →
    ((j : ℕ) → j ≢ k → Linked nx' (get_or hs' j 0) (get_or iss j [])) → Linked nx' (get_or hs' k 0) js →
    ((i : ℕ) → In i js → In i (get_or iss k []) ⊎ Loose iss i) →
    length js + m' ≡ length (get_or iss k []) + m →
    ((j : ℕ) → last0 (get_or (set iss k js) (suc j) []) ≡ get_or ts' j 0) → Layout nx' hs' ts' (set iss k js) m'
replaced nx hs ts iss m r nx' hs' ts' m' k js lt en eh others this from len ends' = record {
  count = length-set iss k js ∙ r.count ∙ sym eh;
  linked = λ j. ⊎_elim
      (λ e. let P : ℕ → Type 0 = λ v. Linked nx' (get_or hs' v 0) (get_or (set iss k js) v []) in subst P (sym e) (rw (get_or-set_same iss k js [] lt) this))
      (λ (ne : j ≢ k). rw get_or-set_other (others j ne)) (cases_eq j k);
  ends = ends';
  apart = apart';
  cover = omega (arith, sum_by-set length iss k js [] lt, r.cover);
}
  where
    back : (j i : ℕ) → In i (get_or (set iss k js) j []) → (In i (get_or iss j []) ⊎ ((j ≡ k) × Loose iss i))
    back j i h = ⊎_elim
        (λ (e : j ≡ k). let P : ℕ → Type 0 = λ v. In i (get_or (set iss k js) v []) in
        let Q : ℕ → Type 0 = λ v. In i (get_or iss v []) in
        let h0 : In i (get_or (set iss k js) k []) = subst P e h in
        let h1 : In i js = rw (get_or-set_same iss k js [] lt) at h0 in
        ⊎_elim (λ a. inl (subst Q (sym e) a)) (λ b. inr (e, b)) (from i h1))
        (λ (ne : j ≢ k). inl (rw get_or-set_other at h)) (cases_eq j k)

    apart' : (a b i : ℕ) → In i (get_or (set iss k js) a []) → In i (get_or (set iss k js) b []) → a ≡ b
    apart' a b i p q = ⊎_elim
        (λ x. ⊎_elim (λ y. r.apart a b i x y) (λ y. absurd (y.1 a x)) (back b i q))
        (λ x. ⊎_elim (λ y. absurd (x.1 b y)) (λ y. x.0 ∙ sym y.0) (back b i q)) (back a i p)

-- a place in no chain is written
pub written : (nx hs ts : List ℕ) (iss : List (List ℕ)) (m n v : ℕ) → Loose iss n → Layout nx hs ts iss m → Layout (set nx n v) hs ts iss m
written nx hs ts iss m n v loose r = record {
  count = r.count;
  linked = λ k. linked_frame nx (get_or hs k 0) n v (get_or iss k []) (loose k) (r.linked k);
  ends = r.ends;
  apart = r.apart;
  cover = r.cover ∙ ap (λ u. u - 1) (sym (length-set nx n v));
}

-- the last place of a chain is noted
ends_set : (ts : List ℕ) (iss : List (List ℕ)) (k : ℕ) (js : List ℕ) → ((j : ℕ) → last0 (get_or iss (suc j) []) ≡ get_or ts j 0) →
    k < length ts → suc k < length iss → (t : ℕ) → t ≡ last0 js → (j : ℕ) → last0 (get_or (set iss (suc k) js) (suc j) []) ≡ get_or (set ts k t) j 0
ends_set ts iss k js ends lt li t et j = ⊎_elim
    (λ (e : j ≡ k). let P : ℕ → Type 0 = λ v. last0 (get_or (set iss (suc k) js) (suc v) []) ≡ get_or (set ts k t) v 0 in
    subst P (sym e) (ap last0 (get_or-set_same iss (suc k) js [] li) ∙ sym et ∙ sym (get_or-set_same ts k t 0 lt)))
    (λ (ne : j ≢ k). let ne2 : suc j ≢ suc k = omega arith in
    ap last0 (get_or-set_other iss (suc k) (suc j) js [] ne2) ∙ ends j ∙ sym (get_or-set_other ts k j t 0 ne)) (cases_eq j k)

-- ---- the free chain

-- the first free place is taken
pub taken : (nx hs ts : List ℕ) (fs : List ℕ) (jss : List (List ℕ)) (m n h : ℕ) → Layout nx (h ∷ hs) ts ((n ∷ fs) ∷ jss) m →
    Layout nx (get_or nx n 0 ∷ hs) ts (fs ∷ jss) (suc m) × Loose (fs ∷ jss) n
taken nx hs ts fs jss m n h r = (
  replaced nx (h ∷ hs) ts ((n ∷ fs) ∷ jss) m r nx (get_or nx n 0 ∷ hs) ts (suc m) 0 fs (omega arith) refl refl others (r.linked 0).3
      (λ i p. inl (inr p)) (omega arith) r.ends,
  loose,
)
  where
    others : (j : ℕ) → j ≢ 0 → Linked nx (get_or (get_or nx n 0 ∷ hs) j 0) (get_or ((n ∷ fs) ∷ jss) j [])
    others zero ne = absurd (ne refl)
    others (suc j) ne = r.linked (suc j)

    loose : Loose (fs ∷ jss) n
    loose zero p = once nx h n fs (r.linked 0) p
    loose (suc k) p = absurd (omega (arith, r.apart 0 (suc k) n (inl refl) p))

-- a place in no chain becomes the first free one
pub given_up : (nx hs ts : List ℕ) (fs : List ℕ) (jss : List (List ℕ)) (m n f : ℕ) → Loose (fs ∷ jss) n → Layout nx (f ∷ hs) ts (fs ∷ jss) (suc m) → 0 < n → n < length nx →
    Layout (set nx n f) (n ∷ hs) ts ((n ∷ fs) ∷ jss) m
given_up nx hs ts fs jss m n f loose r pos lt =
    let w = written nx (f ∷ hs) ts (fs ∷ jss) (suc m) n f loose r in
    let l : Linked (set nx n f) (get_or (set nx n f) n 0) fs = rw (get_or-set_same nx n f 0 lt) (w.linked 0) in
    replaced (set nx n f) (f ∷ hs) ts (fs ∷ jss) (suc m) w (set nx n f) (n ∷ hs) ts m 0 (n ∷ fs) (omega arith) refl refl (others w)
    (refl, pos, rw length-set lt, l)
    (λ i p. ⊎_elim (λ q. let G : ℕ → Type 0 = Loose (fs ∷ jss) in inr (subst G (sym q) loose)) inl p)
    (omega arith) w.ends
  where
    others : Layout (set nx n f) (f ∷ hs) ts (fs ∷ jss) (suc m) → (j : ℕ) → j ≢ 0 → Linked (set nx n f) (get_or (n ∷ hs) j 0) (get_or (fs ∷ jss) j [])
    others w zero ne = absurd (ne refl)
    others w (suc j) ne = w.linked (suc j)

-- ---- one more place at the end of chain k

first : (nx hs ts : List ℕ) (iss : List (List ℕ)) (m n k : ℕ) → Loose iss n → Layout nx hs ts iss (suc m) → 0 < n → n < length nx → get_or nx n 0 ≡ 0 →
    k < length ts → suc k < length hs → get_or iss (suc k) [] ≡ [] → Layout nx (set hs (suc k) n) (set ts k n) (set iss (suc k) (n ∷ [])) m
first nx hs ts iss m n k loose r pos lt z kt kh e =
    let li : suc k < length iss = omega (arith, r.count) in
    replaced nx hs ts iss (suc m) r nx (set hs (suc k) n) (set ts k n) m (suc k) (n ∷ []) li refl (length-set hs (suc k) n)
    (λ j ne. rw get_or-set_other (r.linked j))
    (get_or-set_same hs (suc k) n 0 kh, pos, lt, z)
    (λ i p. ⊎_elim (λ q. let P : ℕ → Type 0 = Loose iss in inr (subst P (sym q) loose)) (λ q. absurd q) p)
    (omega (arith, ap length e))
    (ends_set ts iss k (n ∷ []) r.ends kt li n refl)

later : (nx hs ts : List ℕ) (iss : List (List ℕ)) (m n k t : ℕ) (is : List ℕ) → Loose iss n → Layout nx hs ts iss (suc m) → 0 < n → n < length nx → get_or nx n 0 ≡ 0 →
    k < length ts → suc k < length hs → get_or iss (suc k) [] ≡ is → t ≡ last0 is → 0 < t → Layout (set nx t n) hs (set ts k n) (set iss (suc k) (is ++ n ∷ [])) m
later nx hs ts iss m n k t [] loose r pos lt z kt kh e et tp = absurd (omega arith)
later nx hs ts iss m n k t (x ∷ is) loose r pos lt z kt kh e et tp =
    let li : suc k < length iss = omega (arith, r.count) in
    let P : List ℕ → Type 0 = λ v. Linked nx (get_or hs (suc k) 0) v in
    let Q : List ℕ → Type 0 = λ v. In n v → ⊥ in
    let lk : Linked nx (get_or hs (suc k) 0) (x ∷ is) = subst P e (r.linked (suc k)) in
    let R : ℕ → Type 0 = λ v. Linked (set nx v n) (get_or hs (suc k) 0) (x ∷ (is ++ n ∷ [])) in
    let S : List ℕ → Type 0 = λ v. In t v in
    let U : ℕ → Type 0 = λ v. In v (x ∷ is) in
    let tin : In t (get_or iss (suc k) []) = subst S (sym e) (subst U (sym et) (last_in x is)) in
    replaced nx hs ts iss (suc m) r (set nx t n) hs (set ts k n) m (suc k) (x ∷ (is ++ n ∷ [])) li (length-set nx t n) refl
    (λ j ne. linked_frame nx (get_or hs j 0) t n (get_or iss j []) (λ p. ne (r.apart j (suc k) t p tin)) (r.linked j))
    (subst R (sym et) (linked_push nx (get_or hs (suc k) 0) x n is (subst Q e (loose (suc k))) pos lt z lk))
    (λ i p. ⊎_elim (λ q. let G : List ℕ → Type 0 = In i in inl (subst G (sym e) q)) (λ q. let G : ℕ → Type 0 = Loose iss in inr (subst G (sym q) loose)) (in_push i n (x ∷ is) p))
    (omega (arith, ap length e, length-append is (n ∷ [])))
    (ends_set ts iss k (x ∷ (is ++ n ∷ [])) r.ends kt li n (sym (last_append (x ∷ is) n [])))

-- the first free place n comes to the end of chain k: after the last place t, or first if that is 0
pub pushed : (nx nx' hs hs' ts : List ℕ) (fs : List ℕ) (jss : List (List ℕ)) (n k : ℕ) → Layout nx (n ∷ hs) ts ((n ∷ fs) ∷ jss) 0 → k < length hs → k < length ts →
    (get_or ts k 0 ≡ 0 → (nx' ≡ set nx n 0) × (hs' ≡ set hs k n)) → (0 < get_or ts k 0 → (nx' ≡ set (set nx n 0) (get_or ts k 0) n) × (hs' ≡ hs)) →
    Layout nx' (get_or nx n 0 ∷ hs') (set ts k n) (fs ∷ set jss k (get_or jss k [] ++ n ∷ [])) 0
pushed nx nx' hs hs' ts fs jss n k r kh kt at_first at-later = ⊎_elim
    (λ z. let e = at_first z in
    let none : get_or jss k [] ≡ [] = last_none nx (get_or hs k 0) (get_or jss k []) (r.linked (suc k)) (r.ends k ∙ z) in
    let P : List ℕ → Type 0 = λ v. Layout (set nx n 0) (get_or nx n 0 ∷ set hs k n) (set ts k n) (fs ∷ set jss k (v ++ n ∷ [])) 0 in
    rw (e.0, e.1) (subst P (sym none) (first (set nx n 0) (get_or nx n 0 ∷ hs) ts (fs ∷ jss) 0 n k loose w pos ln zero_next kt kh2 none)))
    (λ ne. let tp : 0 < get_or ts k 0 = omega arith in
    let e = at-later tp in
    rw (e.0, e.1) (later (set nx n 0) (get_or nx n 0 ∷ hs) ts (fs ∷ jss) 0 n k (get_or ts k 0) (get_or jss k []) loose w pos ln zero_next kt kh2 refl (sym (r.ends k)) tp))
    (cases_eq (get_or ts k 0) 0)
  where
    loose : Loose (fs ∷ jss) n
    loose = (taken nx hs ts fs jss 0 n n r).1

    w : Layout (set nx n 0) (get_or nx n 0 ∷ hs) ts (fs ∷ jss) 1
    w = written nx (get_or nx n 0 ∷ hs) ts (fs ∷ jss) 1 n 0 loose (taken nx hs ts fs jss 0 n n r).0

    pos : 0 < n
    pos = (r.linked 0).1

    ln : n < length (set nx n 0)
    ln = rw length-set (r.linked 0).2

    zero_next : get_or (set nx n 0) n 0 ≡ 0
    zero_next = get_or-set_same nx n 0 0 (r.linked 0).2

    kh2 : suc k < length (get_or nx n 0 ∷ hs)
    kh2 = omega arith

-- ---- one place less in chain k: done stand before it and rest after it

-- hd and tl are the chain's first and last place then
cut_by : (nx nx' hs ts : List ℕ) (iss : List (List ℕ)) (m n k hd tl : ℕ) (done rest : List ℕ) → Layout nx hs ts iss m → get_or iss (suc k) [] ≡ done ++ n ∷ rest → suc k < length iss → k < length ts →
    length nx' ≡ length nx → ((j : ℕ) → j ≢ suc k → Linked nx' (get_or hs j 0) (get_or iss j [])) → Linked nx' hd (done ++ rest) → tl ≡ last0 (done ++ rest) →
    Layout nx' (set hs (suc k) hd) (set ts k tl) (set iss (suc k) (done ++ rest)) (suc m)
cut_by nx nx' hs ts iss m n k hd tl done rest r e li kt en others this et =
    let hl : suc k < length hs = omega (arith, r.count) in
    let P : ℕ → Type 0 = λ v. Linked nx' v (done ++ rest) in
    replaced nx hs ts iss m r nx' (set hs (suc k) hd) (set ts k tl) (suc m) (suc k) (done ++ rest) li en (length-set hs (suc k) hd)
    (λ j (ne : j ≢ suc k). rw get_or-set_other (others j ne)) (subst P (sym (get_or-set_same hs (suc k) hd 0 hl)) this)
    (λ i p. let Q : List ℕ → Type 0 = In i in inl (subst Q (sym e) (in_more i n done rest p)))
    (omega (arith, ap length e, length-append done rest, length-append done (n ∷ rest)))
    (ends_set ts iss k (done ++ rest) r.ends kt li tl et)

cut_last : (nx : List ℕ) (h n prev tl t : ℕ) (done rest : List ℕ) → Linked nx h (done ++ n ∷ rest) → last0 (done ++ n ∷ rest) ≡ t → prev ≡ last0 done →
    (get_or nx n 0 ≡ 0 → tl ≡ prev) → (0 < get_or nx n 0 → tl ≡ t) → tl ≡ last0 (done ++ rest)
cut_last nx h n prev tl t done [] l e ep tz tn = tz (linked_rest nx h done (n ∷ []) l).3 ∙ ep ∙ sym (ap last0 (append-nil done))
cut_last nx h n prev tl t done (y ∷ ys) l e ep tz tn =
    let lk = (linked_rest nx h done (n ∷ (y ∷ ys)) l).3 in
    tn (omega (arith, lk.0, lk.1)) ∙ sym e ∙ last_append done n (y ∷ ys) ∙ sym (last_append done y ys)

pub cut : (nx nx' hs ts : List ℕ) (iss : List (List ℕ)) (m n k prev hd tl : ℕ) (done rest : List ℕ) → Layout nx hs ts iss m → get_or iss (suc k) [] ≡ done ++ n ∷ rest → prev ≡ last0 done →
    suc k < length iss → k < length ts →
    (prev ≡ 0 → (nx' ≡ nx) × (hd ≡ get_or nx n 0)) → (0 < prev → (nx' ≡ set nx prev (get_or nx n 0)) × (hd ≡ get_or hs (suc k) 0)) →
    (get_or nx n 0 ≡ 0 → tl ≡ prev) → (0 < get_or nx n 0 → tl ≡ get_or ts k 0) →
    Layout nx' (set hs (suc k) hd) (set ts k tl) (set iss (suc k) (done ++ rest)) (suc m)
cut nx nx' hs ts iss m n k prev hd tl [] rest r e ep li kt at_first at-later tz tn =
    let f = at_first ep in
    let P : List ℕ → Type 0 = λ v. Linked nx (get_or hs (suc k) 0) v in
    let lk : Linked nx (get_or hs (suc k) 0) (n ∷ rest) = subst P e (r.linked (suc k)) in
    cut_by nx nx' hs ts iss m n k hd tl [] rest r e li kt (ap length f.0)
    (λ j ne. rw f.0 (r.linked j)) (rw (f.0, f.1) lk.3)
    (cut_last nx (get_or hs (suc k) 0) n prev tl (get_or ts k 0) [] rest lk (ap last0 (sym e) ∙ r.ends k) ep tz tn)
cut nx nx' hs ts iss m n k prev hd tl (d ∷ ds) rest r e ep li kt at_first at-later tz tn =
    let P : List ℕ → Type 0 = λ v. Linked nx (get_or hs (suc k) 0) v in
    let lk : Linked nx (get_or hs (suc k) 0) (d ∷ (ds ++ n ∷ rest)) = subst P e (r.linked (suc k)) in
    let Q : ℕ → Type 0 = λ v. In v (d ∷ (ds ++ n ∷ rest)) in
    let pin : In prev (d ∷ (ds ++ n ∷ rest)) = subst Q (sym ep) (in_left (last0 (d ∷ ds)) (d ∷ ds) (n ∷ rest) (last_in d ds)) in
    let pos : 0 < prev = ⊎_elim (λ (z : prev ≡ 0). absurd (zero_out nx (get_or hs (suc k) 0) (d ∷ (ds ++ n ∷ rest)) lk (subst Q z pin))) (λ ne. omega arith) (cases_eq prev 0) in
    let S : List ℕ → Type 0 = λ v. In prev v in
    let g = at-later pos in
    let R : ℕ → Type 0 = λ v. Linked (set nx v (get_or nx n 0)) (get_or hs (suc k) 0) (d ∷ (ds ++ rest)) in
    let T : List ℕ → Type 0 = λ v. Linked v (get_or hs (suc k) 0) (d ∷ (ds ++ rest)) in
    let U : ℕ → Type 0 = λ v. Linked nx' v (d ∷ (ds ++ rest)) in
    cut_by nx nx' hs ts iss m n k hd tl (d ∷ ds) rest r e li kt (ap length g.0 ∙ length-set nx prev (get_or nx n 0))
    (λ j ne. rw g.0 (linked_frame nx (get_or hs j 0) prev (get_or nx n 0) (get_or iss j []) (λ p. ne (r.apart j (suc k) prev p (subst S (sym e) pin))) (r.linked j)))
    (subst U (sym g.1) (subst T (sym g.0) (subst R (sym ep) (linked_cut nx (get_or hs (suc k) 0) d n ds rest lk))))
    (cut_last nx (get_or hs (suc k) 0) n prev tl (get_or ts k 0) (d ∷ ds) rest lk (ap last0 (sym e) ∙ r.ends k) ep tz tn)

-- the place is in no chain then
pub cut_loose : (nx hs ts : List ℕ) (iss : List (List ℕ)) (m n k : ℕ) (done rest : List ℕ) → Layout nx hs ts iss m → get_or iss (suc k) [] ≡ done ++ n ∷ rest → suc k < length iss →
    Loose (set iss (suc k) (done ++ rest)) n
cut_loose nx hs ts iss m n k done rest r e li j p = ⊎_elim
    (λ (q : j ≡ suc k). let R : ℕ → Type 0 = λ v. In n (get_or (set iss (suc k) (done ++ rest)) v []) in
    let p0 : In n (get_or (set iss (suc k) (done ++ rest)) (suc k) []) = subst R q p in
    let p1 : In n (done ++ rest) = rw (get_or-set_same iss (suc k) (done ++ rest) [] li) at p0 in
    let P : List ℕ → Type 0 = λ v. Linked nx (get_or hs (suc k) 0) v in
    once_mid nx (get_or hs (suc k) 0) n done rest (subst P e (r.linked (suc k))) p1)
    (λ (ne : j ≢ suc k). let p0 : In n (get_or iss j []) = rw get_or-set_other at p in
    let Q : List ℕ → Type 0 = In n in
    ne (r.apart j (suc k) n p0 (subst Q (sym e) (in_mid n done rest)))) (cases_eq j (suc k))
