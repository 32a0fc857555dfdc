-- The struct after one change of chain k: an item more at its end, an item less, an item in the place of another.
use Rattle.std.proofs.Common.{◌≡◌, ℕ, suc, ◌+◌, ◌-◌, ◌<◌, ◌≤◌, ◌≢◌, List, [], ◌∷◌, ◌++◌, map, length, get_or, set, sym, refl, ap, ◌∙◌, subst, ⊎_elim, arith}
use Rattle.std.proofs.lemmas.List.{length-map, length-set, get_or-map, map-set, get_or-set_same, get_or-set_other, set-get_or, ext_get_or}
use Rattle.std.proofs.lemmas.Bool.{cases_eq}
use Rattle.chains.specs.declared.slots.Slot.{Slot}
use Rattle.chains.specs.declared.table.Chains.{Chains}
use Rattle.chains.specs.declared.table.Ends.{Ends}
use Rattle.chains.specs.Slots.{nexts, items}
use Rattle.chains.specs.Chain.{places_from, pick, In, Linked}
use Rattle.chains.specs.Sound.{Layout, Parts, parts_of, Sound, walks, listed}
use Rattle.chains.specs.Lists.{parts, appended}
use Rattle.chains.specs.Steps.{Walked, ahead, after, Unlinked}
use Rattle.chains.proofs.Link.{in_left, in_right, in_mid, once_mid, linked_first, linked_rest, places_le, walk_is, onward}
use Rattle.chains.proofs.Pick.{at_set_same, pick_none, pick_append, pick_mid, pick_frame}
use Rattle.chains.proofs.Layouts.{Loose, taken, given_up, pushed, cut, cut_loose}
use Rattle.chains.proofs.Kept.{sound}
use Rattle.chains.proofs.Whole.{rebuilt, places_at, chains_count, chained, free_onward, head_at, tail_at}

same_length : {X : Type 0} (s : Parts X) (n : ℕ) → n < length (nexts s.slots) → n < length (items s.slots)
same_length s n lt = omega (arith, lt, length-map s.slots (λ t. t.next), length-map s.slots (λ t. t.item))

-- ---- an item more

map_frame : {X : Type 0} (its : List X) (n : ℕ) (x : X) (jss : List (List ℕ)) → Loose jss n → map (pick (set its n x)) jss ≡ map (pick its) jss
map_frame its n x [] loose = refl
map_frame its n x (js ∷ jss) loose =
    let e = pick_frame its n x js (loose 0) in
    let r = map_frame its n x jss (λ k. loose (suc k)) in
    cc

map_pushed : {X : Type 0} (its : List X) (n k : ℕ) (x : X) (jss : List (List ℕ)) → Loose jss n → n < length its → k < length jss →
    map (pick (set its n x)) (set jss k (get_or jss k [] ++ n ∷ [])) ≡ appended (map (pick its) jss) k x
map_pushed its n k x jss loose lt kl =
    let is = get_or jss k [] in
    let a = map-set (pick (set its n x)) jss k (is ++ n ∷ []) in
    let b = map_frame its n x jss loose in
    let d = pick_mid (set its n x) is n x [] (at_set_same its n x lt) in
    let e = pick_none (set its n x) in
    let f = pick_frame its n x is (loose k) in
    let h = get_or-map (pick its) jss k [] [] kl in
    cc

pub record Pushed {X : Type 0} (N : ℕ) (s s' : Parts X) (k : ℕ) (x : X) : Type 0 where
  pub sound : Sound N s'
  pub holds : listed s' ≡ appended (listed s) k x

push : {X : Type 0} {N : ℕ} (s s' : Parts X) (k : ℕ) (x : X) → Sound N s → 0 < s.free → k < N →
    (get_or s.tails k 0 ≡ 0 → (nexts s'.slots ≡ set (nexts s.slots) s.free 0) × (s'.heads ≡ set s.heads k s.free)) →
    (0 < get_or s.tails k 0 → (nexts s'.slots ≡ set (set (nexts s.slots) s.free 0) (get_or s.tails k 0) s.free) × (s'.heads ≡ s.heads)) →
    items s'.slots ≡ set (items s.slots) s.free x →
    s'.free ≡ get_or (nexts s.slots) s.free 0 → s'.tails ≡ set s.tails k s.free → s'.room ≡ s.room - 1 → Pushed N s s' k x
unfolding listed
push {X} {N} s s' k x r pos kN at_first at-later ei ef et er =
    let nx = nexts s.slots in
    let n = s.free in
    let jss = walks nx s.heads in
    let fs = places_from nx (get_or nx n 0) in
    let o = free_onward s r pos in
    let P : List ℕ → Type 0 = λ v. Layout nx (n ∷ s.heads) s.tails (v ∷ jss) 0 in
    let l : Layout nx (n ∷ s.heads) s.tails ((n ∷ fs) ∷ jss) 0 = subst P o.places r.layout in
    let kh : k < length s.heads = omega (arith, r.heads) in
    let kt : k < length s.tails = omega (arith, r.tails) in
    let p = pushed nx (nexts s'.slots) s.heads s'.heads s.tails fs jss n k l kh kt at_first at-later in
    let p2 : Layout (nexts s'.slots) (s'.free ∷ s'.heads) s'.tails (fs ∷ set jss k (get_or jss k [] ++ n ∷ [])) 0 = rw (ef, et) p in
    let hl : length s'.heads ≡ N = heads_as_long (at_first, at-later) in
    let b = rebuilt s' fs (set jss k (get_or jss k [] ++ n ∷ [])) hl (ap length et ∙ length-set s.tails k n ∙ r.tails) p2
    (omega (arith, er, r.counted, ap length o.places)) in
    record {
      sound = b.sound;
      holds = b.holds ∙ ap (λ v. map (pick v) (set jss k (get_or jss k [] ++ n ∷ []))) ei
          ∙ map_pushed (items s.slots) n k x jss (λ j. (taken nx s.heads s.tails fs jss 0 n n l).1 (suc j)) (same_length s n o.lt) (omega (arith, chains_count s r));
    }
  where
    heads_as_long : (get_or s.tails k 0 ≡ 0 → (nexts s'.slots ≡ set (nexts s.slots) s.free 0) × (s'.heads ≡ set s.heads k s.free))
        × (0 < get_or s.tails k 0 → (nexts s'.slots ≡ set (set (nexts s.slots) s.free 0) (get_or s.tails k 0) s.free) × (s'.heads ≡ s.heads)) → length s'.heads ≡ N
    heads_as_long e = ⊎_elim (λ z. ap length (e.0 z).1 ∙ length-set s.heads k s.free ∙ r.heads)
        (λ ne. ap length (e.1 (omega arith)).1 ∙ r.heads) (cases_eq (get_or s.tails k 0) 0)

-- the struct s, after what `push_back` writes: e are the new ends of chain k, and nx₁ the next indexes before the last place leads on
pub pushes : {X : Type 0} {N : ℕ} (s : Chains X N) (slots : List (Slot X)) (nx₁ : List ℕ) (d e : Ends) (k next : ℕ) (x : X) → 0 < s.free → k < N → next ≡ after (parts s) s.free →
    nx₁ ≡ set (nexts s.table.now) s.free 0 → ((get_or s.ends k d).tail ≡ 0 → nexts slots ≡ nx₁) → (0 < (get_or s.ends k d).tail → nexts slots ≡ set nx₁ (get_or s.ends k d).tail s.free) →
    items slots ≡ set (items s.table.now) s.free x →
    ((get_or s.ends k d).tail ≡ 0 → e.head ≡ s.free) → (0 < (get_or s.ends k d).tail → e.head ≡ (get_or s.ends k d).head) → e.tail ≡ s.free →
    Pushed N (parts s) (parts_of slots (set s.ends k e) next (s.room - 1)) k x
pushes s slots nx₁ d e k next x pos kN en e1 at_first at-later ei hd-first hd-later et =
    let t = tail_at s k d kN in
    let hs = (parts s).heads in
    let heads = map-set (λ e. e.head) s.ends k e in
    push (parts s) _ k x (sound s) pos kN
    (λ z. (at_first (t ∙ z) ∙ e1, heads ∙ ap (set hs k) (hd-first (t ∙ z))))
    (λ (h : 0 < get_or (parts s).tails k 0).
    let h' : 0 < (get_or s.ends k d).tail = omega arith in (
      at-later h' ∙ ap (λ v. set v (get_or s.ends k d).tail s.free) e1 ∙ ap (λ v. set (set (nexts s.table.now) s.free 0) v s.free) t,
      heads ∙ ap (set hs k) (hd-later h' ∙ head_at s k d kN) ∙ set-get_or hs k 0,
    ))
    ei en (map-set (λ e. e.tail) s.ends k e ∙ ap (set (parts s).tails k) et) refl

-- ---- an item less

pub record Taken {X : Type 0} (N : ℕ) (s s' : Parts X) (k prev n : ℕ) (xs : List X) : Type 0 where
  pub sound : Sound N s'
  pub unlinked : Unlinked s s' k prev n xs

-- nx₁ are the next indexes before the place n is put on the free chain
unlink : {X : Type 0} {N : ℕ} (s s' : Parts X) (k prev n hd tl : ℕ) (xs : List X) (nx₁ : List ℕ) → Sound N s → Walked s k prev n xs → 0 < n → k < N →
    (prev ≡ 0 → (nx₁ ≡ nexts s.slots) × (hd ≡ after s n)) → (0 < prev → (nx₁ ≡ set (nexts s.slots) prev (after s n)) × (hd ≡ get_or s.heads k 0)) →
    (after s n ≡ 0 → tl ≡ prev) → (0 < after s n → tl ≡ get_or s.tails k 0) →
    nexts s'.slots ≡ set nx₁ n s.free → items s'.slots ≡ items s.slots →
    s'.free ≡ n → s'.heads ≡ set s.heads k hd → s'.tails ≡ set s.tails k tl → s'.room ≡ s.room + 1 → Taken N s s' k prev n xs
unfolding listed
unlink {X} {N} s s' k prev n hd tl xs nx₁ r w pos kN at_first at-later tz tn enx ei ef eh et er =
    let nx = nexts s.slots in
    let nx' = nexts s'.slots in
    let its = items s.slots in
    let jss = walks nx s.heads in
    let next = after s n in
    let rest = places_from nx next in
    let o = onward nx n w.ahead pos in
    let kl : k < length jss = omega (arith, chains_count s r) in
    let e : get_or jss k [] ≡ w.done ++ n ∷ rest = places_at s k r kN ∙ w.split ∙ ap (λ v. w.done ++ v) o.places in
    let fs = places_from nx s.free in
    let li : suc k < length (fs ∷ jss) = omega arith in
    let kt : k < length s.tails = omega (arith, r.tails) in
    let l = cut nx nx₁ (s.free ∷ s.heads) s.tails (fs ∷ jss) 0 n k prev hd tl w.done rest r.layout e w.before li kt at_first at-later tz tn in
    let loose = cut_loose nx (s.free ∷ s.heads) s.tails (fs ∷ jss) 0 n k w.done rest r.layout e li in
    let n1 : n < length nx₁ = omega (arith, o.lt, r.layout.cover, l.cover, nx_as_long) in
    let u = given_up nx₁ (set s.heads k hd) (set s.tails k tl) fs (set jss k (w.done ++ rest)) 0 n s.free loose l pos n1 in
    let u2 : Layout nx' (s'.free ∷ s'.heads) s'.tails ((n ∷ fs) ∷ set jss k (w.done ++ rest)) 0 = rw (enx, ef, eh, et) u in
    let b = rebuilt s' (n ∷ fs) (set jss k (w.done ++ rest)) (ap length eh ∙ length-set s.heads k hd ∙ r.heads) (ap length et ∙ length-set s.tails k tl ∙ r.tails) u2
    (omega (arith, er, r.counted)) in
    let at_k : places_from nx' (get_or s'.heads k 0) ≡ w.done ++ rest =
    sym (places_at s' k b.sound kN) ∙ ap (λ v. get_or v k []) b.chains ∙ get_or-set_same jss k (w.done ++ rest) [] kl in
    let P : List ℕ → Type 0 = λ v. Linked nx' (get_or s'.heads k 0) v in
    let Q : ℕ → Type 0 = λ v. Linked nx' v rest in
    let lk : Linked nx' next rest = subst Q (sym (linked_first nx next rest o.chained)) (linked_rest nx' (get_or s'.heads k 0) w.done rest (subst P at_k (chained s' k b.sound kN))) in
    let le : length rest ≤ length nx' = omega (arith, places_le nx next, ap length enx, length-set nx₁ n s.free, nx_as_long) in
    let same : places_from nx' next ≡ rest = walk_is (length nx') nx' next rest le lk in
    let R : List ℕ → Type 0 = λ v. Linked nx' next v in
    record {
      sound = b.sound;
      unlinked = record {
        holds = b.holds ∙ ap (λ v. map (pick v) (set jss k (w.done ++ rest))) ei ∙ map-set (pick its) jss k (w.done ++ rest)
            ∙ ap (λ v. set (map (pick its) jss) k v) (pick_append its w.done rest ∙ ap (λ v. v ++ pick its rest) w.holds);
        walked = record { done = w.done; split = at_k ∙ ap (λ v. w.done ++ v) (sym same); before = w.before; holds = ap (λ v. pick v w.done) ei ∙ w.holds; ahead = subst R (sym same) lk };
        same = ap (λ v. pick v (places_from nx' next)) ei ∙ ap (pick its) same;
      };
    }
  where
    nx_as_long : length nx₁ ≡ length (nexts s.slots)
    nx_as_long = ⊎_elim (λ z. ap length (at_first z).0) (λ ne. ap length (at-later (omega arith)).0 ∙ length-set (nexts s.slots) prev (after s n)) (cases_eq prev 0)

-- the struct s, after what `unlink` writes: e are the new ends of chain k, and nx₁ the next indexes before the place n is put on the free chain
pub unlinks : {X : Type 0} {N : ℕ} (s : Chains X N) (slots : List (Slot X)) (nx₁ : List ℕ) (d e : Ends) (k prev n next : ℕ) (xs : List X) → Walked (parts s) k prev n xs → 0 < n → k < N → next ≡ after (parts s) n →
    (prev ≡ 0 → nx₁ ≡ nexts s.table.now) → (0 < prev → nx₁ ≡ set (nexts s.table.now) prev next) → nexts slots ≡ set nx₁ n s.free → items slots ≡ items s.table.now →
    (prev ≡ 0 → e.head ≡ next) → (0 < prev → e.head ≡ (get_or s.ends k d).head) → (next ≡ 0 → e.tail ≡ prev) → (0 < next → e.tail ≡ (get_or s.ends k d).tail) →
    Taken N (parts s) (parts_of slots (set s.ends k e) n (s.room + 1)) k prev n xs
unlinks s slots nx₁ d e k prev n next xs w pos kN en at_first at-later enx ei hz hn tz tn =
    unlink (parts s) _ k prev n e.head e.tail xs nx₁ (sound s) w pos kN
    (λ z. (at_first z, hz z ∙ en)) (λ h. (at-later h ∙ ap (set (nexts s.table.now) prev) en, hn h ∙ head_at s k d kN))
    (λ z. tz (en ∙ z)) (λ h. tn (omega (arith, h, en)) ∙ tail_at s k d kN)
    enx ei refl (map-set (λ e. e.head) s.ends k e) (map-set (λ e. e.tail) s.ends k e) refl

-- ---- an item in the place of another

map_put : {X : Type 0} (its : List X) (n k : ℕ) (x : X) (done rest : List ℕ) (jss : List (List ℕ)) → get_or jss k [] ≡ done ++ n ∷ rest → n < length its → k < length jss →
    ((j : ℕ) → j ≢ k → In n (get_or jss j []) → ⊥) → (In n done → ⊥) → (In n rest → ⊥) →
    map (pick (set its n x)) jss ≡ set (map (pick its) jss) k (pick its done ++ x ∷ pick its rest)
map_put {X} its n k x done rest jss e lt kl others before behind =
    ext_get_or [] (map f' jss) (set (map f jss) k v) (length-map jss f' ∙ sym (length-set (map f jss) k v ∙ length-map jss f))
    (λ j h. let hj : j < length jss = rw (length-map jss f') at h in
    get_or-map f' jss j [] [] hj ∙ ⊎_elim (λ (q : j ≡ k). let P : ℕ → Type 0 = λ u. f' (get_or jss u []) ≡ get_or (set (map f jss) k v) u [] in subst P (sym q) here)
    (λ (ne : j ≢ k). pick_frame its n x (get_or jss j []) (others j ne) ∙ sym (get_or-set_other (map f jss) k j v [] ne ∙ get_or-map f jss j [] [] hj)) (cases_eq j k))
  where
    f : List ℕ → List X
    f = pick its

    f' : List ℕ → List X
    f' = pick (set its n x)

    v : List X
    v = pick its done ++ x ∷ pick its rest

    km : k < length (map (pick its) jss)
    km = rw (length-map jss (pick its)) kl

    here : pick (set its n x) (get_or jss k []) ≡ get_or (set (map (pick its) jss) k (pick its done ++ x ∷ pick its rest)) k []
    here = ap f' e ∙ pick_mid (set its n x) done n x rest (at_set_same its n x lt)
        ∙ ap (λ u. u ++ x ∷ f' rest) (pick_frame its n x done before) ∙ ap (λ u. f done ++ x ∷ u) (pick_frame its n x rest behind)
        ∙ sym (get_or-set_same (map f jss) k v [] km)

pub record Put {X : Type 0} (N : ℕ) (s s' : Parts X) (k n : ℕ) (x : X) (xs : List X) : Type 0 where
  pub sound : Sound N s'
  pub holds : listed s' ≡ set (listed s) k (xs ++ x ∷ ahead s (after s n))

pub put : {X : Type 0} {N : ℕ} (s s' : Parts X) (k prev n : ℕ) (x : X) (xs : List X) → Sound N s → Walked s k prev n xs → 0 < n → k < N →
    nexts s'.slots ≡ nexts s.slots → items s'.slots ≡ set (items s.slots) n x →
    s'.free ≡ s.free → s'.heads ≡ s.heads → s'.tails ≡ s.tails → s'.room ≡ s.room → Put N s s' k n x xs
unfolding listed
put {X} {N} s s' k prev n x xs r w pos kN en ei ef eh et er =
    let nx = nexts s.slots in
    let its = items s.slots in
    let jss = walks nx s.heads in
    let fs = places_from nx s.free in
    let rest = places_from nx (after s n) in
    let o = onward nx n w.ahead pos in
    let e : get_or jss k [] ≡ w.done ++ n ∷ rest = places_at s k r kN ∙ w.split ∙ ap (λ v. w.done ++ v) o.places in
    let P : List ℕ → Type 0 = Linked nx (get_or s.heads k 0) in
    let Q : List ℕ → Type 0 = In n in
    let lk : Linked nx (get_or s.heads k 0) (w.done ++ n ∷ rest) = subst P e (r.layout.linked (suc k)) in
    let l : Layout (nexts s'.slots) (s'.free ∷ s'.heads) s'.tails (fs ∷ jss) 0 = rw (en, ef, eh, et) r.layout in
    let b = rebuilt s' fs jss (ap length eh ∙ r.heads) (ap length et ∙ r.tails) l (er ∙ r.counted) in
    record {
      sound = b.sound;
      holds = b.holds ∙ ap (λ v. map (pick v) jss) ei
          ∙ map_put its n k x w.done rest jss e (same_length s n o.lt) (omega (arith, chains_count s r))
          (λ j ne p. ne (suc_same j k (r.layout.apart (suc j) (suc k) n p (subst Q (sym e) (in_mid n w.done rest)))))
          (λ p. once_mid nx (get_or s.heads k 0) n w.done rest lk (in_left n w.done rest p))
          (λ p. once_mid nx (get_or s.heads k 0) n w.done rest lk (in_right n w.done rest p))
          ∙ ap (λ v. set (map (pick its) jss) k (v ++ x ∷ pick its rest)) w.holds;
    }
  where
    suc_same : (a b : ℕ) → suc a ≡ suc b → a ≡ b
    suc_same a b e = omega arith
