-- What is known of the lowest series that crosses, and of its pair.
use Rattle.std.proofs.Common.{◌≡◌, ℕ, zero, suc, ◌+◌, ◌<◌, ◌≤◌, Bool, true, false, cond, ◌||◌, eqb, ltb, leb, ◌⊎◌, List, [], ◌∷◌, length, get_or, drop, Some, None, fold, filter, Option, sym, refl, ap, ◌∙◌, subst, inl, inr, ⊎_elim, arith, le-leb}
use Rattle.std.specs.Option.{option_map}
use Rattle.std.specs.Cmp.{IsStrictWeakOrder}
use Rattle.std.specs.List.{best_of}
use Rattle.std.proofs.lemmas.List.MinMax.{IsStrictWeakOrder-by_number, IsStrictWeakOrder-flip, IsFirstBest-from_best_of}
use Rattle.std.proofs.lemmas.List.{get_or_default}
use Rattle.std.proofs.lemmas.Bool.{cases_Bool, cond-true, cond-false, cond_both, and_parts, and_from, or_left, or_right, or_from, eqb-true, eq-eqb, ltb-false, leb-true}
use Rattle.chains.specs.Asks.{oldest, preferred, best, Leads}
use Rattle.terms.specs.Tables.{any_of}
use Rattle.market.specs.Book.{Entry, Book, is_for, count, counts, total}
use Rattle.market.specs.Market.{cross}
use Rattle.tables.specs.Cross.{on_side, at_price, dearer, cheaper, best_buy, best_sell, Pair, paired, pair_in, Crossing, or_else, crossing_from, lowest, before, older, names, same, Stands, Meet}
use Rattle.tables.specs.Kept.{Apart}
use Rattle.tables.proofs.Books.{counts_narrower}
use Rattle.tables.proofs.Pairs.{is_for_self, any_at, stands_any}

-- ---- being in a list

Has : {X : Type 0} → X → List X → Type 0
Has x [] = ⊥
Has x (y ∷ ys) = (x ≡ y) ⊎ Has x ys

has_kept : {X : Type 0} (p : X → Bool) (x : X) (ys : List X) → Has x ys → p x ≡ true → Has x (filter p ys)
unfolding Has
has_kept p x [] h t = h
has_kept {X} p x (y ∷ ys) (inl e) t = let P : List X → Type 0 = Has x in subst P (sym (cond-true (p y) _ _ (ap p (sym e) ∙ t))) (inl e)
has_kept {X} p x (y ∷ ys) (inr h) t =
    let P : List X → Type 0 = Has x in
    let r = has_kept p x ys h t in
    ⊎_elim (λ yes. subst P (sym (cond-true (p y) _ _ yes)) (inr r)) (λ n. subst P (sym (cond-false (p y) _ _ n)) r) (cases_Bool (p y))

kept_has : {X : Type 0} (p : X → Bool) (x : X) (ys : List X) → Has x (filter p ys) → Has x ys × (p x ≡ true)
unfolding Has
kept_has p x [] h = absurd h
kept_has {X} p x (y ∷ ys) h =
    let P : List X → Type 0 = Has x in
    ⊎_elim
    (λ yes. ⊎_elim (λ e. (inl e, ap p e ∙ yes)) (λ r. let k = kept_has p x ys r in (inr k.0, k.1)) (subst P (cond-true (p y) _ _ yes) h))
    (λ n. let k = kept_has p x ys (subst P (cond-false (p y) _ _ n) h) in (inr k.0, k.1))
    (cases_Bool (p y))

none_any : {X : Type 0} (q : X → Bool) (xs : List X) → ((x : X) → Has x xs → q x ≡ false) → any_of q xs ≡ false
unfolding Has
none_any q [] h = refl
none_any q (x ∷ xs) h = or_from (q x) (any_of q xs) (h x (inl refl)) (none_any q xs (λ y r. h y (inr r)))

has_any : {X : Type 0} (q : X → Bool) (x : X) (xs : List X) → Has x xs → q x ≡ true → any_of q xs ≡ true
unfolding Has
has_any q x [] h t = absurd h
has_any q x (y ∷ ys) (inl e) t = or_left (q y) (any_of q ys) (ap q (sym e) ∙ t)
has_any q x (y ∷ ys) (inr h) t = or_right (q y) (any_of q ys) (has_any q x ys h t)

-- ---- the best

folded_best : {X : Type 0} (b : X → X → Bool) (x : X) (xs : List X) → fold (preferred b) (Some x) xs ≡ Some (best_of b x xs)
folded_best b x [] = refl
folded_best b x (y ∷ xs) = folded_best b (cond (b y x) y x) xs

pub leads : {X : Type 0} (b : X → X → Bool) → IsStrictWeakOrder b → (xs : List X) (r : Option X) → best b xs ≡ r → Leads b xs r
leads {X} b o [] r e = let P : Option X → Type 0 = Leads b [] in subst P e refl
leads {X} b o (x ∷ xs) r e =
    let P : Option X → Type 0 = Leads b (x ∷ xs) in
    let f = IsFirstBest-from_best_of o x xs in
    let place : get_or (x ∷ xs) f.0 (best_of b x xs) ≡ best_of b x xs = get_or_default (x ∷ xs) f.0 (best_of b x xs) x f.1.0 ∙ f.2 in
    subst P (sym (folded_best b x xs) ∙ e) (f.0, f.1, place)

has_at : {X : Type 0} (xs : List X) (i : ℕ) (d : X) → i < length xs → Has (get_or xs i d) xs
unfolding Has
has_at [] i d h = absurd (omega arith)
has_at (x ∷ xs) zero d h = inl refl
has_at (x ∷ xs) (suc i) d h = inr (has_at xs i d (omega arith))

at_has : {X : Type 0} (x : X) (xs : List X) → Has x xs → (i : ℕ) × (i < length xs) × ((d : X) → get_or xs i d ≡ x)
unfolding Has
at_has x [] h = absurd h
at_has x (y ∷ ys) (inl e) = (0, omega arith, λ d. sym e)
at_has x (y ∷ ys) (inr h) = let r = at_has x ys h in (suc r.0, omega (arith, r.1), r.2)

led_has : {X : Type 0} (b : X → X → Bool) (xs : List X) (y : X) → Leads b xs (Some y) → Has y xs
led_has {X} b xs y l = let P : X → Type 0 = λ v. Has v xs in subst P l.2 (has_at xs l.0 y l.1.0)

led_top : {X : Type 0} (b : X → X → Bool) (xs : List X) (y x : X) → Leads b xs (Some y) → Has x xs → b x y ≡ false
led_top b xs y x l h =
    let r = at_has x xs h in
    ap (λ v. b v y) (sym (r.2 y)) ∙ ap (λ v. b (get_or xs r.0 y) v) (sym l.2) ∙ l.1.1 r.0 y r.1

led_some : {X : Type 0} (b : X → X → Bool) (xs : List X) (x : X) → Has x xs → Leads b xs None → ⊥
unfolding Has
led_some b [] x h e = h
led_some b (y ∷ ys) x h e = omega (arith, ap length e)

pub dearer_ranks : IsStrictWeakOrder dearer
dearer_ranks = IsStrictWeakOrder-flip (λ a b. ltb a.price b.price) (IsStrictWeakOrder-by_number (λ (e : Entry). e.price))

pub cheaper_ranks : IsStrictWeakOrder cheaper
cheaper_ranks = IsStrictWeakOrder-by_number (λ (e : Entry). e.price)

pub buy_leads : (es : List Entry) (r : Option Entry) → best_buy es ≡ r → Leads dearer (filter (on_side 1) es) r
unfolding best_buy
buy_leads es r e = leads dearer dearer_ranks (filter (on_side 1) es) r e

pub sell_leads : (es : List Entry) (r : Option Entry) → best_sell es ≡ r → Leads cheaper (filter (on_side 2) es) r
unfolding best_sell
sell_leads es r e = leads cheaper cheaper_ranks (filter (on_side 2) es) r e

-- ---- a pair

pub record Paired (es : List Entry) (p : Pair) : Type 0 where
  pub buy : best_buy es ≡ Some p.buy
  pub sell : best_sell es ≡ Some p.sell
  pub over : p.sell.price ≤ p.buy.price

parts : (es : List Entry) (p : Pair) (b s : Option Entry) → best_buy es ≡ b → best_sell es ≡ s → paired b s ≡ Some p → Paired es p
parts es p None s eb es' e = let z : ◌≡◌ {A = ℕ} 0 1 = cc in absurd (omega arith)
parts es p (Some b) None eb es' e = let z : ◌≡◌ {A = ℕ} 0 1 = cc in absurd (omega arith)
parts es p (Some b) (Some s) eb es' e =
    ⊎_elim
    (λ y. let q : Some (record { buy = b; sell = s }) ≡ Some p = sym (cond-true (leb s.price b.price) _ _ y) ∙ e in
    let w : ◌≡◌ {A = Pair} (record { buy = b; sell = s }) p = cc in
    record {
      buy = eb ∙ ap (λ v. Some v.buy) w;
      sell = es' ∙ ap (λ v. Some v.sell) w;
      over = omega (arith, leb-true s.price b.price y, ap (λ v. v.buy.price) w, ap (λ v. v.sell.price) w);
    })
    (λ n. let q : None ≡ Some p = sym (cond-false (leb s.price b.price) _ _ n) ∙ e in let z : ◌≡◌ {A = ℕ} 0 1 = cc in absurd (omega arith))
    (cases_Bool (leb s.price b.price))

pub pair_parts : (es : List Entry) (p : Pair) → pair_in es ≡ Some p → Paired es p
pair_parts es p e = parts es p (best_buy es) (best_sell es) refl refl e

-- a pair crosses
pub pair_crosses : (es : List Entry) (p : Pair) → Paired es p → any_of (λ buy. any_of (λ sell. cross buy sell) es) es ≡ true
pair_crosses es p d =
    let b = kept_has (on_side 1) p.buy es (led_has dearer _ p.buy (buy_leads es _ d.buy)) in
    let s = kept_has (on_side 2) p.sell es (led_has cheaper _ p.sell (sell_leads es _ d.sell)) in
    has_any (λ buy. any_of (λ sell. cross buy sell) es) p.buy es b.0
    (has_any (λ sell. cross p.buy sell) p.sell es s.0 (and_from _ _ b.1 (and_from _ _ s.1 (le-leb _ _ d.over))))

-- where two cross, the best two do
none_crosses : (es : List Entry) (b s : Option Entry) (x y : Entry) → best_buy es ≡ b → best_sell es ≡ s → paired b s ≡ None → Has x es → Has y es → cross x y ≡ true → ⊥
none_crosses es b s x y eb es' e hx hy t =
    let t2 = and_parts (eqb x.side 1) _ t in
    let t3 = and_parts (eqb y.side 2) _ t2.1 in
    against b s eb es' e (has_kept (on_side 1) x es hx t2.0) (has_kept (on_side 2) y es hy t3.0) (leb-true y.price x.price t3.1)
  where
    against : (b s : Option Entry) → best_buy es ≡ b → best_sell es ≡ s → paired b s ≡ None → Has x (filter (on_side 1) es) → Has y (filter (on_side 2) es) → y.price ≤ x.price → ⊥
    against None s eb es' e kx ky le = led_some dearer _ x kx (buy_leads es None eb)
    against (Some b) None eb es' e kx ky le = led_some cheaper _ y ky (sell_leads es None es')
    against (Some b) (Some s) eb es' e kx ky le =
        let hb = ltb-false _ _ (led_top dearer _ b x (buy_leads es (Some b) eb) kx) in
        let hs = ltb-false _ _ (led_top cheaper _ s y (sell_leads es (Some s) es') ky) in
        let q : ◌≡◌ {A = Option Pair} (Some (record { buy = b; sell = s })) None = sym (cond-true (leb s.price b.price) _ _ (le-leb _ _ (omega arith))) ∙ e in
        let z : ◌≡◌ {A = ℕ} 0 1 = cc in omega arith

pub no_pair : (es : List Entry) → pair_in es ≡ None → any_of (λ buy. any_of (λ sell. cross buy sell) es) es ≡ false
no_pair es e =
    none_any (λ buy. any_of (λ sell. cross buy sell) es) es
    (λ x hx. none_any (λ sell. cross x sell) es (λ y hy. ⊎_elim (λ t. absurd (none_crosses es (best_buy es) (best_sell es) x y refl refl e hx hy t)) (λ n. n) (cases_Bool (cross x y))))

-- ---- the lowest series

pub record Lowest (ess : List (List Entry)) (k : ℕ) (x : Crossing) : Type 0 where
  pub place : ℕ
  pub is : x.series ≡ k + place
  pub below : place < length ess
  pub pair : pair_in (get_or ess place []) ≡ Some x.pair
  pub lower : (j : ℕ) → j < place → pair_in (get_or ess j []) ≡ None

found : (k : ℕ) (es : List Entry) (ess : List (List Entry)) (x : Crossing) (o : Option Pair) → pair_in es ≡ o →
    or_else (option_map (λ p. record { series = k; pair = p }) o) (crossing_from (suc k) ess) ≡ Some x → (crossing_from (suc k) ess ≡ Some x → Lowest ess (suc k) x) → Lowest (es ∷ ess) k x
found k es ess x (Some p) e c more =
    let q : Some (record { series = k; pair = p }) ≡ Some x = c in
    let w : ◌≡◌ {A = Crossing} (record { series = k; pair = p }) x = cc in
    record { place = 0; is = omega (arith, ap (λ v. v.series) w); below = omega arith; pair = e ∙ ap (λ v. Some v.pair) w; lower = λ j h. absurd (omega arith) }
found k es ess x None e c more =
    let r = more c in
    record { place = suc r.place; is = omega (arith, r.is); below = omega (arith, r.below); pair = r.pair; lower = below_all r }
  where
    below_all : (r : Lowest ess (suc k) x) (j : ℕ) → j < suc r.place → pair_in (get_or (es ∷ ess) j []) ≡ None
    below_all r zero h = e
    below_all r (suc j) h = r.lower j (omega arith)

pub lowest_is : (k : ℕ) (ess : List (List Entry)) (x : Crossing) → crossing_from k ess ≡ Some x → Lowest ess k x
lowest_is k [] x e = let z : ◌≡◌ {A = ℕ} 0 1 = cc in absurd (omega arith)
lowest_is k (es ∷ ess) x e = found k es ess x (pair_in es) refl e (λ c. lowest_is (suc k) ess x c)

not_found : (k : ℕ) (es : List Entry) (ess : List (List Entry)) (o : Option Pair) → pair_in es ≡ o →
    or_else (option_map (λ p. record { series = k; pair = p }) o) (crossing_from (suc k) ess) ≡ None → (pair_in es ≡ None) × (crossing_from (suc k) ess ≡ None)
not_found k es ess (Some p) e c = let z : ◌≡◌ {A = ℕ} 0 1 = cc in absurd (omega arith)
not_found k es ess None e c = (e, c)

pub nothing_crosses : (k : ℕ) (ess : List (List Entry)) → crossing_from k ess ≡ None → any_of (λ es. any_of (λ buy. any_of (λ sell. cross buy sell) es) es) ess ≡ false
nothing_crosses k [] e = refl
nothing_crosses k (es ∷ ess) e =
    let n = not_found k es ess (pair_in es) refl e in
    or_from _ _ (no_pair es n.0) (nothing_crosses (suc k) ess n.1)

-- what is known of the crossing that was found
pub record At (b : Book) (k : ℕ) (p : Pair) : Type 0 where
  pub below : k < length b.resting
  pub paired : Paired (get_or b.resting k []) p
  pub lower : (j : ℕ) → j < k → pair_in (get_or b.resting j []) ≡ None

pub found_at : (b : Book) (k : ℕ) (p : Pair) → Some (record { series = k; pair = p }) ≡ lowest b.resting → At b k p
found_at b k p e =
    let w = lowest_is 0 b.resting (record { series = k; pair = p }) (sym e) in
    let s : w.place ≡ k = omega (arith, w.is) in
    let P : ℕ → Type 0 = λ v. v < length b.resting in
    let Q : ℕ → Type 0 = λ v. pair_in (get_or b.resting v []) ≡ Some p in
    let R : ℕ → Type 0 = λ v. (j : ℕ) → j < v → pair_in (get_or b.resting j []) ≡ None in
    record { below = subst P s w.below; paired = pair_parts (get_or b.resting k []) p (subst Q s w.pair); lower = subst R s w.lower }

-- the older's price is within both limits
pub older_fair : (es : List Entry) (p : Pair) → p.sell.price ≤ p.buy.price → (p.sell.price ≤ (older es p).price) × ((older es p).price ≤ p.buy.price)
older_fair es p h =
    cond_both (before p.buy p.sell es) p.buy p.sell (λ v. (p.sell.price ≤ v.price) × (v.price ≤ p.buy.price)) (λ _. (h, omega arith)) (λ _. (omega arith, h))

-- ---- the pair stands in its series

one_named : (e : Entry) (es : List Entry) → Has e es → 1 ≤ count (names e) es
unfolding Has
one_named e [] h = absurd h
one_named e (y ∷ ys) (inl q) = omega (arith, cond-true {A = ℕ} (names e y) 1 0 (ap (names e) (sym q) ∙ and_from _ _ (is_for_self e) (eq-eqb e.side e.side refl)))
one_named e (y ∷ ys) (inr h) = omega (arith, one_named e ys h)

has_stands : (e : Entry) (es : List Entry) → Has e es → count (names e) es ≤ 1 → Stands es e
unfolding Has
has_stands e [] h one = absurd h
has_stands e (y ∷ ys) (inl q) one =
    ap oldest (cond-true (names e y) (y ∷ filter (names e) ys) (filter (names e) ys) (ap (names e) (sym q) ∙ and_from _ _ (is_for_self e) (eq-eqb e.side e.side refl))) ∙ ap Some (sym q)
has_stands e (y ∷ ys) (inr h) one =
    ⊎_elim (λ t. absurd (omega (arith, one, one_named e ys h, cond-true {A = ℕ} (names e y) 1 0 t)))
    (λ n. ap oldest (cond-false (names e y) (y ∷ filter (names e) ys) (filter (names e) ys) n) ∙ has_stands e ys h (omega (arith, one))) (cases_Bool (names e y))

pub count_at : (q : Entry → Bool) (ess : List (List Entry)) (k : ℕ) → k < length ess → count q (get_or ess k []) ≤ counts q ess
count_at q [] k h = absurd (omega arith)
count_at q (es ∷ ess) zero h = omega arith
count_at q (es ∷ ess) (suc k) h = omega (arith, count_at q ess k (omega arith))

stands_at : (ess : List (List Entry)) (k : ℕ) (e : Entry) → Apart ess → k < length ess → Has e (get_or ess k []) → Stands (get_or ess k []) e
stands_at ess k e apart h has =
    has_stands e (get_or ess k []) has
    (omega (arith, count_at (names e) ess k h, counts_narrower (names e) (is_for e.login e.number) (λ x y. (and_parts _ _ y).0) ess, apart e.login e.number))

-- ---- an entry that is picked

first_has : {X : Type 0} (x : X) (ys : List X) → oldest ys ≡ Some x → Has x ys
unfolding Has
first_has x [] e = let z : ◌≡◌ {A = ℕ} 0 1 = cc in absurd (omega arith)
first_has x (y ∷ ys) e = let q : x ≡ y = cc in inl q

dropped_has : {X : Type 0} (x : X) (n : ℕ) (ys : List X) → Has x (drop n ys) → Has x ys
unfolding Has
dropped_has x zero ys h = h
dropped_has x (suc n) [] h = h
dropped_has x (suc n) (y ∷ ys) h = inr (dropped_has x n ys h)

-- it stands, and meets the test
pub picked_stands : (p : Entry → Bool) (ess : List (List Entry)) (k n : ℕ) (e : Entry) → Apart ess → k < length ess → oldest (drop n (filter p (get_or ess k []))) ≡ Some e →
    Stands (get_or ess k []) e × (p e ≡ true)
picked_stands p ess k n e apart h o =
    let has = kept_has p e (get_or ess k []) (dropped_has e n _ (first_has e _ o)) in
    (stands_at ess k e apart h has.0, has.1)

alike : (e x : Entry) → same e x ≡ true → e ≡ x
alike e x h =
    let n = and_parts (names e x) _ h in
    let w = and_parts (is_for e.login e.number x) (eqb x.side e.side) n.0 in
    let l = and_parts (eqb x.login e.login) (eqb x.number e.number) w.0 in
    let k = and_parts (eqb x.kind e.kind) _ n.1 in
    let c = and_parts (eqb x.price e.price) (eqb x.contracts e.contracts) k.1 in
    sym (λ i. record {
      login = eqb-true x.login e.login l.0 i;
      number = eqb-true x.number e.number l.1 i;
      side = eqb-true x.side e.side w.1 i;
      kind = eqb-true x.kind e.kind k.0 i;
      price = eqb-true x.price e.price c.0 i;
      contracts = eqb-true x.contracts e.contracts c.1 i;
    })

same_self : (e : Entry) → same e e ≡ true
same_self e =
    and_from _ _ (and_from _ _ (is_for_self e) (eq-eqb e.side e.side refl))
    (and_from _ _ (eq-eqb e.kind e.kind refl) (and_from _ _ (eq-eqb e.price e.price refl) (eq-eqb e.contracts e.contracts refl)))

found_has : (e : Entry) (es : List Entry) → any_of (same e) es ≡ true → Has e es
unfolding Has
found_has e [] h = let z : ◌≡◌ {A = ℕ} 0 1 = cc in absurd (omega arith)
found_has e (x ∷ es) h = ⊎_elim (λ y. inl (alike e x y)) (λ n. inr (found_has e es (sym (ap (λ v. v || any_of (same e) es) n) ∙ h))) (cases_Bool (same e x))

-- an entry stands exactly where one like it is found
pub found_stands : (ess : List (List Entry)) (k : ℕ) (e : Entry) → Apart ess → k < length ess → any_of (same e) (get_or ess k []) ≡ true → Stands (get_or ess k []) e
found_stands ess k e apart h f = stands_at ess k e apart h (found_has e (get_or ess k []) f)

pub stands_found : (es : List Entry) (e : Entry) → Stands es e → any_of (same e) es ≡ true
stands_found es e o = stands_any (names e) (same e) es e o (same_self e)

has_total : (p : Entry → Bool) (e : Entry) (es : List Entry) → Has e es → p e ≡ true → e.contracts ≤ total p es
unfolding Has
has_total p e [] h t = absurd h
has_total p e (x ∷ es) (inl q) t = omega (arith, ap (λ v. v.contracts) q, cond-true {A = ℕ} (p x) x.contracts 0 (ap p (sym q) ∙ t))
has_total p e (x ∷ es) (inr h) t = omega (arith, has_total p e es h t)

-- each of a pair is among those of its side at its price
pub pair_weighs : (es : List Entry) (p : Pair) → Paired es p → (p.buy.contracts ≤ total (at_price 1 p.buy.price) es) × (p.sell.contracts ≤ total (at_price 2 p.sell.price) es)
pair_weighs es p d =
    let b = kept_has (on_side 1) p.buy es (led_has dearer _ p.buy (buy_leads es _ d.buy)) in
    let s = kept_has (on_side 2) p.sell es (led_has cheaper _ p.sell (sell_leads es _ d.sell)) in
    (has_total _ p.buy es b.0 (and_from _ _ b.1 (eq-eqb p.buy.price p.buy.price refl)), has_total _ p.sell es s.0 (and_from _ _ s.1 (eq-eqb p.sell.price p.sell.price refl)))

pub pair_meets : (ess : List (List Entry)) (k : ℕ) (p : Pair) → Apart ess → k < length ess → Paired (get_or ess k []) p → Meet (get_or ess k []) p.buy p.sell
pair_meets ess k p apart h d =
    let es = get_or ess k [] in
    let b = kept_has (on_side 1) p.buy es (led_has dearer _ p.buy (buy_leads es _ d.buy)) in
    let s = kept_has (on_side 2) p.sell es (led_has cheaper _ p.sell (sell_leads es _ d.sell)) in
    record {
      buys = eqb-true p.buy.side 1 b.1;
      sells = eqb-true p.sell.side 2 s.1;
      buy_stands = stands_at ess k p.buy apart h b.0;
      sell_stands = stands_at ess k p.sell apart h s.0;
    }

pub crosses_at : (ess : List (List Entry)) (k : ℕ) (p : Pair) → k < length ess → Paired (get_or ess k []) p → any_of (λ es. any_of (λ buy. any_of (λ sell. cross buy sell) es) es) ess ≡ true
crosses_at ess k p h d = any_at [] (λ es. any_of (λ buy. any_of (λ sell. cross buy sell) es) es) ess k h (pair_crosses (get_or ess k []) p d)
