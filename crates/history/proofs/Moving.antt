-- What the moves of a gate do to the contracts that an acronym has in the market, resting and on slips. Assumes nothing.
use Rattle.std.proofs.Common.{◌≡◌, ℕ, ◌+◌, ◌≤◌, Bool, true, false, cond, ◌&&◌, ◌||◌, eqb, ◌⊎◌, List, [], ◌∷◌, ◌++◌, map, length, Some, Ok, sym, refl, ap, ◌∙◌, subst, ⊎_elim, arith}
use Rattle.std.specs.List.{AllByRecursion}
use Rattle.std.proofs.lemmas.Bool.{and_parts, eq-eqb, eqb-true, or_cases}
use Rattle.std.proofs.lemmas.Bool.Decides.{eqb_tells}
use Rattle.terms.specs.Tables.{at, put, up_to}
use Rattle.terms.specs.declared.events.Effect.{Effect}
use Rattle.terms.specs.declared.events.Struck.{Struck}
use Rattle.terms.specs.declared.messages.Causes.{Causes}
use Rattle.terms.specs.declared.messages.Fill.{Fill}
use Rattle.terms.specs.declared.messages.Notice.{Notice}
use Rattle.terms.specs.declared.messages.ScopeNumber.TheVariants.{Acronym, Login}
use Rattle.terms.specs.declared.messages.ScopeNumber.{ScopeNumber}
use Rattle.terms.specs.declared.messages.Ticket.{Ticket}
use Rattle.terms.proofs.Tables.{all_map, all_weak, at_other, at_put, at_same, length_put, mixed, never, up_to_one, up_to_same}
use Rattle.market.specs.Book.{Book, Entry, Slip, Trade, any_in, in_reach, reaches, slip_of, taken_off, totals, waiting_of, without}
use Rattle.market.specs.Market.{buy_side, fillable, sell_side, side_traded, tradeable}
use Rattle.market.proofs.Fills.{any_in_filled, both_fillable, other_side_unfilled, totals_filled}
use Rattle.market.proofs.Once.{Once, fills_once, once_filled}
use Rattle.market.proofs.Picked.{all_without}
use Rattle.market.proofs.Reaches.{reach_all, reach_own}
use Rattle.market.proofs.Sums.{totals_ext, totals_off, totals_rest, totals_same}
use Rattle.checks.specs.Meaning.{Meaning}
use Rattle.history.specs.Acts.{Retire, strike}
use Rattle.history.specs.Calls.{done}
use Rattle.history.specs.Entering.{entry_of, with_entry}
use Rattle.history.specs.Part.{has, has_scope}
use Rattle.history.specs.Scopes.{in_scope}
use Rattle.history.specs.State.{Row, State, blank, is_free, is_open, nonzero, retired_row, row, with_book, with_row}
use Rattle.history.specs.Step.{Allowed, after}
use Rattle.history.specs.Strikes.{fill_notice, fill_told, traded_state}
use Rattle.history.specs.Tally.{on_slips, resting_contracts, waiting_contracts}
use Rattle.history.specs.Trips.{causes_of, effect_of, in_trip, noticed, tell, trip}
use Rattle.history.proofs.Rows.{open_free}
use Rattle.history.proofs.Sound.{OpenIn, Sound, open_in, sound_noticed, sound_traded, traders_open, trip_row}
use Rattle.history.proofs.Soundness.{sound_told}

pub zero_if : (b : Bool) → ◌≡◌ {A = ℕ} (cond b 0 0) 0
zero_if true = refl
zero_if false = refl

pub zero_ifs : (b c : Bool) → ◌≡◌ {A = ℕ} (cond b (cond c 0 0) 0) 0
zero_ifs true c = zero_if c
zero_ifs false c = refl

pub slips_joined : (ss ts : List Slip) → on_slips (ss ++ ts) ≡ on_slips ss + on_slips ts
slips_joined [] ts = omega arith
slips_joined (s ∷ ss) ts = omega (arith, slips_joined ss ts)

module _ (m : Meaning) (a : ℕ) where
  -- the contracts that a has in the market
  abbrev pub in_market : State m → ℕ
  in_market s = waiting_contracts a s + resting_contracts a s

  -- rows that belong as they did
  same_has : (s s' : State m) → s'.book ≡ s.book → ((k : ℕ) → has a s' k ≡ has a s k) → in_market s' ≡ in_market s
  same_has s s' b h =
      let w : waiting_contracts a s' ≡ waiting_contracts a s = up_to_same 24 _ _
      (λ k. ap (λ c. cond c (on_slips (waiting_of s'.book k)) 0) (h k) ∙ ap (λ (x : Book). cond (has a s k) (on_slips (waiting_of x k)) 0) b) in
      let r : resting_contracts a s' ≡ resting_contracts a s = totals_ext (λ e. has a s' e.login) (λ e. has a s e.login)
      (λ e. h e.login) s'.book.resting ∙ ap (λ (x : Book). totals (λ e. has a s e.login) x.resting) b in
      omega (arith, w, r)

  -- a row that changes, of the same acronym
  pub row_moves : (s : State m) (l : ℕ) (r : Row) → 1 ≤ l → l ≤ 24 → Sound m s → r.acronym ≡ (row s l).acronym → in_market (with_row l r s) ≡ in_market s
  row_moves s l r low high k e = same_has s (with_row l r s) refl
      (λ i. ap (λ (x : Row). eqb x.acronym a) (at_put blank s.rows l i r low (omega (arith, k.table.rows24))) ∙ ⊎_elim
      (λ p. let q : l ≡ i = p.1 in rw p.0 (ap (λ (n : ℕ). eqb n a) (e ∙ ap (λ (n : ℕ). (row s n).acronym) q)))
      (λ p. rw p.0)
      (eqb_tells l i))

  pub off_moves :
      (s : State m) (q : Entry → Bool) (b : Bool) → ((e : Entry) → q e ≡ true → has a s e.login ≡ b)
      → in_market (with_book (taken_off q s.book) s) + cond b (totals q s.book.resting) 0 ≡ in_market s
  off_moves s q b h = omega (arith, totals_off (λ e. has a s e.login) q b h s.book.resting)

  -- what a trip sweeps is of the acronym of its login
  pub trip_own : (s : State m) (l : ℕ) (c : Causes) (e : Entry) → in_trip s l c e ≡ true → has a s e.login ≡ has a s l
  trip_own s l c e h =
      let A = nonzero c.login && in_scope s (Login l) e.login in
      let B = nonzero c.acronym && in_scope s (Acronym (row s l).acronym) e.login in
      let either : (A ≡ true) ⊎ (B ≡ true) = or_cases A B
      (and_parts (is_open (row s e.login) && reaches (row s e.login).reach e.kind) (A || B) h).1 in
      ⊎_elim
      (λ (p : A ≡ true). ap (λ (n : ℕ). has a s n) (eqb-true e.login l (and_parts (nonzero c.login) (eqb e.login l) p).1))
      (λ (p : B ≡ true). ap (λ (n : ℕ). eqb n a)
      (eqb-true (row s e.login).acronym (row s l).acronym
      (and_parts (nonzero c.acronym) (eqb (row s e.login).acronym (row s l).acronym) p).1))
      either

  -- what is in a scope is as much a's as the scope
  pub scope_own : (s : State m) (x : ScopeNumber) (e : Entry) → in_scope s x e.login ≡ true → has a s e.login ≡ has_scope a s x
  scope_own s (Login l) e h = ap (λ (n : ℕ). has a s n) (eqb-true e.login l h)
  scope_own s (Acronym b) e h = ap (λ (n : ℕ). eqb n a) (eqb-true (row s e.login).acronym b h)

  pub scope_book : (s : State m) (b : Book) (x : ScopeNumber) → has_scope a (with_book b s) x ≡ has_scope a s x
  scope_book s b (Login l) = refl
  scope_book s b (Acronym c) = refl

  pub trip_has : (s : State m) (l : ℕ) (c : Causes) → is_open (row s l) ≡ true → Sound m s → (k : ℕ) → has a (trip l c s) k ≡ has a s k
  trip_has s l c o k i = ap (λ (r : Row). eqb r.acronym a) (trip_row m s l i c o k)

  trip_moves :
      (s : State m) (l : ℕ) (c : Causes) → is_open (row s l) ≡ true → Sound m s
      → in_market (trip l c s) + cond (has a s l) (totals (in_trip s l c) s.book.resting) 0 ≡ in_market s
  trip_moves s l c o k =
      let one = same_has (with_book (taken_off (in_trip s l c) s.book) s) (trip l c s) refl (trip_has s l c o k) in
      omega (arith, one, off_moves s (in_trip s l c) (has a s l) (trip_own s l c))

  pub noticed_moves :
      (s : State m) (l : ℕ) (n : Notice) → is_open (row s l) ≡ true → Sound m s
      → in_market (noticed l n s) + cond (has a s l) (effect_of l n s).cancelled 0 ≡ in_market s
  noticed_moves s l n o k = trip_moves (tell n s) l (causes_of n s) o (sound_told m s n k)

  pub rest_moves :
      (s : State m) (t : Ticket) → 1 ≤ t.series → t.series ≤ 16 → Sound m s
      → in_market (with_entry t s) ≡ in_market s + cond (has a s t.login) t.contracts 0
  rest_moves s t low high k =
      omega (arith, totals_rest (λ e. has a s e.login) s.book.resting t.series (entry_of t) low (omega (arith, k.table.series16)))

  -- ---- strike

  side_moves :
      (s : State m) (f : Fill) → 1 ≤ f.login → f.login ≤ 24 → length s.book.slips ≡ 24 → Once s.book.resting
      → any_in (fillable f) s.book.resting ≡ true
      → in_market (with_book (side_traded f s.book) s) ≡ in_market s
  side_moves s f low high len once any =
      let l = f.login in
      let S = s.book.slips in
      let ss = at [] S l ++ (slip_of f ∷ []) in
      let b = has a s l in
      let there : (k : ℕ) → at [] (put S l ss) k ≡ cond (eqb l k) ss (at [] S k) = λ k. at_put [] S l k ss low (omega (arith, len)) in
      let F : ℕ → ℕ = λ k. cond (has a s k) (on_slips (at [] (put S l ss) k)) 0 in
      let G : ℕ → ℕ = λ k. cond (has a s k) (on_slips (at [] S k)) 0 in
      let w = up_to_one 24 F G l low high (λ k e. ap (λ (x : List Slip). cond (has a s k) (on_slips x) 0) (there k ∙ rw e)) in
      let more : on_slips (at [] (put S l ss) l) ≡ on_slips (at [] S l) + f.contracts = ap on_slips (there l ∙ rw (eq-eqb l l refl))
      ∙ slips_joined (at [] S l) (slip_of f ∷ []) ∙ omega arith in
      let at_l : F l ≡ G l + cond b f.contracts 0 = split b _ _ _ more in
      let r = totals_filled (λ e. has a s e.login) (λ e n. refl) f b
      (λ e h. ap (λ (n : ℕ). has a s n) (eqb-true e.login l (and_parts _ _ (and_parts _ _ h).0).0)) s.book.resting
      (fills_once f s.book.resting once) any in
      omega (arith, w, at_l, r)
    where
      split : (b : Bool) (x y z : ℕ) → x ≡ y + z → cond b x 0 ≡ cond b y 0 + cond b z 0
      split true x y z e = e
      split false x y z e = refl

  traded_moves : (s : State m) (t : Trade) → Sound m s → Once s.book.resting → tradeable s.book t ≡ true
      → in_market (traded_state t s) ≡ in_market s
  traded_moves s t k once h =
      let o = traders_open m s t k h in
      let any = both_fillable s.book t h in
      let b1 = open_in s.rows t.buyer.login k.table o.0 in
      let b2 = open_in s.rows t.seller.login k.table o.1 in
      let s1 = with_book (side_traded (buy_side t) s.book) s in
      let one = side_moves s (buy_side t) b1.0 b1.1 k.table.slips24 once any.0 in
      let two = side_moves s1 (sell_side t) b2.0 b2.1 (length_put s.book.slips t.buyer.login _ ∙ k.table.slips24)
      (once_filled (buy_side t) s.book.resting once)
      (any_in_filled (fillable (sell_side t)) (buy_side t) (other_side_unfilled t) s.book.resting any.1) in
      two ∙ one

  pub struck_moves :
      (s : State m) (x : Struck) → Sound m s → Once s.book.resting → Allowed s (strike (Ok (Some x)))
      → in_market (after s (strike (Ok (Some x)))) +
      (cond (has a s x.trade.seller.login) x.sell.cancelled 0 + cond (has a s x.trade.buyer.login)
      x.buy.cancelled 0) ≡ in_market s
  struck_moves s x k once ok =
      let t = x.trade in
      let o = traders_open m s t k ok.0.0 in
      let s1 = traded_state t s in
      let k1 = sound_traded m s t k ok.0.0 in
      let n1 = fill_notice s1 (buy_side t) in
      let s2 = fill_told (buy_side t) s1 in
      let k2 = sound_noticed m s1 t.buyer.login n1 o.0 k1 in
      let open2 : is_open (row s2 t.seller.login) ≡ true = ap is_open
      (trip_row m (tell n1 s1) t.buyer.login t.seller.login (causes_of n1 s1) o.0 (sound_told m s1 n1 k1)) ∙ o.1 in
      let same : has a s2 t.seller.login ≡ has a s t.seller.login = trip_has (tell n1 s1) t.buyer.login (causes_of n1 s1) o.0
      (sound_told m s1 n1 k1) t.seller.login in
      let zero = traded_moves s t k once ok.0.0 in
      let one = noticed_moves s1 t.buyer.login n1 o.0 k1 in
      let two = noticed_moves s2 t.seller.login (fill_notice s2 (sell_side t)) open2 k2 in
      add_up (in_market s) (in_market s1) (in_market s2) (in_market (after s (strike (Ok (Some x))))) _ _ _ _ zero one two
      (ap (λ (e : Effect). cond (has a s t.buyer.login) e.cancelled 0) ok.1.0)
      (ap (λ c. cond c x.sell.cancelled 0) (sym same) ∙ ap (λ (e : Effect). cond (has a s2 t.seller.login) e.cancelled 0) ok.1.1)
    where
      add_up : (w w1 w2 w3 b c B C : ℕ) → w1 ≡ w → w2 + b ≡ w1 → w3 + c ≡ w2 → B ≡ b → C ≡ c → w3 + (C + B) ≡ w
      add_up w w1 w2 w3 b c B C e1 e2 e3 e4 e5 = omega arith

  -- ---- calls

  -- a row that changes with its login's slips; what rests is as it was
  pub slips_moves :
      (s : State m) (l : ℕ) (r : Row) (ss : List Slip) (n : ℕ) → 1 ≤ l → l ≤ 24 → Sound m s
      → cond (has a s l) (on_slips (waiting_of s.book l)) 0 ≡ cond (eqb r.acronym a) (on_slips ss) 0 + n
      → (is_open (row s l) ≡ true → r.acronym ≡ (row s l).acronym)
      → in_market (with_row l r (with_book
      (record { resting = s.book.resting; slips = put s.book.slips l ss; room = s.book.room }) s)) + n ≡ in_market s
  slips_moves s l r ss n low high k here same =
      let S = s.book.slips in
      let R = s.rows in
      let low_s : l ≤ length S = omega (arith, k.table.slips24) in
      let low_r : l ≤ length R = omega (arith, k.table.rows24) in
      let rows_at : (i : ℕ) → at blank (put R l r) i ≡ cond (eqb l i) r (at blank R i) = λ i. at_put blank R l i r low
      (omega (arith, k.table.rows24)) in
      let F : ℕ → ℕ = λ i. cond (eqb (at blank (put R l r) i).acronym a) (on_slips (at [] (put S l ss) i)) 0 in
      let G : ℕ → ℕ = λ i. cond (has a s i) (on_slips (at [] S i)) 0 in
      let w = up_to_one 24 F G l low high
      (λ i e. ap (λ (x : Row). cond (eqb x.acronym a) (on_slips (at [] (put S l ss) i)) 0) (at_other blank R l i r low low_r e)
      ∙ ap (λ (x : List Slip). cond (has a s i) (on_slips x) 0) (at_other [] S l i ss low low_s e)) in
      let at_l : F l ≡ cond (eqb r.acronym a) (on_slips ss) 0 = ap
      (λ (x : Row). cond (eqb x.acronym a) (on_slips (at [] (put S l ss) l)) 0) (at_same blank R l l r low low_r refl)
      ∙ ap (λ (x : List Slip). cond (eqb r.acronym a) (on_slips x) 0) (at_same [] S l l ss low low_s refl) in
      let rest = totals_same (λ e. eqb (at blank (put R l r) e.login).acronym a) (λ e. has a s e.login) s.book.resting
      (all_weak (AllByRecursion (OpenIn R)) (AllByRecursion (λ e. eqb (at blank (put R l r) e.login).acronym a ≡ has a s e.login)) s.book.resting
      (λ es x. all_weak (OpenIn R) (λ e. eqb (at blank (put R l r) e.login).acronym a ≡ has a s e.login) es
      (λ e o. ap (λ (y : Row). eqb y.acronym a) (rows_at e.login) ∙ ⊎_elim
      (λ p. let q : l ≡ e.login = p.1 in
      rw p.0 (ap (λ (i : ℕ). eqb i a) (same (ap (λ (i : ℕ). is_open (at blank R i)) q ∙ o) ∙ ap (λ (i : ℕ). (at blank R i).acronym) q)))
      (λ p. rw p.0)
      (eqb_tells l e.login)) x) k.table.rests) in
      add_up (up_to 24 F) (up_to 24 G) (F l) (G l) (cond (eqb r.acronym a) (on_slips ss) 0) n _ _ w at_l here rest
    where
      add_up : (F G f g c n r r' : ℕ) → F + g ≡ G + f → f ≡ c → g ≡ c + n → r ≡ r' → (F + r) + n ≡ G + r'
      add_up F G f g c n r r' e1 e2 e3 e4 = omega arith

  -- the same where the slips stay
  pub free_moves :
      (s : State m) (l : ℕ) (r : Row) → 1 ≤ l → l ≤ 24 → Sound m s → is_free (row s l) ≡ true → in_market (with_row l r s) ≡ in_market s
  free_moves s l r low high k f =
      let none : waiting_of s.book l ≡ [] = k.table.waits l f in
      let shutl : is_open (row s l) ≡ true → ⊥ = λ o. mixed ⊥ (sym f ∙ open_free (row s l) o) in
      let R = s.rows in
      let rows_at : (i : ℕ) → at blank (put R l r) i ≡ cond (eqb l i) r (at blank R i) = λ i. at_put blank R l i r low
      (omega (arith, k.table.rows24)) in
      let low_r : l ≤ length R = omega (arith, k.table.rows24) in
      let w : waiting_contracts a (with_row l r s) ≡ waiting_contracts a s = up_to_same 24
      (λ i. cond (has a (with_row l r s) i) (on_slips (waiting_of s.book i)) 0)
      (λ i. cond (has a s i) (on_slips (waiting_of s.book i)) 0) (λ i. ⊎_elim
      (λ p. let e : waiting_of s.book i ≡ [] = ap (waiting_of s.book) (sym p.1) ∙ none in
      rw e (zero_if (eqb (at blank (put R l r) i).acronym a) ∙ sym (zero_if (has a s i))))
      (λ p. ap (λ (x : Row). cond (eqb x.acronym a) (on_slips (waiting_of s.book i)) 0) (at_other blank R l i r low low_r p.0))
      (eqb_tells l i)) in
      let rest = totals_same (λ e. eqb (at blank (put R l r) e.login).acronym a) (λ e. has a s e.login) s.book.resting
      (all_weak (AllByRecursion (OpenIn R)) (AllByRecursion (λ e. eqb (at blank (put R l r) e.login).acronym a ≡ has a s e.login)) s.book.resting
      (λ es x. all_weak (OpenIn R) (λ e. eqb (at blank (put R l r) e.login).acronym a ≡ has a s e.login) es
      (λ e o. ap (λ (y : Row). eqb y.acronym a) (rows_at e.login) ∙ ⊎_elim
      (λ p. let q : l ≡ e.login = p.1 in never _ (shutl (ap (λ (i : ℕ). is_open (at blank R i)) q ∙ o)))
      (λ p. rw p.0)
      (eqb_tells l e.login)) x) k.table.rests) in
      sum (waiting_contracts a (with_row l r s)) (waiting_contracts a s) _ _ w rest
    where
      sum : (x y z w : ℕ) → x ≡ y → z ≡ w → x + z ≡ y + w
      sum x y z w e f = omega arith

  pub retire_moves :
      (s : State m) (l : ℕ) → Sound m s → is_open (row s l) ≡ true
      → in_market (done s (Retire l)) + cond (has a s l) (totals (in_reach l 3) s.book.resting) 0 ≡ in_market s
  retire_moves s l k o =
      let b = open_in s.rows l k.table o in
      let R = s.rows in
      let E = s.book.resting in
      let r = retired_row (waiting_of s.book l) (row s l) in
      let q = in_reach l 3 in
      let rows_at : (i : ℕ) → at blank (put R l r) i ≡ cond (eqb l i) r (at blank R i) = λ i. at_put blank R l i r b.0
      (omega (arith, b.1, k.table.rows24)) in
      let low_r : l ≤ length R = omega (arith, b.1, k.table.rows24) in
      let w : waiting_contracts a (done s (Retire l)) ≡ waiting_contracts a s = up_to_same 24
      (λ i. cond (has a (done s (Retire l)) i) (on_slips (waiting_of s.book i)) 0)
      (λ i. cond (has a s i) (on_slips (waiting_of s.book i)) 0) (λ i. ⊎_elim
      (λ p. let e : l ≡ i = p.1 in
      ap (λ (x : Row). cond (eqb x.acronym a) (on_slips (waiting_of s.book i)) 0) (at_same blank R l i r b.0 low_r e)
      ∙ subst (λ (j : ℕ). cond (eqb r.acronym a) (on_slips (waiting_of s.book j)) 0 ≡ cond (has a s j)
      (on_slips (waiting_of s.book j)) 0) e (at_l (waiting_of s.book l) (row s l)))
      (λ p. ap (λ (x : Row). cond (eqb x.acronym a) (on_slips (waiting_of s.book i)) 0) (at_other blank R l i r b.0 low_r p.0))
      (eqb_tells l i)) in
      let rest = totals_same (λ e. eqb (at blank (put R l r) e.login).acronym a) (λ e. has a s e.login) (map (without q) E)
      (all_map (AllByRecursion (OpenIn R)) (AllByRecursion (λ e. eqb (at blank (put R l r) e.login).acronym a ≡ has a s e.login)) (without q) E
      (λ es x. all_weak (λ e. OpenIn R e × (q e ≡ false)) (λ e. eqb (at blank (put R l r) e.login).acronym a ≡ has a s e.login)
      (without q es) (λ e y. ap (λ (z : Row). eqb z.acronym a) (rows_at e.login) ∙ ⊎_elim
      (λ p. mixed _ (sym p.0 ∙ reach_all l e y.1))
      (λ p. rw p.0)
      (eqb_tells l e.login)) (all_without (OpenIn R) q es x)) k.table.rests) in
      add_up (waiting_contracts a (done s (Retire l))) (waiting_contracts a s) _ _ _ _ w rest
      (totals_off (λ e. has a s e.login) q (has a s l) (λ e h. ap (λ (n : ℕ). has a s n) (reach_own l 3 e h)) E)
    where
      add_up : (x y z w c v : ℕ) → x ≡ y → z ≡ w → w + c ≡ v → (x + z) + c ≡ y + v
      add_up x y z w c v e f g = omega arith

      at_l : (ss : List Slip) (x : Row) → cond (eqb (retired_row ss x).acronym a) (on_slips ss) 0 ≡ cond (eqb x.acronym a) (on_slips ss) 0
      at_l [] x = zero_if (eqb 0 a) ∙ sym (zero_if (eqb x.acronym a))
      at_l (y ∷ ss) x = refl
