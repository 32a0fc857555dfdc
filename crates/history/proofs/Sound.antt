-- What a gate keeps true of its rows and its market: only open logins rest entries, a free one has no slip, any other is an acronym's. Assumes nothing.
use Rattle.std.proofs.Common.{◌≡◌, ℕ, ◌≤◌, Bool, true, false, cond, eqb, List, [], ◌∷◌, ◌++◌, map, length, sym, refl, ap, ◌∙◌, subst, ⊎_elim, arith}
use Rattle.std.specs.List.{AllByRecursion}
use Rattle.std.proofs.lemmas.Bool.{and_parts, eqb-true}
use Rattle.std.proofs.lemmas.Bool.Decides.{eqb_tells}
use Rattle.terms.specs.Tables.{at, put}
use Rattle.terms.specs.declared.messages.Causes.{Causes}
use Rattle.terms.specs.declared.messages.Fill.{Fill}
use Rattle.terms.specs.declared.messages.Notice.{Notice}
use Rattle.terms.specs.declared.messages.ScopeNumber.TheVariants.{Acronym, Login}
use Rattle.terms.specs.declared.messages.ScopeNumber.{ScopeNumber}
use Rattle.terms.proofs.Tables.{all_joined, all_at, all_map, all_put, all_weak, any_all, at_put, in_table, length_map, length_put, mixed}
use Rattle.market.specs.Book.{Book, Entry, Slip, Trade, in_reach, slip_of, without}
use Rattle.market.specs.Market.{buy_side, fillable, filled_in, sell_side, tradeable}
use Rattle.market.proofs.Fills.{all_filled}
use Rattle.market.proofs.Picked.{all_without}
use Rattle.market.proofs.Reaches.{reach_all}
use Rattle.checks.specs.Meaning.{Meaning}
use Rattle.history.specs.Promises.{Firm}
use Rattle.history.specs.Scopes.{shut}
use Rattle.history.specs.State.{Row, State, blank, first_cause, is_free, is_open, retired_row, row, with_book, with_hold}
use Rattle.history.specs.Strikes.{traded_state}
use Rattle.history.specs.Trips.{in_trip, noticed, tell, trip}
use Rattle.history.proofs.Rows.{open_free, retired_free, retired_real}

-- the entry is of an open login
abbrev pub OpenIn : List Row → Entry → Type 0
OpenIn R e = is_open (at blank R e.login) ≡ true

-- what holds of the rows R, the entries E and the slips S
pub record Table (R : List Row) (E : List (List Entry)) (S : List (List Slip)) : Type 0 where
  pub rows24 : length R ≡ 24
  pub series16 : length E ≡ 16
  pub slips24 : length S ≡ 24
  -- what rests is of open logins
  pub rests : AllByRecursion (AllByRecursion (OpenIn R)) E
  -- a free login has no slip
  pub waits : (l : ℕ) → is_free (at blank R l) ≡ true → at [] S l ≡ []
  -- any other is of an acronym
  pub real : (l : ℕ) → is_free (at blank R l) ≡ false → Firm (at blank R l).acronym

pub open_in : {E : List (List Entry)} {S : List (List Slip)} (R : List Row) (l : ℕ) → Table R E S → is_open (at blank R l) ≡ true → (1 ≤ l) × (l ≤ 24)
open_in R l t o = in_table is_open blank R l 24 t.rows24 refl o

module _ {R : List Row} {E : List (List Entry)} {S : List (List Slip)} (t : Table R E S) where
  pub table_off : (q : Entry → Bool) → Table R (map (without q) E) S
  table_off q =
      record {
        rows24 = t.rows24;
        series16 = length_map (without q) E ∙ t.series16;
        slips24 = t.slips24;
        rests = all_map (AllByRecursion (OpenIn R)) (AllByRecursion (OpenIn R)) (without q) E
            (λ es a. all_weak (λ e. OpenIn R e × (q e ≡ false)) (OpenIn R) (without q es) (λ e p. p.0) (all_without (OpenIn R) q es a)) t.rests;
        waits = t.waits;
        real = t.real;
      }

  pub table_rest : (series : ℕ) (e : Entry) → OpenIn R e → Table R (put E series (at [] E series ++ (e ∷ []))) S
  table_rest series e o =
      record {
        rows24 = t.rows24;
        series16 = length_put E series _ ∙ t.series16;
        slips24 = t.slips24;
        rests = all_put (AllByRecursion (OpenIn R)) E series _
            (all_joined (OpenIn R) (at [] E series) (e ∷ []) (all_at (AllByRecursion (OpenIn R)) [] E series tt t.rests) (o, tt)) t.rests;
        waits = t.waits;
        real = t.real;
      }

  -- a slip more, of an open login
  slip_more : (l : ℕ) (ss : List Slip) → is_open (at blank R l) ≡ true → (k : ℕ) → is_free (at blank R k) ≡ true → at [] (put S l ss) k ≡ []
  slip_more l ss o k f =
      let b = open_in R l t o in
      at_put [] S l k ss b.0 (omega (arith, t.slips24, b.1))
      ∙ ⊎_elim
      (λ p. mixed _ (sym f ∙ ap (λ (n : ℕ). is_free (at blank R n)) (sym p.1) ∙ open_free (at blank R l) o))
      (λ p. rw p.0 (t.waits k f))
      (eqb_tells l k)

  pub table_side : (f : Fill) → is_open (at blank R f.login) ≡ true
      → Table R (map (filled_in f) E) (put S f.login (at [] S f.login ++ (slip_of f ∷ [])))
  table_side f o =
      record {
        rows24 = t.rows24;
        series16 = length_map (filled_in f) E ∙ t.series16;
        slips24 = length_put S f.login _ ∙ t.slips24;
        rests = all_map (AllByRecursion (OpenIn R)) (AllByRecursion (OpenIn R)) (filled_in f) E (λ es a. all_filled (OpenIn R) f es (λ e n w p. p) a) t.rests;
        waits = slip_more f.login _ o;
        real = t.real;
      }

  -- one row changes: it stays open if it was, and is free only if it has no slip
  pub table_row :
      (l : ℕ) (r : Row) → 1 ≤ l → l ≤ 24 → (is_open (at blank R l) ≡ true → is_open r ≡ true) → (is_free r ≡ true → at [] S l ≡ [])
      → (is_free r ≡ false → Firm r.acronym) → Table (put R l r) E S
  table_row l r low high op fr re =
      let there : (k : ℕ) → at blank (put R l r) k ≡ cond (eqb l k) r (at blank R k) = λ k. at_put blank R l k r low (omega (arith, t.rows24)) in
      record {
        rows24 = length_put R l r ∙ t.rows24;
        series16 = t.series16;
        slips24 = t.slips24;
        rests = all_weak (AllByRecursion (OpenIn R)) (AllByRecursion (OpenIn (put R l r))) E
            (λ es a. all_weak (OpenIn R) (OpenIn (put R l r)) es (λ e p. ap is_open (there e.login) ∙ ⊎_elim
            (λ q. rw q.0 (op (ap (λ (n : ℕ). is_open (at blank R n)) q.1 ∙ p)))
            (λ q. rw q.0 p)
            (eqb_tells l e.login)) a) t.rests;
        waits = λ k f. ⊎_elim
            (λ q. ap (at [] S) (sym q.1) ∙ fr (sym (ap is_free (rw q.0 at (there k))) ∙ f))
            (λ q. t.waits k (sym (ap is_free (rw q.0 at (there k))) ∙ f))
            (eqb_tells l k);
        real = λ k f. ⊎_elim
            (λ q. let e : at blank (put R l r) k ≡ r = rw q.0 at (there k) in
            subst (λ (x : Row). Firm x.acronym) (sym e) (re (ap is_free (sym e) ∙ f)))
            (λ q. let e : at blank (put R l r) k ≡ at blank R k = rw q.0 at (there k) in
            subst (λ (x : Row). Firm x.acronym) (sym e) (t.real k (ap is_free (sym e) ∙ f)))
            (eqb_tells l k);
      }

-- a login retires: all of it is swept, and it is leaving or free
pub table_retire :
    {R : List Row} {E : List (List Entry)} {S : List (List Slip)} → Table R E S → (l : ℕ) → is_open (at blank R l) ≡ true
    → Table (put R l (retired_row (at [] S l) (at blank R l))) (map (without (in_reach l 3)) E) S
table_retire {R} {E} {S} t l o =
    let b = open_in R l t o in
    let r = retired_row (at [] S l) (at blank R l) in
    let there : (k : ℕ) → at blank (put R l r) k ≡ cond (eqb l k) r (at blank R k) = λ k. at_put blank R l k r b.0
    (omega (arith, t.rows24, b.1)) in
    let firm = t.real l (open_free (at blank R l) o) in
    record {
      rows24 = length_put R l r ∙ t.rows24;
      series16 = length_map (without (in_reach l 3)) E ∙ t.series16;
      slips24 = t.slips24;
      rests = all_map (AllByRecursion (OpenIn R)) (AllByRecursion (OpenIn (put R l r))) (without (in_reach l 3)) E
          (λ es a. all_weak (λ e. OpenIn R e × (in_reach l 3 e ≡ false)) (OpenIn (put R l r)) (without (in_reach l 3) es)
          (λ e p. ap is_open (there e.login) ∙ ⊎_elim
          (λ q. mixed _ (sym q.0 ∙ reach_all l e p.1))
          (λ q. rw q.0 p.0)
          (eqb_tells l e.login)) (all_without (OpenIn R) (in_reach l 3) es a)) t.rests;
      waits = λ k f. ⊎_elim
          (λ q. ap (at [] S) (sym q.1) ∙ retired_free (at [] S l) (at blank R l) (sym (ap is_free (rw q.0 at (there k))) ∙ f))
          (λ q. t.waits k (sym (ap is_free (rw q.0 at (there k))) ∙ f))
          (eqb_tells l k);
      real = λ k f. ⊎_elim
          (λ q. let e : at blank (put R l r) k ≡ r = rw q.0 at (there k) in
          subst (λ (x : Row). Firm x.acronym) (sym e) (retired_real (at [] S l) (at blank R l) firm (ap is_free (sym e) ∙ f)))
          (λ q. let e : at blank (put R l r) k ≡ at blank R k = rw q.0 at (there k) in
          subst (λ (x : Row). Firm x.acronym) (sym e) (t.real k (ap is_free (sym e) ∙ f)))
          (eqb_tells l k);
    }

-- a slip of a login goes
pub table_drop :
    {R : List Row} {E : List (List Entry)} {S : List (List Slip)} → Table R E S → (l : ℕ) (ss : List Slip) → 1 ≤ l → l ≤ 24
    → is_free (at blank R l) ≡ false → Table R E (put S l ss)
table_drop {R} {E} {S} t l ss low high nf =
    record {
      rows24 = t.rows24;
      series16 = t.series16;
      slips24 = length_put S l ss ∙ t.slips24;
      rests = t.rests;
      waits = λ k f. at_put [] S l k ss low (omega (arith, t.slips24)) ∙ ⊎_elim
          (λ q. mixed _ (sym f ∙ ap (λ (n : ℕ). is_free (at blank R n)) (sym q.1) ∙ nf))
          (λ q. rw q.0 (t.waits k f))
          (eqb_tells l k);
      real = t.real;
    }

-- ---- states

-- what holds of a gate
pub record Sound (m : Meaning) (s : State m) : Type 0 where
  pub table : Table s.rows s.book.resting s.book.slips
  pub holds8 : length s.holds ≡ 8
  pub valued16 : length s.valued ≡ 16

-- a hold changes nothing else of its row, and no other row
pub held_row :
    (R : List Row) (l k n : ℕ) → 1 ≤ l → l ≤ length R
    → at blank (put R l (with_hold (first_cause (at blank R l).hold n) (at blank R l))) k ≡ with_hold
    (cond (eqb l k) (first_cause (at blank R k).hold n) (at blank R k).hold) (at blank R k)
held_row R l k n low high =
    at_put blank R l k _ low high ∙ ⊎_elim
    (λ p. let e : l ≡ k = p.1 in
    rw p.0 (ap (λ (i : ℕ). with_hold (first_cause (at blank R i).hold n) (at blank R i)) e))
    (λ p. rw p.0)
    (eqb_tells l k)

-- a trip of an open login keeps a gate sound; so does a notice of it, told or not
module _ (m : Meaning) where
  pub trip_row :
      (s : State m) (l k : ℕ) (c : Causes) → is_open (row s l) ≡ true → Sound m s
      → row (trip l c s) k ≡ with_hold (cond (eqb l k) (first_cause (row s k).hold c.login) (row s k).hold) (row s k)
  trip_row s l k c o x =
      let b = open_in s.rows l x.table o in
      held_row s.rows l k c.login b.0 (omega (arith, b.1, x.table.rows24))

  pub sound_trip : (s : State m) (l : ℕ) (c : Causes) → is_open (row s l) ≡ true → Sound m s → Sound m (trip l c s)
  sound_trip s l c o k =
      let b = open_in s.rows l k.table o in
      record {
        table = table_row (table_off k.table (in_trip s l c)) l _ b.0 b.1 (λ e. e) (λ f. mixed _ (sym f ∙ open_free (row s l) o))
            (λ f. k.table.real l f);
        holds8 = length_put s.holds _ _ ∙ k.holds8;
        valued16 = k.valued16;
      }

  pub sound_noticed : (s : State m) (l : ℕ) (n : Notice) → is_open (row s l) ≡ true → Sound m s → Sound m (noticed l n s)
  sound_noticed s l n o k =
      sound_trip (tell n s) l _ o (record { table = k.table; holds8 = k.holds8; valued16 = k.valued16 })

  -- what the market holds does not shut a scope
  pub shut_book : (s : State m) (b : Book) (x : ScopeNumber) → shut (with_book b s) x ≡ shut s x
  shut_book s b (Login l) = refl
  shut_book s b (Acronym a) = refl

  -- the logins of a trade are open
  pub traders_open :
      (s : State m) (t : Trade) → Sound m s → tradeable s.book t ≡ true
      → (is_open (row s t.buyer.login) ≡ true) × (is_open (row s t.seller.login) ≡ true)
  traders_open s t k h =
      let series = any_all (AllByRecursion (OpenIn s.rows)) _ s.book.resting k.table.rests (and_parts _ _ h).1 in
      let both = and_parts _ _ series.2 in
      let buy = any_all (OpenIn s.rows) _ series.0 series.1 both.0 in
      let sell = any_all (OpenIn s.rows) _ series.0 series.1 both.1 in (
        subst (λ n. is_open (row s n) ≡ true) (whose (buy_side t) buy.0 (and_parts _ _ buy.2).0) buy.1,
        subst (λ n. is_open (row s n) ≡ true) (whose (sell_side t) sell.0 (and_parts _ _ sell.2).0) sell.1,
      )
    where
      whose : (f : Fill) (e : Entry) → fillable f e ≡ true → e.login ≡ f.login
      whose f e h = eqb-true e.login f.login (and_parts _ _ (and_parts _ _ (and_parts _ _ h).0).0).0

  pub sound_traded : (s : State m) (t : Trade) → Sound m s → tradeable s.book t ≡ true → Sound m (traded_state t s)
  sound_traded s t k h =
      let o = traders_open s t k h in
      record { table = table_side (table_side k.table (buy_side t) o.0) (sell_side t) o.1; holds8 = k.holds8; valued16 = k.valued16 }
