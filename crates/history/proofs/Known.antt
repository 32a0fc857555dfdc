-- A gate knows what the events tell: who has a login open, which series had values, what is held. The moves that keep it so. Assumes nothing.
use Rattle.std.proofs.Common.{◌≡◌, ℕ, ◌≤◌, Bool, true, false, cond, not, ◌||◌, eqb, List, sym, refl, ap, ◌∙◌, subst, ⊎_elim, arith}
use Rattle.std.proofs.lemmas.Bool.{eq-eqb}
use Rattle.std.proofs.lemmas.Bool.Decides.{eqb_tells}
use Rattle.terms.specs.Tables.{at, put}
use Rattle.terms.specs.declared.messages.Causes.{Causes}
use Rattle.terms.specs.declared.messages.Notice.{Notice}
use Rattle.terms.specs.declared.messages.ScopeNumber.TheVariants.{Acronym, Login}
use Rattle.terms.specs.declared.messages.ScopeNumber.{ScopeNumber}
use Rattle.terms.proofs.Answers.{inside}
use Rattle.terms.proofs.Tables.{at_put}
use Rattle.market.specs.Book.{Book}
use Rattle.checks.specs.Meaning.{Meaning}
use Rattle.history.specs.Acts.{Act}
use Rattle.history.specs.Calls.{done, kill_cause}
use Rattle.history.specs.Fields.{good_scope}
use Rattle.history.specs.Held.{all_said, opens, same_scope, trip_words, values, words_of}
use Rattle.history.specs.Promises.{Firm}
use Rattle.history.specs.Scopes.{hold_scope, lift_scope, shut}
use Rattle.history.specs.State.{Row, State, blank, first_cause, hold_of, is_open, nonzero, row, with_book, with_hold}
use Rattle.history.specs.Trips.{causes_of, noticed, tell, trip}
use Rattle.history.proofs.Accepted.{shut_ok}
use Rattle.history.proofs.Rows.{open_free}
use Rattle.history.proofs.Sound.{Sound, open_in, sound_trip, trip_row}
use Rattle.history.proofs.Soundness.{sound_told}

-- the acronym that has a row open
abbrev pub firm_of : Row → ℕ
firm_of r = cond (is_open r) r.acronym 0

-- the gate knows what the events tell: F who has a login open, V what had values, H what is held
pub record Known (m : Meaning) (s : State m) (F : ℕ → ℕ) (V : ℕ → Bool) (H : ScopeNumber → Bool) : Type 0 where
  pub sound : Sound m s
  pub firm : (l : ℕ) → firm_of (row s l) ≡ F l
  pub login : (l : ℕ) → is_open (row s l) ≡ true → nonzero (row s l).hold ≡ H (Login l)
  pub acronym : (a : ℕ) → Firm a → nonzero (hold_of s a) ≡ H (Acronym a)
  pub series : (n : ℕ) → at false s.valued n ≡ V n

nz_first : (x y : ℕ) → nonzero (first_cause x y) ≡ (nonzero y || nonzero x)
nz_first x y = go (eqb x 0) refl (nonzero y)
  where
    go : (b : Bool) → eqb x 0 ≡ b → (c : Bool) → nonzero (cond b y x) ≡ (nonzero y || not b)
    go true e c = or_false (nonzero y)
      where
        or_false : (b : Bool) → b ≡ (b || false)
        or_false true = refl
        or_false false = refl
    go false e c = rw e (or_true (nonzero y))
      where
        or_true : (b : Bool) → true ≡ (b || true)
        or_true true = refl
        or_true false = refl

-- an open row is its acronym's
pub open_firm : (r : Row) (n : ℕ) → is_open r ≡ true → firm_of r ≡ n → r.acronym ≡ n
open_firm r n o e = rw o at e

module _ (m : Meaning) where
  -- a trip of an open login
  known_trip :
      (s : State m) (F : ℕ → ℕ) (V : ℕ → Bool) (H : ScopeNumber → Bool) (l : ℕ) (c : Causes) → Known m s F V H → is_open (row s l) ≡ true
      → Known m (trip l c s) F V (λ scope. all_said (trip_words F l c) scope (H scope))
  known_trip s F V H l c k o =
      let is : (i : ℕ) → row (trip l c s) i ≡ with_hold (cond (eqb l i) (first_cause (row s i).hold c.login) (row s i).hold)
      (row s i) = λ i. trip_row m s l i c o k.sound in
      let f : (row s l).acronym ≡ F l = open_firm (row s l) (F l) o (k.firm l) in
      let real : Firm (row s l).acronym = k.sound.table.real l (open_free (row s l) o) in
      record {
        sound = sound_trip m s l c o k.sound;
        firm = λ i. ap firm_of (is i) ∙ k.firm i;
        login = λ i p.
            let q : is_open (row s i) ≡ true = sym (ap is_open (is i)) ∙ p in
            ap (λ (r : Row). nonzero r.hold) (is i) ∙ by_login (eqb l i) (row s i).hold c.login (H (Login i)) (k.login i q);
        acronym = λ a firm.
            ap nonzero (at_put 0 s.holds (row s l).acronym a _ real.0 (omega (arith, real.1, k.sound.holds8)))
            ∙ subst (λ (n : ℕ). nonzero (cond (eqb (row s l).acronym a) (first_cause (hold_of s (row s l).acronym) c.acronym)
            (hold_of s a)) ≡ cond (eqb n a) (nonzero c.acronym || H (Acronym a)) (H (Acronym a))) f
            (by_acronym (row s l).acronym a (k.acronym a firm));
        series = k.series;
      }
    where
      by_login : (b : Bool) (old n : ℕ) (h : Bool) → nonzero old ≡ h → nonzero (cond b (first_cause old n) old) ≡ cond b (nonzero n || h) h
      by_login true old n h e = nz_first old n ∙ ap (λ x. nonzero n || x) e
      by_login false old n h e = e

      by_acronym : (b a : ℕ) → nonzero (hold_of s a) ≡ H (Acronym a)
          → nonzero (cond (eqb b a) (first_cause (hold_of s b) c.acronym) (hold_of s a)) ≡ cond (eqb b a)
          (nonzero c.acronym || H (Acronym a)) (H (Acronym a))
      by_acronym b a e = ⊎_elim
          (λ p. let q : b ≡ a = p.1 in
          rw p.0 (nz_first (hold_of s b) c.acronym ∙ ap (λ x. nonzero c.acronym || x) (ap (λ (i : ℕ). nonzero (hold_of s i)) q ∙ e)))
          (λ p. rw p.0 e)
          (eqb_tells b a)

  pub known_told : (s : State m) (F : ℕ → ℕ) (V : ℕ → Bool) (H : ScopeNumber → Bool) (n : Notice) → Known m s F V H → Known m (tell n s) F V H
  known_told s F V H n k = record { sound = sound_told m s n k.sound; firm = k.firm; login = k.login; acronym = k.acronym; series = k.series }

  pub known_noticed :
      (s : State m) (F : ℕ → ℕ) (V : ℕ → Bool) (H : ScopeNumber → Bool) (l : ℕ) (n : Notice) → Known m s F V H → is_open (row s l) ≡ true
      → Known m (noticed l n s) F V (λ scope. all_said (trip_words F l (causes_of n s)) scope (H scope))
  known_noticed s F V H l n k o = known_trip (tell n s) F V H l (causes_of n s) (known_told s F V H n k) o

  -- one row changes, and says of its firm and its hold what is to be said
  pub known_row :
      (s : State m) (F F' : ℕ → ℕ) (V : ℕ → Bool) (H H' : ScopeNumber → Bool) (l : ℕ) (r : Row) (s' : State m) → Known m s F V H
      → Sound m s' → 1 ≤ l → l ≤ 24
      → s'.rows ≡ put s.rows l r → s'.holds ≡ s.holds → s'.valued ≡ s.valued
      → (firm_of r ≡ F' l) → ((k : ℕ) → eqb l k ≡ false → F' k ≡ F k)
      → (is_open r ≡ true → nonzero r.hold ≡ H' (Login l)) → ((k : ℕ) → eqb l k ≡ false → H' (Login k) ≡ H (Login k))
      → ((a : ℕ) → H' (Acronym a) ≡ H (Acronym a))
      → Known m s' F' V H'
  known_row s F F' V H H' l r s' k sound low high rows holds valued f1 f2 h1 h2 h3 =
      let is : (i : ℕ) → row s' i ≡ cond (eqb l i) r (row s i) = λ i. ap (λ (R : List Row). at blank R i) rows
      ∙ at_put blank s.rows l i r low (omega (arith, k.sound.table.rows24)) in
      record {
        sound = sound;
        firm = λ i. ⊎_elim
            (λ p. ap firm_of (rw p.0 at (is i)) ∙ f1 ∙ ap F' p.1)
            (λ p. ap firm_of (rw p.0 at (is i)) ∙ k.firm i ∙ sym (f2 i p.0))
            (eqb_tells l i);
        login = λ i o. ⊎_elim
            (λ p. let e : row s' i ≡ r = rw p.0 at (is i) in
            ap (λ (x : Row). nonzero x.hold) e ∙ h1 (sym (ap is_open e) ∙ o) ∙ ap (λ (n : ℕ). H' (Login n)) p.1)
            (λ p. let e : row s' i ≡ row s i = rw p.0 at (is i) in
            ap (λ (x : Row). nonzero x.hold) e ∙ k.login i (sym (ap is_open e) ∙ o) ∙ sym (h2 i p.0))
            (eqb_tells l i);
        acronym = λ a firm. ap (λ (hs : List ℕ). nonzero (at 0 hs a)) holds ∙ k.acronym a firm ∙ sym (h3 a);
        series = λ n. ap (λ (v : List Bool). at false v n) valued ∙ k.series n;
      }

  abbrev pub Done : State m → (ℕ → ℕ) → (ℕ → Bool) → (ScopeNumber → Bool) → Act → Type 0
  Done s F V H c = Known m (done s c) (λ l. opens c l (F l)) (λ n. values c n || V n) (λ scope. all_said (words_of c) scope (H scope))

  pub known_book : (s : State m) (F : ℕ → ℕ) (V : ℕ → Bool) (H : ScopeNumber → Bool) (b : Book) → Sound m (with_book b s) → Known m s F V H
      → Known m (with_book b s) F V H
  known_book s F V H b sound k = record { sound = sound; firm = k.firm; login = k.login; acronym = k.acronym; series = k.series }

  pub not_here : {X : Type 0} (l k : ℕ) (x y : X) → eqb l k ≡ false → cond (eqb l k) x y ≡ y
  not_here l k x y e = rw e

  pub here : {X : Type 0} (l : ℕ) (x y : X) → x ≡ cond (eqb l l) x y
  here l x y = rw (eq-eqb l l refl)

  block_holds : (block : ℕ) → nonzero (kill_cause block) ≡ eqb block 1
  block_holds block = go (eqb block 1)
    where
      go : (b : Bool) → nonzero (cond b 60 0) ≡ b
      go true = refl
      go false = refl

  pub held_scope :
      (s : State m) (F : ℕ → ℕ) (V : ℕ → Bool) (H : ScopeNumber → Bool) (scope : ScopeNumber) (block : ℕ) → Known m s F V H
      → good_scope scope ≡ true → shut s scope ≡ false
      → Sound m (hold_scope scope (kill_cause block) s)
      → Known m (hold_scope scope (kill_cause block) s) F V (λ x. cond (same_scope scope x) (eqb block 1 || H x) (H x))
  held_scope s F V H (Login l) block k fine op sound =
      let o = shut_ok m s l op in
      let b = open_in s.rows l k.sound.table o in
      known_row s F F V H _ l _ (hold_scope (Login l) (kill_cause block) s) k sound b.0 b.1 refl refl refl (k.firm l) (λ i e. refl)
      (λ e. nz_first (row s l).hold (kill_cause block) ∙ ap (λ x. x || nonzero (row s l).hold) (block_holds block)
      ∙ ap (λ x. eqb block 1 || x) (k.login l o) ∙ here l _ _)
      (λ i e. not_here l i _ _ e) (λ a. refl)
  held_scope s F V H (Acronym a) block k fine op sound =
      let range = inside 1 8 a fine in
      record {
        sound = sound;
        firm = k.firm;
        login = k.login;
        acronym = λ i firm. ap nonzero (at_put 0 s.holds a i _ range.0 (omega (arith, range.1, k.sound.holds8))) ∙ ⊎_elim
            (λ p. let e : a ≡ i = p.1 in
            rw p.0 (nz_first (hold_of s a) (kill_cause block) ∙ ap (λ x. x || nonzero (hold_of s a)) (block_holds block)
            ∙ ap (λ x. eqb block 1 || x) (ap (λ (j : ℕ). nonzero (hold_of s j)) e ∙ k.acronym i firm)))
            (λ p. rw p.0 (k.acronym i firm))
            (eqb_tells a i);
        series = k.series;
      }

  pub lifted_scope :
      (s : State m) (F : ℕ → ℕ) (V : ℕ → Bool) (H : ScopeNumber → Bool) (scope : ScopeNumber) → Known m s F V H → good_scope scope ≡ true
      → shut s scope ≡ false
      → Sound m (lift_scope scope s) → Known m (lift_scope scope s) F V (λ x. cond (same_scope scope x) false (H x))
  lifted_scope s F V H (Login l) k fine op sound =
      let o = shut_ok m s l op in
      let b = open_in s.rows l k.sound.table o in
      known_row s F F V H _ l _ (lift_scope (Login l) s) k sound b.0 b.1 refl refl refl (k.firm l) (λ i e. refl)
      (λ e. here l _ _) (λ i e. not_here l i _ _ e) (λ a. refl)
  lifted_scope s F V H (Acronym a) k fine op sound =
      let range = inside 1 8 a fine in
      record {
        sound = sound;
        firm = k.firm;
        login = k.login;
        acronym = λ i firm. ap nonzero (at_put 0 s.holds a i 0 range.0 (omega (arith, range.1, k.sound.holds8))) ∙ ⊎_elim
            (λ p. rw p.0)
            (λ p. rw p.0 (k.acronym i firm))
            (eqb_tells a i);
        series = k.series;
      }
