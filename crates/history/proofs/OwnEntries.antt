-- An entry of an acronym is answered alike by gates that are alike to it, and leaves them alike; so does whatever is told of its logins.
-- Assumes nothing.
use Rattle.std.proofs.Common.{◌≡◌, ℕ, Bool, true, false, cond, not, ◌&&◌, ◌||◌, eqb, leb, List, [], ◌∷◌, ◌++◌, Some, None, Option, sym, refl, ap, ◌∙◌, subst, ap₂}
use Rattle.std.proofs.lemmas.Bool.{and_parts, eqb-true}
use Rattle.terms.specs.Answers.{first_of}
use Rattle.terms.specs.Refusals.{number}
use Rattle.terms.specs.Tables.{at, put}
use Rattle.terms.specs.declared.events.EnterAnswer.TheVariants as answer
use Rattle.terms.specs.declared.messages.Asked.{Asked}
use Rattle.terms.specs.declared.messages.Causes.{Causes}
use Rattle.terms.specs.declared.messages.Notice.TheVariants.{Entered, TurnedDown}
use Rattle.terms.specs.declared.messages.Notice.{Notice}
use Rattle.terms.specs.declared.messages.ScopeNumber.TheVariants.{Login}
use Rattle.terms.specs.declared.messages.Ticket.{Ticket}
use Rattle.terms.specs.declared.refusal.Refusal.TheVariants.{Allotment, Field, Held, InUse, NoValues, NotOpen}
use Rattle.terms.specs.declared.refusal.Refusal.{Refusal}
use Rattle.market.specs.Book.{Entry, Slip, is_for, reaches, taken_off, totals}
use Rattle.market.specs.Market.{rest_refusal}
use Rattle.market.proofs.Picked.{onlys_rest}
use Rattle.checks.specs.Meaning.{Meaning, no_cause, told_causes, whose}
use Rattle.history.specs.Acts.{Enter}
use Rattle.history.specs.Calls.{refusal}
use Rattle.history.specs.Entering.{Verdict, asked, cannot_rest, enter_reply, entry_of, rests, turned, verdict, verdict_answer, verdict_leaves, verdict_of, with_entry}
use Rattle.history.specs.Fields.{good_ticket}
use Rattle.history.specs.Part.{has}
use Rattle.history.specs.Promises.{Firm}
use Rattle.history.specs.State.{Row, State, first_cause, hold_of, is_open, nonzero, private_of, row, with_book, with_hold, with_hold_of, with_row}
use Rattle.history.specs.Trips.{causes_of, effect_of, in_trip, noticed, tell, trip}
use Rattle.history.proofs.Alike.{Alike, alike_off, has_alike, mine, own_any, own_counts, own_row, own_slips, own_totals}
use Rattle.history.proofs.AlikeMoves.{alike_held, alike_row, alike_told, same_before}
use Rattle.history.proofs.Moving.{trip_own}
use Rattle.history.proofs.Sound.{Sound, open_in}
use Rattle.history.proofs.Soundness.{sound_held, sound_off, sound_rest, sound_told}
use Rattle.history.proofs.Whole.{Whole}

ap₃ : {A B C D : Type 0} (f : A → B → C → D) {x x' : A} {y y' : B} {z z' : C} → x ≡ x' → y ≡ y' → z ≡ z' → f x y z ≡ f x' y' z'
ap₃ f p q r = rw (p, q, r)

abbrev trip_by : Row → Row → ℕ → Causes → Entry → Bool
trip_by re rl l c e =
    (is_open re && reaches re.reach e.kind) &&
    ((nonzero c.login && eqb e.login l) || (nonzero c.acronym && eqb re.acronym rl.acronym))

module _ (m : Meaning) (a : ℕ) (firm : Firm a) where
  module _ (s u : State m) (k : Alike m a s u) where
    pub of_a : (l : ℕ) → has a s l ≡ true → (row s l).acronym ≡ a
    of_a l h = eqb-true (row s l).acronym a h

    trip_agree : (l : ℕ) (c : Causes) → has a s l ≡ true → (e : Entry) → mine m a s e ≡ true → in_trip s l c e ≡ in_trip u l c e
    trip_agree l c h e w = ap₂ (λ (x y : Row). trip_by x y l c e) (own_row m a firm s u k e.login w) (own_row m a firm s u k l h)

    pub alike_trip : (l : ℕ) (c : Causes) → Sound m s → Sound m u → is_open (row s l) ≡ true → has a s l ≡ true → Alike m a (trip l c s) (trip l c u)
    alike_trip l c ks ku o h =
        let rl = own_row m a firm s u k l h in
        let ou : is_open (row u l) ≡ true = ap is_open (sym rl) ∙ o in
        let b = open_in s.rows l ks.table o in
        let s1 = with_book (taken_off (in_trip s l c) s.book) s in
        let u1 = with_book (taken_off (in_trip u l c) u.book) u in
        let k1 = alike_off m a firm s u k (in_trip s l c) (in_trip u l c) (trip_agree l c h) in
        let r = with_hold (first_cause (row s l).hold c.login) (row s l) in
        let r' = with_hold (first_cause (row u l).hold c.login) (row u l) in
        let same : r ≡ r' = ap (λ (x : Row). with_hold (first_cause x.hold c.login) x) rl in
        let ks1 = sound_off m s (in_trip s l c) ks in
        let ku1 = sound_off m u (in_trip u l c) ku in
        let s2 = with_row l r s1 in
        let u2 = with_row l r' u1 in
        let k2' : Alike m a (with_row l r s1) (with_row l r u1) = alike_row m a firm s1 u1 l r ks1 ku1 b.0 b.1
        (same_before m a firm s1 l r ks1 b.0 b.1 refl)
        (same_before m a firm u1 l r ku1 b.0 b.1 (ap (λ (x : Row). x.acronym) rl))
        (ap (λ (x : List Slip). cond (eqb r.acronym a) x []) (own_slips m a firm s u k l h)) k1 in
        let k2 : Alike m a s2 u2 = subst (λ (x : Row). Alike m a s2 (with_row l x u1)) same k2' in
        let ks2 : Sound m s2 = sound_held m s1 (Login l) c.login (rw o) ks1 in
        let ku2 : Sound m u2 = sound_held m u1 (Login l) c.login (rw ou) ku1 in
        let k3 = alike_held m a firm s2 u2 (first_cause (hold_of s2 a) c.acronym) (first_cause (hold_of u2 a) c.acronym) ks2 ku2
        (ap (λ (n : ℕ). first_cause n c.acronym) k2.hold) k2 in
        let ea = of_a l h in
        let au : (row u l).acronym ≡ a = ap (λ (x : Row). x.acronym) (sym rl) ∙ ea in
        subst (λ (x : ℕ). Alike m a (with_hold_of x (first_cause (hold_of s2 x) c.acronym) s2) (trip l c u)) (sym ea)
        (subst (λ (x : ℕ). Alike m a (with_hold_of a (first_cause (hold_of s2 a) c.acronym) s2)
        (with_hold_of x (first_cause (hold_of u2 x) c.acronym) u2)) (sym au) k3)

    same_causes : (n : Notice) → whose n ≡ a → causes_of n s ≡ causes_of n u
    same_causes n e =
        ap (λ (x : ℕ). told_causes m n s.public (private_of s x)) e ∙ ap₂ (told_causes m n) k.public k.private
        ∙ ap (λ (x : ℕ). told_causes m n u.public (private_of u x)) (sym e)

    pub same_effect : (l : ℕ) (n : Notice) → whose n ≡ a → has a s l ≡ true → effect_of l n s ≡ effect_of l n u
    same_effect l n e h =
        let c = same_causes n e in
        let hu : has a u l ≡ true = sym (has_alike m a firm s u k l) ∙ h in
        let t : totals (in_trip s l (causes_of n s)) s.book.resting ≡ totals (in_trip u l (causes_of n u)) u.book.resting
        = own_totals m a firm s u k (in_trip s l (causes_of n s)) (in_trip u l (causes_of n s))
        (λ x y. trip_own m a s l (causes_of n s) x y ∙ h) (trip_agree l (causes_of n s) h) (λ x y. trip_own m a u l (causes_of n s) x y ∙ hu)
        ∙ ap (λ (z : Causes). totals (in_trip u l z) u.book.resting) c in
        ap₂ (λ (x : Causes) (y : ℕ). record { causes = x; cancelled = y }) c t

    pub alike_rest : (t : Ticket) → has a s t.login ≡ true → Alike m a (with_entry t s) (with_entry t u)
    alike_rest t h =
        record {
          time = k.time;
          valued = k.valued;
          rows = k.rows;
          hold = k.hold;
          public = k.public;
          private = k.private;
          slips = k.slips;
          entries = onlys_rest (mine m a s) s.book.resting t.series (entry_of t)
              ∙ ap₂ (λ (E : List (List Entry)) (b : Bool). put E t.series (at [] E t.series ++ cond (not b) [] (entry_of t ∷ [])))
              k.entries (has_alike m a firm s u k t.login) ∙ sym (onlys_rest (mine m a u) u.book.resting t.series (entry_of t));
        }

  pub alike_noticed : (s u : State m) (l : ℕ) (n : Notice) → Alike m a s u → Whole m s → Whole m u → whose n ≡ a → is_open (row s l) ≡ true
      → has a s l ≡ true → Alike m a (noticed l n s) (noticed l n u)
  alike_noticed s u l n k ws wu e o h =
      let k0 = alike_told m a firm s u n ws.eight wu.eight k in
      subst (λ (c : Causes). Alike m a (noticed l n s) (trip l c (tell n u))) (same_causes s u k n e)
      (alike_trip (tell n s) (tell n u) k0 l (causes_of n s) (sound_told m s n ws.sound) (sound_told m u n wu.sound) o h)

  -- ---- enter

  abbrev enter_by : Ticket → Row → List Bool → ℕ → Option Refusal
  enter_by t r v n =
      first_of ((not (good_ticket t), Field) ∷ (not (is_open r), NotOpen) ∷ (not (at false v t.series), NoValues) ∷
      (nonzero r.hold || nonzero n, Held) ∷ [])

  module _ (s u : State m) (k : Alike m a s u) where
    same_hold : (l : ℕ) → has a s l ≡ true → hold_of s (row s l).acronym ≡ hold_of u (row u l).acronym
    same_hold l h =
        let e = of_a s u k l h in
        ap (hold_of s) e ∙ k.hold ∙ ap (hold_of u) (sym (ap (λ (x : Row). x.acronym) (sym (own_row m a firm s u k l h)) ∙ e))

    same_private : (l : ℕ) → has a s l ≡ true → private_of s (row s l).acronym ≡ private_of u (row u l).acronym
    same_private l h =
        let e = of_a s u k l h in
        ap (private_of s) e ∙ k.private ∙ ap (private_of u) (sym (ap (λ (x : Row). x.acronym) (sym (own_row m a firm s u k l h)) ∙ e))

    pub enter_refusal : (t : Ticket) → has a s t.login ≡ true → refusal s (Enter t) ≡ refusal u (Enter t)
    enter_refusal t h = ap₃ (enter_by t) (own_row m a firm s u k t.login h) k.valued (same_hold t.login h)

    same_asked : (t : Ticket) → has a s t.login ≡ true → asked s t ≡ asked u t
    same_asked t h = ap (λ (r : Row). record { acronym = r.acronym; role = r.role; ticket = t }) (own_row m a firm s u k t.login h)

    pub same_verdict : (t : Ticket) → has a s t.login ≡ true → verdict s t ≡ verdict u t
    same_verdict t h = ap₂ verdict_of (ap₃ m.judged (same_asked t h) k.public (same_private t.login h)) rests
      where
        rests : rest_refusal s.book (entry_of t) ≡ rest_refusal u.book (entry_of t)
        rests = ap₂ (λ (b : Bool) (n : ℕ). first_of ((b, InUse) ∷ (leb 16 n, Allotment) ∷ []))
            (own_any m a firm s u k (is_for t.login t.number)
            (λ e w. ap (λ (i : ℕ). has a s i) (eqb-true e.login t.login (and_parts _ _ w).0) ∙ h))
            (own_counts m a firm s u k (λ o. eqb o.login t.login) (λ e w. ap (λ (i : ℕ). has a s i) (eqb-true e.login t.login w) ∙ h))

  pub alike_enter : (s u : State m) (t : Ticket) (v : Verdict) → Alike m a s u → Whole m s → Whole m u → is_open (row s t.login) ≡ true
      → has a s t.login ≡ true → Alike m a (verdict_leaves t s v) (verdict_leaves t u v)
  alike_enter s u t (turned n) k ws wu o h =
      subst (λ (x : Asked). Alike m a (verdict_leaves t s (turned n)) (noticed t.login (TurnedDown x n) u)) (same_asked s u k t h)
      (alike_noticed s u t.login (TurnedDown (asked s t) n) k ws wu (of_a s u k t.login h) o h)
  alike_enter s u t (cannot_rest x) k ws wu o h = k
  alike_enter s u t rests k ws wu o h =
      let ou : is_open (row u t.login) ≡ true = ap is_open (sym (own_row m a firm s u k t.login h)) ∙ o in
      subst (λ (x : Asked). Alike m a (verdict_leaves t s rests) (noticed t.login (Entered x) (with_entry t u))) (same_asked s u k t h)
      (alike_noticed (with_entry t s) (with_entry t u) t.login (Entered (asked s t)) (alike_rest s u k t h)
      (record { sound = sound_rest m s t o ws.sound; eight = ws.eight; idle = ws.idle })
      (record { sound = sound_rest m u t ou wu.sound; eight = wu.eight; idle = wu.idle }) (of_a s u k t.login h) o h)

  same_entered : (s u : State m) (t : Ticket) (v : Verdict) → Alike m a s u → has a s t.login ≡ true → verdict_answer t s v ≡ verdict_answer t u v
  same_entered s u t (turned n) k h =
      ap (answer.TurnedDown n)
      (same_effect s u k t.login (TurnedDown (asked s t) n) (of_a s u k t.login h) h
      ∙ ap (λ (x : Asked). effect_of t.login (TurnedDown x n) u) (same_asked s u k t h))
  same_entered s u t (cannot_rest x) k h = refl
  same_entered s u t rests k h =
      ap answer.Accepted
      (same_effect (with_entry t s) (with_entry t u) (alike_rest s u k t h) t.login (Entered (asked s t)) (of_a s u k t.login h) h
      ∙ ap (λ (x : Asked). effect_of t.login (Entered x) (with_entry t u)) (same_asked s u k t h))

  pub same_reply : (s u : State m) (t : Ticket) (o : Option Refusal) → Alike m a s u → has a s t.login ≡ true → enter_reply t s o ≡ enter_reply t u o
  same_reply s u t None k h = same_entered s u t (verdict s t) k h ∙ ap (verdict_answer t u) (same_verdict s u k t h)
  same_reply s u t (Some x) k h =
      ap₂ (λ (p q : ℕ). answer.Refused x (cond (eqb (number x) 21) (record { login = p; acronym = q }) no_cause))
      (ap (λ (r : Row). r.hold) (own_row m a firm s u k t.login h)) (same_hold s u k t.login h)
