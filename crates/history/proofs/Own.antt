-- A call of an acronym is answered alike by gates that are alike to it, and leaves them alike. Assumes nothing.
use Rattle.std.proofs.Common.{◌≡◌, ℕ, ◌≤◌, Bool, true, false, cond, not, ◌&&◌, eqb, List, [], ◌∷◌, length, Some, None, Option, sym, refl, ap, ◌∙◌, subst, ap₂, ⊎_elim, arith}
use Rattle.std.specs.List.{AllByRecursion}
use Rattle.std.proofs.lemmas.Bool.{and_parts, eqb-true}
use Rattle.std.proofs.lemmas.Bool.Decides.{eqb_tells}
use Rattle.terms.specs.Answers.{first_of, given, unless}
use Rattle.terms.specs.Tables.{at, put}
use Rattle.terms.specs.declared.messages.Fill.{Fill}
use Rattle.terms.specs.declared.messages.LimitNumbers.{LimitNumbers}
use Rattle.terms.specs.declared.messages.Notice.TheVariants.{Closed, Limited, Released, Ticked, Valued}
use Rattle.terms.specs.declared.messages.ScopeNumber.TheVariants.{Acronym, Login}
use Rattle.terms.specs.declared.messages.ScopeNumber.{ScopeNumber}
use Rattle.terms.specs.declared.messages.Ticket.{Ticket}
use Rattle.terms.specs.declared.refusal.Refusal.TheVariants.{Field, NoOrder, NoSlip, NotOpen, SlipOut, WrongSlip}
use Rattle.terms.specs.declared.refusal.Refusal.{Refusal}
use Rattle.terms.specs.declared.values.ValueNumbers.{ValueNumbers}
use Rattle.terms.proofs.Tables.{all_map, all_weak, at_other, at_same, mixed}
use Rattle.market.specs.Book.{Entry, Slip, handed, in_reach, is_for, reaches, slip_of, taken_off, waiting_of, with_slips_of, without}
use Rattle.market.specs.Market.{younger}
use Rattle.market.proofs.Picked.{all_without}
use Rattle.market.proofs.Reaches.{reach_all, reach_own}
use Rattle.checks.specs.Meaning.{Meaning}
use Rattle.history.specs.Acts.{Act, Cancel, Enter, Kill, Limit, Open, PutBack, Receipt, Release, Retire, Take, Tick, Values, amount, entered, plain, taken}
use Rattle.history.specs.Calls.{done, first, in_kill, is_oldest, kill_cause, next, refusal, reply}
use Rattle.history.specs.Entering.{Verdict, enter_reply, verdict, verdict_leaves}
use Rattle.history.specs.Fields.{good_fill, good_kill, good_limit, good_login, good_number, good_scope}
use Rattle.history.specs.Part.{belongs, has, has_scope}
use Rattle.history.specs.Promises.{Firm}
use Rattle.history.specs.Scopes.{hold_scope, lift_scope, scope_acronym, shut}
use Rattle.history.specs.State.{Row, State, blank, first_cause, is_free, is_open, nothing_waits, receipted_row, retired_row, row, with_book, with_hold, with_out, with_row, with_time, with_values}
use Rattle.history.specs.Trips.{tell}
use Rattle.history.proofs.Accepted.{enter_ok, kill_ok, receipt_ok, release_ok, retire_ok, shut_ok, take_ok}
use Rattle.history.proofs.Alike.{Alike, alike_off, has_alike, mine, own_any, own_row, own_slips, own_totals}
use Rattle.history.proofs.AlikeMoves.{AsBefore, alike_held, alike_row, alike_told, same_before, shut_before}
use Rattle.history.proofs.Moving.{scope_book, scope_own}
use Rattle.history.proofs.OwnEntries.{alike_enter, enter_refusal, same_reply, same_verdict}
use Rattle.history.proofs.Rows.{open_leaving}
use Rattle.history.proofs.Sound.{OpenIn, Sound, open_in, shut_book, table_drop}
use Rattle.history.proofs.Soundness.{sound_off}
use Rattle.history.proofs.Whole.{Whole}

abbrev pub is_public : Act → Bool
is_public (Tick t) = true
is_public (Values series v) = true
is_public (Open l a role reach) = true
is_public (Retire l) = false
is_public (Limit x) = false
is_public (Enter t) = false
is_public (Cancel l n) = false
is_public (Take l) = false
is_public (Receipt f) = false
is_public (PutBack f) = false
is_public (Kill scope reach block) = false
is_public (Release scope) = false

module _ (m : Meaning) (a : ℕ) (firm : Firm a) where
  alike_unless : (o : Option Refusal) (s u d d' : State m) → Alike m a s u → (o ≡ None → Alike m a d d') → Alike m a (unless o s d) (unless o u d')
  alike_unless None s u d d' k h = h refl
  alike_unless (Some x) s u d d' k h = k

  pub record Both (s u : State m) (c : Act) : Type 0 where
    pub answers : reply s c ≡ reply u c
    pub states : Alike m a (next s c) (next u c)

  by_refusal : (s u : State m) (c : Act) → Alike m a s u → refusal s c ≡ refusal u c
      → (refusal s c ≡ None → Alike m a (done s c) (done u c)) → Alike m a (next s c) (next u c)
  by_refusal s u c k e h = subst (λ (o : Option Refusal). Alike m a (next s c) (unless o u (done u c))) e
      (alike_unless (refusal s c) s u (done s c) (done u c) k h)

  -- nothing of a login rests once all of it is swept
  pub swept_before : (s : State m) (l : ℕ) (r : Row) → Sound m s → 1 ≤ l → l ≤ 24
      → AsBefore m a firm (with_book (taken_off (in_reach l 3) s.book) s) l r
  swept_before s l r k low high =
      all_map (AllByRecursion (OpenIn s.rows)) (AllByRecursion (λ e. mine m a (with_row l r s) e ≡ mine m a s e)) (without (in_reach l 3)) s.book.resting
      (λ es x. all_weak (λ e. OpenIn s.rows e × (in_reach l 3 e ≡ false)) (λ e. mine m a (with_row l r s) e ≡ mine m a s e)
      (without (in_reach l 3) es)
      (λ e y. ap (λ (z : Row). eqb z.acronym a)
      (at_other blank s.rows l e.login r low (omega (arith, k.table.rows24)) (reach_all l e y.1)))
      (all_without (OpenIn s.rows) (in_reach l 3) es x)) k.table.rests

  alike_slips : (s u : State m) (l : ℕ) (ss : List Slip) → Sound m s → Sound m u → 1 ≤ l → l ≤ 24 → Alike m a s u
      → Alike m a (with_book (with_slips_of s.book l ss) s) (with_book (with_slips_of u.book l ss) u)
  alike_slips s u l ss ks ku low high k =
      record {
        time = k.time;
        valued = k.valued;
        rows = k.rows;
        hold = k.hold;
        public = k.public;
        private = k.private;
        entries = k.entries;
        slips = λ i. ⊎_elim
            (λ p. ap (λ (x : List Slip). cond (has a s i) x [])
            (at_same [] s.book.slips l i ss low (omega (arith, ks.table.slips24)) p.1)
            ∙ ap (λ b. cond b ss []) (has_alike m a firm s u k i)
            ∙ sym (ap (λ (x : List Slip). cond (has a u i) x [])
            (at_same [] u.book.slips l i ss low (omega (arith, ku.table.slips24)) p.1)))
            (λ p. ap (λ (x : List Slip). cond (has a s i) x [])
            (at_other [] s.book.slips l i ss low (omega (arith, ks.table.slips24)) p.0) ∙ k.slips i
            ∙ sym (ap (λ (x : List Slip). cond (has a u i) x [])
            (at_other [] u.book.slips l i ss low (omega (arith, ku.table.slips24)) p.0)))
            (eqb_tells l i);
      }

  -- a's row becomes f of what it was, of the same acronym
  alike_kept : (s u : State m) (l : ℕ) (f : Row → Row) → ((r : Row) → (f r).acronym ≡ r.acronym) → Sound m s → Sound m u → 1 ≤ l → l ≤ 24
      → has a s l ≡ true → Alike m a s u → Alike m a (with_row l (f (row s l)) s) (with_row l (f (row u l)) u)
  alike_kept s u l f same ks ku low high h k =
      let rl = own_row m a firm s u k l h in
      subst (λ (x : Row). Alike m a (with_row l (f (row s l)) s) (with_row l (f x) u)) rl
      (alike_row m a firm s u l (f (row s l)) ks ku low high (same_before m a firm s l _ ks low high (same (row s l)))
      (same_before m a firm u l _ ku low high (same (row s l) ∙ ap (λ (x : Row). x.acronym) rl))
      (ap (λ (x : List Slip). cond (eqb (f (row s l)).acronym a) x []) (own_slips m a firm s u k l h)) k)

  alike_hold_scope : (s u : State m) (scope : ScopeNumber) (n : ℕ) → Sound m s → Sound m u → shut s scope ≡ false
      → has_scope a s scope ≡ true → Alike m a s u → Alike m a (hold_scope scope n s) (hold_scope scope n u)
  alike_hold_scope s u (Login l) n ks ku op h k =
      let b = open_in s.rows l ks.table (shut_ok m s l op) in
      alike_kept s u l (λ r. with_hold (first_cause r.hold n) r) (λ r. refl) ks ku b.0 b.1 h k
  alike_hold_scope s u (Acronym b) n ks ku op h k =
      let e = eqb-true b a h in
      subst (λ (x : ℕ). Alike m a (hold_scope (Acronym x) n s) (hold_scope (Acronym x) n u)) (sym e)
      (alike_held m a firm s u _ _ ks ku (ap (λ (x : ℕ). first_cause x n) k.hold) k)

  alike_lift_scope : (s u : State m) (scope : ScopeNumber) → Sound m s → Sound m u → shut s scope ≡ false → has_scope a s scope ≡ true
      → Alike m a s u → Alike m a (lift_scope scope s) (lift_scope scope u)
  alike_lift_scope s u (Login l) ks ku op h k =
      let b = open_in s.rows l ks.table (shut_ok m s l op) in
      alike_kept s u l (λ r. with_hold 0 r) (λ r. refl) ks ku b.0 b.1 h k
  alike_lift_scope s u (Acronym b) ks ku op h k =
      let e = eqb-true b a h in
      subst (λ (x : ℕ). Alike m a (lift_scope (Acronym x) s) (lift_scope (Acronym x) u)) (sym e) (alike_held m a firm s u 0 0 ks ku refl k)

  same_shut : (s u : State m) (scope : ScopeNumber) → Alike m a s u → has_scope a s scope ≡ true → shut s scope ≡ shut u scope
  same_shut s u (Login l) k h = ap (λ (r : Row). not (is_open r)) (own_row m a firm s u k l h)
  same_shut s u (Acronym b) k h = refl

  same_named : (s u : State m) (scope : ScopeNumber) → Alike m a s u → has_scope a s scope ≡ true → scope_acronym s scope ≡ scope_acronym u scope
  same_named s u (Login l) k h = ap (λ (r : Row). r.acronym) (own_row m a firm s u k l h)
  same_named s u (Acronym b) k h = refl

  scope_same : (s u : State m) (scope : ScopeNumber) → Alike m a s u → has_scope a s scope ≡ has_scope a u scope
  scope_same s u (Login l) k = has_alike m a firm s u k l
  scope_same s u (Acronym b) k = refl

  kill_agree : (s u : State m) (scope : ScopeNumber) (reach : ℕ) → Alike m a s u → (e : Entry) → mine m a s e ≡ true
      → in_kill s scope reach e ≡ in_kill u scope reach e
  kill_agree s u (Login l) reach k e w = ap (λ (r : Row). (is_open r && reaches reach e.kind) && eqb e.login l)
      (own_row m a firm s u k e.login w)
  kill_agree s u (Acronym b) reach k e w = ap (λ (r : Row). (is_open r && reaches reach e.kind) && eqb r.acronym b)
      (own_row m a firm s u k e.login w)

  slip_refusal : (s u : State m) (f : Fill) → Alike m a s u → has a s f.login ≡ true → refusal s (Receipt f) ≡ refusal u (Receipt f)
  slip_refusal s u f k h =
      ap₂ (λ (r : Row) (ss : List Slip). first_of
      ((not (good_fill f), Field) ∷ (is_free r, NotOpen) ∷ (not (r.out && is_oldest (slip_of f) ss), WrongSlip) ∷ []))
      (own_row m a firm s u k f.login h) (own_slips m a firm s u k f.login h)

  module _ (s u : State m) (k : Alike m a s u) (ws : Whole m s) (wu : Whole m u) where
    own_retire : (l : ℕ) → has a s l ≡ true → Both s u (Retire l)
    own_retire l h =
        let rl = own_row m a firm s u k l h in
        let ref : refusal s (Retire l) ≡ refusal u (Retire l) = ap
        (λ (r : Row). first_of ((not (good_login l), Field) ∷ (not (is_open r), NotOpen) ∷ [])) rl in
        let q = in_reach l 3 in
        let own : (v : State m) → has a v l ≡ true → (e : Entry) → q e ≡ true
        → mine m a v e ≡ true = λ v g e w. ap (λ (i : ℕ). has a v i) (reach_own l 3 e w) ∙ g in
        record {
          answers = ap₂ (λ (o : Option Refusal) (n : ℕ). amount (given o n)) ref
              (own_totals m a firm s u k q q (own s h) (λ e w. refl) (own u (sym (has_alike m a firm s u k l) ∙ h)));
          states = by_refusal s u (Retire l) k ref (λ e.
              let b = open_in s.rows l ws.sound.table (retire_ok m s l e) in
              let s1 = with_book (taken_off q s.book) s in
              let u1 = with_book (taken_off q u.book) u in
              let r = retired_row (waiting_of s.book l) (row s l) in
              let r' = retired_row (waiting_of u.book l) (row u l) in
              let er : r ≡ r' = ap₂ retired_row (own_slips m a firm s u k l h) rl in
              let k1 = alike_off m a firm s u k q q (λ e w. refl) in
              let k2 = alike_row m a firm s1 u1 l r (sound_off m s q ws.sound) (sound_off m u q wu.sound) b.0 b.1
              (swept_before s l r ws.sound b.0 b.1) (swept_before u l r wu.sound b.0 b.1)
              (ap (λ (x : List Slip). cond (eqb r.acronym a) x []) (own_slips m a firm s u k l h)) k1 in
              let k3 = alike_told m a firm (with_row l r s1) (with_row l r u1) (Closed (row s l).acronym l) ws.eight wu.eight k2 in
              subst (λ (x : Row). Alike m a (done s (Retire l)) (tell (Closed (row u l).acronym l) (with_row l x u1))) er
              (subst (λ (x : Row). Alike m a (done s (Retire l)) (tell (Closed x.acronym l) (with_row l r u1))) rl k3));
        }

    own_limit : (x : LimitNumbers) → has_scope a s x.scope ≡ true → Both s u (Limit x)
    own_limit x h =
        let ref : refusal s (Limit x) ≡ refusal u (Limit x) = ap (λ b. first_of ((not (good_limit x), Field) ∷ (b, NotOpen) ∷ []))
        (same_shut s u x.scope k h) in
        record {
          answers = ap (λ (o : Option Refusal). plain (given o tt)) ref;
          states = by_refusal s u (Limit x) k ref
              (λ e. subst (λ (n : ℕ). Alike m a (done s (Limit x)) (tell (Limited n x) u)) (same_named s u x.scope k h)
              (alike_told m a firm s u (Limited (scope_acronym s x.scope) x) ws.eight wu.eight k));
        }

    own_enter : (t : Ticket) → has a s t.login ≡ true → Both s u (Enter t)
    own_enter t h =
        let ref = enter_refusal m a firm s u k t h in
        record {
          answers = ap entered (same_reply m a firm s u t (refusal s (Enter t)) k h ∙ ap (enter_reply t u) ref);
          states = by_refusal s u (Enter t) k ref
              (λ e. subst (λ (v : Verdict). Alike m a (done s (Enter t)) (verdict_leaves t u v)) (same_verdict m a firm s u k t h)
              (alike_enter m a firm s u t (verdict s t) k ws wu (enter_ok m s t e).open_is h));
        }

    own_cancel : (l n : ℕ) → has a s l ≡ true → Both s u (Cancel l n)
    own_cancel l n h =
        let q = is_for l n in
        let own : (v : State m) → has a v l ≡ true → (e : Entry) → q e ≡ true
        → mine m a v e ≡ true = λ v g e w. ap (λ (i : ℕ). has a v i) (eqb-true e.login l (and_parts _ _ w).0) ∙ g in
        let ref : refusal s (Cancel l n) ≡ refusal u (Cancel l n) = ap₂
        (λ (r : Row) (b : Bool). first_of
        ((not (good_login l && good_number n), Field) ∷ (not (is_open r), NotOpen) ∷ (not b, NoOrder) ∷ [])) (own_row m a firm s u k l h)
        (own_any m a firm s u k q (own s h)) in
        record {
          answers = ap₂ (λ (o : Option Refusal) (x : ℕ). amount (given o x)) ref
              (own_totals m a firm s u k q q (own s h) (λ e w. refl) (own u (sym (has_alike m a firm s u k l) ∙ h)));
          states = by_refusal s u (Cancel l n) k ref (λ e. alike_off m a firm s u k q q (λ e w. refl));
        }

    own_take : (l : ℕ) → has a s l ≡ true → Both s u (Take l)
    own_take l h =
        let ref : refusal s (Take l) ≡ refusal u (Take l) = ap₂
        (λ (r : Row) (ss : List Slip). first_of
        ((not (good_login l), Field) ∷ (is_free r, NotOpen) ∷ (nothing_waits ss, NoSlip) ∷ (r.out, SlipOut) ∷ []))
        (own_row m a firm s u k l h) (own_slips m a firm s u k l h) in
        record {
          answers = ap₂ (λ (o : Option Refusal) (ss : List Slip). taken (given o (handed l (first ss)))) ref (own_slips m a firm s u k l h);
          states = by_refusal s u (Take l) k ref
              (λ e. let f = take_ok m s l e in alike_kept s u l (with_out true) (λ r. refl) ws.sound wu.sound f.0 f.1 h k);
        }

    own_putback : (f : Fill) → has a s f.login ≡ true → Both s u (PutBack f)
    own_putback f h =
        let ref = slip_refusal s u f k h in
        record {
          answers = ap (λ (o : Option Refusal). plain (given o tt)) ref;
          states = by_refusal s u (PutBack f) k ref
              (λ e. let g = receipt_ok m s f e in
              alike_kept s u f.login (with_out false) (λ r. refl) ws.sound wu.sound g.login_low g.login_high h k);
        }

    own_kill : (scope : ScopeNumber) (reach block : ℕ) → has_scope a s scope ≡ true → Both s u (Kill scope reach block)
    own_kill scope reach block h =
        let ref : refusal s (Kill scope reach block) ≡ refusal u (Kill scope reach block) = ap
        (λ b. first_of ((not (good_kill scope reach block), Field) ∷ (b, NotOpen) ∷ [])) (same_shut s u scope k h) in
        let q = in_kill s scope reach in
        let r = in_kill u scope reach in
        let hu : has_scope a u scope ≡ true = sym (scope_same s u scope k) ∙ h in
        record {
          answers = ap₂ (λ (o : Option Refusal) (x : ℕ). amount (given o x)) ref
              (own_totals m a firm s u k q r (λ e w. scope_own m a s scope e (and_parts _ _ w).1 ∙ h) (kill_agree s u scope reach k)
              (λ e w. scope_own m a u scope e (and_parts _ _ w).1 ∙ hu));
          states = by_refusal s u (Kill scope reach block) k ref (λ e.
              let f = kill_ok m s scope reach block e in
              alike_hold_scope (with_book (taken_off q s.book) s) (with_book (taken_off r u.book) u) scope (kill_cause block)
              (sound_off m s q ws.sound) (sound_off m u r wu.sound)
              (shut_book m s (taken_off (in_kill s scope reach) s.book) scope ∙ f.1)
              (scope_book m a s (taken_off (in_kill s scope reach) s.book) scope ∙ h)
              (alike_off m a firm s u k q r (kill_agree s u scope reach k)));
        }

    own_release : (scope : ScopeNumber) → has_scope a s scope ≡ true → Both s u (Release scope)
    own_release scope h =
        let ref : refusal s (Release scope) ≡ refusal u (Release scope) = ap
        (λ b. first_of ((not (good_scope scope), Field) ∷ (b, NotOpen) ∷ [])) (same_shut s u scope k h) in
        record {
          answers = ap (λ (o : Option Refusal). plain (given o tt)) ref;
          states = by_refusal s u (Release scope) k ref (λ e.
              let f = release_ok m s scope e in
              subst (λ (n : ℕ). Alike m a (done s (Release scope)) (tell (Released n scope) (lift_scope scope u))) (same_named s u scope k h)
              (alike_told m a firm (lift_scope scope s) (lift_scope scope u) (Released (scope_acronym s scope) scope) (eight s ws scope)
              (eight u wu scope) (alike_lift_scope s u scope ws.sound wu.sound f.1 h k)));
        }
      where
        eight : (v : State m) → Whole m v → (x : ScopeNumber) → length (lift_scope x v).private ≡ 8
        eight v w (Login l) = w.eight
        eight v w (Acronym b) = w.eight

    own_receipt : (f : Fill) → has a s f.login ≡ true → Both s u (Receipt f)
    own_receipt f h =
        let ref = slip_refusal s u f k h in
        let l = f.login in
        let rl = own_row m a firm s u k l h in
        let sl = own_slips m a firm s u k l h in
        let ss = younger (waiting_of s.book l) in
        let ss' = younger (waiting_of u.book l) in
        let es : ss ≡ ss' = ap younger sl in
        record {
          answers = ap (λ (o : Option Refusal). plain (given o tt)) ref;
          states = by_refusal s u (Receipt f) k ref (λ e.
              let g = receipt_ok m s f e in
              let low = g.login_low in
              let high = g.login_high in
              let nf : is_free (row u l) ≡ false = ap is_free (sym rl) ∙ g.not_free in
              let drop_s : (v : State m) → List Slip → State m = λ v x. with_book (with_slips_of v.book l x) v in
              let ks1 : Sound m (drop_s s ss) = record
              { table = table_drop ws.sound.table l ss low high g.not_free; holds8 = ws.sound.holds8; valued16 = ws.sound.valued16 } in
              let ku1 : Sound m (drop_s u ss) = record
              { table = table_drop wu.sound.table l ss low high nf; holds8 = wu.sound.holds8; valued16 = wu.sound.valued16 } in
              let k1 = alike_slips s u l ss ws.sound wu.sound low high k in
              let here : at [] (put s.book.slips l ss) l ≡ ss = at_same [] s.book.slips l l ss low
              (omega (arith, high, ws.sound.table.slips24)) refl in
              let hereu : at [] (put u.book.slips l ss) l ≡ ss = at_same [] u.book.slips l l ss low
              (omega (arith, high, wu.sound.table.slips24)) refl in
              let r = receipted_row ss (row s l) in
              let k2 : Alike m a (with_row l r (drop_s s ss)) (with_row l r (drop_s u ss)) = alike_row m a firm (drop_s s ss)
              (drop_s u ss) l r ks1 ku1 low high (before (drop_s s ss) l ss ks1 low high)
              (subst (λ (x : Row). AsBefore m a firm (drop_s u ss) l (receipted_row ss x)) (sym rl)
              (before (drop_s u ss) l ss ku1 low high)) (ap (λ (x : List Slip). cond (eqb r.acronym a) x []) (here ∙ sym hereu)) k1 in
              let left : receipted_row (at [] (put s.book.slips l ss) l) (row s l) ≡ r = ap (λ (x : List Slip). receipted_row x (row s l)) here in
              let right : r ≡ receipted_row (at [] (put u.book.slips l ss) l) (row u l) = ap₂ receipted_row (sym hereu) rl in
              let k3 = subst (λ (x : Row). Alike m a (with_row l x (drop_s s ss)) (with_row l r (drop_s u ss))) (sym left) k2 in
              let k4 = subst (λ (x : Row). Alike m a (done s (Receipt f)) (with_row l x (drop_s u ss))) right k3 in
              subst (λ (x : List Slip). Alike m a (done s (Receipt f))
              (with_row l (receipted_row (at [] (put u.book.slips l x) l) (row u l)) (drop_s u x))) es k4);
        }
      where
        before : (v : State m) (l : ℕ) (ss : List Slip) → Sound m v → 1 ≤ l → l ≤ 24 → AsBefore m a firm v l (receipted_row ss (row v l))
        before v l ss kv low high = go (is_open (row v l)) refl
          where
            go : (b : Bool) → is_open (row v l) ≡ b → AsBefore m a firm v l (receipted_row ss (row v l))
            go true o = same_before m a firm v l _ kv low high (let q = open_leaving (row v l) o in rw q)
            go false o = shut_before m a firm v l _ kv low high o

    -- every call of a but ticks, values and opens
    pub owned : (c : Act) → belongs a s (reply s c) c ≡ true → is_public c ≡ false → Both s u c
    owned (Tick t) h p = mixed _ p
    owned (Values series v) h p = mixed _ p
    owned (Open l b role reach) h p = mixed _ p
    owned (Retire l) h p = own_retire l h
    owned (Limit x) h p = own_limit x h
    owned (Enter t) h p = own_enter t h
    owned (Cancel l n) h p = own_cancel l n h
    owned (Take l) h p = own_take l h
    owned (Receipt f) h p = own_receipt f h
    owned (PutBack f) h p = own_putback f h
    owned (Kill scope reach block) h p = own_kill scope reach block h
    owned (Release scope) h p = own_release scope h

    -- accepted ticks and values
    pub own_tick : (t : ℕ) → Alike m a (done s (Tick t)) (done u (Tick t))
    own_tick t = alike_told m a firm (with_time t s) (with_time t u) (Ticked t) ws.eight wu.eight
        (record { time = refl; valued = k.valued; rows = k.rows; hold = k.hold; public = k.public; private = k.private; slips = k.slips; entries = k.entries })

    pub own_values : (series : ℕ) (v : ValueNumbers) → Alike m a (done s (Values series v)) (done u (Values series v))
    own_values series v = alike_told m a firm (with_values series s) (with_values series u) (Valued series v) ws.eight wu.eight
        (record {
          time = k.time;
          valued = ap (λ (x : List Bool). put x series true)
              k.valued;
          rows = k.rows;
          hold = k.hold;
          public = k.public;
          private = k.private;
          slips = k.slips;
          entries = k.entries;
        })
