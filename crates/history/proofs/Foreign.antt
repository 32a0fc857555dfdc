-- A call that is not an acronym's changes nothing that it sees. Assumes nothing.
use Rattle.std.proofs.Common.{◌≡◌, ℕ, ◌≤◌, Bool, true, false, cond, ◌&&◌, ◌||◌, eqb, List, [], ◌∷◌, ◌++◌, length, None, Option, sym, refl, ap, ◌∙◌, ⊎_elim, append-nil, arith}
use Rattle.std.proofs.lemmas.Bool.{and_parts, eqb-true}
use Rattle.std.proofs.lemmas.Bool.Decides.{eqb_tells}
use Rattle.terms.specs.Answers.{given, is_ok}
use Rattle.terms.specs.Tables.{at, put}
use Rattle.terms.specs.declared.messages.Notice.TheVariants.{Closed, Entered, Limited, Opened, Released}
use Rattle.terms.specs.declared.messages.Notice.{Notice}
use Rattle.terms.specs.declared.messages.ScopeNumber.TheVariants.{Acronym, Login}
use Rattle.terms.specs.declared.messages.ScopeNumber.{ScopeNumber}
use Rattle.terms.specs.declared.messages.Ticket.{Ticket}
use Rattle.terms.specs.declared.refusal.Refusal.{Refusal}
use Rattle.terms.proofs.Answers.{inside, unless_case}
use Rattle.terms.proofs.Tables.{at_other, mixed, put_same}
use Rattle.market.specs.Book.{Entry, Slip, in_reach, is_for, taken_off, waiting_of, with_slips_of}
use Rattle.market.specs.Market.{dropped, younger}
use Rattle.market.proofs.Picked.{only, onlys_rest}
use Rattle.market.proofs.Reaches.{reach_own}
use Rattle.checks.specs.Meaning.{Meaning, for_all, whose}
use Rattle.history.specs.Acts.{Act, Cancel, Enter, Kill, Limit, Open, PutBack, Receipt, Release, Retire, Take, Tick, Values}
use Rattle.history.specs.Calls.{done, in_kill, next, refusal, reply}
use Rattle.history.specs.Entering.{Verdict, asked, cannot_rest, entry_of, rests, turned, verdict, verdict_leaves, with_entry}
use Rattle.history.specs.Fields.{good_scope}
use Rattle.history.specs.Part.{belongs, has, has_scope}
use Rattle.history.specs.Promises.{Firm}
use Rattle.history.specs.Scopes.{hold_scope, lift_scope, scope_acronym, shut}
use Rattle.history.specs.State.{Row, State, blank, first_cause, is_leaving, is_open, nothing_waits, opened, receipted_row, retired_row, row, with_book, with_hold, with_out, with_row}
use Rattle.history.specs.Trips.{causes_of, in_trip, noticed, tell}
use Rattle.history.proofs.Accepted.{enter_ok, kill_ok, open_ok, receipt_ok, release_ok, retire_ok, shut_ok, take_ok}
use Rattle.history.proofs.Alike.{Alike, alike_refl, alike_trans, mine, not_nobody, seen_entries, unlike_off}
use Rattle.history.proofs.AlikeMoves.{equal_before, same_before, unlike_held, unlike_row, unlike_told}
use Rattle.history.proofs.Moving.{scope_book, scope_own, trip_own}
use Rattle.history.proofs.Rows.{open_free}
use Rattle.history.proofs.Sound.{Sound, open_in, shut_book, table_drop}
use Rattle.history.proofs.Soundness.{sound_held, sound_off, sound_rest, sound_told}
use Rattle.history.proofs.Whole.{Whole}

module _ (m : Meaning) (a : ℕ) (firm : Firm a) where
  -- a trip of another's login
  pub unlike_noticed :
      (s : State m) (l : ℕ) (n : Notice) → Whole m s → is_open (row s l) ≡ true → has a s l ≡ false → (for_all n || eqb (whose n) a) ≡ false
      → Alike m a s (noticed l n s)
  unlike_noticed s l n w o h other =
      let s0 = tell n s in
      let c = causes_of n s in
      let q = in_trip s0 l c in
      let s1 = with_book (taken_off q s0.book) s0 in
      let r = with_hold (first_cause (row s l).hold c.login) (row s l) in
      let k0 = sound_told m s n w.sound in
      let k1 = sound_off m s0 q k0 in
      let s2 = with_row l r s1 in
      let k2 = sound_held m s1 (Login l) c.login (rw o) k1 in
      let b = open_in s.rows l w.sound.table o in
      alike_trans m a s s0 _ (unlike_told m a firm s n w.eight other)
      (alike_trans m a s0 s1 _ (unlike_off m a firm s0 q (λ e x. trip_own m a s0 l c e x ∙ h))
      (alike_trans m a s1 s2 _ (unlike_row m a firm s1 l r k1 b.0 b.1 (same_before m a firm s1 l r k1 b.0 b.1 refl) h h)
      (unlike_held m a firm s2 (row s l).acronym _ k2 (w.sound.table.real l (open_free (row s l) o)) h)))

  -- an entry of another rests
  unlike_rest : (s : State m) (t : Ticket) → has a s t.login ≡ false → Alike m a s (with_entry t s)
  unlike_rest s t h =
      record {
        time = refl;
        valued = refl;
        rows = λ l. refl;
        hold = refl;
        public = refl;
        private = refl;
        slips = λ l. refl;
        entries = sym (onlys_rest (mine m a s) s.book.resting t.series (entry_of t) ∙ gone (seen_entries m a s));
      }
    where
      gone : (E : List (List Entry)) → put E t.series (at [] E t.series ++ only (mine m a s) (entry_of t ∷ [])) ≡ E
      gone E = rw h (ap (put E t.series) (append-nil (at [] E t.series)) ∙ put_same [] E t.series)

  -- slips of another
  pub unlike_slips : (s : State m) (l : ℕ) (ss : List Slip) → Sound m s → 1 ≤ l → l ≤ 24 → has a s l ≡ false
      → Alike m a s (with_book (with_slips_of s.book l ss) s)
  unlike_slips s l ss k low high h =
      record {
        time = refl;
        valued = refl;
        rows = λ l. refl;
        hold = refl;
        public = refl;
        private = refl;
        entries = refl;
        slips = λ i. ⊎_elim
            (λ p. let q : has a s i ≡ false = ap (λ (j : ℕ). has a s j) (sym p.1) ∙ h in rw q)
            (λ p. ap (λ (x : List Slip). cond (has a s i) x [])
            (sym (at_other [] s.book.slips l i ss low (omega (arith, k.table.slips24)) p.0)))
            (eqb_tells l i);
      }

  retired_other : (ss : List Slip) (r : Row) → eqb 0 a ≡ false → eqb r.acronym a ≡ false → eqb (retired_row ss r).acronym a ≡ false
  retired_other [] r z h = z
  retired_other (s ∷ ss) r z h = h

  receipted_other : (ss : List Slip) (r : Row) → eqb 0 a ≡ false → eqb r.acronym a ≡ false → eqb (receipted_row ss r).acronym a ≡ false
  receipted_other ss r z h = go (is_leaving r && nothing_waits ss)
    where
      go : (b : Bool) → eqb (cond b blank (with_out false r)).acronym a ≡ false
      go true = z
      go false = h

  unlike_enter : (s : State m) (t : Ticket) (v : Verdict) → Whole m s → is_open (row s t.login) ≡ true → has a s t.login ≡ false
      → Alike m a s (verdict_leaves t s v)
  unlike_enter s t (turned n) w o h = unlike_noticed s t.login _ w o h h
  unlike_enter s t (cannot_rest x) w o h = alike_refl m a s
  unlike_enter s t rests w o h =
      alike_trans m a s (with_entry t s) _ (unlike_rest s t h)
      (unlike_noticed (with_entry t s) t.login (Entered (asked s t))
      (record { sound = sound_rest m s t o w.sound; eight = w.eight; idle = w.idle }) o h h)

  -- a row of the same acronym, another's
  unlike_kept : (s : State m) (l : ℕ) (r : Row) → Sound m s → 1 ≤ l → l ≤ 24 → r.acronym ≡ (row s l).acronym → has a s l ≡ false
      → Alike m a s (with_row l r s)
  unlike_kept s l r k low high e h = unlike_row m a firm s l r k low high (same_before m a firm s l r k low high e) (ap (λ (n : ℕ). eqb n a) e ∙ h) h

  unlike_hold_scope : (s : State m) (scope : ScopeNumber) (n : ℕ) → Sound m s → good_scope scope ≡ true → shut s scope ≡ false
      → has_scope a s scope ≡ false → Alike m a s (hold_scope scope n s)
  unlike_hold_scope s (Login l) n k fine op h =
      let b = open_in s.rows l k.table (shut_ok m s l op) in
      unlike_kept s l _ k b.0 b.1 refl h
  unlike_hold_scope s (Acronym b) n k fine op h = unlike_held m a firm s b _ k (inside 1 8 b fine) h

  unlike_lift_scope : (s : State m) (scope : ScopeNumber) → Sound m s → good_scope scope ≡ true → shut s scope ≡ false
      → has_scope a s scope ≡ false → Alike m a s (lift_scope scope s)
  unlike_lift_scope s (Login l) k fine op h =
      let b = open_in s.rows l k.table (shut_ok m s l op) in
      unlike_kept s l _ k b.0 b.1 refl h
  unlike_lift_scope s (Acronym b) k fine op h = unlike_held m a firm s b _ k (inside 1 8 b fine) h

  scope_named : (s : State m) (scope : ScopeNumber) → eqb (scope_acronym s scope) a ≡ has_scope a s scope
  scope_named s (Login l) = refl
  scope_named s (Acronym b) = refl

  said_yes : (o : Option Refusal) → o ≡ None → is_ok {X = Unit {0}} (given o tt) ≡ true
  said_yes o e = ap (λ (x : Option Refusal). is_ok {X = Unit {0}} (given x tt)) e

  foreign_done : (s : State m) (c : Act) → Whole m s → refusal s c ≡ None → belongs a s (reply s c) c ≡ false → Alike m a s (done s c)
  foreign_done s (Tick t) w e h = mixed _ (sym (said_yes _ e) ∙ h)
  foreign_done s (Values series v) w e h = mixed _ (sym (said_yes _ e) ∙ h)
  foreign_done s (Open l b role reach) w e h =
      let f = open_ok m s l b role reach e in
      let other : eqb b a ≡ false = sym (ap (λ x. x && eqb b a) (said_yes _ e)) ∙ h in
      let was : has a s l ≡ false = ap (λ (n : ℕ). eqb n a) (w.idle l f.3) ∙ not_nobody m a firm in
      let r = opened b role reach in
      alike_trans m a s (with_row l r s) _
      (unlike_row m a firm s l r w.sound f.0 f.1 (equal_before m a firm s l r w.sound f.0 f.1 (other ∙ sym was)) other was)
      (unlike_told m a firm (with_row l r s) (Opened b l role reach) w.eight other)
  foreign_done s (Retire l) w e h =
      let o = retire_ok m s l e in
      let b = open_in s.rows l w.sound.table o in
      let q = in_reach l 3 in
      let s1 = with_book (taken_off q s.book) s in
      let k1 = sound_off m s q w.sound in
      let r = retired_row (waiting_of s.book l) (row s l) in
      let other = retired_other (waiting_of s.book l) (row s l) (not_nobody m a firm) h in
      alike_trans m a s s1 _ (unlike_off m a firm s q (λ x y. ap (λ (i : ℕ). has a s i) (reach_own l 3 x y) ∙ h))
      (alike_trans m a s1 (with_row l r s1) _
      (unlike_row m a firm s1 l r k1 b.0 b.1 (equal_before m a firm s1 l r k1 b.0 b.1 (other ∙ sym h)) other h)
      (unlike_told m a firm (with_row l r s1) (Closed (row s l).acronym l) w.eight h))
  foreign_done s (Limit x) w e h = unlike_told m a firm s (Limited (scope_acronym s x.scope) x) w.eight (scope_named s x.scope ∙ h)
  foreign_done s (Enter t) w e h = unlike_enter s t (verdict s t) w (enter_ok m s t e).open_is h
  foreign_done s (Cancel l n) w e h = unlike_off m a firm s (is_for l n)
      (λ x y. ap (λ (i : ℕ). has a s i) (eqb-true x.login l (and_parts _ _ y).0) ∙ h)
  foreign_done s (Take l) w e h = let f = take_ok m s l e in unlike_kept s l _ w.sound f.0 f.1 refl h
  foreign_done s (Receipt f) w e h =
      let g = receipt_ok m s f e in
      let l = f.login in
      let S = put s.book.slips l (younger (waiting_of s.book l)) in
      let s1 = with_book (dropped s.book l) s in
      let k1 : Sound m s1 = record {
        table = table_drop w.sound.table l _ g.login_low g.login_high
            g.not_free;
        holds8 = w.sound.holds8;
        valued16 = w.sound.valued16;
      } in
      let r = receipted_row (at [] S l) (row s l) in
      let other = receipted_other (at [] S l) (row s l) (not_nobody m a firm) h in
      alike_trans m a s s1 _ (unlike_slips s l _ w.sound g.login_low g.login_high h)
      (unlike_row m a firm s1 l r k1 g.login_low g.login_high
      (equal_before m a firm s1 l r k1 g.login_low g.login_high (other ∙ sym h)) other h)
  foreign_done s (PutBack f) w e h = let g = receipt_ok m s f e in unlike_kept s f.login _ w.sound g.login_low g.login_high refl h
  foreign_done s (Kill scope reach block) w e h =
      let f = kill_ok m s scope reach block e in
      let q = in_kill s scope reach in
      let s1 = with_book (taken_off q s.book) s in
      alike_trans m a s s1 _ (unlike_off m a firm s q (λ x y. scope_own m a s scope x (and_parts _ _ y).1 ∙ h))
      (unlike_hold_scope s1 scope _ (sound_off m s q w.sound) f.0
      (shut_book m s (taken_off (in_kill s scope reach) s.book) scope ∙ f.1)
      (scope_book m a s (taken_off (in_kill s scope reach) s.book) scope ∙ h))
  foreign_done s (Release scope) w e h =
      let f = release_ok m s scope e in
      alike_trans m a s (lift_scope scope s) _ (unlike_lift_scope s scope w.sound f.0 f.1 h)
      (unlike_told m a firm (lift_scope scope s) (Released (scope_acronym s scope) scope) (eight scope) (scope_named s scope ∙ h))
    where
      eight : (x : ScopeNumber) → length (lift_scope x s).private ≡ 8
      eight (Login l) = w.eight
      eight (Acronym b) = w.eight

  -- a call that is not a's changes nothing that a sees
  pub foreign : (s : State m) (c : Act) → Whole m s → belongs a s (reply s c) c ≡ false → Alike m a s (next s c)
  foreign s c w h = unless_case (Alike m a s) (refusal s c) s (done s c) (alike_refl m a s) (λ e. foreign_done s c w e h)
