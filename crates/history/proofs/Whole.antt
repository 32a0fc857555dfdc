-- Beside being sound, a gate has eight private records, and a free login is nobody's. Assumes nothing.
use Rattle.std.proofs.Common.{◌≡◌, ℕ, suc, ◌≤◌, Bool, true, false, cond, ◌&&◌, List, [], ◌∷◌, length, Some, None, Ok, Err, Option, Result, sym, refl, ap, ◌∙◌, ⊎_elim, arith}
use Rattle.std.proofs.lemmas.Bool.Decides.{eqb_tells}
use Rattle.terms.specs.Tables.{at, put}
use Rattle.terms.specs.declared.events.Struck.{Struck}
use Rattle.terms.specs.declared.messages.Notice.{Notice}
use Rattle.terms.specs.declared.messages.ScopeNumber.TheVariants.{Acronym, Login}
use Rattle.terms.specs.declared.messages.ScopeNumber.{ScopeNumber}
use Rattle.terms.specs.declared.messages.Ticket.{Ticket}
use Rattle.terms.specs.declared.refusal.Refusal.{Refusal}
use Rattle.terms.proofs.Answers.{unless_case}
use Rattle.terms.proofs.Tables.{at_other, at_same, mixed, same_all}
use Rattle.market.specs.Book.{Entry, Slip, is_for, taken_off, waiting_of}
use Rattle.market.specs.Market.{buy_side}
use Rattle.checks.specs.Meaning.{Meaning, told_each}
use Rattle.history.specs.Acts.{Act, Cancel, Enter, Kill, Limit, Moment, Open, PutBack, Receipt, Release, Retire, Take, Tick, Values, act, strike}
use Rattle.history.specs.Calls.{done, in_kill, next, refusal}
use Rattle.history.specs.Entering.{Verdict, cannot_rest, rests, turned, verdict, verdict_leaves, with_entry}
use Rattle.history.specs.Scopes.{hold_scope, lift_scope, shut}
use Rattle.history.specs.State.{Row, State, blank, is_free, is_leaving, is_open, new_gate, nothing_waits, opened, receipted_row, retired_row, row, with_book, with_out}
use Rattle.history.specs.Step.{Allowed, after}
use Rattle.history.specs.Strikes.{buyer_told, fill_notice, traded_state}
use Rattle.history.specs.Trips.{causes_of, in_trip, noticed, tell}
use Rattle.history.proofs.Accepted.{enter_ok, kill_ok, open_ok, receipt_ok, release_ok, retire_ok, shut_ok, take_ok}
use Rattle.history.proofs.Sound.{Sound, open_in, shut_book, sound_traded, traders_open, trip_row}
use Rattle.history.proofs.Soundness.{sound_done, sound_held, sound_lifted, sound_new, sound_off, sound_rest, sound_told}

pub told_length : (m : Meaning) (k : ℕ) (n : Notice) (p : m.Pub) (qs : List m.Priv) → length (told_each m k n p qs) ≡ length qs
told_length m k n p [] = refl
told_length m k n p (q ∷ qs) = ap suc (told_length m (suc k) n p qs)

module _ (m : Meaning) where
  -- the private records are eight, and a free row is nobody's
  pub record Whole (s : State m) : Type 0 where
    pub sound : Sound m s
    pub eight : length s.private ≡ 8
    pub idle : (l : ℕ) → is_free (row s l) ≡ true → (row s l).acronym ≡ 0

  pub idle_put :
      (s : State m) (l : ℕ) (r : Row) → Sound m s → 1 ≤ l → l ≤ 24 → ((i : ℕ) → is_free (row s i) ≡ true → (row s i).acronym ≡ 0)
      → (is_free r ≡ true → r.acronym ≡ 0) → (i : ℕ) → is_free (at blank (put s.rows l r) i) ≡ true → (at blank (put s.rows l r) i).acronym ≡ 0
  idle_put s l r k low high idle h i f = ⊎_elim
      (λ p. let e = at_same blank s.rows l i r low (omega (arith, k.table.rows24)) p.1 in
      ap (λ (x : Row). x.acronym) e ∙ h (sym (ap is_free e) ∙ f))
      (λ p. let e = at_other blank s.rows l i r low (omega (arith, k.table.rows24)) p.0 in
      ap (λ (x : Row). x.acronym) e ∙ idle i (sym (ap is_free e) ∙ f))
      (eqb_tells l i)

  pub whole_told : (s : State m) (n : Notice) → Whole s → Whole (tell n s)
  whole_told s n w = record { sound = sound_told m s n w.sound; eight = told_length m 1 n s.public s.private ∙ w.eight; idle = w.idle }

  pub whole_off : (s : State m) (q : Entry → Bool) → Whole s → Whole (with_book (taken_off q s.book) s)
  whole_off s q w = record { sound = sound_off m s q w.sound; eight = w.eight; idle = w.idle }

  pub whole_held : (s : State m) (scope : ScopeNumber) (n : ℕ) → shut s scope ≡ false → Whole s → Whole (hold_scope scope n s)
  whole_held s (Login l) n h w =
      let b = open_in s.rows l w.sound.table (shut_ok m s l h) in
      record {
        sound = sound_held m s (Login l) n h w.sound;
        eight = w.eight;
        idle = idle_put s l _ w.sound b.0 b.1 w.idle
            (w.idle l);
      }
  whole_held s (Acronym a) n h w = record { sound = sound_held m s (Acronym a) n h w.sound; eight = w.eight; idle = w.idle }

  whole_lifted : (s : State m) (scope : ScopeNumber) → shut s scope ≡ false → Whole s → Whole (lift_scope scope s)
  whole_lifted s (Login l) h w =
      let b = open_in s.rows l w.sound.table (shut_ok m s l h) in
      record {
        sound = sound_lifted m s (Login l) h w.sound;
        eight = w.eight;
        idle = idle_put s l _ w.sound b.0 b.1 w.idle
            (w.idle l);
      }
  whole_lifted s (Acronym a) h w = record { sound = sound_lifted m s (Acronym a) h w.sound; eight = w.eight; idle = w.idle }

  open_shut : (s : State m) (l : ℕ) → is_open (row s l) ≡ true → shut s (Login l) ≡ false
  open_shut s l o = rw o

  pub whole_noticed : (s : State m) (l : ℕ) (n : Notice) → is_open (row s l) ≡ true → Whole s → Whole (noticed l n s)
  whole_noticed s l n o w =
      let q = in_trip (tell n s) l (causes_of n s) in
      let w1 = whole_off (tell n s) q (whole_told s n w) in
      let s1 = with_book (taken_off q s.book) (tell n s) in
      whole_held (hold_scope (Login l) (causes_of n s).login s1) (Acronym (row s l).acronym) _ refl (whole_held s1 (Login l) _ (open_shut s1 l o) w1)

  whole_enter : (s : State m) (t : Ticket) (v : Verdict) → is_open (row s t.login) ≡ true → Whole s → Whole (verdict_leaves t s v)
  whole_enter s t (turned n) o w = whole_noticed s t.login _ o w
  whole_enter s t (cannot_rest x) o w = w
  whole_enter s t rests o w = whole_noticed (with_entry t s) t.login _ o
      (record { sound = sound_rest m s t o w.sound; eight = w.eight; idle = w.idle })

  retired_idle : (ss : List Slip) (r : Row) → is_free (retired_row ss r) ≡ true → (retired_row ss r).acronym ≡ 0
  retired_idle [] r e = refl
  retired_idle (s ∷ ss) r e = mixed _ (sym e)

  receipted_idle : (ss : List Slip) (r : Row) → is_free r ≡ false → is_free (receipted_row ss r) ≡ true → (receipted_row ss r).acronym ≡ 0
  receipted_idle ss r nf e = go (is_leaving r && nothing_waits ss) e
    where
      go : (b : Bool) → is_free (cond b blank (with_out false r)) ≡ true → (cond b blank (with_out false r)).acronym ≡ 0
      go true k = refl
      go false k = mixed _ (sym k ∙ nf)

  pub whole_done : (s : State m) (c : Act) → Whole s → refusal s c ≡ None → Whole (done s c)
  whole_done s (Tick t) w e = record
      { sound = sound_done m s (Tick t) w.sound e; eight = told_length m 1 _ s.public s.private ∙ w.eight; idle = w.idle }
  whole_done s (Values series v) w e = record
      { sound = sound_done m s (Values series v) w.sound e; eight = told_length m 1 _ s.public s.private ∙ w.eight; idle = w.idle }
  whole_done s (Open l a role reach) w e =
      let f = open_ok m s l a role reach e in
      record {
        sound = sound_done m s (Open l a role reach) w.sound e;
        eight = told_length m 1 _ s.public s.private
            ∙ w.eight;
        idle = idle_put s l (opened a role reach) w.sound f.0 f.1 w.idle (λ x. mixed _ (sym x));
      }
  whole_done s (Retire l) w e =
      let b = open_in s.rows l w.sound.table (retire_ok m s l e) in
      record {
        sound = sound_done m s (Retire l) w.sound e;
        eight = told_length m 1 _ s.public s.private
            ∙ w.eight;
        idle = idle_put s l _ w.sound b.0 b.1 w.idle (retired_idle (waiting_of s.book l) (row s l));
      }
  whole_done s (Limit x) w e = whole_told s _ w
  whole_done s (Enter t) w e = whole_enter s t (verdict s t) (enter_ok m s t e).open_is w
  whole_done s (Cancel l n) w e = whole_off s (is_for l n) w
  whole_done s (Take l) w e =
      let f = take_ok m s l e in
      record { sound = sound_done m s (Take l) w.sound e; eight = w.eight; idle = idle_put s l _ w.sound f.0 f.1 w.idle (w.idle l) }
  whole_done s (Receipt f) w e =
      let h = receipt_ok m s f e in
      record {
        sound = sound_done m s (Receipt f) w.sound e;
        eight = w.eight;
        idle = idle_put s f.login _ w.sound h.login_low
            h.login_high w.idle (receipted_idle _ (row s f.login) h.not_free);
      }
  whole_done s (PutBack f) w e =
      let h = receipt_ok m s f e in
      record {
        sound = sound_done m s (PutBack f) w.sound e;
        eight = w.eight;
        idle = idle_put s f.login _ w.sound h.login_low
            h.login_high w.idle (w.idle f.login);
      }
  whole_done s (Kill scope reach block) w e = whole_held (with_book (taken_off (in_kill s scope reach) s.book) s) scope _
      (shut_book m s (taken_off (in_kill s scope reach) s.book) scope ∙ (kill_ok m s scope reach block e).1) (whole_off s (in_kill s scope reach) w)
  whole_done s (Release scope) w e = whole_told (lift_scope scope s) _ (whole_lifted s scope (release_ok m s scope e).1 w)

  pub whole_next : (s : State m) (c : Act) → Whole s → Whole (next s c)
  whole_next s c w = unless_case Whole (refusal s c) s (done s c) w (whole_done s c w)

  pub whole_new : (p : m.Pub) (room : ℕ) → Whole (new_gate m p room)
  whole_new p room = record { sound = sound_new m p room; eight = refl; idle = λ l f. ap (λ (r : Row). r.acronym) (same_all blank 24 l) }

  whole_struck : (s : State m) (r : Result (Option Struck) Refusal) → Whole s → Allowed s (strike r) → Whole (after s (strike r))
  whole_struck s (Ok None) w ok = w
  whole_struck s (Err x) w ok = w
  whole_struck s (Ok (Some x)) w ok =
      let t = x.trade in
      let o = traders_open m s t w.sound ok.0.0 in
      let s1 = traded_state t s in
      let w1 : Whole s1 = record { sound = sound_traded m s t w.sound ok.0.0; eight = w.eight; idle = w.idle } in
      let n = fill_notice s1 (buy_side t) in
      let open2 : is_open (row (buyer_told t s) t.seller.login) ≡ true = ap is_open
      (trip_row m (tell n s1) t.buyer.login t.seller.login (causes_of n s1) o.0 (sound_told m s1 n w1.sound)) ∙ o.1 in
      whole_noticed (buyer_told t s) t.seller.login _ open2 (whole_noticed s1 t.buyer.login n o.0 w1)

  pub whole_after : (s : State m) (x : Moment) → Whole s → Allowed s x → Whole (after s x)
  whole_after s (act c r) w ok = whole_next s c w
  whole_after s (strike r) w ok = whole_struck s r w ok
