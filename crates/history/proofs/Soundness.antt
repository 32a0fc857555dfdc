-- A gate stays sound, whatever comes. Assumes nothing.
use Rattle.std.proofs.Common.{◌≡◌, ℕ, Bool, true, false, List, [], ◌∷◌, replicate, Some, None, Ok, Err, Option, Result, sym, refl, ap, ◌∙◌}
use Rattle.std.specs.List.{AllByRecursion}
use Rattle.terms.specs.Tables.{at, put}
use Rattle.terms.specs.declared.events.Event.{Event}
use Rattle.terms.specs.declared.events.Struck.{Struck}
use Rattle.terms.specs.declared.messages.Notice.{Notice}
use Rattle.terms.specs.declared.messages.ScopeNumber.TheVariants.{Acronym, Login}
use Rattle.terms.specs.declared.messages.ScopeNumber.{ScopeNumber}
use Rattle.terms.specs.declared.messages.Ticket.{Ticket}
use Rattle.terms.specs.declared.refusal.Refusal.{Refusal}
use Rattle.terms.proofs.Answers.{unless_case}
use Rattle.terms.proofs.Tables.{all_same, length_put, mixed, same_all}
use Rattle.market.specs.Book.{Entry, is_for, taken_off, waiting_of}
use Rattle.market.specs.Market.{buy_side, younger}
use Rattle.checks.specs.Meaning.{Meaning}
use Rattle.history.specs.Acts.{Act, Cancel, Enter, Kill, Limit, Moment, Open, PutBack, Receipt, Release, Retire, Take, Tick, Values, act, moment, strike}
use Rattle.history.specs.Calls.{done, in_kill, refusal}
use Rattle.history.specs.Entering.{Verdict, cannot_rest, entry_of, rests, turned, verdict, verdict_leaves, with_entry}
use Rattle.history.specs.Scopes.{hold_scope, lift_scope, shut}
use Rattle.history.specs.State.{State, blank, is_free, is_open, new_gate, opened, row, with_book}
use Rattle.history.specs.Step.{Allowed, Happens, after, reached}
use Rattle.history.specs.Strikes.{fill_notice, fill_told, traded_state}
use Rattle.history.specs.Trips.{causes_of, tell}
use Rattle.history.proofs.Accepted.{enter_ok, kill_ok, open_ok, receipt_ok, release_ok, retire_ok, shut_ok, take_ok}
use Rattle.history.proofs.Rows.{open_free, receipted_free, receipted_open, receipted_real}
use Rattle.history.proofs.Sound.{Sound, Table, open_in, shut_book, sound_noticed, sound_traded, table_drop, table_off, table_rest, table_retire, table_row, traders_open, trip_row}

module _ (m : Meaning) where
  pub sound_rest : (s : State m) (t : Ticket) → is_open (row s t.login) ≡ true → Sound m s → Sound m (with_entry t s)
  sound_rest s t o k = record { table = table_rest k.table t.series (entry_of t) o; holds8 = k.holds8; valued16 = k.valued16 }

  pub sound_enter : (s : State m) (t : Ticket) (v : Verdict) → Sound m s → is_open (row s t.login) ≡ true → Sound m (verdict_leaves t s v)
  sound_enter s t (turned n) k o = sound_noticed m s t.login _ o k
  sound_enter s t (cannot_rest x) k o = k
  sound_enter s t rests k o =
      sound_noticed m (with_entry t s) t.login _ o
      (record { table = table_rest k.table t.series (entry_of t) o; holds8 = k.holds8; valued16 = k.valued16 })

  pub sound_held : (s : State m) (scope : ScopeNumber) (n : ℕ) → shut s scope ≡ false → Sound m s → Sound m (hold_scope scope n s)
  sound_held s (Login l) n h k =
      let o = shut_ok m s l h in
      let b = open_in s.rows l k.table o in
      record {
        table = table_row k.table l _ b.0 b.1 (λ e. e) (λ f. mixed _ (sym f ∙ open_free (row s l) o))
            (λ f. k.table.real l f);
        holds8 = k.holds8;
        valued16 = k.valued16;
      }
  sound_held s (Acronym a) n h k = record { table = k.table; holds8 = length_put s.holds a _ ∙ k.holds8; valued16 = k.valued16 }

  pub sound_lifted : (s : State m) (scope : ScopeNumber) → shut s scope ≡ false → Sound m s → Sound m (lift_scope scope s)
  sound_lifted s (Login l) h k =
      let o = shut_ok m s l h in
      let b = open_in s.rows l k.table o in
      record {
        table = table_row k.table l _ b.0 b.1 (λ e. e) (λ f. mixed _ (sym f ∙ open_free (row s l) o))
            (λ f. k.table.real l f);
        holds8 = k.holds8;
        valued16 = k.valued16;
      }
  sound_lifted s (Acronym a) h k = record { table = k.table; holds8 = length_put s.holds a _ ∙ k.holds8; valued16 = k.valued16 }

  pub sound_off : (s : State m) (q : Entry → Bool) → Sound m s → Sound m (with_book (taken_off q s.book) s)
  sound_off s q k = record { table = table_off k.table q; holds8 = k.holds8; valued16 = k.valued16 }

  pub sound_told : (s : State m) (n : Notice) → Sound m s → Sound m (tell n s)
  sound_told s n k = record { table = k.table; holds8 = k.holds8; valued16 = k.valued16 }

  -- what a call leaves that is accepted
  pub sound_done : (s : State m) (c : Act) → Sound m s → refusal s c ≡ None → Sound m (done s c)
  sound_done s (Tick t) k e = record { table = k.table; holds8 = k.holds8; valued16 = k.valued16 }
  sound_done s (Values series v) k e = record { table = k.table; holds8 = k.holds8; valued16 = length_put s.valued (series) true ∙ k.valued16 }
  sound_done s (Open l a role reach) k e =
      let f = open_ok m s l a role reach e in
      record {
        table = table_row k.table l (opened a role reach) f.0 f.1 (λ _. refl) (λ g. mixed _ (sym g))
            (λ _. f.2);
        holds8 = k.holds8;
        valued16 = k.valued16;
      }
  sound_done s (Retire l) k e = record { table = table_retire k.table l (retire_ok m s l e); holds8 = k.holds8; valued16 = k.valued16 }
  sound_done s (Limit x) k e = sound_told s _ k
  sound_done s (Enter t) k e = sound_enter s t (verdict s t) k (enter_ok m s t e).open_is
  sound_done s (Cancel l n) k e = sound_off s (is_for l n) k
  sound_done s (Take l) k e =
      let f = take_ok m s l e in
      record {
        table = table_row k.table l _ f.0 f.1 (λ o. o) (λ g. mixed _ (sym g ∙ f.2))
            (λ g. k.table.real l g);
        holds8 = k.holds8;
        valued16 = k.valued16;
      }
  sound_done s (Receipt f) k e =
      let h = receipt_ok m s f e in
      let l = f.login in
      let S = put s.book.slips l (younger (waiting_of s.book l)) in
      let t : Table s.rows s.book.resting S = table_drop k.table l (younger (waiting_of s.book l)) h.login_low
      h.login_high h.not_free in
      record {
        table = table_row t l _ h.login_low h.login_high (receipted_open (at [] S l) (row s l))
            (receipted_free (at [] S l) (row s l) h.not_free) (receipted_real (at [] S l) (row s l) (k.table.real l h.not_free));
        holds8 = k.holds8;
        valued16 = k.valued16;
      }
  sound_done s (PutBack f) k e =
      let h = receipt_ok m s f e in
      record {
        table = table_row k.table f.login _ h.login_low h.login_high (λ o. o) (λ g. mixed _ (sym g ∙ h.not_free))
            (λ g. k.table.real f.login g);
        holds8 = k.holds8;
        valued16 = k.valued16;
      }
  sound_done s (Kill scope reach block) k e = sound_held (with_book (taken_off (in_kill s scope reach) s.book) s) scope _
      (shut_book m s (taken_off (in_kill s scope reach) s.book) scope ∙ (kill_ok m s scope reach block e).1) (sound_off s (in_kill s scope reach) k)
  sound_done s (Release scope) k e = sound_told (lift_scope scope s) _ (sound_lifted s scope (release_ok m s scope e).1 k)

  sound_struck : (s : State m) (r : Result (Option Struck) Refusal) → Sound m s → Allowed s (strike r) → Sound m (after s (strike r))
  sound_struck s (Ok None) k a = k
  sound_struck s (Err x) k a = k
  sound_struck s (Ok (Some x)) k a =
      let t = x.trade in
      let o = traders_open m s t k a.0.0 in
      let k1 = sound_traded m s t k a.0.0 in
      let s1 = traded_state t s in
      let k2 = sound_noticed m s1 t.buyer.login _ o.0 k1 in
      sound_noticed m (fill_told (buy_side t) s1) t.seller.login _
      (ap is_open (trip_row m (tell (fill_notice s1 (buy_side t)) s1) t.buyer.login t.seller.login
      (causes_of (fill_notice s1 (buy_side t)) s1) o.0 (sound_told s1 (fill_notice s1 (buy_side t)) k1)) ∙ o.1) k2

  -- and after any event
  pub sound_after : (s : State m) (x : Moment) → Sound m s → Allowed s x → Sound m (after s x)
  sound_after s (act c r) k a = unless_case (Sound m) (refusal s c) s (done s c) k (sound_done s c k)
  sound_after s (strike r) k a = sound_struck s r k a

  pub sound_new : (p : m.Pub) (room : ℕ) → Sound m (new_gate m p room)
  sound_new p room =
      record {
        table = record {
          rows24 = refl;
          series16 = refl;
          slips24 = refl;
          rests = all_same
              (AllByRecursion (λ (e : Entry). is_open (at blank (replicate 24 blank) e.login) ≡ true)) [] 16 tt;
          waits = λ l f. same_all
              [] 24 l;
          real = λ l f. mixed _ (sym (ap is_free (same_all blank 24 l)) ∙ f);
        };
        holds8 = refl;
        valued16 = refl;
      }

  -- so along every run
  pub sound_reached : (p : m.Pub) (room : ℕ) (h : List Event) → Happens m p room h → Sound m (reached m p room h)
  sound_reached p room [] t = sound_new p room
  sound_reached p room (e ∷ h) t = sound_after (reached m p room h) (moment e) (sound_reached p room h t.0) t.1
