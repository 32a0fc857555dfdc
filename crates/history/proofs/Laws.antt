-- The laws of every run: its states are in order, and calls do what they must and no more. Assumes nothing.
use Rattle.std.proofs.Common.{◌≡◌, ℕ, ◌<◌, ◌≤◌, Bool, true, false, cond, ◌&&◌, ◌||◌, eqb, ◌⊎◌, List, [], ◌∷◌, length, Some, None, Ok, Err, Option, Result, sym, refl, ap, ◌∙◌, subst, inr, arith}
use mathlib.Core.Path.{fun_ext}
use Rattle.std.proofs.lemmas.Bool.{eq-eqb}
use Rattle.terms.specs.Entered.{entered_number, entered_effect}
use Rattle.terms.specs.Answers.{given, unless}
use Rattle.terms.specs.Refusals.{number}
use Rattle.terms.specs.declared.events.EnterAnswer.{EnterAnswer}
use Rattle.terms.specs.declared.events.Event.TheVariants as event
use Rattle.terms.specs.declared.events.Event.{Event}
use Rattle.terms.specs.declared.messages.Causes.{Causes}
use Rattle.terms.specs.declared.messages.ScopeNumber.{ScopeNumber}
use Rattle.terms.specs.declared.messages.Ticket.{Ticket}
use Rattle.terms.specs.declared.refusal.Refusal.TheVariants.{SlipsFull}
use Rattle.terms.specs.declared.refusal.Refusal.{Refusal}
use Rattle.terms.proofs.Tables.{and_so, at_past, mixed, never}
use Rattle.market.specs.Book.{Book, Trade, any_in, is_for, reaches, taken_off, totals, waiting_of}
use Rattle.market.specs.Market.{MayStrike, crosses, slips_full}
use Rattle.market.specs.Sweeps.{ByLogin, reached_by, swept_by}
use Rattle.market.proofs.Crossing.{settled}
use Rattle.market.proofs.Orders.{small_sweeps}
use Rattle.market.proofs.Sums.{rest_or_off}
use Rattle.market.proofs.Sweeps.{by_login}
use Rattle.checks.specs.Meaning.{Meaning}
use Rattle.history.specs.Acts.{Act, Enter, Open, entered, moment, plain}
use Rattle.history.specs.Calls.{done, in_kill, next, refusal}
use Rattle.history.specs.Entering.{Verdict, cannot_rest, enter_reply, entry_of, judged_of, rests, turned, verdict, verdict_answer, verdict_leaves}
use Rattle.history.specs.Laws.{AlwaysInOrder, CallLaws, SweepsByLogin, kill_cut, trip_cut}
use Rattle.history.specs.Scopes.{in_scope}
use Rattle.history.specs.State.{Row, State, blank, is_open, nonzero, row}
use Rattle.history.specs.Step.{Allowed, Happens, Run, Step, after, reached}
use Rattle.history.specs.Trips.{in_trip}
use Rattle.history.proofs.Accepted.{enter_ok, open_ok}
use Rattle.history.proofs.Lasting.{orderly_reached}
use Rattle.history.proofs.Soundness.{sound_reached}
use Rattle.history.proofs.Verdicts.{number_some, turned_some}
use Rattle.history.proofs.Whole.{Whole, whole_after, whole_new}

module _ (m : Meaning) where
  pub whole_reached : (p : m.Pub) (room : ℕ) (h : List Event) → Happens m p room h → Whole m (reached m p room h)
  whole_reached p room [] t = whole_new m p room
  whole_reached p room (e ∷ h) t = whole_after m (reached m p room h) (moment e) (whole_reached p room h t.0) t.1

  pub always_in_order : AlwaysInOrder m
  always_in_order p room h t =
      let w = whole_reached p room h t in
      let o = orderly_reached m p room h in
      record {
        rows24 = w.sound.table.rows24;
        series16 = w.sound.table.series16;
        slips24 = w.sound.table.slips24;
        holds8 = w.sound.holds8;
        valued16 = w.sound.valued16;
        private8 = w.eight;
        open_rest = w.sound.table.rests;
        free_none = w.sound.table.waits;
        free_nobody = w.idle;
        held_firm = w.sound.table.real;
        orderly = o;
        small_sweeps = small_sweeps (reached m p room h).book.resting o;
        settled = settled (reached m p room h).book o;
      }

  -- ---- calls

  refused_stands : (s : State m) (c : Act) (x : Refusal) → refusal s c ≡ Some x → next s c ≡ s
  refused_stands s c x e = ap (λ (o : Option Refusal). unless o s (done s c)) e

  pub goes_on : (p : m.Pub) (room : ℕ) (h : List Event) (s u : State m) (e : Event) → Run m p room h s → Step s e u → Run m p room (e ∷ h) u
  goes_on p room h s u e r t =
      ((r.0, subst (λ (x : State m). Allowed x (moment e)) r.1 t.0), t.1 ∙ ap (λ (x : State m). after x (moment e)) r.1)

  strike_answers : (p : m.Pub) (room : ℕ) (h : List Event) → Happens m p room h → (r : Result (Option Trade) Refusal)
      × MayStrike (reached m p room h).book r
  strike_answers p room h t = go (crosses b) (slips_full b) refl refl
    where
      b : Book
      b = (reached m p room h).book

      go : (c f : Bool) → crosses b ≡ c → slips_full b ≡ f → (r : Result (Option Trade) Refusal) × MayStrike b r
      go false f k l = (Ok None, k)
      go true true k l = (Err SlipsFull, (refl, k, l))
      go true false k l = let x = (settled b (orderly_reached m p room h)).pair_trades k in (Ok (Some x.0), (x.1, l))

  opened_none :
      (p : m.Pub) (room l a role reach : ℕ) (h : List Event) → Happens m p room (event.Open l a role reach (Ok tt) ∷ h)
      → waiting_of (reached m p room (event.Open l a role reach (Ok tt) ∷ h)).book l ≡ []
  opened_none p room l a role reach h t =
      let s = reached m p room h in
      go (refusal s (Open l a role reach)) refl t.1
    where
      go :
          (o : Option Refusal) → refusal (reached m p room h) (Open l a role reach) ≡ o → plain (Ok tt) ≡ plain (given o tt)
          → waiting_of (unless o (reached m p room h) (done (reached m p room h) (Open l a role reach))).book l ≡ []
      go (Some x) e q = let z : ◌≡◌ {A = ℕ} 0 1 = cc in never _ (omega arith)
      go None e q = (sound_reached m p room h t.0).table.waits l (open_ok m (reached m p room h) l a role reach e).3

  rests_or_cancelled :
      (p : m.Pub) (room : ℕ) (h : List Event) (t : Ticket) (r : EnterAnswer) → Happens m p room (event.Enter t r ∷ h) → entered_number r ≡ 0
      → (any_in (is_for t.login t.number) (reached m p room (event.Enter t r ∷ h)).book.resting ≡ true) ⊎ (t.contracts ≤ (entered_effect r).cancelled)
  rests_or_cancelled p room h t r k zero-so = by_refusal (refusal s (Enter t)) refl (inside_entered r _ k.1)
    where
      s : State m
      s = reached m p room h

      LeftOf : State m → EnterAnswer → Type 0
      LeftOf u x = (any_in (is_for t.login t.number) u.book.resting ≡ true) ⊎ (t.contracts ≤ (entered_effect x).cancelled)

      inside_entered : (x y : EnterAnswer) → entered x ≡ entered y → x ≡ y
      inside_entered x y e = cc

      not_zero : (n : ℕ) → eqb n 0 ≡ false → n ≡ 0 → (A : Type 0) → A
      not_zero n e q A = mixed A (sym (eq-eqb n 0 q) ∙ e)

      by_verdict : (v : Verdict) → verdict s t ≡ v → refusal s (Enter t) ≡ None → r ≡ verdict_answer t s v → LeftOf (verdict_leaves t s v) r
      by_verdict (turned n) e o q = not_zero n (turned_some (judged_of s t) _ n e) (sym (ap entered_number q) ∙ zero-so) _
      by_verdict (cannot_rest x) e o q = not_zero (number x) (number_some x) (sym (ap entered_number q) ∙ zero-so) _
      by_verdict rests e o q =
          let f = enter_ok m s t o in
          subst (λ (y : EnterAnswer). LeftOf (verdict_leaves t s rests) y) (sym q)
          (rest_or_off (is_for t.login t.number) _ s.book.resting t.series (entry_of t) f.series_low
          (omega (arith, f.series_high, (sound_reached m p room h k.0).table.series16))
          (and_so _ _ (eq-eqb t.login t.login refl) (eq-eqb t.number t.number refl)))

      by_refusal : (o : Option Refusal) → refusal s (Enter t) ≡ o → r ≡ enter_reply t s o → LeftOf (unless o s (done s (Enter t))) r
      by_refusal (Some x) e q = not_zero (number x) (number_some x) (sym (ap entered_number q) ∙ zero-so) _
      by_refusal None e q = by_verdict (verdict s t) refl e q

  pub call_laws : CallLaws m
  call_laws = record { refused_stands = refused_stands; rests_or_cancelled = rests_or_cancelled; opened_none = opened_none; strike_answers = strike_answers; goes_on = goes_on }

  -- ---- sweeps

  kill_at : (s : State m) (scope : ScopeNumber) (reach : ℕ) → swept_by (kill_cut s scope reach) ≡ in_kill s scope reach
  kill_at s scope reach = fun_ext (λ e. go (is_open (row s e.login)) (in_scope s scope e.login) (reaches reach e.kind) e.kind refl)
    where
      go : (o i r : Bool) (kind : ℕ) → reaches reach kind ≡ r → reached_by (cond (o && i) (Some reach) None) kind ≡ ((o && r) && i)
      go true true r kind h = h ∙ ends r
        where
          ends : (b : Bool) → b ≡ (b && true)
          ends true = refl
          ends false = refl
      go true false r kind h = ends r
        where
          ends : (b : Bool) → false ≡ (b && false)
          ends true = refl
          ends false = refl
      go false i r kind h = refl

  trip_at : (s : State m) (login : ℕ) (c : Causes) → swept_by (trip_cut s login c) ≡ in_trip s login c
  trip_at s login c = fun_ext (λ e. go (is_open (row s e.login))
      ((nonzero c.login && eqb e.login login) || (nonzero c.acronym && eqb (row s e.login).acronym (row s login).acronym))
      (row s e.login).reach e.kind)
    where
      go : (o i : Bool) (reach kind : ℕ) → reached_by (cond (o && i) (Some reach) None) kind ≡ ((o && reaches reach kind) && i)
      go true true reach kind = ends (reaches reach kind)
        where
          ends : (b : Bool) → b ≡ (b && true)
          ends true = refl
          ends false = refl
      go true false reach kind = ends (reaches reach kind)
        where
          ends : (b : Bool) → false ≡ (b && false)
          ends true = refl
          ends false = refl
      go false i reach kind = refl

  past_blank : (s : State m) → length s.rows ≡ 24 → (l : ℕ) → 24 < l → row s l ≡ blank
  past_blank s len l h = at_past blank s.rows l (inr (omega (arith, len)))

  kill_swept : (s : State m) (scope : ScopeNumber) (reach : ℕ) → length s.rows ≡ 24 → ByLogin (kill_cut s scope reach) s.book
  kill_swept s scope reach len = by_login (kill_cut s scope reach) s.book refl
      (λ l h. ap (λ (r : Row). cond (is_open r && in_scope s scope l) (Some reach) None) (past_blank s len l h))

  trip_swept : (s : State m) (login : ℕ) (c : Causes) → length s.rows ≡ 24 → ByLogin (trip_cut s login c) s.book
  trip_swept s login c len =
      by_login (trip_cut s login c) s.book refl
      (λ l h. ap (λ (r : Row). cond
      (is_open r && ((nonzero c.login && eqb l login) || (nonzero c.acronym && eqb r.acronym (row s login).acronym)))
      (Some r.reach) None) (past_blank s len l h))

  pub sweeps_by_login : SweepsByLogin m
  sweeps_by_login =
      record {
        kill_left = λ s scope reach len. (kill_swept s scope reach len).left ∙ ap (λ p. taken_off p s.book) (kill_at s scope reach);
        kill_sum = λ s scope reach len. (kill_swept s scope reach len).sum ∙ ap (λ p. totals p s.book.resting) (kill_at s scope reach);
        trip_left = λ s login c len. (trip_swept s login c len).left ∙ ap (λ p. taken_off p s.book) (trip_at s login c);
        trip_sum = λ s login c len. (trip_swept s login c len).sum ∙ ap (λ p. totals p s.book.resting) (trip_at s login c);
      }
