-- Steps put together from the parts that a gate works by: telling, sweeping login by login, holding, resting, trading. Assumes nothing.
use Rattle.std.proofs.Common.{◌≡◌, ℕ, length, Some, None, Ok, Err, Option, sym, refl, ap, ◌∙◌, ap₂, ⊎_elim}
use Rattle.std.proofs.lemmas.Bool.Decides.{eqb_tells}
use Rattle.terms.specs.Answers.{given, unless}
use Rattle.terms.specs.declared.events.EnterAnswer.TheVariants as answer
use Rattle.terms.specs.declared.events.Effect.{Effect}
use Rattle.terms.specs.declared.events.EnterAnswer.{EnterAnswer}
use Rattle.terms.specs.declared.events.Event.TheVariants as event
use Rattle.terms.specs.declared.messages.Causes.{Causes}
use Rattle.terms.specs.declared.messages.Notice.TheVariants.{Entered, TurnedDown}
use Rattle.terms.specs.declared.messages.Notice.{Notice}
use Rattle.terms.specs.declared.messages.ScopeNumber.TheVariants.{Acronym, Login}
use Rattle.terms.specs.declared.messages.ScopeNumber.{ScopeNumber}
use Rattle.terms.specs.declared.messages.Ticket.{Ticket}
use Rattle.terms.specs.declared.refusal.Refusal.{Refusal}
use Rattle.terms.proofs.Answers.{given_err, given_ok}
use Rattle.market.specs.Book.{Book, Trade, totals}
use Rattle.market.specs.Market.{Struck, Rested, buy_side, rest_refusal, rested, sell_side}
use Rattle.market.specs.Sweeps.{swept_sum, swept_up_to}
use Rattle.checks.specs.Meaning.{Meaning, no_cause}
use Rattle.history.specs.Acts.{Enter, Kill, amount, entered}
use Rattle.history.specs.Calls.{done, in_kill, kill_cause, refusal}
use Rattle.history.specs.Entering.{Verdict, asked, cannot_rest, enter_reply, entry_of, judged_of, rests, turned, verdict, verdict_answer, verdict_leaves, verdict_of}
use Rattle.history.specs.Laws.{kill_cut, trip_cut}
use Rattle.history.specs.Scopes.{hold_scope}
use Rattle.history.specs.State.{State, row, with_book}
use Rattle.history.specs.Step.{Step}
use Rattle.history.specs.Strikes.{fill_effect, fill_told}
use Rattle.history.specs.Trips.{causes_of, effect_of, in_trip, noticed, tell, trip}
use Rattle.history.proofs.Laws.{sweeps_by_login}

module _ (m : Meaning) where
  -- ---- telling, and what it trips

  pub trip_after :
      (s s₁ s₂ s₃ : State m) (login : ℕ) (c : Causes) → length s.rows ≡ 24
      → s₁ ≡ with_book (swept_up_to (trip_cut s login c) 24 s.book) s → s₂ ≡ hold_scope (Login login) c.login s₁
      → s₃ ≡ hold_scope (Acronym (row s login).acronym) c.acronym s₂ → s₃ ≡ trip login c s
  trip_after s s₁ s₂ s₃ login c len e₁ e₂ e₃ =
      e₃
      ∙ ap (hold_scope (Acronym (row s login).acronym) c.acronym)
      (e₂ ∙ ap (hold_scope (Login login) c.login) (e₁ ∙ ap (λ (b : Book). with_book b s) ((sweeps_by_login m).trip_left s login c len)))

  pub notice_after :
      (s s₁ s₂ : State m) (login : ℕ) (n : Notice) (c : Causes) → c ≡ causes_of n s → s₁ ≡ tell n s → s₂ ≡ trip login c s₁ → s₂ ≡ noticed login n s
  notice_after s s₁ s₂ login n c e e₁ e₂ = e₂ ∙ ap (trip login c) e₁ ∙ ap (λ (x : Causes). trip login x (tell n s)) e

  pub notice_effect :
      (s s₁ : State m) (k login : ℕ) (n : Notice) (c : Causes) → c ≡ causes_of n s → s₁ ≡ tell n s
      → k ≡ totals (in_trip s₁ login c) s₁.book.resting → ◌≡◌ {A = Effect} (record { causes = c; cancelled = k }) (effect_of login n s)
  notice_effect s s₁ k login n c e e₁ h =
      ap (λ (x : ℕ). record { causes = c; cancelled = x }) (h ∙ ap (λ (x : State m). totals (in_trip x login c) x.book.resting) e₁)
      ∙ ap (λ (x : Causes). record { causes = x; cancelled = totals (in_trip s login x) s.book.resting }) e

  -- ---- kill

  pub kill_step :
      (s s₁ s₂ : State m) (scope : ScopeNumber) (reach block n : ℕ) → refusal s (Kill scope reach block) ≡ None → length s.rows ≡ 24
      → n ≡ swept_sum (kill_cut s scope reach) 24 s.book → s₁ ≡ with_book (swept_up_to (kill_cut s scope reach) 24 s.book) s
      → s₂ ≡ hold_scope scope (kill_cause block) s₁ → Step s (event.Kill scope reach block (Ok n)) s₂
  kill_step s s₁ s₂ scope reach block n none len sum e₁ e₂ =
      let cancelled = sum ∙ (sweeps_by_login m).kill_sum s scope reach len in
      let left = e₁ ∙ ap (λ (b : Book). with_book b s) ((sweeps_by_login m).kill_left s scope reach len) in (
        ap amount (ap (λ (x : ℕ). Ok x) cancelled ∙ ap (λ (o : Option Refusal). given o (totals (in_kill s scope reach) s.book.resting)) (sym none)),
        e₂ ∙ ap (hold_scope scope (kill_cause block)) left ∙ ap (λ (o : Option Refusal). unless o s (done s (Kill scope reach block))) (sym none),
      )

  -- ---- strike

  pub strike_step :
      (s s₁ s₂ s₃ : State m) (t : Trade) (b : Book) (x y : Effect) → Struck s.book (Ok (Some t)) b → s₁ ≡ with_book b s
      → x ≡ fill_effect (buy_side t) s₁ → s₂ ≡ fill_told (buy_side t) s₁ → y ≡ fill_effect (sell_side t) s₂ → s₃ ≡ fill_told (sell_side t) s₂
      → Step s (event.Strike (Ok (Some (record { trade = t; buy = x; sell = y })))) s₃
  strike_step s s₁ s₂ s₃ t b x y d e₁ xe e₂ ye e₃ =
      let t₁ = e₁ ∙ ap (λ (z : Book). with_book z s) d.1 in
      let t₂ = e₂ ∙ ap (fill_told (buy_side t)) t₁ in (
        (d.0, (xe ∙ ap (fill_effect (buy_side t)) t₁, ye ∙ ap (fill_effect (sell_side t)) t₂)),
        e₃ ∙ ap (fill_told (sell_side t)) t₂,
      )

  -- ---- enter

  module _ (s s₁ : State m) (t : Ticket) (none : refusal s (Enter t) ≡ None) where
    by_verdict :
        (r : EnterAnswer) (v : Verdict) → verdict s t ≡ v → r ≡ verdict_answer t s v → s₁ ≡ verdict_leaves t s v → Step s (event.Enter t r) s₁
    by_verdict r v is answer after = (
      ap entered (answer ∙ ap (verdict_answer t s) (sym is) ∙ ap (enter_reply t s) (sym none)),
      after
          ∙ ap (verdict_leaves t s) (sym is)
          ∙ ap (λ (o : Option Refusal). unless o s (verdict_leaves t s (verdict s t))) (sym none),
    )

    pub enter_turned :
        (x : Effect) → (judged_of s t ≡ 0 → ⊥) → x ≡ effect_of t.login (TurnedDown (asked s t) (judged_of s t)) s
        → s₁ ≡ noticed t.login (TurnedDown (asked s t) (judged_of s t)) s → Step s (event.Enter t (answer.TurnedDown (judged_of s t) x)) s₁
    enter_turned x not-0 effect after =
        by_verdict _ (turned (judged_of s t)) (⊎_elim (λ p. absurd (not-0 p.1)) (λ p. rw p.0) (eqb_tells (judged_of s t) 0))
        (ap (answer.TurnedDown (judged_of s t)) effect) after

    passes : (o : Option Refusal) → judged_of s t ≡ 0 → rest_refusal s.book (entry_of t) ≡ o → verdict s t ≡ verdict_of 0 o
    passes o is_0 h = ap₂ verdict_of is_0 h

    pub enter_cannot_rest :
        (f : Refusal) (b : Book) → judged_of s t ≡ 0 → Rested s.book t.series (entry_of t) (Err f) b → s₁ ≡ with_book b s
        → Step s (event.Enter t (answer.Refused f no_cause)) s₁
    enter_cannot_rest f b is_0 rest after =
        let o = given_err (rest_refusal s.book (entry_of t)) tt f (sym rest.0) in
        by_verdict _ (cannot_rest f) (passes (Some f) is_0 o) refl
        (after
        ∙ ap (λ (y : Book). with_book y s)
        (rest.1 ∙ ap (λ (y : Option Refusal). unless y s.book (rested s.book t.series (entry_of t))) o))

    pub enter_rests :
        (x : Effect) (b : Book) → judged_of s t ≡ 0 → Rested s.book t.series (entry_of t) (Ok tt) b
        → x ≡ effect_of t.login (Entered (asked s t)) (with_book b s) → s₁ ≡ noticed t.login (Entered (asked s t)) (with_book b s)
        → Step s (event.Enter t (answer.Accepted x)) s₁
    enter_rests x b is_0 rest effect after =
        let o = given_ok (rest_refusal s.book (entry_of t)) tt tt (sym rest.0) in
        let st = ap (λ (y : Book). with_book y s)
        (rest.1 ∙ ap (λ (y : Option Refusal). unless y s.book (rested s.book t.series (entry_of t))) o) in
        by_verdict _ rests (passes None is_0 o)
        (ap answer.Accepted (effect ∙ ap (effect_of t.login (Entered (asked s t))) st))
        (after ∙ ap (noticed t.login (Entered (asked s t))) st)
