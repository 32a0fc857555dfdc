-- What an entry comes to, from what the gate asked and did. Assumes nothing.
use Rattle.std.proofs.Common.{◌≡◌, ℕ, None, Ok, Err, Result, sym, ap, ◌∙◌, subst}
use Rattle.terms.specs.Tables.{at}
use Rattle.terms.specs.declared.events.Effect.{Effect}
use Rattle.terms.specs.declared.events.EnterAnswer.TheVariants as answer
use Rattle.terms.specs.declared.events.Event.TheVariants as event
use Rattle.terms.specs.declared.messages.Asked.{Asked}
use Rattle.terms.specs.declared.messages.Notice.TheVariants.{Entered, TurnedDown}
use Rattle.terms.specs.declared.messages.Ticket.{Ticket}
use Rattle.terms.specs.declared.refusal.Refusal.{Refusal}
use Rattle.market.specs.Book.{Book, Entry}
use Rattle.market.specs.Market.{Rested}
use Rattle.checks.specs.Meaning.{Meaning, no_cause}
use Rattle.history.specs.Acts.{Enter}
use Rattle.history.specs.Calls.{refusal}
use Rattle.history.specs.Entering.{asked, entry_of, judged_of}
use Rattle.history.specs.State.{State, with_book}
use Rattle.history.specs.Step.{Step}
use Rattle.history.specs.Trips.{effect_of, noticed}
use Rattle.history.proofs.Composed.{enter_cannot_rest, enter_rests, enter_turned}

module _ (m : Meaning) (s s₁ : State m) (t : Ticket) (none : refusal s (Enter t) ≡ None) (k : Asked) (n : ℕ) (is_k : k ≡ asked s t)
    (judged : n ≡ m.judged k s.public (at (m.fresh s.public) s.private k.acronym)) where
  is_n : judged_of s t ≡ n
  is_n = sym (judged ∙ ap (λ (x : Asked). m.judged x s.public (at (m.fresh s.public) s.private x.acronym)) is_k)

  pub turned_down :
      (x : Effect) → (n ≡ 0 → ⊥) → x ≡ effect_of t.login (TurnedDown k n) s → s₁ ≡ noticed t.login (TurnedDown k n) s
      → Step s (event.Enter t (answer.TurnedDown n x)) s₁
  turned_down x not-0 effect after =
      subst By (is_n) (enter_turned m s s₁ t none x) not-0
      (effect ∙ ap (λ (y : Asked). effect_of t.login (TurnedDown y n) s) is_k)
      (after ∙ ap (λ (y : Asked). noticed t.login (TurnedDown y n) s) is_k)
    where
      By : ℕ → Type 0
      By i =
          (i ≡ 0 → ⊥) → x ≡ effect_of t.login (TurnedDown (asked s t) i) s → s₁ ≡ noticed t.login (TurnedDown (asked s t) i) s
          → Step s (event.Enter t (answer.TurnedDown i x)) s₁

  module _ (is_0 : n ≡ 0) (series : ℕ) (e : Entry) (b : Book) (is_series : series ≡ t.series) (is_entry : e ≡ entry_of t) where
    as_sent : (r : Result (Unit {0}) Refusal) → Rested s.book series e r b → Rested s.book t.series (entry_of t) r b
    as_sent r rested =
        subst (λ (d : Entry). Rested s.book t.series d r b) is_entry (subst (λ i. Rested s.book i e r b) is_series rested)

    pub rest_refused :
        (f : Refusal) → Rested s.book series e (Err f) b → s₁ ≡ with_book b s → Step s (event.Enter t (answer.Refused f no_cause)) s₁
    rest_refused f rested after = enter_cannot_rest m s s₁ t none f b (is_n ∙ is_0) (as_sent (Err f) rested) after

    pub rests :
        (x : Effect) → Rested s.book series e (Ok tt) b → x ≡ effect_of t.login (Entered k) (with_book b s)
        → s₁ ≡ noticed t.login (Entered k) (with_book b s) → Step s (event.Enter t (answer.Accepted x)) s₁
    rests x rested effect after =
        enter_rests m s s₁ t none x b (is_n ∙ is_0) (as_sent (Ok tt) rested)
        (effect ∙ ap (λ (y : Asked). effect_of t.login (Entered y) (with_book b s)) is_k)
        (after ∙ ap (λ (y : Asked). noticed t.login (Entered y) (with_book b s)) is_k)
