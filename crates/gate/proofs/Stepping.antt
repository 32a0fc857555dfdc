-- Calls that are refused and calls that are accepted, put together from what the gate did. Assumes nothing.
use Rattle.std.proofs.Common.{◌≡◌, ℕ, suc, ◌+◌, ◌<◌, ◌≤◌, Bool, true, false, cond, not, ◌&&◌, List, map, length, get_or, set, Some, None, Ok, Option, sym, refl, ap, ◌∙◌, arith}
use Rattle.terms.specs.Answers.{unless}
use Rattle.terms.specs.declared.events.Effect.{Effect}
use Rattle.terms.specs.declared.events.Event.TheVariants as event
use Rattle.terms.specs.declared.messages.Fill.{Fill}
use Rattle.terms.specs.declared.messages.Notice.TheVariants.{Opened, Closed}
use Rattle.terms.specs.declared.messages.ScopeNumber.{ScopeNumber}
use Rattle.terms.specs.declared.refusal.Refusal.{Refusal}
use Rattle.terms.specs.declared.refusal.Refusal.TheVariants.{Field}
use Rattle.terms.proofs.Answers.{none_so, not_false}
use Rattle.market.specs.Book.{Book, Trade, in_reach, taken_off, totals, waiting_of}
use Rattle.market.specs.Market.{Swept, Struck, buy_side, dropped, sell_side}
use Rattle.market.specs.Sweeps.{swept_sum, swept_up_to}
use Rattle.checks.specs.Meaning.{Meaning}
use Rattle.fields.specs.Admits.{out_of_range}
use Rattle.history.specs.State.{State, blank, is_leaving, is_open, leaving, nothing_waits, opened, receipted_row, row, with_book, with_out, with_row}
use Rattle.history.specs.Scopes.{hold_scope}
use Rattle.history.specs.Trips.{tell}
use Rattle.history.specs.Acts.{Act, Answer, Kill, Open, Receipt, Retire, amount}
use Rattle.history.specs.Calls.{done, kill_cause, next, refusal, reply, rule}
use Rattle.history.specs.Laws.{kill_cut}
use Rattle.history.specs.Step.{Step}
use Rattle.history.specs.Strikes.{fill_effect, fill_told}
use Rattle.history.proofs.Composed.{kill_step, strike_step}
use Rattle.gate.specs.declared.rows.Row.{Row}
use Rattle.gate.specs.Rows.{seen_row}
use Rattle.gate.proofs.Lent.{with_rows, row_put, row_changed, row_there}
use Rattle.gate.proofs.Tripping.{hold_none}

-- a field out of its range goes before all other reasons
pub field_refused : (good : Bool) (others : Option Refusal) (e : Refusal) → out_of_range good ≡ Some e → cond (not good) (Some Field) others ≡ Some e
field_refused true others e is = cc
field_refused false others e is = is

module _ {m : Meaning} (s : State m) (c : Act) where
  -- a call that is refused answers why and alters nothing
  pub refused : (e : Refusal) (x : Answer) → refusal s c ≡ Some e → x ≡ (rule s c).answers (Some e) → (x ≡ reply s c) × (s ≡ next s c)
  refused e x is answer = (answer ∙ ap (rule s c).answers (sym is), ap (λ (o : Option Refusal). unless o s (done s c)) (sym is))

  -- a call that is accepted leaves what is to come of it
  pub accepted : (x : Answer) (t : State m) → refusal s c ≡ None → x ≡ (rule s c).answers None → t ≡ done s c → (x ≡ reply s c) × (t ≡ next s c)
  accepted x t is answer left =
      (answer ∙ ap (rule s c).answers (sym is), left ∙ ap (λ (o : Option Refusal). unless o s (done s c)) (sym is))

module _ {m : Meaning} (s : State m) where
  -- ---- open

  pub opens :
      (rows : List Row) (login acronym role reach l i r : ℕ) (new : Row) (t : State m) → s.rows ≡ map seen_row rows
      → refusal s (Open login acronym role reach) ≡ None → l ≡ login → i + 1 ≡ l → r ≡ reach → seen_row new ≡ opened acronym role r
      → t ≡ tell (Opened acronym login role reach) (with_rows (map seen_row (set rows i new)) s)
      → Step s (event.Open login acronym role reach (Ok tt)) t
  opens rows login acronym role reach l i r new t seen none is_l at_i is_r is-new told =
      let place : login ≡ suc i = omega arith in
      accepted s (Open login acronym role reach) _ t none refl
      (told ∙ ap (tell (Opened acronym login role reach)) (row_put s rows seen login i new _ place (is-new ∙ ap (opened acronym role) is_r)))

  -- ---- retire

  retires_open : (login : ℕ) → refusal s (Retire login) ≡ None → is_open (row s login) ≡ true
  retires_open login none = not_false _ (none_so _ _ _ (none_so _ _ _ none).1).0

  pub retires :
      (rows : List Row) (login acronym l i n : ℕ) (wait : Bool) (d new : Row) (b : Book) (t : State m) → s.rows ≡ map seen_row rows → length rows ≡ 24
      → refusal s (Retire login) ≡ None → l ≡ login → i + 1 ≡ l → i ≤ 23 → acronym ≡ (row s login).acronym → Swept s.book l 3 n b
      → wait ≡ nothing_waits (waiting_of b l) → (is_open (seen_row (get_or rows i d)) ≡ true → seen_row new ≡ cond wait blank (leaving (seen_row (get_or rows i d))))
      → t ≡ tell (Closed acronym login) (with_rows (map seen_row (set rows i new)) (with_book b s)) → Step s (event.Retire login (Ok n)) t
  retires rows login acronym l i n wait d new b t seen len none is_l at_i high is_a swept is-wait changed told =
      let place : login ≡ suc i = omega arith in
      let below : i < 24 = omega arith in
      let there = row_there (with_book b s) rows seen login i d len place below in
      let was_open = ap is_open there ∙ retires_open login none in
      let left = swept.1 ∙ ap (λ x. taken_off (in_reach x 3) s.book) is_l in
      let waits : wait ≡ nothing_waits (waiting_of s.book login)
      = is-wait ∙ ap (λ x. nothing_waits (waiting_of b x)) is_l ∙ ap (λ (x : Book). nothing_waits (waiting_of x login)) left in
      let rows_left = row_changed (with_book b s) rows seen login (λ x. cond wait blank (leaving x)) i d new len place below (changed was_open) in
      accepted s (Retire login) _ t none
      (ap (λ (k : ℕ). amount (Ok k)) (swept.0 ∙ ap (λ x. totals (in_reach x 3) s.book.resting) is_l))
      (told
      ∙ ap (tell (Closed acronym login)) (rows_left ∙ ap (λ w. with_row login (cond w blank (leaving (row s login))) (with_book b s)) waits)
      ∙ ap (λ (x : Book). tell (Closed acronym login) (with_row login (cond (nothing_waits (waiting_of s.book login)) blank (leaving (row s login))) (with_book x s))) left
      ∙ ap (λ a. tell (Closed a login) (done_rows login)) is_a)
    where
      done_rows : ℕ → State m
      done_rows login =
          with_row login (cond (nothing_waits (waiting_of s.book login)) blank (leaving (row s login)))
          (with_book (taken_off (in_reach login 3) s.book) s)

  -- ---- receipt

  pub receipts :
      (rows : List Row) (f : Fill) (l i : ℕ) (wait : Bool) (d new : Row) (b : Book) → s.rows ≡ map seen_row rows → length rows ≡ 24
      → refusal s (Receipt f) ≡ None → l ≡ f.login → i + 1 ≡ l → i ≤ 23 → b ≡ dropped s.book l → wait ≡ nothing_waits (waiting_of b l)
      → seen_row new ≡ cond (is_leaving (seen_row (get_or rows i d)) && wait) blank (with_out false (seen_row (get_or rows i d)))
      → Step s (event.Receipt f (Ok tt)) (with_rows (map seen_row (set rows i new)) (with_book b s))
  receipts rows f l i wait d new b seen len none is_l at_i high gone is-wait changed =
      let place : f.login ≡ suc i = omega arith in
      let below : i < 24 = omega arith in
      let left = gone ∙ ap (dropped s.book) is_l in
      let waits : wait ≡ nothing_waits (waiting_of (dropped s.book f.login) f.login)
      = is-wait ∙ ap (λ x. nothing_waits (waiting_of b x)) is_l ∙ ap (λ (x : Book). nothing_waits (waiting_of x f.login)) left in
      accepted s (Receipt f) _ _ none refl
      (row_changed (with_book b s) rows seen f.login (λ x. cond (is_leaving x && wait) blank (with_out false x)) i d new len place below changed
      ∙ ap (λ w. with_row f.login (cond (is_leaving (row s f.login) && w) blank (with_out false (row s f.login))) (with_book b s)) waits
      ∙ ap (λ (x : Book). with_row f.login (receipted_row (waiting_of (dropped s.book f.login) f.login) (row s f.login)) (with_book x s)) left)

  -- ---- kill

  module _ (s₁ : State m) (scope : ScopeNumber) (reach block n r : ℕ) (none : refusal s (Kill scope reach block) ≡ None) (len : length s.rows ≡ 24)
      (is_r : r ≡ reach) (sum : n ≡ swept_sum (kill_cut s scope r) 24 s.book) (swept : s₁ ≡ with_book (swept_up_to (kill_cut s scope r) 24 s.book) s) where
    killed : (s₂ : State m) → s₂ ≡ hold_scope scope (kill_cause block) s₁ → Step s (event.Kill scope reach block (Ok n)) s₂
    killed s₂ held =
        kill_step m s s₁ s₂ scope reach block n none len (sum ∙ ap (λ x. swept_sum (kill_cut s scope x) 24 s.book) is_r)
        (swept ∙ ap (λ x. with_book (swept_up_to (kill_cut s scope x) 24 s.book) s) is_r) held

    pub kill_holds : (s₂ : State m) → 1 ≡ block → s₂ ≡ hold_scope scope 60 s₁ → Step s (event.Kill scope reach block (Ok n)) s₂
    kill_holds s₂ is held = killed s₂ (held ∙ ap (λ x. hold_scope scope (kill_cause x) s₁) is)

    pub kill_sweeps : 0 ≡ block → Step s (event.Kill scope reach block (Ok n)) s₁
    kill_sweeps is = killed s₁ (sym (hold_none s₁ scope) ∙ ap (λ x. hold_scope scope (kill_cause x) s₁) is)

  -- ---- strike

  pub strikes :
      (s₁ s₂ s₃ : State m) (t : Trade) (b : Book) (f k : Fill) (x y : Effect) → Struck s.book (Ok (Some t)) b → s₁ ≡ with_book b s → f ≡ buy_side t
      → k ≡ sell_side t → x ≡ fill_effect f s₁ → s₂ ≡ fill_told f s₁ → y ≡ fill_effect k s₂ → s₃ ≡ fill_told k s₂
      → Step s (event.Strike (Ok (Some (record { trade = t; buy = x; sell = y })))) s₃
  strikes s₁ s₂ s₃ t b f k x y struck e₁ is_f is_k xe e₂ ye e₃ =
      strike_step m s s₁ s₂ s₃ t b x y struck e₁
      (xe ∙ ap (λ (z : Fill). fill_effect z s₁) is_f) (e₂ ∙ ap (λ (z : Fill). fill_told z s₁) is_f)
      (ye ∙ ap (λ (z : Fill). fill_effect z s₂) is_k) (e₃ ∙ ap (λ (z : Fill). fill_told z s₂) is_k)
