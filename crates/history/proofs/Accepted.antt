-- What is known of a call that is accepted: its fields, and how its login stands. Assumes nothing.
use Rattle.std.proofs.Common.{◌≡◌, ℕ, ◌≤◌, true, false, [], ◌∷◌, None}
use Rattle.std.proofs.lemmas.Bool.{and_parts}
use Rattle.terms.specs.Ranges.{within}
use Rattle.terms.specs.declared.messages.Fill.{Fill}
use Rattle.terms.specs.declared.messages.ScopeNumber.TheVariants.{Login}
use Rattle.terms.specs.declared.messages.ScopeNumber.{ScopeNumber}
use Rattle.terms.specs.declared.messages.Ticket.{Ticket}
use Rattle.terms.specs.declared.values.ValueNumbers.{ValueNumbers}
use Rattle.terms.proofs.Answers.{inside, none_so, not_false}
use Rattle.terms.proofs.Tables.{passed}
use Rattle.market.specs.Book.{slip_of, waiting_of}
use Rattle.checks.specs.Meaning.{Meaning}
use Rattle.history.specs.Acts.{Enter, Kill, Open, Receipt, Release, Retire, Take, Values}
use Rattle.history.specs.Calls.{is_oldest, refusal}
use Rattle.history.specs.Fields.{good_contracts, good_login, good_number, good_price, good_scope, good_series, good_side, good_ticket}
use Rattle.history.specs.Promises.{Firm}
use Rattle.history.specs.Scopes.{shut}
use Rattle.history.specs.State.{State, is_free, is_open, nothing_waits, row}
use Rattle.history.proofs.Rows.{free_else}

-- a ticket with good fields asks for 1 to 65,535 contracts
pub ticket_contracts : (t : Ticket) → good_ticket t ≡ true → (1 ≤ t.contracts) × (t.contracts ≤ 65535)
ticket_contracts t g =
    inside 1 65535 t.contracts
    (passed (good_login t.login ∷ good_number t.number ∷ good_series t.series ∷ good_side t.side ∷ within 1 2
    t.kind ∷ within 0 3 t.marks ∷ good_price t.price ∷ good_contracts t.contracts ∷ []) 8 g)

module _ (m : Meaning) (s : State m) where
  pub open_ok :
      (l a role reach : ℕ) → refusal s (Open l a role reach) ≡ None → (1 ≤ l) × (l ≤ 24) × Firm a × (is_free (row s l) ≡ true)
  open_ok l a role reach e =
      let x = none_so _ _ _ e in
      let y = none_so _ _ _ x.1 in
      let z = none_so _ _ _ y.1 in
      let f = and_parts _ _ (not_false _ x.0) in
      let login = inside 1 24 l f.0 in
      (login.0, login.1, inside 1 8 a (and_parts _ _ f.1).0, free_else (row s l) y.0 z.0)

  pub retire_ok : (l : ℕ) → refusal s (Retire l) ≡ None → is_open (row s l) ≡ true
  retire_ok l e = not_false _ (none_so _ _ _ (none_so _ _ _ e).1).0

  pub record Enterable (t : Ticket) : Type 0 where
    pub login_low : 1 ≤ t.login
    pub login_high : t.login ≤ 24
    pub series_low : 1 ≤ t.series
    pub series_high : t.series ≤ 16
    pub open_is : is_open (row s t.login) ≡ true
    pub good : good_ticket t ≡ true

  pub enter_ok : (t : Ticket) → refusal s (Enter t) ≡ None → Enterable t
  enter_ok t e =
      let x = none_so _ _ _ e in
      let y = none_so _ _ _ x.1 in
      let f = and_parts _ _ (not_false _ x.0) in
      let login = inside 1 24 t.login f.0 in
      let series = inside 1 16 t.series (and_parts _ _ (and_parts _ _ f.1).1).0 in
      record {
        login_low = login.0;
        login_high = login.1;
        series_low = series.0;
        series_high = series.1;
        open_is = not_false _
            y.0;
        good = not_false _ x.0;
      }

  pub take_ok : (l : ℕ) → refusal s (Take l) ≡ None → (1 ≤ l) × (l ≤ 24) × (is_free (row s l) ≡ false) × (nothing_waits (waiting_of s.book l) ≡ false)
  take_ok l e =
      let x = none_so _ _ _ e in
      let y = none_so _ _ _ x.1 in
      let z = none_so _ _ _ y.1 in
      let login = inside 1 24 l (not_false _ x.0) in
      (login.0, login.1, y.0, z.0)

  pub record Handed (f : Fill) : Type 0 where
    pub login_low : 1 ≤ f.login
    pub login_high : f.login ≤ 24
    pub not_free : is_free (row s f.login) ≡ false
    pub oldest_is : is_oldest (slip_of f) (waiting_of s.book f.login) ≡ true

  pub receipt_ok : (f : Fill) → refusal s (Receipt f) ≡ None → Handed f
  receipt_ok f e =
      let x = none_so _ _ _ e in
      let y = none_so _ _ _ x.1 in
      let z = not_false _ (none_so _ _ _ y.1).0 in
      let login = inside 1 24 f.login (and_parts _ _ (not_false _ x.0)).0 in
      record { login_low = login.0; login_high = login.1; not_free = y.0; oldest_is = (and_parts _ _ z).1 }

  pub shut_ok : (l : ℕ) → shut s (Login l) ≡ false → is_open (row s l) ≡ true
  shut_ok l e = not_false _ e

  pub kill_ok : (scope : ScopeNumber) (reach block : ℕ) → refusal s (Kill scope reach block) ≡ None → (good_scope scope ≡ true)
      × (shut s scope ≡ false)
  kill_ok scope reach block e =
      let x = none_so _ _ _ e in
      let f = and_parts _ _ (not_false _ x.0) in
      (f.0, (none_so _ _ _ x.1).0)

  pub release_ok : (scope : ScopeNumber) → refusal s (Release scope) ≡ None → (good_scope scope ≡ true) × (shut s scope ≡ false)
  release_ok scope e =
      let x = none_so _ _ _ e in
      (not_false _ x.0, (none_so _ _ _ x.1).0)

  pub value_ok : (series : ℕ) (v : ValueNumbers) → refusal s (Values series v) ≡ None → (1 ≤ series) × (series ≤ 16)
  value_ok series v e = inside 1 16 series (and_parts _ _ (not_false _ (none_so _ _ _ e).0)).0
