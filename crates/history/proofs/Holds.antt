-- Holds: an entry with good fields, of an open login, in a series with values is answered 21 exactly when its login or its acronym is held by
-- the events. Assumes nothing.
use Rattle.std.proofs.Common.{◌≡◌, ℕ, Bool, true, false, cond, not, ◌||◌, leb, ◌↔◌, Some, None, sym, refl, ap, ◌∙◌, arith}
use Rattle.terms.specs.Entered.{entered_number}
use Rattle.terms.specs.Refusals.{number}
use Rattle.terms.specs.Tables.{any_of, at}
use Rattle.terms.specs.declared.events.EnterAnswer.{EnterAnswer}
use Rattle.terms.specs.declared.messages.ScopeNumber.TheVariants.{Acronym, Login}
use Rattle.terms.specs.declared.messages.Ticket.{Ticket}
use Rattle.terms.specs.declared.refusal.Refusal.TheVariants.{Allotment, Field, Held, InUse, NoValues, NotOpen}
use Rattle.terms.specs.declared.refusal.Refusal.{Refusal}
use Rattle.terms.proofs.Tables.{mixed, never}
use Rattle.market.specs.Book.{Book}
use Rattle.market.specs.Market.{rest_refusal}
use Rattle.checks.specs.Meaning.{Lawful, Meaning}
use Rattle.history.specs.Acts.{Enter, entered}
use Rattle.history.specs.Calls.{refusal}
use Rattle.history.specs.Entering.{Verdict, cannot_rest, enter_reply, entry_of, is_held, judged_of, rests, turned, verdict, verdict_answer}
use Rattle.history.specs.Fields.{good_ticket}
use Rattle.history.specs.Held.{firm_in, held_in}
use Rattle.history.specs.Promises.{Firm, Holds}
use Rattle.history.specs.State.{Row, State, is_open, nonzero, row}
use Rattle.history.specs.Step.{reached}
use Rattle.history.proofs.Known.{firm_of, open_firm}
use Rattle.history.proofs.KnownRuns.{known_reached, not_21}
use Rattle.history.proofs.Rows.{open_free}
use Rattle.history.proofs.Verdicts.{cannot_rest_so}

module _ (m : Meaning) where
  rest_number : (b : Book) (t : Ticket) (x : Refusal) → rest_refusal b (entry_of t) ≡ Some x → number x ≡ 21 → ⊥
  rest_number b t x e = go (any_of _ b.resting) (leb 16 _) e
    where
      go : (p q : Bool) → cond p (Some InUse) (cond q (Some Allotment) None) ≡ Some x → number x ≡ 21 → ⊥
      go true q k n = let z : InUse ≡ x = cc in let w : ◌≡◌ {A = ℕ} 31 21 = ap number z ∙ n in omega arith
      go false true k n = let z : Allotment ≡ x = cc in let w : ◌≡◌ {A = ℕ} 32 21 = ap number z ∙ n in omega arith
      go false false k n = let z : ◌≡◌ {A = ℕ} 0 1 = cc in omega arith

  module _ (lawful : Lawful m) where
    answer_21 : (s : State m) (t : Ticket) (v : Verdict) → verdict s t ≡ v → entered_number (verdict_answer t s v) ≡ 21 → ⊥
    answer_21 s t (turned n) e q = let r = not_21 m lawful s t n e in omega (arith, r.0, q)
    answer_21 s t (cannot_rest x) e q = rest_number s.book t x (cannot_rest_so (judged_of s t) _ x e) q
    answer_21 s t rests e q = let w : ◌≡◌ {A = ℕ} 0 21 = q in omega arith

    -- what comes once the fields are good, the login is open and the series has values
    by_hold :
        (s : State m) (t : Ticket) (good op valued held : Bool) → good ≡ true → op ≡ true → valued ≡ true
        → (entered_number (enter_reply t s (cond (not good) (Some Field)
        (cond (not op) (Some NotOpen) (cond (not valued) (Some NoValues) (cond held (Some Held) None))))) ≡ 21) ↔ (held ≡ true)
    by_hold s t good op valued true b o v = rw (b, o, v) (λ _. refl, λ _. refl)
    by_hold s t good op valued false b o v = rw (b, o, v) (λ q. never _ (answer_21 s t (verdict s t) refl q), λ q. mixed _ (sym q))

    open_so : (r : Row) → nonzero (firm_of r) ≡ true → is_open r ≡ true
    open_so r e = go (is_open r) refl e
      where
        go : (b : Bool) → is_open r ≡ b → nonzero (cond b r.acronym 0) ≡ true → is_open r ≡ true
        go true p q = p
        go false p q = mixed _ (sym q)

    pub holds_stand : Holds m
    holds_stand p room h t r run good op valued =
        let s = reached m p room h in
        let k = known_reached m lawful p room h run.0 in
        let open_is : is_open (row s t.login) ≡ true = open_so (row s t.login) (ap nonzero (k.firm t.login) ∙ op) in
        let firm : (row s t.login).acronym ≡ firm_in h t.login = open_firm (row s t.login) (firm_in h t.login) open_is
        (k.firm t.login) in
        let real : Firm (row s t.login).acronym = k.sound.table.real t.login (open_free (row s t.login) open_is) in
        let held : is_held s t.login ≡ (held_in h (Login t.login) || held_in h (Acronym (firm_in h t.login))) = both _ _ _ _
        (k.login t.login open_is) (k.acronym (row s t.login).acronym real ∙ ap (λ (a : ℕ). held_in h (Acronym a)) firm) in
        let is : r ≡ enter_reply t s (refusal s (Enter t)) = inside_entered r _ run.1 in
        let x = by_hold s t (good_ticket t) (is_open (row s t.login)) (at false s.valued t.series)
        (is_held s t.login) good open_is (k.series t.series ∙ valued) in
        (λ q. sym held ∙ x.0 (sym (ap entered_number is) ∙ q), λ q. ap entered_number is ∙ x.1 (held ∙ q))
      where
        both : (a b c d : Bool) → a ≡ c → b ≡ d → (a || b) ≡ (c || d)
        both a b c d e f = rw (e, f)

        inside_entered : (x y : EnterAnswer) → entered x ≡ entered y → x ≡ y
        inside_entered x y e = cc
