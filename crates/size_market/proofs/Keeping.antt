-- A round is sound in one way at most, so that the fact comes out of its truncation again; and only a call that is accepted ends it.
use Rattle.std.proofs.Common.{◌≡◌, ℕ, true, cond, List, is_ok, Some, None, Ok, Err, Option, Result, sym, ap, subst, arith}
use mathlib.Core.Bool.{Bool-set}
use mathlib.Core.Logic.{∥∥₁_elim}
use native.Mathlib.Nat.{ℕ_set}
use native.Mathlib.Bridge.{le_prop}
use Rattle.terms.specs.Answers.{Does}
use Rattle.terms.specs.declared.refusal.Refusal.{Refusal}
use Rattle.market.specs.Book.{Entry, Book}
use Rattle.size_market.specs.declared.round.Round.{Round}
use Rattle.size_market.specs.Size.{ended_by}
use Rattle.size_market.specs.Going.{pending_in, Going, Sound}

going_prop : (ess : List (List Entry)) (r : Round) → IsProp (Going ess r)
going_prop ess r a b = λ t. record {
  stands = Bool-set _ true a.stands b.stands t;
  limit = Bool-set _ true a.limit b.limit t;
  some = le_prop a.some b.some t;
  taken = le_prop a.taken b.taken t;
  covered = le_prop a.covered b.covered t;
  rest = ℕ_set _ _ a.rest b.rest t;
  bound = le_prop a.bound b.bound t;
}

pub going : (ess : List (List Entry)) (r : Round) → Sound ess (Some r) → Going ess r
going ess r h = ∥∥₁_elim h (going_prop ess r) (λ w. w)

-- a call that is accepted ends the round; one that is refused leaves the book, and with it the round
pub kept_so : {X : Type 0} (o : Option Refusal) (x : X) (b a left : Book) (r : Result X Refusal) (before after : Option Round) → after ≡ cond (is_ok r) None before → Sound b.resting before →
    Does o x b a r left → Sound left.resting after × (pending_in left.resting after ≡ ended_by r (pending_in b.resting before))
kept_so o x b a left (Ok y) before after e s d =
    let P : Option Round → Type 0 = Sound left.resting in
    (subst P (sym e) ∣ tt ∣₁, ap (pending_in left.resting) e)
kept_so None x b a left (Err f) before after e s d = let q = d.0 in let z : ◌≡◌ {A = ℕ} 0 1 = cc in absurd (omega arith)
kept_so (Some g) x b a left (Err f) before after e s d =
    let P : Option Round → Type 0 = Sound left.resting in
    let Q : Book → Type 0 = λ v. Sound v.resting before in
    (subst P (sym e) (subst Q (sym d.1) s), (λ i. pending_in (d.1 i).resting (e i)))
