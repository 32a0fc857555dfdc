-- Entries less: what is taken off, what it had, and what it leaves.
use Rattle.std.proofs.Common.{◌≡◌, ℕ, ◌<◌, ◌≤◌, Bool, true, not, eqb, List, map, Ok, Err, sym, refl, ap, ◌∙◌, subst, arith, le-ltb, lt-ltb}
use Rattle.std.proofs.lemmas.Bool.{cond-true, cond-false, not_from_true, not_from_false}
use Rattle.chains.specs.declared.table.Chains.{Chains}
use Rattle.chains.specs.Asks.{without_all, saturated}
use Rattle.chains.specs.Lists.{lists}
use Rattle.terms.specs.declared.refusal.Refusal.TheVariants.{NoOrder}
use Rattle.terms.specs.declared.entries.Entry.{Entry}
use Rattle.terms.specs.declared.entries.Slip.{Slip}
use Rattle.market.specs.Book as book
use Rattle.market.specs.Book.{Book, is_for, counts, any_in, totals, without, taken_off}
use Rattle.market.specs.Market.{Withdrawn, withdraw_refusal}
use Rattle.market.specs.Seen.{seen}
use Rattle.tables.specs.Kept.{seen_entries, Few, Apart}
use Rattle.tables.specs.Held.{book_in}
use Rattle.tables.specs.Tally.{weighed}
use Rattle.tables.proofs.Listed.{any_counts, without_seen, totals_seen}
use Rattle.tables.proofs.Books.{counts_without, login_total}
use Rattle.tables.proofs.Doing.{refused, accepted, same_book}

pub record Less (p : book.Entry → Bool) (es es' : Chains Entry 16) (ss : Chains Slip 24) (r : ℕ) : Type 0 where
  pub few : Few (seen_entries es')
  pub apart : Apart (seen_entries es')
  pub sum : r ≡ totals p (seen_entries es)
  pub bound : r ≤ 1048560
  pub left : book_in es' ss ≡ taken_off p (book_in es ss)

pub taken : (p : book.Entry → Bool) (login : ℕ) → ((e : book.Entry) → p e ≡ true → eqb e.login login ≡ true) → (es es' : Chains Entry 16) (ss : Chains Slip 24) (r : ℕ) →
    Few (seen_entries es) → Apart (seen_entries es) → r ≡ saturated (weighed (λ e. e.contracts.value) (λ e. p (seen e)) (lists es)) →
    lists es' ≡ map (without_all (λ e. p (seen e))) (lists es) → Less p es es' ss r
taken p login h es es' ss r few apart er el =
    let ess = seen_entries es in
    let total = totals_seen p (lists es) in
    let small = login_total p login h (lists es) few in
    let now : seen_entries es' ≡ map (without p) ess = ap (map (map seen)) el ∙ without_seen p (lists es) in
    let P : List (List book.Entry) → Type 0 = Few in
    let Q : List (List book.Entry) → Type 0 = Apart in
    let fewer : Few (map (without p) ess) = λ l. omega (arith, counts_without p (λ e. eqb e.login l) ess, few l) in
    let still : Apart (map (without p) ess) = λ l n. omega (arith, counts_without p (is_for l n) ess, apart l n) in
    let sum : r ≡ totals p ess = omega (arith, total, small, er) in
    record {
      few = subst P (sym now) fewer;
      apart = subst Q (sym now) still;
      sum = sum;
      bound = omega arith;
      left = same_book (book_in es' ss) (taken_off p (book_in es ss)) now refl refl;
    }

pub none_found : (b : Book) (login number : ℕ) → counts (is_for login number) b.resting ≡ 0 → Withdrawn b login number (Err NoOrder) b
none_found b login number z =
    refused (withdraw_refusal b login number) NoOrder _ b _ (cond-true (not (any_in (is_for login number) b.resting)) _ _ (not_from_false _ (any_counts (is_for login number) b.resting ∙ le-ltb _ _ (omega arith))))

pub one_found : (b a : Book) (login number r : ℕ) → 0 < counts (is_for login number) b.resting → r ≡ totals (is_for login number) b.resting → a ≡ taken_off (is_for login number) b → Withdrawn b login number (Ok r) a
one_found b a login number r h er ea =
    accepted (withdraw_refusal b login number) _ b _ r a (cond-false (not (any_in (is_for login number) b.resting)) _ _ (not_from_true _ (any_counts (is_for login number) b.resting ∙ lt-ltb _ _ h))) er ea
