-- An entry more: where it is refused, and what it leaves.
use Rattle.std.proofs.Common.{◌≡◌, ℕ, ◌+◌, ◌<◌, ◌≤◌, Bool, true, false, cond, eqb, leb, List, [], ◌∷◌, ◌++◌, map, length, get_or, set, Some, None, Ok, Err, sym, refl, ap, ◌∙◌, subst, ⊎_elim, arith, le-ltb, lt-ltb, le-leb}
use borrow.Author.Tests.{lt-leb}
use Rattle.std.proofs.lemmas.List.{length-map, map-set, map_push, get_or-map}
use Rattle.std.proofs.lemmas.Bool.{cases_eq, cases_Bool, cond-true, cond-false, and_parts, eqb-true, ne_eqb}
use Rattle.chains.specs.declared.table.Chains.{Chains}
use Rattle.chains.specs.Lists.{lists, places, total, changed, appended}
use Rattle.terms.specs.declared.refusal.Refusal.TheVariants.{InUse, Allotment}
use Rattle.terms.specs.declared.entries.Entry.{Entry}
use Rattle.terms.specs.declared.entries.Slip.{Slip}
use Rattle.market.specs.Book as book
use Rattle.market.specs.Book.{Book, is_for, counts, any_in}
use Rattle.market.specs.Market.{Rested, rest_refusal, rested}
use Rattle.market.specs.Seen.{seen}
use Rattle.tables.specs.Kept.{seen_entries, Few, Apart}
use Rattle.tables.specs.Held.{book_in}
use Rattle.tables.proofs.Listed.{any_counts}
use Rattle.tables.proofs.Places.{at_place, put_place}
use Rattle.tables.proofs.Books.{counts_append, room_left}
use Rattle.tables.proofs.Doing.{refused, accepted, same_book}

-- ---- one list changed, seen through f

pub changed_seen : {X Y : Type 0} (f : X → Y) (g : List X → List X) (g' : List Y → List Y) (ls : List (List X)) (k : ℕ) → k < length ls →
    map f (g (get_or ls k [])) ≡ g' (map f (get_or ls k [])) → map (map f) (changed g ls k) ≡ changed g' (map (map f) ls) k
changed_seen f g g' ls k h e =
    map-set (map f) ls k (g (get_or ls k [])) ∙ ap (λ v. set (map (map f) ls) k v) (e ∙ ap g' (sym (get_or-map (map f) ls k [] [] h)))

pub appended_seen : {X Y : Type 0} (f : X → Y) (ls : List (List X)) (k : ℕ) (x : X) → k < length ls → map (map f) (appended ls k x) ≡ appended (map (map f) ls) k (f x)
appended_seen f ls k x h = changed_seen f (λ xs. xs ++ x ∷ []) (λ ys. ys ++ f x ∷ []) ls k h (map_push f (get_or ls k []) x)

-- ---- refusals

pub in_use : (b : Book) (s : ℕ) (e : book.Entry) → 0 < counts (is_for e.login e.number) b.resting → Rested b s e (Err InUse) b
in_use b s e h = refused (rest_refusal b e) InUse tt b (rested b s e) (cond-true (any_in (is_for e.login e.number) b.resting) _ _ (any_counts _ b.resting ∙ lt-ltb _ _ h))

past_in_use : (b : Book) (e : book.Entry) → counts (is_for e.login e.number) b.resting ≡ 0 →
    rest_refusal b e ≡ cond (leb 16 (counts (λ o. eqb o.login e.login) b.resting)) (Some Allotment) None
past_in_use b e z = cond-false (any_in (is_for e.login e.number) b.resting) _ _ (any_counts _ b.resting ∙ le-ltb _ _ (omega arith))

pub at_16 : (b : Book) (s : ℕ) (e : book.Entry) → counts (is_for e.login e.number) b.resting ≡ 0 → 16 ≤ counts (λ o. eqb o.login e.login) b.resting → Rested b s e (Err Allotment) b
at_16 b s e z h = refused (rest_refusal b e) Allotment tt b (rested b s e) (past_in_use b e z ∙ cond-true (leb 16 (counts (λ o. eqb o.login e.login) b.resting)) _ _ (le-leb _ _ h))

-- ---- an entry more

few_more : (ess : List (List book.Entry)) (k : ℕ) (e : book.Entry) → k < length ess → Few ess → counts (λ o. eqb o.login e.login) ess < 16 → Few (appended ess k e)
few_more ess k e h few lt l =
    ⊎_elim (λ q. let P : ℕ → Type 0 = λ v. counts (λ o. eqb o.login v) (appended ess k e) ≤ 16 in subst P q (omega (arith, counts_append (λ o. eqb o.login e.login) ess k e h, one (eqb e.login e.login))))
    (λ ne. omega (arith, few l, counts_append (λ o. eqb o.login l) ess k e h, cond-false {A = ℕ} (eqb e.login l) 1 0 (ne_eqb e.login l ne))) (cases_eq e.login l)
  where
    one : (b : Bool) → cond b 1 0 ≤ 1
    one true = omega arith
    one false = omega arith

apart_more : (ess : List (List book.Entry)) (k : ℕ) (e : book.Entry) → k < length ess → Apart ess → counts (is_for e.login e.number) ess ≡ 0 → Apart (appended ess k e)
apart_more ess k e h apart z l n =
    let more = counts_append (is_for l n) ess k e h in
    ⊎_elim (λ y. let a = and_parts (eqb e.login l) (eqb e.number n) y in
    let i = ap (λ v. counts (is_for v e.number) ess) (eqb-true e.login l a.0) in
    let j = ap (λ v. counts (is_for l v) ess) (eqb-true e.number n a.1) in
    omega (arith, more, i, j, z, cond-true {A = ℕ} (is_for l n e) 1 0 y))
    (λ y. omega (arith, more, apart l n, cond-false {A = ℕ} (is_for l n e) 1 0 y)) (cases_Bool (is_for l n e))

pub record More (es es' : Chains Entry 16) (ss : Chains Slip 24) (s : ℕ) (x : Entry) : Type 0 where
  pub few : Few (seen_entries es')
  pub apart : Apart (seen_entries es')
  pub does : Rested (book_in es ss) s (seen x) (Ok tt) (book_in es' ss)

-- there is a place for it
pub room_for : (es : Chains Entry 16) (x : Entry) → Few (seen_entries es) → 384 ≤ places es → counts (λ e. eqb e.login x.login.value) (seen_entries es) < 16 → total (lists es) < places es
room_for es x few room lt = omega (arith, room_left 24 (λ e. e.login.high) (lists es) x.login.value few x.login.low x.login.high lt)

pub one_more : (es es' : Chains Entry 16) (ss : Chains Slip 24) (k s : ℕ) (x : Entry) → Few (seen_entries es) → Apart (seen_entries es) → k + 1 ≡ s → k < length (lists es) →
    counts (is_for (seen x).login (seen x).number) (seen_entries es) ≡ 0 → counts (λ e. eqb e.login (seen x).login) (seen_entries es) < 16 → lists es' ≡ appended (lists es) k x → More es es' ss s x
one_more es es' ss k s x few apart e kl z lt el =
    let ess = seen_entries es in
    let kl2 : k < length ess = omega (arith, length-map (lists es) (map seen)) in
    let now : seen_entries es' ≡ appended ess k (seen x) = ap (map (map seen)) el ∙ appended_seen seen (lists es) k x kl in
    let P : List (List book.Entry) → Type 0 = Few in
    let Q : List (List book.Entry) → Type 0 = Apart in
    let b = book_in es ss in
    let named : (rested b s (seen x)).resting ≡ appended ess k (seen x) = put_place ess k s _ e ∙ ap (λ v. set ess k (v ++ seen x ∷ [])) (at_place [] ess k s e) in
    record {
      few = subst P (sym now) (few_more ess k (seen x) kl2 few lt);
      apart = subst Q (sym now) (apart_more ess k (seen x) kl2 apart z);
      does = accepted (rest_refusal b (seen x)) tt b (rested b s (seen x)) tt (book_in es' ss)
          (past_in_use b (seen x) z ∙ cond-false (leb 16 (counts (λ o. eqb o.login (seen x).login) ess)) _ _ (lt-leb _ _ lt))
          refl (same_book (book_in es' ss) (rested b s (seen x)) (now ∙ sym named) refl refl);
    }
