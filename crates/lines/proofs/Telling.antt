-- What is read of a line is told in full, and a fault names what is wrong first. Assumes nothing.
use Rattle.std.proofs.Common.{◌≡◌, ℕ, zero, suc, eqb, List, [], ◌∷◌, ◌++◌, map, length, drop, Some, None, Ok, Err, Option, Result, sym, refl, ap, ◌∙◌, subst, inl, inr, arith}
use Rattle.std.specs.Str.{bytes_eq}
use Rattle.std.proofs.lemmas.Slice.Eq.{bytes_eq-Decides}
use Rattle.std.proofs.lemmas.Option.{none-some}
use Rattle.std.proofs.lemmas.Bool.{cases_Bool, cond-true, cond-false}
use Rattle.std.proofs.lemmas.Bool.Decides.{eqb_tells}
use Rattle.script.specs.declared.fields.Fault as script
use Rattle.script.specs.Numbers.{number_of, numbers_in, Told}
use Rattle.script.proofs.Telling.{numbered}
use Rattle.terms.specs.declared.events.Call.{Call}
use Rattle.terms.specs.declared.events.Call.TheVariants as call
use Rattle.lines.specs.declared.faults.CallFault.{CallFault}
use Rattle.lines.specs.declared.faults.FieldFault.{FieldFault}
use Rattle.lines.specs.declared.verbs.ScopeWord.{ScopeWord}
use Rattle.lines.specs.declared.verbs.ScopeWord.TheVariants as scope
use Rattle.lines.specs.declared.verbs.Verb.{Verb}
use Rattle.lines.specs.declared.verbs.Verb.TheVariants.{Tick, Values, Open, Retire, Limit, Enter, Cancel, Strike, Take, Receipt, PutBack, Kill, Release}
use Rattle.lines.specs.Verbs.{worded, word_of, verbs, verb_of, scope_word, scope_of, scoped}
use Rattle.lines.specs.Names.{field_names}
use Rattle.lines.specs.Calls.{field, applied, in_call, in_line, plainly, spared, limit_numbers, limit_in, or_scope, for_scope, with_scope, call_in, begun, line_in}
use Rattle.lines.specs.Spelling.{number_of as number_in, heading, numbers_of, scopes, LineTold}

-- ---- words

-- a word that names something is its word
worded_is : {X : Type 0} (word : X → List ℕ) (xs : List X) (w : List ℕ) (x : X) → worded word xs w ≡ Some x → w ≡ word x
worded_is word [] w x e = absurd (none-some x e)
worded_is word (y ∷ ys) w x e =
    elim (cases_Bool (bytes_eq w (word y))) [
      | inl t ↦ (bytes_eq-Decides w (word y)).0 t ∙ (let same : Some y ≡ Some x = sym (cond-true (bytes_eq w (word y)) _ _ t) ∙ e in ap word (cc))
      | inr f ↦ worded_is word ys w x (sym (cond-false (bytes_eq w (word y)) _ _ f) ∙ e)
    ]

verb_named : (v : Verb) → verb_of (word_of v) ≡ Some v
verb_named Tick = refl
verb_named Values = refl
verb_named Open = refl
verb_named Retire = refl
verb_named Limit = refl
verb_named Enter = refl
verb_named Cancel = refl
verb_named Strike = refl
verb_named Take = refl
verb_named Receipt = refl
verb_named PutBack = refl
verb_named Kill = refl
verb_named Release = refl

scope_named : (s : ScopeWord) → scope_of (scope_word s) ≡ Some s
scope_named scope.Login = refl
scope_named scope.Acronym = refl

no_verb : (w : List ℕ) → verb_of w ≡ None → (v : Verb) → w ≡ word_of v → ⊥
no_verb w e v is = none-some v (sym e ∙ ap verb_of is ∙ verb_named v)

-- ---- numbers by their places

abbrev tabulate : ℕ → (ℕ → ℕ) → List ℕ
tabulate zero f = []
tabulate (suc k) f = f 0 ∷ tabulate k (λ i. f (suc i))

tabulate_all : (ns : List ℕ) → tabulate (length ns) (field ns) ≡ ns
tabulate_all [] = refl
tabulate_all (n ∷ ns) = ap (λ ms. n ∷ ms) (tabulate_all ns)

by_places : (k : ℕ) (ns : List ℕ) → length ns ≡ k → tabulate k (field ns) ≡ ns
by_places k ns e = ap (λ m. tabulate m (field ns)) (sym e) ∙ tabulate_all ns

as_many : (ws : List (List ℕ)) (ns : List ℕ) → map number_of ws ≡ map Some ns → length ns ≡ length ws
as_many [] [] e = refl
as_many [] (n ∷ ns) e = absurd (let z : ◌≡◌ {A = ℕ} 0 1 = cc in omega arith)
as_many (w ∷ ws) [] e = absurd (let z : ◌≡◌ {A = ℕ} 0 1 = cc in omega arith)
as_many (w ∷ ws) (n ∷ ns) e = let rest : map number_of ws ≡ map Some ns = cc in ap suc (as_many ws ns rest)

told : (count : ℕ) (ws : List (List ℕ)) → Told count ws (numbers_in count 0 ws)
told count ws = (numbered count ws (numbers_in count 0 ws) refl).told

-- ---- calls

-- numbers after what stands before them
module _ (v : Verb) (hs : List (List ℕ)) (few : length hs ≡ scopes v) (f : List ℕ → Call) (head : (ns : List ℕ) → heading (f ns) ≡ word_of v ∷ hs) where
  after_heading : (ws : List (List ℕ)) (r : Result (List ℕ) script.Fault) → Told (length (field_names v)) ws r → ((ns : List ℕ) → length ns ≡ length (field_names v) → numbers_of (f ns) ≡ ns) → LineTold (word_of v ∷ (hs ++ ws)) (in_line (applied f (in_call v r)))
  after_heading ws (Ok ns) t all =
      (ws, ap (λ (h : List (List ℕ)). h ++ ws) (sym (head ns)), inl (t.1 ∙ ap (map Some) (sym (all ns (as_many ws ns t.1 ∙ t.0)))))
  after_heading ws (Err e) t all = (hs, ws, refl, few, t)

-- the word of a scope first
module _ (v : Verb) (ws : List (List ℕ)) (f : ScopeWord → Result Call FieldFault) where
  nil_cons : {x : List ℕ} {xs : List (List ℕ)} → [] ≡ x ∷ xs → ⊥
  nil_cons e = let z : ◌≡◌ {A = ℕ} 0 1 = cc in omega arith

  scope_read : (x : List ℕ) (xs : List (List ℕ)) (o : Option ScopeWord) → scope_of x ≡ o → ((s : ScopeWord) → x ≡ scope_word s → LineTold (word_of v ∷ x ∷ xs) (in_line (f s))) → LineTold (word_of v ∷ x ∷ xs) (in_line (for_scope f (or_scope v o)))
  scope_read x xs None e then =
      (x ∷ xs, refl, λ s us is. none-some s (sym e ∙ ap scope_of (let same : x ≡ scope_word s = cc in same) ∙ scope_named s))
  scope_read x xs (Some s) e then = then s (worded_is scope_word (scope.Login ∷ scope.Acronym ∷ []) x s e)

-- a call of a scope, from the words after that of the scope
scope_told : (v : Verb) (f : ScopeWord → List (List ℕ) → Result Call FieldFault) → ((s : ScopeWord) (us : List (List ℕ)) → LineTold (word_of v ∷ scope_word s ∷ us) (in_line (f s us))) → (ws : List (List ℕ)) → LineTold (word_of v ∷ ws) (in_line (with_scope v (λ s. f s (drop 1 ws)) ws))
scope_told v f then [] = ([], refl, λ s us e. nil_cons v [] (λ s. f s []) e)
scope_told v f then (x ∷ xs) =
    scope_read v (x ∷ xs) (λ s. f s xs) x xs (scope_of x) refl (λ s is. subst (λ (h : List ℕ). LineTold (word_of v ∷ h ∷ xs) (in_line (f s xs))) (sym is) (then s xs))

kill_told : (s : ScopeWord) (us : List (List ℕ)) → LineTold (word_of Kill ∷ scope_word s ∷ us) (in_line (plainly Kill 3 (λ ns. call.Kill (scoped s (field ns 0)) (field ns 1) (field ns 2)) us))
kill_told scope.Login us = after_heading Kill (scope_word scope.Login ∷ []) refl _ (λ ns. refl) us (numbers_in 3 0 us) (told 3 us) (by_places 3)
kill_told scope.Acronym us = after_heading Kill (scope_word scope.Acronym ∷ []) refl _ (λ ns. refl) us (numbers_in 3 0 us) (told 3 us) (by_places 3)

release_told : (s : ScopeWord) (us : List (List ℕ)) → LineTold (word_of Release ∷ scope_word s ∷ us) (in_line (plainly Release 1 (λ ns. call.Release (scoped s (field ns 0))) us))
release_told scope.Login us = after_heading Release (scope_word scope.Login ∷ []) refl _ (λ ns. refl) us (numbers_in 1 0 us) (told 1 us) (by_places 1)
release_told scope.Acronym us = after_heading Release (scope_word scope.Acronym ∷ []) refl _ (λ ns. refl) us (numbers_in 1 0 us) (told 1 us) (by_places 1)

-- ---- limits, whose interval may be left out

abbrev limit_call : ScopeWord → List ℕ → Call
limit_call s ns = call.Limit (limit_in s ns)

limit_head : (s : ScopeWord) (ns : List ℕ) → heading (limit_call s ns) ≡ word_of Limit ∷ scope_word s ∷ []
limit_head scope.Login ns = refl
limit_head scope.Acronym ns = refl

limit_numbers_read : (s : ScopeWord) (ns : List ℕ) → length ns ≡ 4 → numbers_of (limit_call s ns) ≡ ns
limit_numbers_read scope.Login ns e = by_places 4 ns e
limit_numbers_read scope.Acronym ns e = by_places 4 ns e

whole_told : (s : ScopeWord) (us : List (List ℕ)) → LineTold (word_of Limit ∷ scope_word s ∷ us) (in_line (applied (limit_call s) (in_call Limit (numbers_in 4 0 us))))
whole_told s us = after_heading Limit (scope_word s ∷ []) refl (limit_call s) (limit_head s) us (numbers_in 4 0 us) (told 4 us) (limit_numbers_read s)

scope_number : (s : ScopeWord) (n : ℕ) → number_in (scoped s n) ≡ n
scope_number scope.Login n = refl
scope_number scope.Acronym n = refl

left_out : (s : ScopeWord) (us : List (List ℕ)) (ns : List ℕ) → Told 3 us (Ok ns) → field ns 1 ≡ 4 → LineTold (word_of Limit ∷ scope_word s ∷ us) (Ok (Some (limit_call s (ns ++ (0 ∷ [])))))
left_out s us [] t k = absurd (let long = as_many us [] t.1 in omega (arith, t.0))
left_out s us (a ∷ []) t k = absurd (let long = as_many us (a ∷ []) t.1 in omega (arith, t.0))
left_out s us (a ∷ b ∷ []) t k = absurd (let long = as_many us (a ∷ b ∷ []) t.1 in omega (arith, t.0))
left_out s us (a ∷ b ∷ c ∷ []) t k =
    (us, ap (λ (h : List (List ℕ)). h ++ us) (sym (limit_head s (a ∷ b ∷ c ∷ 0 ∷ []))), inr (limit_in s (a ∷ b ∷ c ∷ 0 ∷ []), refl, k, refl, t.1 ∙ ap (λ n. map Some (n ∷ b ∷ c ∷ [])) (sym (scope_number s a))))
left_out s us (a ∷ b ∷ c ∷ d ∷ ns) t k = absurd (let long = as_many us (a ∷ b ∷ c ∷ d ∷ ns) t.1 in omega (arith, t.0))

spared_told : (s : ScopeWord) (us : List (List ℕ)) (three : Result (List ℕ) script.Fault) → Told 3 us three → LineTold (word_of Limit ∷ scope_word s ∷ us) (in_line (applied (limit_call s) (in_call Limit (spared three (numbers_in 4 0 us)))))
spared_told s us (Ok ns) t =
    let Goal : Result (List ℕ) script.Fault → Type 0 = λ r. LineTold (word_of Limit ∷ scope_word s ∷ us) (in_line (applied (limit_call s) (in_call Limit r))) in
    elim (eqb_tells (field ns 1) 4) [
      | inl p ↦ subst Goal (sym (cond-true (eqb (field ns 1) 4) _ _ p.0)) (left_out s us ns t p.1)
      | inr p ↦ subst Goal (sym (cond-false (eqb (field ns 1) 4) _ _ p.0)) (whole_told s us)
    ]
spared_told s us (Err e) t = whole_told s us

limit_told : (s : ScopeWord) (us : List (List ℕ)) → LineTold (word_of Limit ∷ scope_word s ∷ us) (in_line (applied (limit_call s) (in_call Limit (limit_numbers us))))
limit_told s us = spared_told s us (numbers_in 3 0 us) (told 3 us)

-- ---- lines

call_told : (v : Verb) (ws : List (List ℕ)) → LineTold (word_of v ∷ ws) (in_line (call_in v ws))
call_told Tick ws = after_heading Tick [] refl _ (λ ns. refl) ws (numbers_in 1 0 ws) (told 1 ws) (by_places 1)
call_told Values ws = after_heading Values [] refl _ (λ ns. refl) ws (numbers_in 12 0 ws) (told 12 ws) (by_places 12)
call_told Open ws = after_heading Open [] refl _ (λ ns. refl) ws (numbers_in 4 0 ws) (told 4 ws) (by_places 4)
call_told Retire ws = after_heading Retire [] refl _ (λ ns. refl) ws (numbers_in 1 0 ws) (told 1 ws) (by_places 1)
call_told Limit ws = scope_told Limit (λ s us. applied (limit_call s) (in_call Limit (limit_numbers us))) limit_told ws
call_told Enter ws = after_heading Enter [] refl _ (λ ns. refl) ws (numbers_in 8 0 ws) (told 8 ws) (by_places 8)
call_told Cancel ws = after_heading Cancel [] refl _ (λ ns. refl) ws (numbers_in 2 0 ws) (told 2 ws) (by_places 2)
call_told Strike ws = after_heading Strike [] refl (λ ns. call.Strike) (λ ns. refl) ws (numbers_in 0 0 ws) (told 0 ws) (by_places 0)
call_told Take ws = after_heading Take [] refl _ (λ ns. refl) ws (numbers_in 1 0 ws) (told 1 ws) (by_places 1)
call_told Receipt ws = after_heading Receipt [] refl _ (λ ns. refl) ws (numbers_in 5 0 ws) (told 5 ws) (by_places 5)
call_told PutBack ws = after_heading PutBack [] refl _ (λ ns. refl) ws (numbers_in 5 0 ws) (told 5 ws) (by_places 5)
call_told Kill ws = scope_told Kill (λ s us. plainly Kill 3 (λ ns. call.Kill (scoped s (field ns 0)) (field ns 1) (field ns 2)) us) kill_told ws
call_told Release ws = scope_told Release (λ s us. plainly Release 1 (λ ns. call.Release (scoped s (field ns 0))) us) release_told ws

begun_told : (w : List ℕ) (ws : List (List ℕ)) (o : Option Verb) → verb_of w ≡ o → LineTold (w ∷ ws) (begun o ws)
begun_told w ws None e = (w, ws, refl, no_verb w e)
begun_told w ws (Some v) e =
    subst (λ (x : List ℕ). LineTold (x ∷ ws) (in_line (call_in v ws))) (sym (worded_is word_of verbs w v e)) (call_told v ws)

words_told : (ws : List (List ℕ)) → LineTold ws (line_in ws)
words_told [] = refl
words_told (w ∷ ws) = begun_told w ws (verb_of w) refl

pub line_told : (ws : List (List ℕ)) (r : Result (Option Call) CallFault) → r ≡ line_in ws → LineTold ws r
line_told ws r e = subst (LineTold ws) (sym e) (words_told ws)
