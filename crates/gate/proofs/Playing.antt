-- Calls one after another: what they lead to, and the promises over all of them. Assumes nothing.
use Rattle.std.proofs.Common.{◌≡◌, ℕ, zero, suc, ◌+◌, ◌<◌, List, [], ◌∷◌, ◌++◌, map, length, get_or, take, drop, set, sym, refl, ap, ◌∙◌, subst, add-one, arith, length-set, take-suc-set, drop-set-lt}
use Rattle.terms.specs.declared.events.Call.{Call}
use Rattle.terms.specs.declared.events.Event.{Event}
use Rattle.checks.specs.Meaning.{Lawful, Meaning}
use Rattle.history.specs.Acts.{call_of}
use Rattle.history.specs.State.{State, new_gate}
use Rattle.history.specs.Step.{Run, Step}
use Rattle.history.proofs.Laws.{goes_on}
use Rattle.history.proofs.Promised.{promised}
use Rattle.gate.specs.Played.{Answered, Keeps, Leads, onto}

module _ (m : Meaning) (lawful : Lawful m) where
  runs_on : (b : State m) (es : List Event) (a : State m) → Leads b es a → (p : m.Pub) (room : ℕ) (h : List Event) → Run m p room h b → Run m p room (onto es h) a
  runs_on b [] a leads p room h run = subst (Run m p room h) (sym leads) run
  runs_on b (e ∷ es) a leads p room h run = runs_on leads.0 es a leads.2 p room (e ∷ h) (goes_on m p room h b leads.0 e run leads.1)

  -- what events lead to keeps the promises
  pub keeps : (b : State m) (es : List Event) (a : State m) → Leads b es a → Keeps b es a
  keeps b es a leads p room h run = let r = runs_on b es a leads p room h run in (r, promised m lawful p room (onto es h) r.0)

  pub keeps_one : (b : State m) (e : Event) (a : State m) → Step b e a → Keeps b (e ∷ []) a
  keeps_one b e a step = keeps b (e ∷ []) a (a, step, refl)

-- a history of nothing is a run of a new gate
pub begins : (m : Meaning) (p : m.Pub) (room : ℕ) (s : State m) → s ≡ new_gate m p room → Run m p room [] s
begins m p room s is = (tt, is)

leads_more : {m : Meaning} (b : State m) (es : List Event) (s : State m) (e : Event) (a : State m) → Leads b es s → Step s e a → Leads b (es ++ (e ∷ [])) a
leads_more {m} b [] s e a leads step = (a, subst (λ (x : State m). Step x e a) leads step, refl)
leads_more b (f ∷ es) s e a leads step = (leads.0, leads.1, leads_more leads.0 es s e a leads.2 step)

map_more : (es : List Event) (e : Event) → map call_of (es ++ (e ∷ [])) ≡ map call_of es ++ (call_of e ∷ [])
map_more [] e = refl
map_more (f ∷ es) e = ap (λ (cs : List Call). call_of f ∷ cs) (map_more es e)

take_more : (cs : List Call) (n : ℕ) (d : Call) → n < length cs → take (suc n) cs ≡ take n cs ++ (get_or cs n d ∷ [])
take_more [] n d h = absurd (omega arith)
take_more (c ∷ cs) zero d h = refl
take_more (c ∷ cs) (suc n) d h = ap (λ (xs : List Call). c ∷ xs) (take_more cs n d (omega arith))

drop_more : (n : ℕ) (es : List Event) → drop (suc n) es ≡ drop 1 (drop n es)
drop_more zero es = refl
drop_more (suc n) [] = refl
drop_more (suc n) (e ∷ es) = drop_more n es

-- what was played up to a place: the events so far answer the calls, the others are as they were, and lead here
pub record UpTo {m : Meaning} (b : State m) (calls : List Call) (before : List Event) (n : ℕ) (events : List Event) (a : State m) : Type 0 where
  pub long : length events ≡ length before
  pub answered : Answered n calls before events
  pub leads : Leads b (take n events) a

module _ {m : Meaning} (b : State m) (calls : List Call) (before : List Event) where
  pub none_yet : UpTo b calls before 0 before b
  none_yet = record { long = refl; answered = record { each = refl; others = refl }; leads = refl }

  pub one_more :
      (n : ℕ) (events : List Event) (s a : State m) (e : Event) (d : Call) → UpTo b calls before n events s → n < length calls → n < length events
      → Step s e a → call_of e ≡ get_or calls n d → UpTo b calls before (n + 1) (set events n e) a
  one_more n events s a e d up in_calls in_events step is =
      let next : n + 1 ≡ suc n = add-one n in
      let so_far : take (n + 1) (set events n e) ≡ take n events ++ (e ∷ []) = ap (λ i. take i (set events n e)) next ∙ take-suc-set events n e in_events in
      record {
        long = length-set events n e ∙ up.long;
        answered = record {
          each = ap (map call_of) so_far ∙ map_more (take n events) e
              ∙ ap (λ (cs : List Call). cs ++ (call_of e ∷ [])) up.answered.each
              ∙ ap (λ (c : Call). take n calls ++ (c ∷ [])) is
              ∙ sym (ap (λ i. take i calls) next ∙ take_more calls n d in_calls);
          others =
              drop-set-lt (n + 1) events n e (omega arith)
              ∙ ap (λ i. drop i events) next
              ∙ drop_more n events
              ∙ ap (drop 1) up.answered.others
              ∙ sym (ap (λ i. drop i before) next ∙ drop_more n before);
        };
        leads = subst (λ (es : List Event). Leads b es a) (sym so_far) (leads_more b (take n events) s e a up.leads step);
      }

  pub at_end : (i n : ℕ) (events : List Event) (a : State m) → i ≡ n → UpTo b calls before i events a → UpTo b calls before n events a
  at_end i n events a is up = subst (λ k. UpTo b calls before k events a) is up
