-- The first item of a chain that meets a test, and what its list is with that item or without.
use Rattle.std.proofs.Common.{◌≡◌, ℕ, ◌<◌, ◌≤◌, Bool, List, [], ◌∷◌, ◌++◌, length, get_or, set, Some, None, filter, Option, sym, refl, ap, ◌∙◌, ⊎_elim}
use Rattle.std.proofs.lemmas.List.{append-nil, set-get_or, set-set, set_past, get_or-set_same}
use Rattle.std.proofs.lemmas.Bool.{cases_lt}
use Rattle.chains.specs.Slots.{items}
use Rattle.chains.specs.Chain.{at}
use Rattle.chains.specs.Asks.{NoneOf, oldest, first_becomes, without_first, Became}
use Rattle.chains.specs.Sound.{Parts, Sound, listed}
use Rattle.chains.specs.Lists.{changed, Undoes}
use Rattle.chains.specs.Steps.{Found, ahead, after}
use Rattle.chains.proofs.Questions.{kept_none, kept_first, becomes_none, becomes_first, became}
use Rattle.chains.proofs.Walk.{step, passed_all}
use Rattle.chains.proofs.Whole.{list_at}

pub record Missing {X : Type 0} (p : X → Bool) (ls : List (List X)) (k : ℕ) : Type 0 where
  pub first : None ≡ oldest (filter p (get_or ls k []))
  pub stays : (zs : List X) → ls ≡ changed (first_becomes p zs) ls k

pub missing : {X : Type 0} (p : X → Bool) (ls : List (List X)) (k : ℕ) → NoneOf p (get_or ls k []) → Missing p ls k
missing p ls k m = record {
  first = sym (ap oldest (kept_none p (get_or ls k []) m));
  stays = λ zs. sym (ap (λ v. set ls k v) (becomes_none p zs (get_or ls k []) m) ∙ set-get_or ls k []);
}

-- x stands at here, after the items passed
pub record Present {X : Type 0} (p : X → Bool) (s : Parts X) (k here : ℕ) (x : X) (passed : List X) : Type 0 where
  pub first : Some x ≡ oldest (filter p (get_or (listed s) k []))
  pub becomes : (zs : List X) → first_becomes p zs (get_or (listed s) k []) ≡ passed ++ (zs ++ ahead s (after s here))

pub present : {X : Type 0} {N : ℕ} (p : X → Bool) (s : Parts X) (k prev here : ℕ) (x : X) → Sound N s → k < N → (f : Found p s k prev here) → at (items s.slots) here ≡ x ∷ [] → Present p s k here x f.passed
present p s k prev here x r kN f ex =
    let xs = f.passed in
    let ys = ahead s (after s here) in
    let w = f.walked in
    let e : get_or (listed s) k [] ≡ xs ++ x ∷ ys = list_at s k r kN ∙ passed_all _ _ _ prev here xs w ∙ ap (λ v. xs ++ v) (step _ _ here (after s here) x w.ahead f.some ex refl).holds in
    let yes_p = f.met x ex in
    record {
      first = sym (ap oldest (ap (filter p) e ∙ kept_first p xs ys x f.missed yes_p));
      becomes = λ zs. ap (first_becomes p zs) e ∙ becomes_first p zs xs ys x f.missed yes_p;
    }

-- what became of the list of chain k
pub became_at : {X : Type 0} (p : X → Bool) (zs : List X) (ls ls' : List (List X)) (k : ℕ) (r : Option X) → k < length ls →
    ls' ≡ changed (first_becomes p zs) ls k → r ≡ oldest (filter p (get_or ls k [])) → Became p zs (get_or ls k []) (get_or ls' k []) r
became_at p zs ls ls' k r lt e er = became p zs (get_or ls k []) (get_or ls' k []) r (ap (λ v. get_or v k []) e ∙ get_or-set_same ls k _ [] lt) er

-- what was just appended is taken off again
pub undone : {X : Type 0} (p : X → Bool) (k : ℕ) (before after : List (List X)) → after ≡ changed (without_first p) before k → Undoes p k before after
undone p k before after e old x eb none yes_p = ⊎_elim
    (λ (lt : k < length old).
    let at_k : get_or before k [] ≡ get_or old k [] ++ x ∷ [] = ap (λ v. get_or v k []) eb ∙ get_or-set_same old k _ [] lt in
    e ∙ ap (λ v. set before k (without_first p v)) at_k ∙ ap (λ v. set before k v) (becomes_first p [] (get_or old k []) [] x none yes_p ∙ append-nil (get_or old k []))
    ∙ ap (λ v. set v k (get_or old k [])) eb ∙ set-set old k _ _ ∙ set-get_or old k [])
    (λ (le : length old ≤ k).
    let same : before ≡ old = eb ∙ set_past old k _ le in
    e ∙ ap (λ v. set v k (without_first p (get_or v k []))) same ∙ set_past old k _ le)
    (cases_lt k (length old))
