-- A search by `find_map` over numbers that count up, and the lowest series that crosses.
use Rattle.std.proofs.Common.{◌≡◌, ℕ, ◌+◌, ◌<◌, List, Some, None, Option, ap, ◌∙◌, subst, arith}
use denote.Param.Members.{Mut, Called}
use Rattle.std.specs.Option.{option_map, IfSome, IsSomeAnd, MatchOption}
use Rattle.std.specs.Bool.{IsTrue}
use Rattle.std.specs.Iterator.Runs.{Run, ItemsCountUp, CallKeepsClosure, AllItemsGive, IsFirstToGive}
use Rattle.market.specs.Book.{Entry}
use Rattle.tables.specs.declared.cross.Crossing as code
use Rattle.tables.specs.Cross.{seen_crossing, crossing_at}
use Rattle.tables.proofs.Meeting.{Sought}

if_there : {A : Type 0} (P : A → Type 0) (o : Option A) (v : A) → option_map (λ y. y) o ≡ Some v → IfSome o P → P v
if_there P None v e h = let z : ◌≡◌ {A = ℕ} 0 1 = cc in absurd (omega arith)
if_there P (Some x) v e h = let q : x ≡ v = cc in subst P q h

and_there : {A : Type 0} (P : A → Type 0) (o : Option A) (v : A) → option_map (λ y. y) o ≡ Some v → IsSomeAnd o P → P v
and_there P None v e h = let z : ◌≡◌ {A = ℕ} 0 1 = cc in absurd (omega arith)
and_there P (Some x) v e h = let q : x ≡ v = cc in subst P q h

pub sought_by :
    {S F : Type 0} {steps : S → Option ℕ → S → Type 0} {g : Mut F (ℕ × Unit {0}) (Option code.Crossing)} (f : F) (ess : List (List Entry)) (p : Run steps) (r : Option code.Crossing)
    → (a b : ℕ) → a ≡ 1 → b ≡ 17 → ItemsCountUp p a b
    → MatchOption r (IsTrue p.whole × AllItemsGive p g f None) (λ y. (i : ℕ) × (i < p.len) × (p.len ≡ i + 1) × IsFirstToGive p g f (Some y) None i)
    → CallKeepsClosure g f → ((x : ℕ) (r : Option code.Crossing) → Called g f (x, tt) r f → option_map seen_crossing r ≡ crossing_at ess x)
    → Sought ess (option_map seen_crossing r)
sought_by {g = g} f ess p None a b ea eb up h keeps tells =
    λ k lt. tells (1 + k) None (if_there (λ x. Called g f (x, tt) None f) (p.at k) (1 + k) (up.3 k (omega (arith, up.1 h.0)) ∙ ap (λ v. Some (v + k)) ea) (h.1 keeps k))
sought_by {g = g} f ess p (Some y) a b ea eb up h keeps tells =
    let w = h.3 keeps in
    let here : (k : ℕ) → k < p.len → option_map (λ y. y) (p.at k) ≡ Some (1 + k) = λ k lt. up.3 k lt ∙ ap (λ v. Some (v + k)) ea in (
      h.0,
      omega (arith, h.1, up.0),
      tells (1 + h.0) (Some y) (and_there (λ x. Called g f (x, tt) (Some y) f) (p.at h.0) (1 + h.0) (here h.0 h.1) w.0),
      λ k lt. tells (1 + k) None (and_there (λ x. Called g f (x, tt) None f) (p.at k) (1 + k) (here k (omega (arith, h.1, lt))) (w.1 k lt)),
    )
