-- A table seen through a view of its elements. Assumes nothing.
use Rattle.std.proofs.Common.{◌≡◌, ℕ, zero, suc, ◌+◌, ◌<◌, ◌≤◌, List, [], ◌∷◌, ◌++◌, map, length, get_or, take, set, replicate, sym, refl, ap, ◌∙◌, arith, length-set}
use lib.ListN.{length-map}
use Rattle.std.specs.Array.{IsFromFnResult}
use Rattle.std.specs.Fn.{Mut, Called}
use Rattle.std.proofs.lemmas.List.{map-set, get_or-map, take_all, take_more_set, replicate_more}
use Rattle.terms.specs.Tables.{at, put}

module _ {R S : Type 0} (g : R → S) (rs : List R) (d : S) (n i : ℕ) (e : R) (is : n ≡ suc i) (lt : i < length rs) where
  -- what is read at the place i is the n-th
  pub seen_at : g (get_or rs i e) ≡ at d (map g rs) n
  seen_at = sym (get_or-map g rs i e d lt) ∙ ap (at d (map g rs)) (sym is)

  -- it was changed in place, as f says
  pub put_seen : (f : S → S) (v : R) → g v ≡ f (g (get_or rs i e)) → map g (set rs i v) ≡ put (map g rs) n (f (at d (map g rs) n))
  put_seen f v new = map-set g rs i v ∙ ap (λ k. put (map g rs) k (g v)) (sym is) ∙ ap (put (map g rs) n) (new ∙ ap f seen_at)

-- of n elements the first i were made x in place
pub record Made {R S : Type 0} (g : R → S) (x : S) (n : ℕ) (rs : List R) (i : ℕ) : Type 0 where
  pub long : length rs ≡ n
  pub front : take i (map g rs) ≡ replicate i x

pub made_more : {R S : Type 0} {g : R → S} {x : S} {n : ℕ} {rs : List R} {i : ℕ} (v : R) → Made g x n rs i → i < n → g v ≡ x → Made g x n (set rs i v) (i + 1)
made_more {S = S} {g = g} {x = x} {rs = rs} {i = i} v so_far lt made =
    let within : i < length (map g rs) = simp length-map (omega (arith, so_far.long)) in
    record {
      long = length-set rs i v ∙ so_far.long;
      front =
          ap (take (i + 1)) (map-set g rs i v) ∙ take_more_set (map g rs) i (g v) within ∙ ap (λ (ys : List S). ys ++ (g v ∷ [])) so_far.front
          ∙ ap (λ (y : S). replicate i x ++ (y ∷ [])) made ∙ replicate_more i x;
    }

-- all of them are
pub made_all : {R S : Type 0} {g : R → S} {x : S} {n : ℕ} {rs : List R} → Made g x n rs n → map g rs ≡ replicate n x
made_all {g = g} {n = n} {rs = rs} so_far =
    let within : length (map g rs) ≤ n = simp length-map (omega (arith, so_far.long)) in
    sym (take_all n (map g rs) within) ∙ so_far.front

same_each : {S : Type 0} (x : S) (n : ℕ) (zs : List S) → length zs ≡ n → ((i : ℕ) → i < n → get_or zs i x ≡ x) → zs ≡ replicate n x
same_each x zero [] long h = refl
same_each x zero (z ∷ zs) long h = absurd (omega arith)
same_each x (suc n) [] long h = absurd (omega arith)
same_each x (suc n) (z ∷ zs) long h = ap (λ y. y ∷ zs) (h 0 (omega arith)) ∙ ap (λ ys. x ∷ ys) (same_each x n zs (omega arith) (λ i lt. h (suc i) (omega arith)))

-- where each call of f makes what is seen as x, all that it makes is
pub all_made :
    {F R S : Type 0} (g : Mut F (ℕ × Unit {0}) R) (view : R → S) (x : S) {f : F} {ys : List R} {n : ℕ} → IsFromFnResult g f ys n
    → ((p q : F) (i : ℕ) (y : R) → Called g p (i, tt) y q → view y ≡ x) → map view ys ≡ replicate n x
all_made g view x {ys = []} {n = n} made says = same_each x n [] made.long (λ i lt. absurd (omega (arith, made.long)))
all_made g view x {ys = y ∷ ys} {n = n} made says =
    same_each x n (map view (y ∷ ys)) (length-map (y ∷ ys) view ∙ made.long)
    (λ i lt. let c = made.at i y lt in get_or-map view (y ∷ ys) i y x (omega (arith, made.long)) ∙ says c.0 c.1 i _ c.2)
