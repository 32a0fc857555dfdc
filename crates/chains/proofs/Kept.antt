-- Chains are sound in one way at most, so that the fact comes out of its truncation again.
use Rattle.std.proofs.Common.{ℕ, List, [], ◌∷◌, get_or}
use mathlib.Core.Logic.{∥∥₁_elim}
use native.Mathlib.Nat.{ℕ_set}
use native.Mathlib.Bridge.{le_prop}
use Rattle.chains.specs.declared.table.Chains.{Chains}
use Rattle.chains.specs.Chain.{Linked, Chained}
use Rattle.chains.specs.Sound.{Layout, Parts, Sound}
use Rattle.chains.specs.Lists.{parts}

linked_prop : (nx : List ℕ) (h : ℕ) (is : List ℕ) → IsProp (Linked nx h is)
linked_prop nx h [] a b = ℕ_set h 0 a b
linked_prop nx h (i ∷ is) a b = λ t. (ℕ_set h i a.0 b.0 t, le_prop a.1 b.1 t, le_prop a.2 b.2 t, linked_prop nx (get_or nx i 0) is a.3 b.3 t)

layout_prop : (nx hs ts : List ℕ) (iss : List (List ℕ)) (m : ℕ) → IsProp (Layout nx hs ts iss m)
layout_prop nx hs ts iss m a b = λ t. record {
  count = ℕ_set _ _ a.count b.count t;
  linked = λ k. linked_prop nx _ _ (a.linked k) (b.linked k) t;
  ends = λ k. ℕ_set _ _ (a.ends k) (b.ends k) t;
  apart = λ j k i x y. ℕ_set j k (a.apart j k i x y) (b.apart j k i x y) t;
  cover = ℕ_set _ _ a.cover b.cover t;
}

sound_prop : {X : Type 0} (N : ℕ) (c : Parts X) → IsProp (Sound N c)
sound_prop N c a b = λ t. record {
  heads = ℕ_set _ _ a.heads b.heads t;
  tails = ℕ_set _ _ a.tails b.tails t;
  layout = layout_prop _ _ _ _ _ a.layout b.layout t;
  counted = ℕ_set _ _ a.counted b.counted t;
}

pub sound : {X : Type 0} {N : ℕ} (c : Chains X N) → Sound N (parts c)
sound c = ∥∥₁_elim c.kept (sound_prop _ (parts c)) (λ w. w)

pub chained_once : (nx : List ℕ) (h : ℕ) → ∥ Chained nx h ∥₁ → Chained nx h
chained_once nx h l = ∥∥₁_elim l (linked_prop nx h _) (λ w. w)
