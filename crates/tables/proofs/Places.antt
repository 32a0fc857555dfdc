-- Tables numbered from 1, by place.
use Rattle.std.proofs.Common.{◌≡◌, ℕ, ◌+◌, List, get_or, set, sym, ap, ◌∙◌, add-one}
use Rattle.terms.specs.Tables.{at, put}

pub at_place : {X : Type 0} (d : X) (xs : List X) (i v : ℕ) → i + 1 ≡ v → at d xs v ≡ get_or xs i d
at_place d xs i v e = ap (λ n. at d xs n) (sym e ∙ add-one i)

pub put_place : {X : Type 0} (xs : List X) (i v : ℕ) (x : X) → i + 1 ≡ v → put xs v x ≡ set xs i x
put_place xs i v x e = ap (λ n. put xs n x) (sym e ∙ add-one i)
