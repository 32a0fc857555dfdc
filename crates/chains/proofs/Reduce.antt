-- What `reduce` gives over an iterator that yields a known list.
use Rattle.std.proofs.Common.{◌≡◌, List, [], ◌∷◌, Some, None, fold, Option, sym, ap, ◌∙◌, subst}
use denote.Param.Members.{Mut, Called}
use Rattle.std.specs.List.{reduce, FoldsTo}
use Rattle.std.specs.Iterator.{Drains, ReducesItems, FoldTurn}
use Rattle.std.proofs.lemmas.List.{map-id}
use Rattle.std.proofs.lemmas.Iterator.{YieldsList, items_from_drains}

-- each call of f gives what h gives, and leaves f as it was
abbrev Acts : {A F : Type 0} → Mut F (A × (A × Unit {0})) A → (A → A → A) → F → Type 0
Acts {A} {F} g h f = (a x b : A) (q : F) → Called g f (a, (x, tt)) b q → (q ≡ f) × (b ≡ h a x)

turned : {A F : Type 0} (g : Mut F (A × (A × Unit {0})) A) (h : A → A → A) (f q : F) (a y : A) (xs : List A) → Acts g h f → FoldsTo {P = F × A} (FoldTurn g) (f, a) xs (q, y) → y ≡ fold h a xs
turned g h f q a y [] acts t = ap (λ v. v.1) (sym t)
turned g h f q a y (x ∷ xs) acts t =
    let d = acts a x t.0.1 t.0.0 t.1 in
    turned g h f q (h a x) y xs acts (let P : _ → Type 0 = λ v. FoldsTo (FoldTurn g) v xs (q, y) in subst P (λ i. (d.0 i, d.1 i)) t.2)

pub reduced : {S A F : Type 0} {steps : S → Option A → S → Type 0} {s : S} {all : List A} (g : Mut F (A × (A × Unit {0})) A) (h : A → A → A) (f : F) (r : Option A) → ReducesItems steps g s f r →
    YieldsList steps (λ x. x) s all → Acts g h f → r ≡ reduce h all
reduced {steps} {s} {all} g h f r d y acts = go r d
  where
    drained : (xs : List _) → Drains steps s xs → xs ≡ all
    drained xs d = sym (map-id xs) ∙ items_from_drains xs (d.1.0, d.1.1, λ _. (d.0, d.1.2)) y

    go : (r : Option _) → ReducesItems steps g s f r → r ≡ reduce h all
    go None d = ap (reduce h) (drained [] d)
    go (Some v) d = ap Some (turned g h f d.2 d.0 v d.1 acts d.4) ∙ ap (reduce h) (drained (d.0 ∷ d.1) d.3)
