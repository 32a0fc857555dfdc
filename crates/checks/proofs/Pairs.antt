-- Two tables of records as one. Assumes nothing.
use Rattle.std.proofs.Common.{◌≡◌, ℕ, zero, suc, Bool, true, false, cond, ◌||◌, eqb, List, [], ◌∷◌, length, get_or, Ok, Err, Result, sym, refl, ap, ◌∙◌, arith}
use Rattle.std.proofs.lemmas.Bool.{ne_eqb}
use Rattle.std.specs.Result.{is_err}
use Rattle.terms.specs.declared.bounded.Bounded.{Bounded}
use Rattle.terms.specs.declared.messages.Asked.{Asked}
use Rattle.terms.specs.declared.messages.Causes.{Causes}
use Rattle.terms.specs.declared.messages.Notice.{Notice}
use Rattle.terms.specs.Tables.{at}
use Rattle.checks.specs.Meaning.{Meaning, turned_down, for_all, whose, trips, no_cause, told_public, told_private, told_each, told_causes}
use Rattle.checks.specs.Piled.{first_of, pairs, first_causes, piled}

get_or_pairs : {X Y : Type 0} (xs : List X) (ys : List Y) (i : ℕ) (d : X) (e : Y) → length xs ≡ length ys → get_or (pairs xs ys) i (d, e) ≡ (get_or xs i d, get_or ys i e)
get_or_pairs [] [] i d e h = refl
get_or_pairs [] (y ∷ ys) i d e h = absurd (omega arith)
get_or_pairs (x ∷ xs) [] i d e h = absurd (omega arith)
get_or_pairs (x ∷ xs) (y ∷ ys) zero d e h = refl
get_or_pairs (x ∷ xs) (y ∷ ys) (suc i) d e h = get_or_pairs xs ys i d e (omega arith)

at_pairs : {X Y : Type 0} (xs : List X) (ys : List Y) (n : ℕ) (d : X) (e : Y) → length xs ≡ 8 → length ys ≡ 8 → at (d, e) (pairs xs ys) n ≡ (at d xs n, at e ys n)
at_pairs xs ys zero d e h k = refl
at_pairs xs ys (suc i) d e h k = get_or_pairs xs ys i d e (h ∙ sym k)

chosen : {X Y : Type 0} (b : Bool) (x x' : X) (y y' : Y) → ◌≡◌ {A = X × Y} (cond b (x, y) (x', y')) (cond b x x', cond b y y')
chosen true x x' y y' = refl
chosen false x x' y y' = refl

module _ (m n : Meaning) (e : Notice) where
  public_pairs : (p : m.Pub) (q : n.Pub) → told_public (piled m n) e (p, q) ≡ (told_public m e p, told_public n e q)
  public_pairs p q = chosen (for_all e) _ _ _ _

  each_pairs : (a : ℕ) (p : m.Pub) (q : n.Pub) (xs : List m.Priv) (ys : List n.Priv) → told_each (piled m n) a e (p, q) (pairs xs ys) ≡ pairs (told_each m a e p xs) (told_each n a e q ys)
  each_pairs a p q [] ys = refl
  each_pairs a p q (x ∷ xs) [] = refl
  each_pairs a p q (x ∷ xs) (y ∷ ys) =
      ap (λ (z : m.Priv × n.Priv). z ∷ told_each (piled m n) (suc a) e (p, q) (pairs xs ys)) (chosen (for_all e || eqb (whose e) a) _ _ _ _)
      ∙ ap (λ (zs : List (m.Priv × n.Priv)). (told_private m a e p x, told_private n a e q y) ∷ zs) (each_pairs (suc a) p q xs ys)

  causes_pairs : (p : m.Pub) (q : n.Pub) (x : m.Priv) (y : n.Priv) → first_causes (told_causes m e p x) (told_causes n e q y) ≡ told_causes (piled m n) e (p, q) (x, y)
  causes_pairs p q x y =
      elim (trips e) as (λ b. first_causes (cond b (m.causes e p x) no_cause) (cond b (n.causes e q y) no_cause) ≡ cond b (first_causes (m.causes e p x) (n.causes e q y)) no_cause)
      [ true ↦ refl | false ↦ refl ]

-- the first judges before the second, where both have eight records
module _ (m n : Meaning) (k : Asked) (p : m.Pub) (q : n.Pub) (xs : List m.Priv) (ys : List n.Priv) (h : length xs ≡ 8) (i : length ys ≡ 8) where
  judged_pairs : first_of (m.judged k p (at (m.fresh p) xs k.acronym)) (n.judged k q (at (n.fresh q) ys k.acronym)) ≡ (piled m n).judged k (p, q) (at (m.fresh p, n.fresh q) (pairs xs ys) k.acronym)
  judged_pairs = sym (ap (λ (z : m.Priv × n.Priv). first_of (m.judged k p z.0) (n.judged k q z.1)) (at_pairs xs ys k.acronym (m.fresh p) (n.fresh q) h i))

  -- where it turns the entry down, with its number
  pub judged_first : (r : Result (Unit {0}) (Bounded 41 59)) → is_err r ≡ true → turned_down r ≡ m.judged k p (at (m.fresh p) xs k.acronym) → turned_down r ≡ (piled m n).judged k (p, q) (at (m.fresh p, n.fresh q) (pairs xs ys) k.acronym)
  judged_first (Ok u) is e = let z : ◌≡◌ {A = ℕ} 0 1 = cc in absurd (omega arith)
  judged_first (Err t) is e =
      let y = n.judged k q (at (n.fresh q) ys k.acronym) in
      before_any y (ne_eqb t.value 0 (omega (arith, t.low))) ∙ ap (λ x. first_of x y) e ∙ judged_pairs
    where
      before_any : (y : ℕ) → eqb t.value 0 ≡ false → t.value ≡ first_of t.value y
      before_any y z = rw z

  -- where it passes the entry, as the second does
  pub judged_rest : (r : ℕ) → 0 ≡ m.judged k p (at (m.fresh p) xs k.acronym) → r ≡ n.judged k q (at (n.fresh q) ys k.acronym) → r ≡ (piled m n).judged k (p, q) (at (m.fresh p, n.fresh q) (pairs xs ys) k.acronym)
  judged_rest r e d = d ∙ ap (λ x. first_of x (n.judged k q (at (n.fresh q) ys k.acronym))) e ∙ judged_pairs

-- what both make of a notice
module _ (m n : Meaning) (e : Notice) (p : m.Pub) (q : n.Pub) where
  pub shown_both : (p' : m.Pub) (q' : n.Pub) → p' ≡ told_public m e p → q' ≡ told_public n e q → ◌≡◌ {A = m.Pub × n.Pub} (p', q') (told_public (piled m n) e (p, q))
  shown_both p' q' d b = ap (λ (x : m.Pub). (x, q')) d ∙ ap (λ (y : n.Pub). (told_public m e p, y)) b ∙ sym (public_pairs m n e p q)

  pub own_both : (xs xs' : List m.Priv) (ys ys' : List n.Priv) → xs' ≡ told_each m 1 e p xs → ys' ≡ told_each n 1 e q ys → pairs xs' ys' ≡ told_each (piled m n) 1 e (p, q) (pairs xs ys)
  own_both xs xs' ys ys' d b = ap (λ (x : List m.Priv). pairs x ys') d ∙ ap (pairs (told_each m 1 e p xs)) b ∙ sym (each_pairs m n e 1 p q xs ys)

  pub trips_both :
      (xs : List m.Priv) (ys : List n.Priv) (c d : Causes) → length xs ≡ 8 → length ys ≡ 8 → c ≡ told_causes m e p (at (m.fresh p) xs (whose e)) → d ≡ told_causes n e q (at (n.fresh q) ys (whose e))
      → first_causes c d ≡ told_causes (piled m n) e (p, q) (at (m.fresh p, n.fresh q) (pairs xs ys) (whose e))
  trips_both xs ys c d h i f g =
      ap (λ (x : Causes). first_causes x d) f ∙ ap (first_causes (told_causes m e p (at (m.fresh p) xs (whose e)))) g
      ∙ causes_pairs m n e p q _ _ ∙ sym (ap (λ (z : m.Priv × n.Priv). told_causes (piled m n) e (p, q) z) (at_pairs xs ys (whose e) (m.fresh p) (n.fresh q) h i))
