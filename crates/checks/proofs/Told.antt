-- What a notice does to the table of private records. Assumes nothing.
use Rattle.std.proofs.Common.{◌≡◌, ℕ, suc, ◌<◌, ◌≤◌, Bool, true, false, cond, ◌||◌, eqb, List, [], ◌∷◌, length, get_or, set, sym, refl, ap, ◌∙◌, ⊎_elim}
use Rattle.std.proofs.lemmas.Bool.Decides.{eqb_tells}
use Rattle.terms.specs.declared.messages.Notice.{Notice}
use Rattle.terms.specs.declared.messages.Notice.TheVariants.{Ticked, Valued, Opened, Closed, Limited, Released, Entered, TurnedDown, Filled}
use Rattle.terms.specs.declared.values.ValueNumbers.{ValueNumbers}
use Rattle.terms.specs.Tables.{at, put}
use Rattle.checks.specs.Places.{numbered}
use Rattle.checks.specs.Meaning.{Meaning, for_all, whose, told_private, told_each}
use Rattle.checks.proofs.Places.{put_past, numbered_at, numbered_same, at_numbered, length_numbered}

module _ (m : Meaning) (n : Notice) (p : m.Pub) where
  each_numbered : (a : ℕ) (qs : List m.Priv) → told_each m a n p qs ≡ numbered (λ b q. told_private m b n p q) a qs
  each_numbered a [] = refl
  each_numbered a (q ∷ qs) = ap (λ (xs : List m.Priv). told_private m a n p q ∷ xs) (each_numbered (suc a) qs)

  pub length_told : (qs : List m.Priv) → length (told_each m 1 n p qs) ≡ length qs
  length_told qs = ap length (each_numbered 1 qs) ∙ length_numbered (λ b q. told_private m b n p q) 1 qs

  pub at_told : (qs : List m.Priv) (a : ℕ) (d : m.Priv) → 1 ≤ a → a ≤ length qs → at d (told_each m 1 n p qs) a ≡ told_private m a n p (at d qs a)
  at_told qs a d low high = ap (λ (xs : List m.Priv). at d xs a) (each_numbered 1 qs) ∙ at_numbered (λ b q. told_private m b n p q) qs a d low high

  -- a notice that alters no record alters none of them
  pub told_same : ((q : m.Priv) → m.private_after n p q ≡ q) → (qs : List m.Priv) → told_each m 1 n p qs ≡ qs
  told_same h qs = each_numbered 1 qs ∙ numbered_same (λ b q. told_private m b n p q) (λ b q. either (for_all n || eqb (whose n) b) q) 1 qs
    where
      either : (b : Bool) (q : m.Priv) → cond b (m.private_after n p q) q ≡ q
      either true q = h q
      either false q = refl

-- public notices alter no private record
pub record Quiet (m : Meaning) : Type 0 where
  pub ticked : (t : ℕ) (p : m.Pub) (q : m.Priv) → m.private_after (Ticked t) p q ≡ q
  pub valued : (s : ℕ) (v : ValueNumbers) (p : m.Pub) (q : m.Priv) → m.private_after (Valued s v) p q ≡ q

module _ (m : Meaning) (quiet : Quiet m) (p : m.Pub) (qs : List m.Priv) (d : m.Priv) where
  other : (n : Notice) → for_all n ≡ false → (a : ℕ) (q : m.Priv) → (whose n ≡ a → ⊥) → told_private m a n p q ≡ q
  other n named a q h = ⊎_elim (λ e. absurd (h e.1)) (λ e. rw (named, e.0)) (eqb_tells (whose n) a)

  own : (n : Notice) → for_all n ≡ false → (q : m.Priv) → told_private m (whose n) n p q ≡ m.private_after n p q
  own n named q = ⊎_elim (λ e. rw (named, e.0)) (λ e. absurd (e.1 refl)) (eqb_tells (whose n) (whose n))

  named_at : (n : Notice) → for_all n ≡ false → told_each m 1 n p qs ≡ put qs (whose n) (m.private_after n p (at d qs (whose n)))
  named_at n named =
      each_numbered m n p 1 qs ∙ numbered_at (λ b q. told_private m b n p q) (whose n) (λ a q low h. other n named a q h) qs d
      ∙ ap (put qs (whose n)) (own n named (at d qs (whose n)))

  -- a notice is one change, at the record of the acronym that it names
  pub told_at : (n : Notice) → told_each m 1 n p qs ≡ put qs (whose n) (m.private_after n p (at d qs (whose n)))
  told_at (Ticked t) = told_same m (Ticked t) p (quiet.ticked t p) qs
  told_at (Valued s v) = told_same m (Valued s v) p (quiet.valued s v p) qs
  told_at (Opened a l r c) = named_at (Opened a l r c) refl
  told_at (Closed a l) = named_at (Closed a l) refl
  told_at (Limited a x) = named_at (Limited a x) refl
  told_at (Released a s) = named_at (Released a s) refl
  told_at (Entered k) = named_at (Entered k) refl
  told_at (TurnedDown k d) = named_at (TurnedDown k d) refl
  told_at (Filled a f) = named_at (Filled a f) refl

  -- the record at its place i was changed
  pub told_in_place : (n : Notice) (w i : ℕ) (v : m.Priv) → w ≡ whose n → w ≡ suc i → v ≡ m.private_after n p (get_or qs i d) → set qs i v ≡ told_each m 1 n p qs
  told_in_place n w i v is here new =
      ap (set qs i) new ∙ ap (λ k. put qs k (m.private_after n p (at d qs k))) (sym here ∙ is) ∙ sym (told_at n)

  -- there is no such record, and nothing was changed
  pub told_nowhere : (n : Notice) (w : ℕ) → w ≡ whose n → (1 ≤ w → length qs < w) → qs ≡ told_each m 1 n p qs
  told_nowhere n w is none =
      sym (put_past qs w (m.private_after n p (at d qs w)) none) ∙ ap (λ k. put qs k (m.private_after n p (at d qs k))) is ∙ sym (told_at n)

-- what is the same either way
pub same_either : {X : Type 0} (b : Bool) (x : X) → x ≡ cond b x x
same_either true x = refl
same_either false x = refl
