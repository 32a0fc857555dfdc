-- What two checks mean together, the one set before the other. Assumes nothing.
use Rattle.std.specs.Prelude.{◌≡◌, ℕ, zero, suc, cond, List, [], ◌∷◌, length, ◌==◌}
use Rattle.std.proofs.Common.{arith}
use Rattle.terms.specs.declared.messages.Causes.{Causes}
use Rattle.checks.specs.Judged.{either_ranged}
use Rattle.checks.specs.Meaning.{Meaning, Lawful}

-- the first of two numbers that is not 0
abbrev pub first_of : ℕ → ℕ → ℕ
first_of x y = cond (x == 0) y x

-- two tables of records as one
abbrev pub pairs : {X Y : Type 0} → List X → List Y → List (X × Y)
pairs [] ys = []
pairs (x ∷ xs) [] = []
pairs (x ∷ xs) (y ∷ ys) = (x, y) ∷ pairs xs ys

-- which is as long as they are
pub length_pairs : {X Y : Type 0} (k : ℕ) (xs : List X) (ys : List Y) → length xs ≡ k → length ys ≡ k → length (pairs xs ys) ≡ k
length_pairs k [] ys h e = h
length_pairs k (x ∷ xs) [] h e = absurd (omega arith)
length_pairs zero (x ∷ xs) (y ∷ ys) h e = absurd (omega arith)
length_pairs (suc k) (x ∷ xs) (y ∷ ys) h e = let z = length_pairs k xs ys (omega arith) (omega arith) in omega arith

-- each cause by the first that is not 0
abbrev pub first_causes : Causes → Causes → Causes
first_causes c d = record { login = first_of c.login d.login; acronym = first_of c.acronym d.acronym }

-- each check with its own records; the first judges before the second, and both are told
abbrev pub piled : Meaning → Meaning → Meaning
piled m n = record {
  Pub = m.Pub × n.Pub;
  Priv = m.Priv × n.Priv;
  renewed = λ p. (m.renewed p.0, n.renewed p.1);
  fresh = λ p. (m.fresh p.0, n.fresh p.1);
  judged = λ e p q. first_of (m.judged e p.0 q.0) (n.judged e p.1 q.1);
  public_after = λ e p. (m.public_after e p.0, n.public_after e p.1);
  private_after = λ e p q. (m.private_after e p.0 q.0, n.private_after e p.1 q.1);
  causes = λ e p q. first_causes (m.causes e p.0 q.0) (n.causes e p.1 q.1);
}

pub piled_lawful : {m n : Meaning} → Lawful m → Lawful n → Lawful (piled m n)
piled_lawful {m} {n} f g = record {
  range = λ e p q. either_ranged (m.judged e p.0 q.0 == 0) _ _ (g.range e p.1 q.1) (f.range e p.0 q.0);
}
