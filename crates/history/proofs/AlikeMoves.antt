-- What telling, a row and a hold do to what one acronym sees: the same done to gates that are alike leaves them alike, and what is another's
-- is not seen. Assumes nothing.
use Rattle.std.proofs.Common.{◌≡◌, ℕ, zero, suc, ◌+◌, ◌<◌, ◌≤◌, Bool, true, false, cond, ◌||◌, eqb, List, [], ◌∷◌, length, get_or, sym, refl, ap, ◌∙◌, ap₂, ⊎_elim, arith}
use Rattle.std.specs.List.{AllByRecursion}
use Rattle.std.proofs.lemmas.Bool.{or_parts}
use Rattle.std.proofs.lemmas.Bool.Decides.{eqb_tells}
use Rattle.terms.specs.declared.messages.Notice.{Notice}
use Rattle.terms.proofs.Tables.{all_from_each, all_weak, at_other, at_put, at_same, mixed, never}
use Rattle.market.specs.Book.{Entry, Slip, waiting_of}
use Rattle.market.proofs.Picked.{onlys_same}
use Rattle.checks.specs.Meaning.{Meaning, for_all, told_each, told_private, told_public, whose}
use Rattle.history.specs.Part.{has}
use Rattle.history.specs.Promises.{Firm}
use Rattle.history.specs.State.{Row, State, blank, is_open, private_of, row, with_hold_of, with_row}
use Rattle.history.specs.Trips.{tell}
use Rattle.history.proofs.Alike.{Alike, mine, seen_row, seen_slips}
use Rattle.history.proofs.Sound.{OpenIn, Sound}

-- ---- the private records, after a notice

told_at : (m : Meaning) (k i : ℕ) (n : Notice) (p : m.Pub) (d d' : m.Priv) (qs : List m.Priv) → i < length qs
    → get_or (told_each m k n p qs) i d' ≡ told_private m (k + i) n p (get_or qs i d)
told_at m k i n p d d' [] h = never _ (omega arith)
told_at m k zero n p d d' (q ∷ qs) h = ap (λ (j : ℕ). told_private m j n p q) (omega arith)
told_at m k (suc i) n p d d' (q ∷ qs) h = told_at m (suc k) i n p d d' qs (omega arith)
    ∙ ap (λ (j : ℕ). told_private m j n p (get_or qs i d)) (omega arith)

pub private_told : (m : Meaning) (a : ℕ) (n : Notice) (s : State m) → Firm a → length s.private ≡ 8
    → private_of (tell n s) a ≡ told_private m a n s.public (private_of s a)
private_told m zero n s firm len = never _ (omega (arith, firm.0))
private_told m (suc i) n s firm len = told_at m 1 i n s.public (m.fresh s.public) _ s.private (omega (arith, firm.1))
    ∙ ap (λ (j : ℕ). told_private m j n s.public (private_of s (suc i))) (omega arith)

module _ (m : Meaning) (a : ℕ) (firm : Firm a) where
  -- the same notice to both
  pub alike_told : (s u : State m) (n : Notice) → length s.private ≡ 8 → length u.private ≡ 8 → Alike m a s u → Alike m a (tell n s) (tell n u)
  alike_told s u n ls lu k =
      record {
        time = k.time;
        valued = k.valued;
        rows = k.rows;
        hold = k.hold;
        slips = k.slips;
        entries = k.entries;
        public = ap (told_public m n) k.public;
        private = private_told m a n s firm ls ∙ ap₂ (told_private m a n) k.public k.private ∙ sym (private_told m a n u firm lu);
      }

  -- a notice of another
  pub unlike_told : (s : State m) (n : Notice) → length s.private ≡ 8 → (for_all n || eqb (whose n) a) ≡ false → Alike m a s (tell n s)
  unlike_told s n len h =
      record {
        time = refl;
        valued = refl;
        rows = λ l. refl;
        hold = refl;
        slips = λ l. refl;
        entries = refl;
        public = sym (ap (λ b. cond b (m.public_after n s.public) s.public) (or_parts _ _ h).0);
        private = sym (private_told m a n s firm len ∙ ap (λ b. cond b (m.private_after n s.public (private_of s a)) (private_of s a)) h);
      }

  -- ---- a row changes

  -- what rests is as much a's as it was
  abbrev pub AsBefore : State m → ℕ → Row → Type 0
  AsBefore s l r = AllByRecursion (AllByRecursion (λ e. mine m a (with_row l r s) e ≡ mine m a s e)) s.book.resting

  module _ (s : State m) (l : ℕ) (r : Row) (k : Sound m s) (low : 1 ≤ l) (high : l ≤ 24) where
    row_there : (i : ℕ) → row (with_row l r s) i ≡ cond (eqb l i) r (row s i)
    row_there i = at_put blank s.rows l i r low (omega (arith, k.table.rows24))

    has_there : (i : ℕ) → has a (with_row l r s) i ≡ cond (eqb l i) (eqb r.acronym a) (has a s i)
    has_there i = ap (λ (x : Row). eqb x.acronym a) (row_there i) ∙ through (eqb l i)
      where
        through : (b : Bool) → eqb (cond b r (row s i)).acronym a ≡ cond b (eqb r.acronym a) (has a s i)
        through true = refl
        through false = refl

    slips_there : (i : ℕ) → seen_slips m a (with_row l r s) i ≡ cond (eqb l i) (cond (eqb r.acronym a) (waiting_of s.book l) [])
        (seen_slips m a s i)
    slips_there i = ap (λ b. cond b (waiting_of s.book i) []) (has_there i) ∙ ⊎_elim
        (λ p. let e : l ≡ i = p.1 in rw p.0 (ap (λ (j : ℕ). cond (eqb r.acronym a) (waiting_of s.book j) []) (sym e)))
        (λ p. rw p.0)
        (eqb_tells l i)

    -- the row is as much a's as it was
    pub equal_before : eqb r.acronym a ≡ has a s l → AsBefore s l r
    equal_before e = all_from_each (AllByRecursion Same) (all_from_each Same same) s.book.resting
      where
        Same : Entry → Type 0
        Same x = mine m a (with_row l r s) x ≡ mine m a s x

        same : (x : Entry) → Same x
        same x = has_there x.login ∙ ⊎_elim
            (λ p. let q : l ≡ x.login = p.1 in rw p.0 (e ∙ ap (λ (i : ℕ). has a s i) q))
            (λ p. rw p.0)
            (eqb_tells l x.login)

    -- the acronym stays
    pub same_before : r.acronym ≡ (row s l).acronym → AsBefore s l r
    same_before e = equal_before (ap (λ (n : ℕ). eqb n a) e)

    -- the login rests nothing, for it was not open
    pub shut_before : is_open (row s l) ≡ false → AsBefore s l r
    shut_before c = all_weak (AllByRecursion (OpenIn s.rows)) (AllByRecursion (λ e. mine m a (with_row l r s) e ≡ mine m a s e)) s.book.resting
        (λ es x. all_weak (OpenIn s.rows) (λ e. mine m a (with_row l r s) e ≡ mine m a s e) es (λ e o. has_there e.login ∙ ⊎_elim
        (λ p. let q : l ≡ e.login = p.1 in mixed _ (sym o ∙ ap (λ (i : ℕ). is_open (row s i)) (sym q) ∙ c))
        (λ p. rw p.0)
        (eqb_tells l e.login)) x) k.table.rests

    -- another's row, that is no more a's than it was
    pub unlike_row : AsBefore s l r → eqb r.acronym a ≡ false → has a s l ≡ false → Alike m a s (with_row l r s)
    unlike_row before other was =
        record {
          time = refl;
          valued = refl;
          hold = refl;
          public = refl;
          private = refl;
          rows = λ i. sym (ap (seen_row m a) (row_there i) ∙ ⊎_elim
              (λ p. let q : l ≡ i = p.1 in rw p.0 (blanks i (ap (λ (j : ℕ). has a s j) (sym q) ∙ was)))
              (λ p. rw p.0)
              (eqb_tells l i));
          slips = λ i. sym (slips_there i ∙ ⊎_elim
              (λ p. let q : l ≡ i = p.1 in rw p.0 (nones i (ap (λ (j : ℕ). has a s j) (sym q) ∙ was)))
              (λ p. rw p.0)
              (eqb_tells l i));
          entries = sym (onlys_same (mine m a (with_row l r s)) (mine m a s) s.book.resting before);
        }
      where
        blanks : (i : ℕ) → has a s i ≡ false → seen_row m a r ≡ seen_row m a (row s i)
        blanks i h = rw (other, h)

        nones : (i : ℕ) → has a s i ≡ false → cond (eqb r.acronym a) (waiting_of s.book l) [] ≡ seen_slips m a s i
        nones i h = rw (other, h)

  -- one row of both becomes the same, with the same slips to see
  pub alike_row :
      (s u : State m) (l : ℕ) (r : Row) → Sound m s → Sound m u → 1 ≤ l → l ≤ 24 → AsBefore s l r → AsBefore u l r
      → cond (eqb r.acronym a) (waiting_of s.book l) [] ≡ cond (eqb r.acronym a) (waiting_of u.book l) []
      → Alike m a s u → Alike m a (with_row l r s) (with_row l r u)
  alike_row s u l r ks ku low high bs bu e k =
      record {
        time = k.time;
        valued = k.valued;
        hold = k.hold;
        public = k.public;
        private = k.private;
        rows = λ i. ap (seen_row m a) (row_there s l r ks low high i) ∙ rows_by (eqb l i) i ∙ sym (ap (seen_row m a) (row_there u l r ku low high i));
        slips = λ i. slips_there s l r ks low high i ∙ ap₂ (λ (x y : List Slip). cond (eqb l i) x y) e (k.slips i)
            ∙ sym (slips_there u l r ku low high i);
        entries = onlys_same (mine m a (with_row l r s)) (mine m a s) s.book.resting bs ∙ k.entries
            ∙ sym (onlys_same (mine m a (with_row l r u)) (mine m a u) u.book.resting bu);
      }
    where
      rows_by : (b : Bool) (i : ℕ) → seen_row m a (cond b r (row s i)) ≡ seen_row m a (cond b r (row u i))
      rows_by true i = refl
      rows_by false i = k.rows i

  -- ---- holds of acronyms

  pub alike_held : (s u : State m) (n n' : ℕ) → Sound m s → Sound m u → n ≡ n' → Alike m a s u → Alike m a (with_hold_of a n s) (with_hold_of a n' u)
  alike_held s u n n' ks ku e k =
      record {
        time = k.time;
        valued = k.valued;
        rows = k.rows;
        public = k.public;
        private = k.private;
        slips = k.slips;
        entries = k.entries;
        hold = at_same 0 s.holds a a n firm.0 (omega (arith, firm.1, ks.holds8)) refl ∙ e
            ∙ sym (at_same 0 u.holds a a n' firm.0 (omega (arith, firm.1, ku.holds8)) refl);
      }

  pub unlike_held : (s : State m) (b n : ℕ) → Sound m s → Firm b → eqb b a ≡ false → Alike m a s (with_hold_of b n s)
  unlike_held s b n ks fb h =
      record {
        time = refl;
        valued = refl;
        rows = λ l. refl;
        public = refl;
        private = refl;
        slips = λ l. refl;
        entries = refl;
        hold = sym (at_other 0 s.holds b a n fb.0 (omega (arith, fb.1, ks.holds8)) h);
      }
