-- What one acronym sees of a gate, and when two gates are alike to it. Assumes nothing.
use Rattle.std.proofs.Common.{◌≡◌, ℕ, Bool, true, false, cond, eqb, List, [], map, sym, refl, ap, ◌∙◌, arith}
use Rattle.std.proofs.lemmas.Bool.{ne_eqb}
use Rattle.market.specs.Book.{Entry, Slip, any_in, counts, taken_off, totals, waiting_of, without}
use Rattle.market.proofs.Picked.{anys_only, counts_only, offs_others, only, onlys_off, picked_so, totals_only, withouts_agree}
use Rattle.market.proofs.Sums.{totals_same}
use Rattle.checks.specs.Meaning.{Meaning}
use Rattle.history.specs.Part.{has}
use Rattle.history.specs.Promises.{Firm}
use Rattle.history.specs.State.{Row, State, blank, hold_of, private_of, row, with_book}

module _ (m : Meaning) (a : ℕ) where
  abbrev pub seen_row : Row → Row
  seen_row r = cond (eqb r.acronym a) r blank

  abbrev pub seen_slips : State m → ℕ → List Slip
  seen_slips s l = cond (has a s l) (waiting_of s.book l) []

  abbrev pub mine : State m → Entry → Bool
  mine s e = has a s e.login

  abbrev pub seen_entries : State m → List (List Entry)
  seen_entries s = map (only (mine s)) s.book.resting

  -- two states are alike to a: in what is public, and in its rows, hold, private record, slips and entries
  pub record Alike (s u : State m) : Type 0 where
    pub time : s.time ≡ u.time
    pub valued : s.valued ≡ u.valued
    pub rows : (l : ℕ) → seen_row (row s l) ≡ seen_row (row u l)
    pub hold : hold_of s a ≡ hold_of u a
    pub public : s.public ≡ u.public
    pub private : private_of s a ≡ private_of u a
    pub slips : (l : ℕ) → seen_slips s l ≡ seen_slips u l
    pub entries : seen_entries s ≡ seen_entries u

  pub alike_trans : (s u v : State m) → Alike s u → Alike u v → Alike s v
  alike_trans s u v x y =
      record {
        time = x.time ∙ y.time;
        valued = x.valued ∙ y.valued;
        rows = λ l. x.rows l ∙ y.rows l;
        hold = x.hold
            ∙ y.hold;
        public = x.public ∙ y.public;
        private = x.private ∙ y.private;
        slips = λ l. x.slips l
            ∙ y.slips l;
        entries = x.entries ∙ y.entries;
      }

  pub alike_refl : (s : State m) → Alike s s
  alike_refl s = record { time = refl; valued = refl; rows = λ l. refl; hold = refl; public = refl; private = refl; slips = λ l. refl; entries = refl }

  pub alike_sym : (s u : State m) → Alike s u → Alike u s
  alike_sym s u k = record {
    time = sym k.time;
    valued = sym k.valued;
    rows = λ l. sym (k.rows l);
    hold = sym
        k.hold;
    public = sym k.public;
    private = sym k.private;
    slips = λ l. sym (k.slips l);
    entries = sym k.entries;
  }

  module _ (firm : Firm a) where
    -- no acronym has the number 0
    pub not_nobody : eqb 0 a ≡ false
    not_nobody = ne_eqb 0 a (λ e. omega (arith, e, firm.0))

    seen_has : (r : Row) → eqb (seen_row r).acronym a ≡ eqb r.acronym a
    seen_has r = go (eqb r.acronym a) refl
      where
        go : (b : Bool) → eqb r.acronym a ≡ b → eqb (cond b r blank).acronym a ≡ b
        go true e = e
        go false e = not_nobody

    module _ (s u : State m) (k : Alike s u) where
      pub has_alike : (l : ℕ) → has a s l ≡ has a u l
      has_alike l = sym (seen_has (row s l)) ∙ ap (λ (r : Row). eqb r.acronym a) (k.rows l) ∙ seen_has (row u l)

      pub own_row : (l : ℕ) → has a s l ≡ true → row s l ≡ row u l
      own_row l h = sym (own (row s l) h) ∙ k.rows l ∙ own (row u l) (sym (has_alike l) ∙ h)
        where
          own : (r : Row) → eqb r.acronym a ≡ true → seen_row r ≡ r
          own r e = rw e

      pub own_slips : (l : ℕ) → has a s l ≡ true → waiting_of s.book l ≡ waiting_of u.book l
      own_slips l h = sym (own s l h) ∙ k.slips l ∙ own u l (sym (has_alike l) ∙ h)
        where
          own : (s : State m) (l : ℕ) → has a s l ≡ true → seen_slips s l ≡ waiting_of s.book l
          own s l e = rw e

      -- what looks at a's entries alone finds the same
      pub own_totals : (p q : Entry → Bool) → ((e : Entry) → p e ≡ true → mine s e ≡ true) → ((e : Entry) → mine s e ≡ true → p e ≡ q e)
          → ((e : Entry) → q e ≡ true → mine u e ≡ true) → totals p s.book.resting ≡ totals q u.book.resting
      own_totals p q hp pq hq =
          sym (totals_only (mine s) p hp s.book.resting)
          ∙ totals_same p q (seen_entries s) (picked_so (λ e. p e ≡ q e) (mine s) pq s.book.resting) ∙ ap (totals q) k.entries
          ∙ totals_only (mine u) q hq u.book.resting

      pub own_any : (q : Entry → Bool) → ((e : Entry) → q e ≡ true → mine s e ≡ true) → any_in q s.book.resting ≡ any_in q u.book.resting
      own_any q h =
          sym (anys_only (mine s) q h s.book.resting) ∙ ap (any_in q) k.entries
          ∙ anys_only (mine u) q (λ e w. sym (has_alike e.login) ∙ h e w) u.book.resting

      pub own_counts : (q : Entry → Bool) → ((e : Entry) → q e ≡ true → mine s e ≡ true) → counts q s.book.resting ≡ counts q u.book.resting
      own_counts q h =
          sym (counts_only (mine s) q h s.book.resting) ∙ ap (counts q) k.entries
          ∙ counts_only (mine u) q (λ e w. sym (has_alike e.login) ∙ h e w) u.book.resting

      -- both take off the same of a's entries
      pub alike_off : (p q : Entry → Bool) → ((e : Entry) → mine s e ≡ true → p e ≡ q e)
          → Alike (with_book (taken_off p s.book) s) (with_book (taken_off q u.book) u)
      alike_off p q h =
          record {
            time = k.time;
            valued = k.valued;
            rows = k.rows;
            hold = k.hold;
            public = k.public;
            private = k.private;
            slips = k.slips;
            entries = onlys_off (mine s) p s.book.resting ∙ withouts_agree (mine s) p q h s.book.resting
                ∙ ap (map (without q)) k.entries ∙ sym (onlys_off (mine u) q u.book.resting);
          }

    -- what is taken off is not a's
    pub unlike_off : (s : State m) (q : Entry → Bool) → ((e : Entry) → q e ≡ true → mine s e ≡ false) → Alike s (with_book (taken_off q s.book) s)
    unlike_off s q h =
        record {
          time = refl;
          valued = refl;
          rows = λ l. refl;
          hold = refl;
          public = refl;
          private = refl;
          slips = λ l. refl;
          entries = sym
              (offs_others (mine s) q h s.book.resting);
        }
