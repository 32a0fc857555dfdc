-- The sides of a trade, as one acronym sees them. Assumes nothing.
use Rattle.std.proofs.Common.{◌≡◌, ℕ, ◌≤◌, Bool, true, false, cond, List, [], ◌∷◌, ◌++◌, map, length, sym, refl, ap, ◌∙◌, subst, ap₂, ⊎_elim, arith}
use Rattle.std.proofs.lemmas.Bool.{and_parts, eqb-true}
use Rattle.std.proofs.lemmas.Bool.Decides.{eqb_tells}
use Rattle.terms.specs.declared.messages.Fill.{Fill}
use Rattle.terms.specs.declared.messages.Notice.TheVariants.{Filled}
use Rattle.terms.proofs.Tables.{at_other, at_same, mixed}
use Rattle.market.specs.Book.{Entry, Slip, slip_of, with_resting}
use Rattle.market.specs.Market.{filled_in, fills, side_traded}
use Rattle.market.proofs.Fills.{fills_off}
use Rattle.market.proofs.Picked.{nots_filled, onlys_filled}
use Rattle.checks.specs.Meaning.{Meaning}
use Rattle.history.specs.Part.{has}
use Rattle.history.specs.Promises.{Firm}
use Rattle.history.specs.State.{Row, State, is_open, row, with_book}
use Rattle.history.specs.Strikes.{fill_notice, fill_told}
use Rattle.history.specs.Trips.{causes_of, in_trip, noticed}
use Rattle.history.proofs.Alike.{Alike, has_alike, mine, own_row, own_slips}
use Rattle.history.proofs.Foreign.{unlike_noticed}
use Rattle.history.proofs.OwnEntries.{alike_noticed}
use Rattle.history.proofs.Sound.{Sound}
use Rattle.history.proofs.Whole.{Whole}

module _ (m : Meaning) (a : ℕ) (firm : Firm a) where
  abbrev pub sided : Fill → State m → State m
  sided f s = with_book (side_traded f s.book) s

  -- a side of another
  pub unlike_sided : (s : State m) (f : Fill) → Sound m s → 1 ≤ f.login → f.login ≤ 24 → has a s f.login ≡ false → Alike m a s (sided f s)
  unlike_sided s f k low high h =
      record {
        time = refl;
        valued = refl;
        rows = λ l. refl;
        hold = refl;
        public = refl;
        private = refl;
        slips = λ i. ⊎_elim
            (λ p. let q : has a s i ≡ false = ap (λ (j : ℕ). has a s j) (sym p.1) ∙ h in rw q)
            (λ p. ap (λ (x : List Slip). cond (has a s i) x [])
            (sym (at_other [] s.book.slips f.login i _ low (omega (arith, k.table.slips24)) p.0)))
            (eqb_tells f.login i);
        entries = sym (onlys_filled (mine m a s) (λ e n. refl) f s.book.resting
            ∙ nots_filled (mine m a s) f (λ e w. another e w (fills f e) refl) s.book.resting);
      }
    where
      another : (e : Entry) → mine m a s e ≡ true → (b : Bool) → fills f e ≡ b → fills f e ≡ false
      another e w true x = mixed _ (sym w ∙ ap (λ (i : ℕ). has a s i) (eqb-true e.login f.login (and_parts _ _ (and_parts _ _ x).0).0) ∙ h)
      another e w false x = x

  -- a side of a's own
  pub alike_sided : (s u : State m) (f : Fill) → Alike m a s u → length s.book.slips ≡ 24 → length u.book.slips ≡ 24 → 1 ≤ f.login
      → f.login ≤ 24 → has a s f.login ≡ true → Alike m a (sided f s) (sided f u)
  alike_sided s u f k ls lu low high h =
      record {
        time = k.time;
        valued = k.valued;
        rows = k.rows;
        hold = k.hold;
        public = k.public;
        private = k.private;
        slips = λ i. ⊎_elim
            (λ p. ap (λ (x : List Slip). cond (has a s i) x []) (at_same [] s.book.slips f.login i _ low (omega (arith, ls)) p.1)
            ∙ ap₂ (λ (b : Bool) (x : List Slip). cond b (x ++ (slip_of f ∷ [])) []) (has_alike m a firm s u k i)
            (own_slips m a firm s u k f.login h)
            ∙ sym (ap (λ (x : List Slip). cond (has a u i) x []) (at_same [] u.book.slips f.login i _ low (omega (arith, lu)) p.1)))
            (λ p. ap (λ (x : List Slip). cond (has a s i) x [])
            (at_other [] s.book.slips f.login i _ low (omega (arith, ls)) p.0) ∙ k.slips i
            ∙ sym (ap (λ (x : List Slip). cond (has a u i) x []) (at_other [] u.book.slips f.login i _ low (omega (arith, lu)) p.0)))
            (eqb_tells f.login i);
        entries = onlys_filled (mine m a s) (λ e n. refl) f s.book.resting ∙ ap (map (filled_in f)) k.entries
            ∙ sym (onlys_filled (mine m a u) (λ e n. refl) f u.book.resting);
      }

  -- its own fill is told
  pub alike_fill_told : (s u : State m) (f : Fill) → Alike m a s u → Whole m s → Whole m u → is_open (row s f.login) ≡ true
      → has a s f.login ≡ true → Alike m a (fill_told f s) (fill_told f u)
  alike_fill_told s u f k ws wu o h =
      subst (λ (n : ℕ). Alike m a (fill_told f s) (noticed f.login (Filled n f) u))
      (ap (λ (r : Row). r.acronym) (own_row m a firm s u k f.login h))
      (alike_noticed m a firm s u f.login (fill_notice s f) k ws wu (eqb-true (row s f.login).acronym a h) o h)

  -- another's fill is told
  pub unlike_fill_told : (s : State m) (f : Fill) → Whole m s → is_open (row s f.login) ≡ true → has a s f.login ≡ false
      → Alike m a s (fill_told f s)
  unlike_fill_told s f w o h = unlike_noticed m a firm s f.login (fill_notice s f) w o h h

  -- The state after both sides of a trade is the state after one side, told, and then the other: a sweep does not look at contracts.
  pub sides_in_turn : (s : State m) (g f : Fill) → fill_told g (sided f (sided g s)) ≡ sided f (fill_told g (sided g s))
  sides_in_turn s g f =
      ap (λ (E : List (List Entry)). with_entries E (sided f (fill_told g (sided g s))))
      (fills_off (in_trip (sided g s) g.login (causes_of (fill_notice (sided g s) g) (sided g s))) (λ e n. refl) f
      (map (filled_in g) s.book.resting))
    where
      with_entries : List (List Entry) → State m → State m
      with_entries E x = with_book (with_resting x.book E) x
