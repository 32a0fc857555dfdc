-- A row that is lent at its place and changed there. Assumes nothing.
use Rattle.std.proofs.Common.{◌≡◌, ℕ, suc, ◌<◌, ◌≤◌, false, List, map, length, get_or, set, sym, ap, ◌∙◌, arith}
use Rattle.terms.specs.Tables.{at, put}
use Rattle.terms.proofs.Tables.{at_map, put_map, length_map}
use Rattle.checks.specs.Meaning.{Meaning}
use Rattle.checks.proofs.Places.{at_place, put_past}
use Rattle.history.specs.State as state
use Rattle.history.specs.State.{State, with_row, blank}
use Rattle.gate.specs.declared.rows.Row.{Row}
use Rattle.gate.specs.declared.rows.Standing.TheVariants.{Free}
use Rattle.gate.specs.Rows.{seen_row}

abbrev pub with_rows : {m : Meaning} → List state.Row → State m → State m
with_rows rs s =
    record { time = s.time; valued = s.valued; rows = rs; holds = s.holds; public = s.public; private = s.private; book = s.book }

module _ {m : Meaning} (s : State m) (rows : List Row) (seen : s.rows ≡ map seen_row rows) (login : ℕ) where
  -- the login's row was put into its place
  pub row_put : (i : ℕ) (r : Row) (new : state.Row) → login ≡ suc i → seen_row r ≡ new → with_rows (map seen_row (set rows i r)) s ≡ with_row login new s
  row_put i r new at_i is =
      ap (λ rs. with_rows rs s)
      (put_map seen_row rows (suc i) r ∙ ap (put (map seen_row rows) (suc i)) is ∙ ap (λ n. put (map seen_row rows) n new) (sym at_i)
      ∙ ap (λ (rs : List state.Row). put rs login new) (sym seen))

  -- what stands there is the login's row
  pub row_there : (i : ℕ) (d : Row) → length rows ≡ 24 → login ≡ suc i → i < 24 → seen_row (get_or rows i d) ≡ at blank s.rows login
  row_there i d len at_i below =
      let within : i < length rows = omega arith in
      ap seen_row (at_place (record { standing = Free; hold = 0; out = false }) d rows login i at_i within)
      ∙ sym (at_map seen_row _ rows login)
      ∙ ap (λ (rs : List state.Row). at blank rs login) (sym seen)

  -- it was changed by f in its place
  pub row_changed :
      (f : state.Row → state.Row) (i : ℕ) (d r : Row) → length rows ≡ 24 → login ≡ suc i → i < 24 → seen_row r ≡ f (seen_row (get_or rows i d))
      → with_rows (map seen_row (set rows i r)) s ≡ with_row login (f (at blank s.rows login)) s
  row_changed f i d r len at_i below is = row_put i r _ at_i (is ∙ ap f (row_there i d len at_i below))

  -- a number that is no login's has no row to change
  pub row_none : (new : state.Row) → length rows ≡ 24 → (1 ≤ login → 24 < login) → s ≡ with_row login new s
  row_none new len past =
      let long : length s.rows ≡ 24 = ap length seen ∙ length_map seen_row rows ∙ len in
      sym (ap (λ rs. with_rows rs s) (put_past s.rows login new (λ h. omega (arith, past h))))
