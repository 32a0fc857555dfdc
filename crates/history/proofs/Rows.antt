-- A row is free, open or leaving, and what retire and receipt make of it. Assumes nothing.
use Rattle.std.proofs.Common.{◌≡◌, Bool, true, false, cond, ◌&&◌, List, [], ◌∷◌, sym, refl, ◌∙◌}
use Rattle.terms.proofs.Tables.{mixed}
use Rattle.market.specs.Book.{Slip}
use Rattle.history.specs.Promises.{Firm}
use Rattle.history.specs.State.{Free, Leaving, Open, Row, Standing, blank, is_free, is_leaving, is_open, nothing_waits, receipted_row, retired_row, with_out}

-- ---- standings

-- an open row is neither free nor leaving
pub open_free : (r : Row) → is_open r ≡ true → is_free r ≡ false
open_free r e = go r.standing e
  where
    go :
        (x : Standing) → (elim x [ Free ↦ false | Open ↦ true | Leaving ↦ false ]) ≡ true
        → (elim x [ Free ↦ true | Open ↦ false | Leaving ↦ false ]) ≡ false
    go Free k = sym k
    go Open k = refl
    go Leaving k = refl

pub open_leaving : (r : Row) → is_open r ≡ true → is_leaving r ≡ false
open_leaving r e = go r.standing e
  where
    go :
        (x : Standing) → (elim x [ Free ↦ false | Open ↦ true | Leaving ↦ false ]) ≡ true
        → (elim x [ Free ↦ false | Open ↦ false | Leaving ↦ true ]) ≡ false
    go Free k = refl
    go Open k = refl
    go Leaving k = sym k

-- what is neither open nor leaving is free
pub free_else : (r : Row) → is_open r ≡ false → is_leaving r ≡ false → is_free r ≡ true
free_else r e f = go r.standing e f
  where
    go :
        (x : Standing) → (elim x [ Free ↦ false | Open ↦ true | Leaving ↦ false ]) ≡ false
        → (elim x [ Free ↦ false | Open ↦ false | Leaving ↦ true ]) ≡ false
        → (elim x [ Free ↦ true | Open ↦ false | Leaving ↦ false ]) ≡ true
    go Free k j = refl
    go Open k j = sym k
    go Leaving k j = sym j

-- ---- slips and rows

-- a login that retires is not open; it is free only where no slip of it waits, and else stays its acronym's
pub retired_shut : (ss : List Slip) (r : Row) → is_open (retired_row ss r) ≡ false
retired_shut [] r = refl
retired_shut (s ∷ ss) r = refl

pub retired_free : (ss : List Slip) (r : Row) → is_free (retired_row ss r) ≡ true → ss ≡ []
retired_free [] r e = refl
retired_free (s ∷ ss) r e = mixed _ (sym e)

pub retired_real : (ss : List Slip) (r : Row) → Firm r.acronym → is_free (retired_row ss r) ≡ false → Firm (retired_row ss r).acronym
retired_real [] r f e = mixed _ e
retired_real (s ∷ ss) r f e = f

-- a receipt leaves an open login open, and frees one only with its last slip
pub receipted_open : (ss : List Slip) (r : Row) → is_open r ≡ true → is_open (receipted_row ss r) ≡ true
receipted_open ss r o = let h = open_leaving r o in rw h o

pub receipted_free : (ss : List Slip) (r : Row) → is_free r ≡ false → is_free (receipted_row ss r) ≡ true → ss ≡ []
receipted_free ss r nf f = go (is_leaving r) ss f
  where
    go : (b : Bool) (ss : List Slip) → is_free (cond (b && nothing_waits ss) blank (with_out false r)) ≡ true → ss ≡ []
    go true [] k = refl
    go true (s ∷ ss) k = mixed _ (sym k ∙ nf)
    go false ss k = mixed _ (sym k ∙ nf)

pub receipted_real : (ss : List Slip) (r : Row) → Firm r.acronym → is_free (receipted_row ss r) ≡ false → Firm (receipted_row ss r).acronym
receipted_real ss r firm f = go (is_leaving r && nothing_waits ss) f
  where
    go : (b : Bool) → is_free (cond b blank (with_out false r)) ≡ false → Firm (cond b blank (with_out false r)).acronym
    go true k = mixed _ k
    go false k = firm
