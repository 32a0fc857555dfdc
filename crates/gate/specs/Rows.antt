-- A login's row in the code, seen as the row of the definitions. Assumes nothing.
use Rattle.std.specs.Prelude.{ℕ, Some, None, Option}
use Rattle.terms.specs.Kinds.{reach_number}
use Rattle.history.specs.State as state
use Rattle.gate.specs.declared.rows.Row.{Row}
use Rattle.gate.specs.declared.rows.Session.{Session}
use Rattle.gate.specs.declared.rows.Standing.{Standing}
use Rattle.gate.specs.declared.rows.Standing.TheVariants.{Free, Open, Leaving}

abbrev pub standing_of : Standing → state.Standing
standing_of Free = state.Free
standing_of (Open s) = state.Open
standing_of (Leaving s) = state.Leaving

-- what the firm of a login has it with
abbrev pub session_of : Standing → Option Session
session_of Free = None
session_of (Open s) = Some s
session_of (Leaving s) = Some s

-- a free login is nobody's
abbrev pub acronym_of : Standing → ℕ
acronym_of Free = 0
acronym_of (Open s) = s.acronym
acronym_of (Leaving s) = s.acronym

abbrev pub role_of : Standing → ℕ
role_of Free = 0
role_of (Open s) = s.role
role_of (Leaving s) = s.role

abbrev pub reach_of : Standing → ℕ
reach_of Free = 0
reach_of (Open s) = reach_number s.reach
reach_of (Leaving s) = reach_number s.reach

abbrev pub seen_row : Row → state.Row
seen_row r =
    record {
      standing = standing_of r.standing;
      acronym = acronym_of r.standing;
      role = role_of r.standing;
      reach = reach_of r.standing;
      hold = r.hold;
      out = r.out;
    }
