-- What a gate keeps: the time, the series with values, the logins' rows, the acronyms' holds, the checks' records and the book. Assumes nothing.
use Rattle.std.specs.Prelude.{ℕ, Bool, true, false, cond, not, ◌&&◌, List, [], ◌∷◌, replicate, ◌==◌}
use Rattle.terms.specs.Tables.{at, put}
use Rattle.market.specs.Book.{Slip, Book, empty}
use Rattle.checks.specs.Meaning.{Meaning}

-- ---- a login's row

pub data Standing : Type 0 where
  Free : Standing
  Open : Standing
  -- retired, while a slip of it still waits
  Leaving : Standing

-- An acronym is the firm that holds the login; a reach says which kinds a trip sweeps of it; the hold is the cause of one, 0 where it is not held.
pub record Row : Type 0 where
  pub standing : Standing
  pub acronym : ℕ
  pub role : ℕ
  pub reach : ℕ
  pub hold : ℕ
  -- a slip of it was taken, and neither receipted nor put back yet
  pub out : Bool

-- a free login's row
abbrev pub blank : Row
blank = record { standing = Free; acronym = 0; role = 0; reach = 0; hold = 0; out = false }

abbrev pub is_free : Row → Bool
is_free r = elim r.standing [ Free ↦ true | Open ↦ false | Leaving ↦ false ]

abbrev pub is_open : Row → Bool
is_open r = elim r.standing [ Free ↦ false | Open ↦ true | Leaving ↦ false ]

abbrev pub is_leaving : Row → Bool
is_leaving r = elim r.standing [ Free ↦ false | Open ↦ false | Leaving ↦ true ]

-- a login as it is opened: neither held nor with a slip out
abbrev pub opened : (acronym role reach : ℕ) → Row
opened acronym role reach = record { standing = Open; acronym = acronym; role = role; reach = reach; hold = 0; out = false }

abbrev pub leaving : Row → Row
leaving r = record { standing = Leaving; acronym = r.acronym; role = r.role; reach = r.reach; hold = r.hold; out = r.out }

abbrev pub with_hold : ℕ → Row → Row
with_hold cause r = record { standing = r.standing; acronym = r.acronym; role = r.role; reach = r.reach; hold = cause; out = r.out }

abbrev pub with_out : Bool → Row → Row
with_out out r = record { standing = r.standing; acronym = r.acronym; role = r.role; reach = r.reach; hold = r.hold; out = out }

abbrev pub nothing_waits : List Slip → Bool
nothing_waits [] = true
nothing_waits (s ∷ ss) = false

-- a login that retires is leaving while a slip of it waits, one that is out included; then it is free
abbrev pub retired_row : (waiting : List Slip) → Row → Row
retired_row waiting r = cond (nothing_waits waiting) blank (leaving r)

-- its last receipt frees a login that is leaving
abbrev pub receipted_row : (waiting : List Slip) → Row → Row
receipted_row waiting r = cond (is_leaving r && nothing_waits waiting) blank (with_out false r)

-- ---- causes

abbrev pub nonzero : ℕ → Bool
nonzero n = not (n == 0)

-- a hold keeps its first cause; 0 is none
abbrev pub first_cause : (old new : ℕ) → ℕ
first_cause old new = cond (old == 0) new old

-- ---- the state

pub record State (m : Meaning) : Type 0 where
  pub time : ℕ
  -- the 16 series: whether it had values
  pub valued : List Bool
  -- the 24 logins
  pub rows : List Row
  -- the 8 acronyms: the cause of its hold, 0 where it is not held
  pub holds : List ℕ
  -- the checks' records: one for all, and one for each of the 8 acronyms
  pub public : m.Pub
  pub private : List m.Priv
  pub book : Book

-- a new gate, over checks with the public record p and a market with room for so many slips
abbrev pub new_gate : (m : Meaning) → m.Pub → (room : ℕ) → State m
new_gate m p room =
    record {
      time = 0;
      valued = replicate 16 false;
      rows = replicate 24 blank;
      holds = replicate 8 0;
      public = m.renewed p;
      private = replicate 8 (m.fresh p);
      book = empty room;
    }

module _ {m : Meaning} where
  abbrev pub row : State m → (login : ℕ) → Row
  row s login = at blank s.rows login

  abbrev pub hold_of : State m → (acronym : ℕ) → ℕ
  hold_of s acronym = at 0 s.holds acronym

  abbrev pub private_of : State m → (acronym : ℕ) → m.Priv
  private_of s acronym = at (m.fresh s.public) s.private acronym

  abbrev pub with_time : ℕ → State m → State m
  with_time time s =
      record { time = time; valued = s.valued; rows = s.rows; holds = s.holds; public = s.public; private = s.private; book = s.book }

  abbrev pub with_values : (series : ℕ) → State m → State m
  with_values series s =
      record {
        time = s.time;
        valued = put
            s.valued series true;
        rows = s.rows;
        holds = s.holds;
        public = s.public;
        private = s.private;
        book = s.book;
      }

  abbrev pub with_row : (login : ℕ) → Row → State m → State m
  with_row login r s =
      record {
        time = s.time;
        valued = s.valued;
        rows = put
            s.rows login r;
        holds = s.holds;
        public = s.public;
        private = s.private;
        book = s.book;
      }

  abbrev pub with_hold_of : (acronym cause : ℕ) → State m → State m
  with_hold_of acronym cause s =
      record {
        time = s.time;
        valued = s.valued;
        rows = s.rows;
        holds = put
            s.holds acronym cause;
        public = s.public;
        private = s.private;
        book = s.book;
      }

  abbrev pub with_book : Book → State m → State m
  with_book b s =
      record { time = s.time; valued = s.valued; rows = s.rows; holds = s.holds; public = s.public; private = s.private; book = b }
