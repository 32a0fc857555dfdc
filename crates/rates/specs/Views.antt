-- What a window keeps, and what becomes of it. Assumes nothing.
use Rattle.std.specs.Prelude.{ℕ, Bool, true, false, cond, not, ◌&&◌, ◌||◌, List, [], ◌∷◌, ◌++◌, take, ◌==◌}
use Rattle.rates.specs.declared.window.Mark.{Mark}
use Rattle.rates.specs.declared.window.Window.{Window}
use Rattle.rates.specs.Marks.{mark, counted, reaches}

pub record View : Type 0 where
  pub limit : ℕ
  pub interval : ℕ
  pub stopped : Bool
  -- the oldest first
  pub kept : List Mark

abbrev pub view : Window → View
view w = record { limit = w.limit; interval = w.interval; stopped = w.tripped; kept = take w.used w.marks }

-- a limit, and nothing counted yet
abbrev pub empty : (limit interval : ℕ) → View
empty l i = record { limit = l; interval = i; stopped = false; kept = [] }

abbrev pub cleared : View → View
cleared v = empty v.limit v.interval

-- nothing is counted: there is no limit, or the window has tripped
abbrev pub idle : View → Bool
idle v = v.limit == 0 || v.stopped

-- what still counts at a time
abbrev pub still : (time : ℕ) → View → List Mark
still t v = counted t v.interval v.kept

abbrev pub over : (time amount : ℕ) → View → Bool
over t a v = reaches v.limit (mark t a ∷ still t v)

-- does an event trip it
abbrev pub answers : (time amount : ℕ) → View → Bool
answers t a v = not (idle v) && over t a v

abbrev pub stops : View → View
stops v = record { limit = v.limit; interval = v.interval; stopped = true; kept = [] }

-- what no longer counts is dropped, and the event is added
abbrev pub adds : (time amount : ℕ) → View → View
adds t a v = record { limit = v.limit; interval = v.interval; stopped = v.stopped; kept = still t v ++ (mark t a ∷ []) }

abbrev pub after : (time amount : ℕ) → View → View
after t a v = cond (idle v) v (cond (over t a v) (stops v) (adds t a v))
