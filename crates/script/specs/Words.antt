-- The words of a line, and how a line is laid out as words. Assumes nothing.
use Rattle.std.specs.Prelude.{◌≡◌, ℕ, Bool, true, false, cond, not, ◌&&◌, ◌||◌, List, [], ◌∷◌, ◌++◌, Some, None, Option, ◌==◌}
use Rattle.std.specs.Borrow.{Bor}
use Rattle.script.specs.declared.reader.Reader.{Reader}

-- ---- bytes

-- a space, a tab or a carriage return
abbrev pub blank : ℕ → Bool
blank b = b == 32 || (b == 9 || b == 13)

-- '#', which ends the line
abbrev pub ends : ℕ → Bool
ends b = b == 35

-- a byte of a word
abbrev pub plain : ℕ → Bool
plain b = not (ends b) && not (blank b)

-- every byte passes a test
abbrev pub all : (ℕ → Bool) → List ℕ → Bool
all test [] = true
all test (b ∷ bs) = test b && all test bs

-- ---- words

-- a byte of a word stands first
abbrev pub begins : List ℕ → Bool
begins [] = false
begins (b ∷ bs) = plain b

-- a byte put in front of the first word
abbrev pub glued : ℕ → List (List ℕ) → List (List ℕ)
glued b [] = (b ∷ []) ∷ []
glued b (w ∷ ws) = (b ∷ w) ∷ ws

-- a byte of a word belongs to the word that follows at once, and else is a word of its own
abbrev pub words : List ℕ → List (List ℕ)
words [] = []
words (b ∷ bs) =
    cond (ends b) [] (cond (blank b) (words bs) (cond (begins bs) (glued b (words bs)) ((b ∷ []) ∷ words bs)))

-- what a reader has still to give
abbrev pub remaining : Reader → List (List ℕ)
remaining r = words r.rest.now

-- a call gives the first word and leaves the others; where there is none, it leaves none
abbrev pub Gives : (before : List (List ℕ)) → Option (Bor (List ℕ)) → (after : List (List ℕ)) → Type 0
Gives before None after = (before ≡ []) × (after ≡ [])
Gives before (Some w) after = before ≡ w.now ∷ after

-- ---- laws

-- one byte of a word or more
abbrev pub is_word : List ℕ → Bool
is_word [] = false
is_word (b ∷ bs) = all plain (b ∷ bs)

-- the line is over, or '#' ends it here
abbrev pub over : List ℕ → Bool
over [] = true
over (b ∷ bs) = ends b

-- A line is laid out as words: before each word a gap of blanks, after it no byte of a word; after the last a gap, and the end or '#'.
abbrev pub Laid : List ℕ → List (List ℕ) → Type 0
Laid line [] = (gap : List ℕ) × (rest : List ℕ) × (line ≡ gap ++ rest) × (all blank gap ≡ true) × (over rest ≡ true)
Laid line (w ∷ ws) =
    (gap : List ℕ) × (rest : List ℕ) × (line ≡ gap ++ (w ++ rest)) × (all blank gap ≡ true) × (is_word w ≡ true) × (begins rest ≡ false) × Laid rest ws

-- A line is laid out as its words, and as no others.
pub record Parted (line : List ℕ) (ws : List (List ℕ)) : Type 0 where
  pub laid : Laid line ws
  pub only : (vs : List (List ℕ)) → Laid line vs → ws ≡ vs
