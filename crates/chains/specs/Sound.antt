-- All the chains of a table: how their places lie, and when the struct is sound.
use Rattle.std.specs.Prelude.{◌≡◌, ℕ, suc, ◌+◌, ◌-◌, List, [], ◌∷◌, map, length, sum_by, slice_index, slice_index_or}
use Rattle.chains.specs.declared.slots.Slot.{Slot}
use Rattle.chains.specs.declared.table.Ends.{Ends}
use Rattle.chains.specs.Slots.{nexts, items}
use Rattle.chains.specs.Chain.{places_from, pick, In, Linked, last0}

-- chain k begins at place hs k and goes through the places iss k. Chain 0 is the free one; of every other, ts has the last place.
-- No place is in two chains, and m places but place 0 are in none.
pub record Layout (nx hs ts : List ℕ) (iss : List (List ℕ)) (m : ℕ) : Type 0 where
  pub count : length iss ≡ length hs
  pub linked : (k : ℕ) → Linked nx (slice_index hs k) (slice_index_or iss k [])
  pub ends : (k : ℕ) → last0 (slice_index_or iss (suc k) []) ≡ slice_index ts k
  pub apart : (j k i : ℕ) → In i (slice_index_or iss j []) → In i (slice_index_or iss k []) → j ≡ k
  pub cover : sum_by length iss + m ≡ length nx - 1

-- the places of each chain that begins at one of hs
abbrev pub walks : List ℕ → List ℕ → List (List ℕ)
walks nx hs = map (places_from nx) hs

-- what chains are made of: the slots, the first and the last place of each chain, the first free place, and how many are free
pub record Parts (X : Type 0) : Type 0 where
  pub slots : List (Slot X)
  pub heads : List ℕ
  pub tails : List ℕ
  pub free : ℕ
  pub room : ℕ

abbrev pub parts_of : {X : Type 0} → List (Slot X) → List Ends → ℕ → ℕ → Parts X
parts_of slots ends free room = record { slots = slots; heads = map (λ e. e.head) ends; tails = map (λ e. e.tail) ends; free = free; room = room }

-- the items of each chain, oldest first
unfoldable pub listed : {X : Type 0} → Parts X → List (List X)
listed c = map (pick (items c.slots)) (walks (nexts c.slots) c.heads)

-- the chains are well formed and apart, with the free one they take up every place but 0, and the free places are counted
pub record Sound {X : Type 0} (N : ℕ) (c : Parts X) : Type 0 where
  pub heads : length c.heads ≡ N
  pub tails : length c.tails ≡ N
  pub layout : Layout (nexts c.slots) (c.free ∷ c.heads) c.tails (walks (nexts c.slots) (c.free ∷ c.heads)) 0
  pub counted : c.room ≡ length (places_from (nexts c.slots) c.free)

-- the same as a proposition, which a ghost field can state
abbrev pub Kept : {X : Type 0} → ℕ → List (Slot X) → List Ends → ℕ → ℕ → Type 0
Kept N slots ends free room = ∥ Sound N (parts_of slots ends free room) ∥₁
