-- A round trades the shares one at a time; the laws of it. Assumes nothing.
use Rattle.std.specs.Prelude.{◌≡◌, List, [], ◌∷◌, ◌++◌, ℕ, zero, suc, ◌+◌, ◌-◌, ◌≤◌, ◌<◌, get_or, drop, take}
use Rattle.shares.specs.Shares.{sum_of, shares, put, positive, First}

-- A round between strikes: what is left to give out, how many makers still resting were passed, and the contracts of the makers at the
-- price, oldest first.
pub record Round : Type 0 where
  pub left : ℕ
  pub passed : ℕ
  pub level : List ℕ

-- a round as it opens
abbrev pub opened : ℕ → List ℕ → Round
opened r cs = record { left = r; passed = 0; level = cs }

-- what the round has still to trade: the shares of what is left over the makers not passed, without those of 0
abbrev pub pending : Round → List ℕ
pending a = positive (shares a.left (drop a.passed a.level))

-- what is left can be given out
abbrev pub Covered : Round → Type 0
Covered a = a.left ≤ sum_of (drop a.passed a.level)

-- 1 where something of the maker is left, and it is passed; 0 where it is gone
abbrev pub stays : ℕ → ℕ
stays zero = 0
stays (suc n) = 1

-- the level after maker p gave s: a maker with none left goes
abbrev pub filled : ℕ → ℕ → List ℕ → List ℕ
filled p s l = take p l ++ put (get_or l p 0 - s) (drop (suc p) l)

-- the round after maker i of those not passed gave s
abbrev pub struck : Round → ℕ → ℕ → Round
struck a i s = record {
  left = a.left - s;
  passed = a.passed + i + stays (get_or a.level (a.passed + i) 0 - s);
  level = filled (a.passed + i) s a.level;
}

-- A strike of s: the first share above 0 of the makers not passed.
abbrev pub Strike : Round → ℕ → Round → Type 0
Strike a s b =
    (i : ℕ) × (First a.left (drop a.passed a.level) i s (a.left - s)) × (b ≡ struck a i s)

-- strikes one after the other
abbrev pub Strikes : Round → List ℕ → Round → Type 0
Strikes a [] c = a ≡ c
Strikes a (s ∷ ss) c = (b : Round) × Strike a s b × Strikes b ss c

-- ---- laws

-- a strike trades the first of what is pending, and leaves the others
abbrev pub StrikeTakesNext : Type 0
StrikeTakesNext = (a b : Round) (s : ℕ) → Strike a s b → pending a ≡ s ∷ pending b

-- it keeps the round covered
abbrev pub StrikeKeepsCovered : Type 0
StrikeKeepsCovered = (a b : Round) (s : ℕ) → Covered a → Strike a s b → Covered b

-- a covered round with something left has a next strike
abbrev pub RoundGoesOn : Type 0
RoundGoesOn = (a : Round) → Covered a → 0 < a.left → (s : ℕ) × ((b : Round) × Strike a s b)

-- strikes from the opening until nothing is left trade exactly the shares, without those of 0
abbrev pub RoundTradesShares : Type 0
RoundTradesShares = (r : ℕ) (cs ss : List ℕ) (c : Round) → Strikes (opened r cs) ss c → c.left ≡ 0 → ss ≡ positive (shares r cs)

-- and they sum to what was given out
abbrev pub RoundTradesAll : Type 0
RoundTradesAll = (r : ℕ) (cs ss : List ℕ) (c : Round) → r ≤ sum_of cs → Strikes (opened r cs) ss c → c.left ≡ 0 → sum_of ss ≡ r

-- a strike's share and the round after it are the only ones
abbrev pub StrikeAlone : Type 0
StrikeAlone = (a b c : Round) (s t : ℕ) → Strike a s b → Strike a t c → (s ≡ t) × (b ≡ c)
