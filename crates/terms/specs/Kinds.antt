-- The numbers of the words that have few values, and how a number is read as one. Assumes nothing.
use Rattle.std.specs.Prelude.{ℕ, ◌+◌, Bool, true, false, cond, List, [], ◌∷◌, Some, None, Option, codes, ◌==◌}
use Rattle.terms.specs.declared.kinds.Side.{Side}
use Rattle.terms.specs.declared.kinds.Side.TheVariants.{Buy, Sell}
use Rattle.terms.specs.declared.kinds.Kind.{Kind}
use Rattle.terms.specs.declared.kinds.Kind.TheVariants.{Order, Quote}
use Rattle.terms.specs.declared.kinds.Role.{Role}
use Rattle.terms.specs.declared.kinds.Role.TheVariants.{Member, MarketMaker}
use Rattle.terms.specs.declared.kinds.Marks.{Marks}
use Rattle.terms.specs.declared.kinds.Reach.{Reach}
use Rattle.terms.specs.declared.kinds.Reach.TheVariants.{Quotes, Orders, Both}
use Rattle.terms.specs.declared.kinds.OptionType.{OptionType}
use Rattle.terms.specs.declared.kinds.OptionType.TheVariants.{Call, Put}
use Rattle.terms.specs.declared.kinds.Class.{Class}
use Rattle.terms.specs.declared.kinds.Class.TheVariants.{One, Two, Three, Four}
use Rattle.terms.specs.declared.kinds.Phase.{Phase}
use Rattle.terms.specs.declared.kinds.Phase.TheVariants.{BeforeOpening, Open, Halt}
use Rattle.terms.specs.declared.kinds.LimitKind.{LimitKind}
use Rattle.terms.specs.declared.kinds.LimitKind.TheVariants.{Entries, Fills, TurnDowns, Size}

-- the one of some values that has the number n
abbrev pub named : {X : Type 0} → (X → ℕ) → List X → ℕ → Option X
named number [] n = None
named number (x ∷ xs) n = cond (n == number x) (Some x) (named number xs n)

abbrev pub side_number : Side → ℕ
side_number Buy = 1
side_number Sell = 2

abbrev pub side : ℕ → Option Side
side = named side_number (Buy ∷ Sell ∷ [])

abbrev pub other_side : Side → Side
other_side Buy = Sell
other_side Sell = Buy

abbrev pub side_word : Side → List ℕ
side_word Buy = codes "buy"
side_word Sell = codes "sell"

abbrev pub kind_number : Kind → ℕ
kind_number Order = 1
kind_number Quote = 2

abbrev pub kind : ℕ → Option Kind
kind = named kind_number (Order ∷ Quote ∷ [])

abbrev pub role_number : Role → ℕ
role_number Member = 1
role_number MarketMaker = 2

abbrev pub role : ℕ → Option Role
role = named role_number (Member ∷ MarketMaker ∷ [])

-- a sweep counts 1, a stop 2
abbrev pub marks_number : Marks → ℕ
marks_number m = cond m.sweep 1 0 + cond m.stop 2 0

abbrev pub marked : Bool → Bool → Marks
marked sweep stop = record { sweep = sweep; stop = stop }

abbrev pub marks : ℕ → Option Marks
marks = named marks_number (marked false false ∷ marked true false ∷ marked false true ∷ marked true true ∷ [])

abbrev pub reach_number : Reach → ℕ
reach_number Quotes = 1
reach_number Orders = 2
reach_number Both = 3

abbrev pub reach : ℕ → Option Reach
reach = named reach_number (Quotes ∷ Orders ∷ Both ∷ [])

abbrev pub option_type_number : OptionType → ℕ
option_type_number Call = 1
option_type_number Put = 2

abbrev pub option_type : ℕ → Option OptionType
option_type = named option_type_number (Call ∷ Put ∷ [])

abbrev pub class_number : Class → ℕ
class_number One = 1
class_number Two = 2
class_number Three = 3
class_number Four = 4

abbrev pub class : ℕ → Option Class
class = named class_number (One ∷ Two ∷ Three ∷ Four ∷ [])

abbrev pub phase_number : Phase → ℕ
phase_number BeforeOpening = 1
phase_number Open = 2
phase_number Halt = 3

abbrev pub phase : ℕ → Option Phase
phase = named phase_number (BeforeOpening ∷ Open ∷ Halt ∷ [])

abbrev pub limit_kind_number : LimitKind → ℕ
limit_kind_number Entries = 1
limit_kind_number Fills = 2
limit_kind_number TurnDowns = 3
limit_kind_number Size = 4

abbrev pub limit_kind : ℕ → Option LimitKind
limit_kind = named limit_kind_number (Entries ∷ Fills ∷ TurnDowns ∷ Size ∷ [])

abbrev pub flag_number : Bool → ℕ
flag_number false = 0
flag_number true = 1

abbrev pub flag_of : ℕ → Option Bool
flag_of = named flag_number (false ∷ true ∷ [])
