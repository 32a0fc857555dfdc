-- The ranges of the fields of a call. Every call is refused 1 where one of its fields is out of its range, whatever else is so. Assumes nothing.
use Rattle.std.specs.Prelude.{ℕ, Bool, ◌||◌, [], ◌∷◌, ◌==◌}
use Rattle.terms.specs.declared.values.ValueNumbers.{ValueNumbers}
use Rattle.terms.specs.declared.values.ConditionNumbers.{ConditionNumbers}
use Rattle.terms.specs.declared.messages.ScopeNumber.{ScopeNumber}
use Rattle.terms.specs.declared.messages.ScopeNumber.TheVariants.{Login, Acronym}
use Rattle.terms.specs.declared.messages.LimitNumbers.{LimitNumbers}
use Rattle.terms.specs.declared.messages.Ticket.{Ticket}
use Rattle.terms.specs.declared.messages.Fill.{Fill}
use Rattle.terms.specs.Ranges.{within}
use Rattle.terms.specs.Tables.{all_of}

-- milliseconds
abbrev pub good_time : ℕ → Bool
good_time n = within 0 4294967295 n

abbrev pub good_login : ℕ → Bool
good_login n = within 1 24 n

-- an acronym is a firm
abbrev pub good_acronym : ℕ → Bool
good_acronym n = within 1 8 n

abbrev pub good_series : ℕ → Bool
good_series n = within 1 16 n

-- the number that a login gives an entry
abbrev pub good_number : ℕ → Bool
good_number n = within 1 4294967295 n

-- cents
abbrev pub good_price : ℕ → Bool
good_price n = within 1 1000000 n

-- a price, where 0 is absent
abbrev pub good_optional_price : ℕ → Bool
good_optional_price n = within 0 1000000 n

abbrev pub good_contracts : ℕ → Bool
good_contracts n = within 1 65535 n

-- 1 is buy, 2 sell
abbrev pub good_side : ℕ → Bool
good_side n = within 1 2 n

-- 1 is quotes, 2 orders, 3 both
abbrev pub good_reach : ℕ → Bool
good_reach n = within 1 3 n

abbrev pub good_flag : ℕ → Bool
good_flag n = within 0 1 n

abbrev pub good_scope : ScopeNumber → Bool
good_scope (Login l) = good_login l
good_scope (Acronym a) = good_acronym a

-- class 1 to 4, phase 1 to 3
abbrev pub good_conditions : ConditionNumbers → Bool
good_conditions c =
    all_of
    (within 1 4 c.class
    ∷ within 1 3 c.phase
    ∷ good_flag c.flag
    ∷ good_optional_price c.nbb
    ∷ good_optional_price c.nbo
    ∷ good_optional_price c.bid
    ∷ good_optional_price c.offer
    ∷ good_optional_price c.close
    ∷ [])

-- the option is 1 call or 2 put
abbrev pub good_values : (series : ℕ) → ValueNumbers → Bool
good_values series v =
    all_of (good_series series ∷ within 1 2 v.option ∷ good_price v.strike ∷ good_conditions v.conditions ∷ good_optional_price
    v.underlying ∷ [])

-- role 1 is member, 2 market-maker
abbrev pub good_open : (login acronym role reach : ℕ) → Bool
good_open login acronym role reach = all_of (good_login login ∷ good_acronym acronym ∷ within 1 2 role ∷ good_reach reach ∷ [])

-- kind 4, the size of an entry, reads no interval
abbrev pub good_limit : LimitNumbers → Bool
good_limit x =
    all_of
    (good_scope x.scope
    ∷ within 1 4 x.kind
    ∷ within 0 1000000 x.limit
    ∷ (x.kind == 4 || within 1 86400000 x.interval)
    ∷ [])

-- kind 1 is order, 2 quote; marks are 0 none, 1 intermarket sweep, 2 stop, 3 both
abbrev pub good_ticket : Ticket → Bool
good_ticket t =
    all_of
    (good_login t.login
    ∷ good_number t.number
    ∷ good_series t.series
    ∷ good_side t.side
    ∷ within 1 2 t.kind
    ∷ within 0 3 t.marks
    ∷ good_price t.price
    ∷ good_contracts t.contracts
    ∷ [])

abbrev pub good_fill : Fill → Bool
good_fill f =
    all_of (good_login f.login ∷ good_number f.number ∷ good_side f.side ∷ good_contracts f.contracts ∷ good_price f.price ∷ [])

-- block 1 holds as well, block 0 only sweeps
abbrev pub good_kill : ScopeNumber → (reach block : ℕ) → Bool
good_kill scope reach block = all_of (good_scope scope ∷ good_reach reach ∷ good_flag block ∷ [])
