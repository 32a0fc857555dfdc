-- How the numbers of an entry and of a series are read, field by field: one that is out of its range refuses them all. Assumes nothing.
use Rattle.std.specs.Prelude.{ℕ, Some, None, Option}
use Rattle.std.specs.Option.{option_map}
use Rattle.terms.specs.declared.messages.ScopeNumber.{ScopeNumber}
use Rattle.terms.specs.declared.messages.ScopeNumber.TheVariants as number
use Rattle.terms.specs.declared.values.Scope.{Scope}
use Rattle.terms.specs.declared.values.Scope.TheVariants.{Login, Acronym}
use Rattle.terms.specs.declared.values.BidOffer.{BidOffer}
use Rattle.terms.specs.declared.values.Conditions.{Conditions}
use Rattle.terms.specs.declared.values.ConditionNumbers.{ConditionNumbers}
use Rattle.terms.specs.declared.values.Values.{Values}
use Rattle.terms.specs.declared.values.ValueNumbers.{ValueNumbers}
use Rattle.terms.specs.declared.values.Request.{Request}
use Rattle.terms.specs.declared.values.RequestNumbers.{RequestNumbers}
use Rattle.terms.specs.Ranges.{bounded, optional}
use Rattle.terms.specs.Kinds.{side, kind, role, marks, option_type, class, phase, flag_of}

infixr 20 ◌then◌
-- what is read, handed on, where it could be read
abbrev pub ◌then◌ : {X Y : Type 0} → Option X → (X → Option Y) → Option Y
None then f = None
Some x then f = f x

-- a scope is read as the login or the acronym that it names
abbrev pub scope : ScopeNumber → Option Scope
scope (number.Login n) = option_map Login (bounded 1 24 n)
scope (number.Acronym n) = option_map Acronym (bounded 1 8 n)

unfoldable pub bid_offer : ℕ → ℕ → Option BidOffer
bid_offer bid offer = optional bid then λ bid. optional offer then λ offer. Some (record { bid = bid; offer = offer })

unfoldable pub conditions : ConditionNumbers → Option Conditions
conditions n =
    class n.class then λ class. phase n.phase then λ phase. flag_of n.flag then λ flag. bid_offer n.nbb n.nbo then λ national. bid_offer n.bid n.offer then λ venue. optional n.close then λ close. Some
    (record { class = class; phase = phase; flag = flag; national = national; venue = venue; close = close })

unfoldable pub values : ValueNumbers → Option Values
values n =
    option_type n.option then λ option. bounded 1 1000000 n.strike then λ strike. conditions n.conditions then λ conditions. optional n.underlying then λ underlying. Some
    (record { option = option; strike = strike; conditions = conditions; underlying = underlying })

unfoldable pub request : RequestNumbers → Option Request
request n =
    role n.role then λ role. side n.side then λ side. kind n.kind then λ kind. marks n.marks then λ marks. bounded 1 1000000 n.price then λ price. Some
    (record { role = role; side = side; kind = kind; marks = marks; price = price })
