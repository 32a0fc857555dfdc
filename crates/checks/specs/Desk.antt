-- What the price desk answers to a question in plain numbers. Assumes nothing.
use Rattle.std.specs.Prelude.{Some, Option}
use Rattle.terms.specs.declared.values.RequestNumbers.{RequestNumbers}
use Rattle.terms.specs.declared.values.ConditionNumbers.{ConditionNumbers}
use Rattle.terms.specs.Values.{◌then◌, request, conditions}
use Rattle.checks.specs.declared.desk.Judgement.{Judgement}
use Rattle.checks.specs.LimitPrice.{basis, limit_price}

-- what the request is judged by, and how, where all fields are in their ranges
abbrev pub judgement : RequestNumbers → ConditionNumbers → Option Judgement
judgement n m =
    request n then λ q. conditions m then λ c. Some (record { basis = basis q c; verdict = limit_price q c })
