-- The checks that go by the values of a series: a rule for an entry and its series' values makes a check. Assumes nothing.
use Rattle.std.specs.Prelude.{ℕ, Bool, true, false, cond, List, replicate, Some, None, Ok, Err, Option, Result, nat_le}
use Rattle.std.proofs.Common.{inr, lit≤}
use Rattle.terms.specs.declared.kinds.Side.{Side}
use Rattle.terms.specs.declared.kinds.Side.TheVariants.{Buy, Sell}
use Rattle.terms.specs.declared.messages.Asked.{Asked}
use Rattle.terms.specs.declared.messages.Notice.{Notice}
use Rattle.terms.specs.declared.messages.Notice.TheVariants.{Ticked, Valued, Opened, Closed, Limited, Released, Entered, TurnedDown, Filled}
use Rattle.terms.specs.declared.refusal.Refusal.{Refusal}
use Rattle.terms.specs.declared.refusal.Refusal.TheVariants.{PutAndCall}
use Rattle.terms.specs.declared.values.Request.{Request}
use Rattle.terms.specs.declared.values.RequestNumbers.{RequestNumbers}
use Rattle.terms.specs.declared.values.Values.{Values}
use Rattle.terms.specs.Ranges.{Price}
use Rattle.terms.specs.Refusals.{answer}
use Rattle.terms.specs.Tables.{at, put}
use Rattle.terms.specs.Values.{◌then◌, request, values}
use Rattle.checks.specs.declared.pricing.Basis.{Basis}
use Rattle.checks.specs.declared.pricing.Basis.TheVariants as judged_by
use Rattle.checks.specs.declared.valuing.Case.{Case}
use Rattle.checks.specs.Judged.{Ranged, zero_ranged}
use Rattle.checks.specs.LimitPrice.{basis, limit_price, if_past, judged_on, past}
use Rattle.checks.specs.Meaning.{Meaning, Lawful, no_cause}
use Rattle.checks.specs.PutAndCall.{ceiling, bought_below, put_and_call}

-- the values of each series, none until they come
abbrev pub KnownValues : Type 0
KnownValues = List (Option Values)

-- what a rule makes of an entry and the values of its series
abbrev pub Verdict : Type 0
Verdict = Request → Values → Result (Unit {0}) Refusal

-- it gives 0 or a number from 41 to 59
abbrev pub InRange : Verdict → Type 0
InRange verdict = (q : Request) (v : Values) → Ranged (answer (verdict q v))

abbrev pub request_numbers : Asked → RequestNumbers
request_numbers k = record { role = k.role; side = k.ticket.side; kind = k.ticket.kind; marks = k.ticket.marks; price = k.ticket.price }

-- the entry with the values of its series, where both are there
abbrev pub case_of : Asked → KnownValues → Option Case
case_of k known = request (request_numbers k) then λ q. at None known k.ticket.series then λ v. Some (record { request = q; values = v })

-- 0 where there is nothing to judge, and else what the rule answers
abbrev pub ruled : Verdict → Option Case → ℕ
ruled verdict None = 0
ruled verdict (Some c) = answer (verdict c.request c.values)

-- values that cannot be read are none
abbrev pub known_after : Notice → KnownValues → KnownValues
known_after (Ticked t) known = known
known_after (Valued s v) known = put known s (values v)
known_after (Opened a l r c) known = known
known_after (Closed a l) known = known
known_after (Limited a x) known = known
known_after (Released a s) known = known
known_after (Entered k) known = known
known_after (TurnedDown k n) known = known
known_after (Filled a f) known = known

-- a rule as a check, which keeps nothing of an acronym
abbrev pub by_values : Verdict → Meaning
by_values verdict = record {
  Pub = KnownValues;
  Priv = Unit {0};
  renewed = λ p. replicate 16 None;
  fresh = λ p. tt;
  judged = λ k p q. ruled verdict (case_of k p);
  public_after = known_after;
  private_after = λ n p q. q;
  causes = λ n p q. no_cause;
}

pub by_values_lawful : (verdict : Verdict) → InRange verdict → Lawful (by_values verdict)
by_values_lawful verdict ranged = record { range = λ k p q. of_case (case_of k p) }
  where
    of_case : (c : Option Case) → Ranged (ruled verdict c)
    of_case None = zero_ranged
    of_case (Some c) = ranged c.request c.values

pub put_and_call_ranged : InRange put_and_call
put_and_call_ranged q v = by_side q.side q.price.value (ceiling v)
  where
    by_test : (b : Bool) → Ranged (answer {X = Unit {0}} (cond b (Err PutAndCall) (Ok tt)))
    by_test true = inr (lit≤ tt, lit≤ tt)
    by_test false = zero_ranged

    by_side : (side : Side) (price : ℕ) (c : Option Price) → Ranged (answer (bought_below side price c))
    by_side Buy price None = zero_ranged
    by_side Buy price (Some c) = by_test (nat_le c.value price)
    by_side Sell price c = zero_ranged

-- an entry's price is held against the conditions of its series
abbrev pub limit_price_of : Verdict
limit_price_of q v = limit_price q v.conditions

pub limit_price_ranged : InRange limit_price_of
limit_price_ranged q v = on_basis (basis q v.conditions)
  where
    by_test : (b : Bool) → Ranged (answer (if_past b))
    by_test true = inr (lit≤ tt, lit≤ tt)
    by_test false = zero_ranged

    on_basis : (b : Basis) → Ranged (answer (judged_on q b))
    on_basis judged_by.Quote = zero_ranged
    on_basis (judged_by.Exempt e) = zero_ranged
    on_basis judged_by.NoReference = zero_ranged
    on_basis (judged_by.Against p d) = by_test (past q.side q.price.value p.value d)
