-- The worked cases: what is asked, in plain numbers, and the answer that is due. Assumes nothing.
use Rattle.std.specs.Prelude.{◌≡◌, ℕ, zero, suc, cond, List, [], ◌∷◌, map, Some, None, Ok, Err, Option, Result, ◌==◌}
use Rattle.terms.specs.declared.refusal.Refusal.{Refusal}
use Rattle.terms.specs.declared.refusal.Refusal.TheVariants as refusal
use Rattle.terms.specs.declared.refusal.Refusal.TheVariants.{Field}
use Rattle.terms.specs.declared.values.Request.{Request}
use Rattle.terms.specs.declared.values.Values.{Values}
use Rattle.terms.specs.declared.values.RequestNumbers.{RequestNumbers}
use Rattle.terms.specs.declared.values.ConditionNumbers.{ConditionNumbers}
use Rattle.terms.specs.declared.values.ValueNumbers.{ValueNumbers}
use Rattle.terms.specs.declared.messages.LimitNumbers.{LimitNumbers}
use Rattle.terms.specs.declared.messages.Notice.{Notice}
use Rattle.terms.specs.declared.messages.Notice.TheVariants.{Ticked, Limited, Entered, Filled}
use Rattle.terms.specs.declared.messages.ScopeNumber.TheVariants.{Acronym}
use Rattle.terms.specs.Refusals.{number}
use Rattle.terms.specs.Tables.{at}
use Rattle.terms.specs.Values.{request, values}
use Rattle.checks.specs.declared.desk.Judgement.{Judgement}
use Rattle.checks.specs.Desk.{judgement}
use Rattle.checks.specs.Meaning.{whose, told_causes}
use Rattle.checks.specs.PutAndCall.{put_and_call}
use Rattle.rates.specs.Firms.{new_firm, rates}
use Rattle.rates.specs.Told.{clock, firms_after, of_firm, cause_over}
use Rattle.cases.specs.declared.table.Answer.{Answer}
use Rattle.cases.specs.declared.table.Answer.TheVariants.{Passes, Refused, Trips}
use Rattle.cases.specs.declared.table.Burst.{Burst}
use Rattle.cases.specs.declared.table.Case.{Case}
use Rattle.cases.specs.declared.table.Event.{Event}
use Rattle.cases.specs.declared.table.Event.TheVariants.{Entry, Fill}
use Rattle.cases.specs.declared.table.Moment.{Moment}
use Rattle.cases.specs.declared.table.Question.{Question}
use Rattle.cases.specs.declared.table.Question.TheVariants.{LimitPrice, PutAndCall, Windows}

-- an unmarked order of a member
abbrev pub order : (side price : ℕ) → RequestNumbers
order side price = record { role = 1; side = side; kind = 1; marks = 0; price = price }

-- class 1, the flag on, no venue bid
abbrev pub market : (phase nbb nbo offer close : ℕ) → ConditionNumbers
market phase nbb nbo offer close = record { class = 1; phase = phase; flag = 1; nbb = nbb; nbo = nbo; bid = 0; offer = offer; close = close }

abbrev pub put : (strike : ℕ) → ValueNumbers
put strike = record { option = 2; strike = strike; conditions = market 2 0 0 0 0; underlying = 0 }

-- ---- the cases of the windows

abbrev pub entry : (time : ℕ) → Moment
entry time = record { time = time; event = Entry }

abbrev pub fill : (contracts time : ℕ) → Moment
fill contracts time = record { time = time; event = Fill contracts }

-- so many events alike at one time
abbrev pub many : (times : ℕ) → Moment → Burst
many times m = record { times = times; moment = m }

-- an order of login 1 of firm 1 that was accepted
abbrev pub entered : Notice
entered = Entered (record { acronym = 1; role = 1; ticket = record { login = 1; number = 1; series = 1; side = 1; kind = 1; marks = 0; price = 100; contracts = 1 } })

-- a fill of that login
abbrev pub filled : (contracts : ℕ) → Notice
filled contracts = Filled 1 (record { login = 1; number = 1; side = 1; contracts = contracts; price = 100 })

abbrev pub notice_of : Event → Notice
notice_of Entry = entered
notice_of (Fill contracts) = filled contracts

-- a limit for firm 1
abbrev pub limit_for_firm : (kind limit interval : ℕ) → LimitNumbers
limit_for_firm kind limit interval = record { scope = Acronym 1; kind = kind; limit = limit; interval = interval }

-- the same notice again and again, before these
abbrev pub repeated : ℕ → Notice → List Notice → List Notice
repeated zero n ns = ns
repeated (suc k) n ns = n ∷ repeated k n ns

-- the notices of a burst, the newest first
abbrev pub told : Burst → List Notice → List Notice
told b ns = repeated b.times (notice_of b.moment.event) (Ticked b.moment.time ∷ ns)

-- the cause that firm 1 has at the newest notice
abbrev pub cause_at : List Notice → ℕ
cause_at [] = 0
cause_at (n ∷ ns) = (told_causes rates n (clock ns) (at new_firm (firms_after ns) (whose n))).acronym

-- a limit, two bursts and a last event
abbrev pub window_notices : LimitNumbers → (first second : Burst) → (last : Moment) → List Notice
window_notices limit first second last = notice_of last.event ∷ Ticked last.time ∷ told second (told first (Limited 1 limit ∷ []))

-- ---- the table

abbrev pub priced : (side price : ℕ) → ConditionNumbers → Answer → Case
priced side price conditions due = record { question = LimitPrice (order side price) conditions; due = due }

abbrev pub bought : (price : ℕ) → ValueNumbers → Answer → Case
bought price values due = record { question = PutAndCall (order 1 price) values; due = due }

abbrev pub windows : LimitNumbers → (first second : Burst) → (last : Moment) → Answer → Case
windows limit first second last due = record { question = Windows limit first second last; due = due }

abbrev pub cases : List Case
cases =
    -- open, a reference of 100: 25 cents
    priced 1 125 (market 2 90 100 0 0) Passes ∷ priced 1 126 (market 2 90 100 0 0) (Refused refusal.LimitPrice) ∷
    -- open, a sell against 95: 15 cents
    priced 2 80 (market 2 95 100 0 0) Passes ∷ priced 2 79 (market 2 95 100 0 0) (Refused refusal.LimitPrice) ∷
    -- bid and offer at 100 do not count: the venue's offer does
    priced 1 105 (market 2 100 100 90 0) Passes ∷ priced 1 106 (market 2 100 100 90 0) (Refused refusal.LimitPrice) ∷
    -- before the opening, a bid of 80 alone: a close of 80 counts, one of 79 does not
    priced 1 95 (market 1 80 0 0 80) Passes ∷ priced 1 96 (market 1 80 0 0 80) (Refused refusal.LimitPrice) ∷ priced 1 96 (market 1 80 0 0 79) Passes ∷
    -- a put of strike 5,000
    bought 4999 (put 5000) Passes ∷ bought 5000 (put 5000) (Refused refusal.PutAndCall) ∷
    -- 3 entries in 1,000 ms: the first counts until 999
    windows (limit_for_firm 1 3 1000) (many 1 (entry 0)) (many 1 (entry 500)) (entry 1000) Passes ∷
    windows (limit_for_firm 1 3 1000) (many 1 (entry 0)) (many 1 (entry 500)) (entry 999) (Trips 61) ∷
    -- 10 entries in a minute, and 1,000 contracts
    windows (limit_for_firm 1 10 60000) (many 3 (entry 0)) (many 9 (entry 90000)) (entry 120000) (Trips 61) ∷
    windows (limit_for_firm 2 1000 60000) (many 1 (fill 600 0)) (many 1 (fill 500 75000)) (fill 500 120000) (Trips 62) ∷ []

-- ---- the answers

abbrev pub answered : Result (Unit {0}) Refusal → Answer
answered (Ok u) = Passes
answered (Err x) = Refused x

-- by the cause that a firm has, 0 for none
abbrev pub of_cause : (cause : ℕ) → Answer
of_cause cause = cond (cause == 0) Passes (Trips cause)

-- the number that an answer is printed as: 0 where nothing is refused and nothing trips
abbrev pub answer_number : Answer → ℕ
answer_number Passes = 0
answer_number (Refused x) = number x
answer_number (Trips cause) = cause

-- what limit price answers, also where a field is refused
abbrev pub priced_answer : Option Judgement → Result (Unit {0}) Refusal
priced_answer None = Err Field
priced_answer (Some j) = j.verdict

-- what put and call answers, also where a field is refused
abbrev pub bought_answer : Option Request → Option Values → Result (Unit {0}) Refusal
bought_answer None v = Err Field
bought_answer (Some q) None = Err Field
bought_answer (Some q) (Some v) = put_and_call q v

abbrev pub answer_to : Question → Answer
answer_to (LimitPrice q c) = answered (priced_answer (judgement q c))
answer_to (PutAndCall q v) = answered (bought_answer (request q) (values v))
answer_to (Windows limit first second last) = of_cause (cause_at (window_notices limit first second last))

-- Every worked case is answered as is due.
abbrev pub AllAsDue : Type 0
AllAsDue = map (λ c. answer_to c.question) cases ≡ map (λ c. c.due) cases

-- what the definition of the windows over all the notices gives; to another question it gives what is due
abbrev pub defined_for : Question → (due : Answer) → Answer
defined_for (LimitPrice q c) due = due
defined_for (PutAndCall q v) due = due
defined_for (Windows limit first second last) due = of_cause (cause_over (of_firm 1) (window_notices limit first second last))

-- The windows' cases come out of the definition over all that was told, too.
abbrev pub AllAsDefined : Type 0
AllAsDefined = map (λ c. defined_for c.question c.due) cases ≡ map (λ c. c.due) cases
