-- Days worked out from the definitions, over a small check: every call, every refusal, trips of a login, of an acronym and of both at once,
-- and places where a wrong reading of the rules would give another answer. Assumes nothing.
use Rattle.std.specs.Prelude.{◌≡◌, ℕ, ◌+◌, true, false, cond, List, [], ◌∷◌, replicate, Some, None, Ok, Err, nat_le, nat_lt}
use Rattle.terms.specs.declared.refusal.Refusal.{Refusal}
use Rattle.terms.specs.declared.refusal.Refusal.TheVariants.{Field, NotOpen, Taken, Leaving, ClockBack, NoOrder, NoSlip, SlipOut, WrongSlip, NoValues, Held, InUse, Allotment, SlipsFull}
use Rattle.terms.specs.declared.values.ValueNumbers.{ValueNumbers}
use Rattle.terms.specs.declared.messages.ScopeNumber.{ScopeNumber}
use Rattle.terms.specs.declared.messages.ScopeNumber.TheVariants.{Login, Acronym}
use Rattle.terms.specs.declared.messages.LimitNumbers.{LimitNumbers}
use Rattle.terms.specs.declared.messages.Ticket.{Ticket}
use Rattle.terms.specs.declared.messages.Fill.{Fill}
use Rattle.terms.specs.declared.messages.Causes.{Causes}
use Rattle.terms.specs.declared.messages.Notice.{Notice}
use Rattle.terms.specs.declared.messages.Notice.TheVariants.{Ticked, Valued, Opened, Closed, Limited, Released, Entered, TurnedDown, Filled}
use Rattle.terms.specs.declared.events.Effect.{Effect}
use Rattle.terms.specs.declared.events.EnterAnswer.{EnterAnswer}
use Rattle.terms.specs.declared.events.EnterAnswer.TheVariants as answer
use Rattle.terms.specs.declared.events.Struck.{Struck}
use Rattle.terms.specs.declared.events.Event.{Event}
use Rattle.terms.specs.declared.events.Event.TheVariants as event
use Rattle.market.specs.Book.{with_resting}
use Rattle.checks.specs.Meaning.{Meaning, no_cause}
use Rattle.history.specs.State.{State, row, private_of, is_free, is_leaving, with_book}
use Rattle.history.specs.Trips.{no_effect}
use Rattle.history.specs.Acts.{Tick, Values, Open, Retire, Limit, Enter, Cancel, Take, Receipt, PutBack, Kill, Release, Answer, plain, amount, entered, taken}
use Rattle.history.specs.Calls.{reply}
use Rattle.history.specs.Step.{Happens, reached}
use Rattle.history.specs.Part.{own_call, own_side, part_of}
use Rattle.history.specs.Tally.{accepted_contracts, receipted_contracts, cancelled_contracts, waiting_contracts, resting_contracts}
use Rattle.history.specs.Held.{held_in}

-- ---- a small check

-- its private record counts the entries of 2 contracts and more, until a release
abbrev pub counted : Notice → ℕ → ℕ
counted (Ticked t) n = n
counted (Valued i v) n = n
counted (Opened a l r c) n = n
counted (Closed a l) n = n
counted (Limited a x) n = n
counted (Released a s) n = 0
counted (Entered k) n = n + cond (nat_le 2 k.ticket.contracts) 1 0
counted (TurnedDown k d) n = n
counted (Filled a f) n = n

-- the third entry trips its login with 61; a fill of 50 contracts trips login and acronym with 62; a turn-down above 950 cents the acronym with 63
abbrev pub tripped : Notice → ℕ → Causes
tripped (Ticked t) n = record { login = 0; acronym = 0 }
tripped (Valued i v) n = record { login = 0; acronym = 0 }
tripped (Opened a l r c) n = record { login = 0; acronym = 0 }
tripped (Closed a l) n = record { login = 0; acronym = 0 }
tripped (Limited a x) n = record { login = 0; acronym = 0 }
tripped (Released a s) n = record { login = 0; acronym = 0 }
tripped (Entered k) n = record { login = cond (nat_le 2 n) 61 0; acronym = 0 }
tripped (TurnedDown k d) n = record { login = 0; acronym = cond (nat_lt 950 k.ticket.price) 63 0 }
tripped (Filled a f) n = record { login = cond (nat_le 50 f.contracts) 62 0; acronym = cond (nat_le 50 f.contracts) 62 0 }

-- it turns down what is priced above 900 cents
abbrev pub small : Meaning
small = record {
  Pub = Unit {0};
  Priv = ℕ;
  renewed = λ p. p;
  fresh = λ p. 0;
  judged = λ k p q. cond (nat_lt 900 k.ticket.price) 43 0;
  public_after = λ n p. p;
  private_after = λ n p q. counted n q;
  causes = λ n p q. tripped n q;
}

-- ---- how a day is written: the oldest event first

abbrev pub newest_first : List Event → List Event → List Event
newest_first before [] = before
newest_first before (e ∷ es) = newest_first (e ∷ before) es

abbrev pub some_values : ValueNumbers
some_values = record {
  option = 1;
  strike = 5000;
  conditions = record { class = 1; phase = 2; flag = 1; nbb = 90; nbo = 110; bid = 0; offer = 0; close = 0 };
  underlying = 0;
}

abbrev pub limit_of : ScopeNumber → (kind limit interval : ℕ) → LimitNumbers
limit_of scope kind limit interval = record { scope = scope; kind = kind; limit = limit; interval = interval }

-- an order or a quote in series 1
abbrev pub ticket : (login number side kind price contracts : ℕ) → Ticket
ticket login number side kind price contracts =
    record { login = login; number = number; series = 1; side = side; kind = kind; marks = 0; price = price; contracts = contracts }

abbrev pub order : (login number side price contracts : ℕ) → Ticket
order login number side price contracts = ticket login number side 1 price contracts

abbrev pub effect : (login acronym cancelled : ℕ) → Effect
effect login acronym cancelled = record { causes = record { login = login; acronym = acronym }; cancelled = cancelled }

-- the answers to an entry: it rests, a check turns it down with a number, or it is refused, where it is held with the causes of the holds
abbrev pub rests : (login acronym cancelled : ℕ) → EnterAnswer
rests login acronym cancelled = answer.Accepted (effect login acronym cancelled)

abbrev pub turned_down : (number login acronym cancelled : ℕ) → EnterAnswer
turned_down number login acronym cancelled = answer.TurnedDown number (effect login acronym cancelled)

abbrev pub refused : Refusal → EnterAnswer
refused x = answer.Refused x no_cause

abbrev pub held : (login acronym : ℕ) → EnterAnswer
held login acronym = answer.Refused Held (record { login = login; acronym = acronym })

abbrev pub fill : (login number side contracts price : ℕ) → Fill
fill login number side contracts price = record { login = login; number = number; side = side; contracts = contracts; price = price }

abbrev pub struck : (buyer bought seller sold contracts price : ℕ) → (buy sell : Effect) → Struck
struck buyer bought seller sold contracts price buy sell =
    record {
      trade = record {
        buyer = record { login = buyer; number = bought };
        seller = record
            { login = seller; number = sold };
        contracts = contracts;
        price = price;
      };
      buy = buy;
      sell = sell;
    }

-- ---- a first day: two firms trade, one leaves and a third takes its login; the other is held, killed and released

-- what login 2 sold
abbrev pub sold : Fill
sold = fill 2 7 2 4 95

abbrev pub morning : List Event
morning =
    event.Tick 1000 (Ok tt)
    ∷ event.Values 1 some_values (Ok tt)
    ∷ event.Open 1 1 1 3 (Ok tt)
    ∷ event.Open 2 2 1 2 (Ok tt)
    ∷ event.Limit (limit_of (Login 1) 4 50 0) (Ok tt)
    ∷ event.Enter (order 1 1 1 100 10) (rests 0 0 0)
    ∷ event.Strike (Ok None)
    ∷ event.Enter (order 2 7 2 90 6) (rests 0 0 0)
    -- a trade, whose slip is taken, put back and taken again
    ∷ event.Strike (Ok (Some (struck 1 1 2 7 4 95 no_effect no_effect)))
    ∷ event.Take 2 (Ok sold)
    ∷ event.PutBack sold (Ok tt)
    ∷ event.Take 2 (Ok sold)
    -- the login retires with its slip out: it is leaving, and free once the slip is receipted
    ∷ event.Retire 2 (Ok 2)
    ∷ event.Open 2 3 1 3 (Err Leaving)
    ∷ event.Take 2 (Err SlipOut)
    ∷ event.Receipt sold (Ok tt)
    ∷ []

abbrev pub noon : List Event
noon =
    -- a new firm finds no slip on the freed login
    event.Open 2 3 1 3 (Ok tt)
    ∷ event.Take 2 (Err NoSlip)
    -- the third entry of firm 1 rests, trips its login and is swept with the rest; a turn-down does not count
    ∷ event.Enter (order 1 2 1 80 3) (rests 0 0 0)
    ∷ event.Enter (order 1 3 1 901 5) (turned_down 43 0 0 0)
    ∷ event.Enter (order 1 3 1 100 5) (rests 61 0 14)
    ∷ event.Enter (order 1 4 1 100 5) (held 61 0)
    -- a kill with block holds the firm, and its own release lifts that hold
    ∷ event.Kill (Acronym 1) 3 1 (Ok 0)
    ∷ event.Release (Login 1) (Ok tt)
    ∷ event.Enter (order 1 4 1 100 5) (held 0 60)
    ∷ event.Release (Acronym 1) (Ok tt)
    ∷ event.Enter (order 1 4 1 100 5) (rests 0 0 0)
    ∷ event.Cancel 1 4 (Ok 5)
    ∷ event.Enter (order 1 5 1 100 7) (rests 0 0 0)
    ∷ []

abbrev pub first_half : List Event
first_half = newest_first [] morning

abbrev pub first_day : List Event
first_day = newest_first first_half noon

abbrev pub evening : State small
evening = reached small tt 64 first_day

pub record FirstDay : Type 0 where
  pub happens : Happens small tt 64 first_day
  -- of firm 1: 30 contracts accepted, of which 4 wait on a slip, 7 rest, 14 were swept with its third entry and 5 cancelled
  pub accepted : accepted_contracts small tt 64 1 first_day ≡ 30
  pub receipted : receipted_contracts small tt 64 1 first_day ≡ 0
  pub waiting : waiting_contracts 1 evening ≡ 4
  pub resting : resting_contracts 1 evening ≡ 7
  pub cancelled : cancelled_contracts small tt 64 1 first_day ≡ 19
  -- of firm 2, which left: 6 accepted, 4 receipted, 2 cancelled
  pub accepted_2 : accepted_contracts small tt 64 2 first_day ≡ 6
  pub receipted_2 : receipted_contracts small tt 64 2 first_day ≡ 4
  pub cancelled_2 : cancelled_contracts small tt 64 2 first_day ≡ 2
  -- firm 3's part, the newest first: its open that was refused is not in it
  pub part_3 : part_of small tt 64 3 first_day ≡ own_call (Take 2) ∷ own_call (Open 2 3 1 3) ∷ own_call (Values 1 some_values) ∷ own_call (Tick 1000) ∷ []
  -- firm 2's: the side of the trade that it sold, and nothing of the buyer
  pub part_2 :
      part_of small tt 64 2 first_half
      ≡ own_call (Receipt sold) ∷ own_call (Take 2) ∷ own_call (Retire 2) ∷ own_call (Take 2) ∷ own_call (PutBack sold) ∷ own_call
      (Take 2) ∷ own_side sold ∷ own_call (Enter (order 2 7 2 90 6)) ∷ own_call (Open 2 2 1 2) ∷ own_call (Values 1 some_values) ∷ own_call
      (Tick 1000) ∷ []
  -- the receipt freed the login
  pub freed : is_free (row (reached small tt 64 first_half) 2) ≡ true
  -- nothing is held at the end
  pub released : held_in first_day (Acronym 1) ≡ false

-- ---- a second day: a trade within one firm trips login and firm at once; a turn-down trips another firm

abbrev pub trip_day : List Event
trip_day =
    newest_first []
    (event.Values 1 some_values (Ok tt)
    ∷ event.Open 1 1 1 3 (Ok tt)
    -- of login 2 a trip sweeps quotes only
    ∷ event.Open 2 1 1 1 (Ok tt)
    ∷ event.Open 3 2 2 3 (Ok tt)
    ∷ event.Enter (order 1 1 2 100 70) (rests 0 0 0)
    ∷ event.Enter (order 2 1 1 100 80) (rests 0 0 0)
    ∷ event.Enter (ticket 3 9 1 2 50 5) (rests 0 0 0)
    -- the buyer is told first: its trip sweeps the 10 contracts left of the seller's order, and not its own order, which is out of reach
    ∷ event.Strike (Ok (Some (struck 2 1 1 1 60 100 (effect 62 62 10) (effect 62 62 0))))
    ∷ event.Enter (order 2 2 1 100 5) (held 62 62)
    -- a kill goes by its own reach
    ∷ event.Kill (Login 2) 2 0 (Ok 20)
    ∷ event.Enter (order 3 10 2 960 5) (turned_down 43 0 63 5)
    ∷ event.Enter (order 3 11 2 100 5) (held 0 63)
    ∷ [])

pub record TripDay : Type 0 where
  pub happens : Happens small tt 64 trip_day
  pub waiting : waiting_contracts 1 (reached small tt 64 trip_day) ≡ 120
  pub cancelled : cancelled_contracts small tt 64 1 trip_day ≡ 30
  pub held_login : held_in trip_day (Login 1) ≡ true
  pub held_firm : held_in trip_day (Acronym 1) ≡ true
  pub held_other : held_in trip_day (Acronym 2) ≡ true
  pub not_held : held_in trip_day (Login 3) ≡ false

-- ---- a third: with room for one slip nothing is struck

abbrev pub full_day : List Event
full_day =
    newest_first []
    (event.Values 1 some_values (Ok tt)
    ∷ event.Open 1 1 1 3 (Ok tt)
    ∷ event.Open 2 2 1 3 (Ok tt)
    ∷ event.Enter (order 1 1 1 100 1) (rests 0 0 0)
    ∷ event.Strike (Ok None)
    ∷ event.Enter (order 2 1 2 100 1) (rests 0 0 0)
    ∷ event.Strike (Err SlipsFull)
    ∷ [])

-- ---- refusals in the evening of the first day: logins 1 and 2 are open, login 1 rests its entry 5 and has a slip waiting

abbrev pub no : Refusal → Answer
no x = plain (Err x)

abbrev pub no_contracts : Refusal → Answer
no_contracts x = amount (Err x)

-- a market where a login rests 16 entries
abbrev pub crowded : State small
crowded =
    with_book (with_resting evening.book
    (replicate 16 (record { login = 1; number = 100; side = 1; kind = 1; price = 10; contracts = 1 } ∷ []))) evening

-- the first day went on, with login 1's slip taken
abbrev pub slip_taken : State small
slip_taken = reached small tt 64 (event.Take 1 (Ok (fill 1 1 1 4 95)) ∷ first_day)

pub record Refused : Type 0 where
  pub tick_1 : reply evening (Tick 4294967296) ≡ no Field
  pub tick_14 : reply evening (Tick 999) ≡ no ClockBack
  pub tick_same : reply evening (Tick 1000) ≡ plain (Ok tt)
  pub values_1 : reply evening (Values 17 some_values) ≡ no Field
  pub open_1 : reply evening (Open 1 9 1 3) ≡ no Field
  pub open_12 : reply evening (Open 1 2 1 3) ≡ no Taken
  pub retire_1 : reply evening (Retire 25) ≡ no_contracts Field
  pub retire_11 : reply evening (Retire 3) ≡ no_contracts NotOpen
  pub limit_1 : reply evening (Limit (limit_of (Login 1) 1 5 0)) ≡ no Field
  pub limit_11 : reply evening (Limit (limit_of (Login 3) 1 5 1000)) ≡ no NotOpen
  -- the size of an entry reads no interval, and an acronym needs no open login
  pub limit_size : reply evening (Limit (limit_of (Acronym 8) 4 5 0)) ≡ plain (Ok tt)
  pub enter_1 : reply evening (Enter (order 3 1 3 100 1)) ≡ entered (refused Field)
  pub enter_11 : reply evening (Enter (order 3 1 1 100 1)) ≡ entered (refused NotOpen)
  pub enter_19 :
      reply evening (Enter (record { login = 1; number = 1; series = 2; side = 1; kind = 1; marks = 0; price = 100; contracts = 1 }))
      ≡ entered (refused NoValues)
  pub enter_31 : reply evening (Enter (order 1 5 1 100 1)) ≡ entered (refused InUse)
  pub enter_32 : reply crowded (Enter (order 1 5 1 100 1)) ≡ entered (refused Allotment)
  -- the checks go before the market: 43 for a number that is in use
  pub enter_43 : reply evening (Enter (order 1 5 1 901 1)) ≡ entered (turned_down 43 0 0 0)
  pub cancel_1 : reply evening (Cancel 1 0) ≡ no_contracts Field
  pub cancel_11 : reply evening (Cancel 3 1) ≡ no_contracts NotOpen
  pub cancel_15 : reply evening (Cancel 1 6) ≡ no_contracts NoOrder
  pub take_1 : reply evening (Take 0) ≡ taken (Err Field)
  pub take_11 : reply evening (Take 3) ≡ taken (Err NotOpen)
  pub take_16 : reply evening (Take 2) ≡ taken (Err NoSlip)
  pub take_17 : reply slip_taken (Take 1) ≡ taken (Err SlipOut)
  pub receipt_1 : reply slip_taken (Receipt (fill 1 1 3 4 95)) ≡ no Field
  pub receipt_11 : reply slip_taken (Receipt (fill 3 1 1 4 95)) ≡ no NotOpen
  -- the slip was not taken; the one that was has another price
  pub receipt_18_in : reply evening (Receipt (fill 1 1 1 4 95)) ≡ no WrongSlip
  pub receipt_18_other : reply slip_taken (Receipt (fill 1 1 1 4 96)) ≡ no WrongSlip
  pub receipt_0 : reply slip_taken (Receipt (fill 1 1 1 4 95)) ≡ plain (Ok tt)
  pub put_back_18 : reply evening (PutBack (fill 1 1 1 4 95)) ≡ no WrongSlip
  pub kill_1 : reply evening (Kill (Acronym 1) 3 2) ≡ no_contracts Field
  pub kill_11 : reply evening (Kill (Login 3) 3 1) ≡ no_contracts NotOpen
  pub kill_nobody : reply evening (Kill (Acronym 8) 3 1) ≡ amount (Ok 0)
  pub release_1 : reply evening (Release (Acronym 0)) ≡ no Field
  pub release_11 : reply evening (Release (Login 3)) ≡ no NotOpen
  pub release_free : reply evening (Release (Acronym 8)) ≡ plain (Ok tt)

-- ---- where a wrong reading would show

pub record ToldApart : Type 0 where
  -- a login that retires with a slip waiting is not free, and no new firm gets its slip
  pub leaving : is_leaving (row (reached small tt 64 (event.Retire 1 (Ok 7) ∷ first_day)) 1) ≡ true
  -- an entry answered 21 is not told to the checks: firm 1 sent three entries, and two were counted
  pub untold : private_of (reached small tt 64 trip_day) 1 ≡ 2
  -- a hold keeps its first cause: the kill's 60 does not take the place of 62
  pub first_cause_stays : (row (reached small tt 64 (event.Kill (Login 1) 3 1 (Ok 0) ∷ trip_day)) 1).hold ≡ 62
