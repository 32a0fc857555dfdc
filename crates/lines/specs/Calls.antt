-- The call that the words of a line make. Assumes nothing.
use Rattle.std.specs.Prelude.{ℕ, cond, List, [], ◌∷◌, ◌++◌, drop, Some, None, Ok, Err, Option, Result, ◌==◌, slice_index}
use Rattle.script.specs.Numbers.{numbers_in}
use Rattle.script.specs.declared.fields.Fault as script
use Rattle.terms.specs.declared.messages.Fill.{Fill}
use Rattle.terms.specs.declared.messages.LimitNumbers.{LimitNumbers}
use Rattle.terms.specs.declared.messages.Ticket.{Ticket}
use Rattle.terms.specs.declared.values.ValueNumbers.{ValueNumbers}
use Rattle.terms.specs.declared.events.Call.{Call}
use Rattle.terms.specs.declared.events.Call.TheVariants as call
use Rattle.lines.specs.declared.faults.FieldFault.{FieldFault}
use Rattle.lines.specs.declared.faults.FieldFault.TheVariants.{Scope, Number}
use Rattle.lines.specs.declared.faults.CallFault.{CallFault}
use Rattle.lines.specs.declared.faults.CallFault.TheVariants.{Unknown, Field}
use Rattle.lines.specs.declared.faults.LineFault.{LineFault}
use Rattle.lines.specs.declared.verbs.Verb.{Verb}
use Rattle.lines.specs.declared.verbs.Verb.TheVariants.{Tick, Values, Open, Retire, Limit, Enter, Cancel, Strike, Take, Receipt, PutBack, Kill, Release}
use Rattle.lines.specs.declared.verbs.ScopeWord.{ScopeWord}
use Rattle.lines.specs.Verbs.{verb_of, scope_of, scoped}

-- ---- records from the numbers of a line, in their order

abbrev pub field : List ℕ → ℕ → ℕ
field ns i = slice_index ns i

-- SERIES stands first
abbrev pub values_in : List ℕ → ValueNumbers
values_in ns =
    record {
      option = field ns 1;
      strike = field ns 2;
      conditions = record {
        class = field ns 3;
        phase = field ns 4;
        flag = field ns 5;
        nbb = field ns 6;
        nbo = field ns 7;
        bid = field ns 8;
        offer = field ns 9;
        close = field ns 10;
      };
      underlying = field ns 11;
    }

abbrev pub ticket_in : List ℕ → Ticket
ticket_in ns =
    record {
      login = field ns 0;
      number = field ns 1;
      series = field ns 2;
      side = field ns 3;
      kind = field ns 4;
      marks = field ns 5;
      price = field ns 6;
      contracts = field ns 7;
    }

abbrev pub fill_in : List ℕ → Fill
fill_in ns =
    record { login = field ns 0; number = field ns 1; side = field ns 2; contracts = field ns 3; price = field ns 4 }

abbrev pub limit_in : ScopeWord → List ℕ → LimitNumbers
limit_in s ns = record { scope = scoped s (field ns 0); kind = field ns 1; limit = field ns 2; interval = field ns 3 }

-- ---- the numbers of a call

-- a fault of the numbers is one of that call's
abbrev pub in_call : {X : Type 0} → Verb → Result X script.Fault → Result X FieldFault
in_call v (Ok x) = Ok x
in_call v (Err f) = Err (Number v f)

-- three numbers are a limit of kind 4 whose interval is left out, and is 0; any others stand as they are
abbrev pub spared : (three whole : Result (List ℕ) script.Fault) → Result (List ℕ) script.Fault
spared (Ok ns) whole = cond (field ns 1 == 4) (Ok (ns ++ (0 ∷ []))) whole
spared (Err f) whole = whole

abbrev pub limit_numbers : List (List ℕ) → Result (List ℕ) script.Fault
limit_numbers ws = spared (numbers_in 3 0 ws) (numbers_in 4 0 ws)

-- ---- calls

abbrev pub applied : {X Y E : Type 0} → (X → Y) → Result X E → Result Y E
applied f (Ok x) = Ok (f x)
applied f (Err e) = Err e

-- so many numbers after the word of a call
abbrev pub plainly : Verb → (count : ℕ) → (List ℕ → Call) → List (List ℕ) → Result Call FieldFault
plainly v count f ws = applied f (in_call v (numbers_in count 0 ws))

-- the scope that the first word names
abbrev pub scope_first : List (List ℕ) → Option ScopeWord
scope_first [] = None
scope_first (w ∷ ws) = scope_of w

abbrev pub or_scope : Verb → Option ScopeWord → Result ScopeWord FieldFault
or_scope v None = Err (Scope v)
or_scope v (Some s) = Ok s

-- numbers after the word of a scope
abbrev pub for_scope : (ScopeWord → Result Call FieldFault) → Result ScopeWord FieldFault → Result Call FieldFault
for_scope f (Ok s) = f s
for_scope f (Err e) = Err e

abbrev pub with_scope : Verb → (ScopeWord → Result Call FieldFault) → List (List ℕ) → Result Call FieldFault
with_scope v f ws = for_scope f (or_scope v (scope_first ws))

-- the call of each word, from the words that follow it
abbrev pub call_in : Verb → List (List ℕ) → Result Call FieldFault
call_in Tick ws = plainly Tick 1 (λ ns. call.Tick (field ns 0)) ws
call_in Values ws = plainly Values 12 (λ ns. call.Values (field ns 0) (values_in ns)) ws
call_in Open ws = plainly Open 4 (λ ns. call.Open (field ns 0) (field ns 1) (field ns 2) (field ns 3)) ws
call_in Retire ws = plainly Retire 1 (λ ns. call.Retire (field ns 0)) ws
call_in Limit ws =
    with_scope Limit (λ s. applied (λ ns. call.Limit (limit_in s ns)) (in_call Limit (limit_numbers (drop 1 ws)))) ws
call_in Enter ws = plainly Enter 8 (λ ns. call.Enter (ticket_in ns)) ws
call_in Cancel ws = plainly Cancel 2 (λ ns. call.Cancel (field ns 0) (field ns 1)) ws
call_in Strike ws = plainly Strike 0 (λ ns. call.Strike) ws
call_in Take ws = plainly Take 1 (λ ns. call.Take (field ns 0)) ws
call_in Receipt ws = plainly Receipt 5 (λ ns. call.Receipt (fill_in ns)) ws
call_in PutBack ws = plainly PutBack 5 (λ ns. call.PutBack (fill_in ns)) ws
call_in Kill ws =
    with_scope Kill (λ s. plainly Kill 3 (λ ns. call.Kill (scoped s (field ns 0)) (field ns 1) (field ns 2)) (drop 1 ws)) ws
call_in Release ws = with_scope Release (λ s. plainly Release 1 (λ ns. call.Release (scoped s (field ns 0))) (drop 1 ws)) ws

-- ---- lines

abbrev pub in_line : Result Call FieldFault → Result (Option Call) CallFault
in_line (Ok c) = Ok (Some c)
in_line (Err f) = Err (Field f)

abbrev pub begun : Option Verb → List (List ℕ) → Result (Option Call) CallFault
begun None ws = Err Unknown
begun (Some v) ws = in_line (call_in v ws)

-- a line with no word asks for nothing; else its first word says which call it is
abbrev pub line_in : List (List ℕ) → Result (Option Call) CallFault
line_in [] = Ok None
line_in (w ∷ ws) = begun (verb_of w) ws

-- a fault names its line
abbrev pub at_line : {X : Type 0} → (line : ℕ) → Result X CallFault → Result X LineFault
at_line line (Ok x) = Ok x
at_line line (Err f) = Err (record { line = line; fault = f })
