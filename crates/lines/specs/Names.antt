-- The names of calls' fields, and the message of a fault. Assumes nothing.
use Rattle.std.specs.Prelude.{ℕ, ◌-◌, cond, List, [], ◌∷◌, ◌++◌, map, codes, decimal, ◌==◌, slice_index_or}
use Rattle.std.specs.Borrow.{Bor}
use Rattle.script.specs.declared.fields.Fault.{Fault}
use Rattle.script.specs.declared.fields.Fault.TheVariants as script
use Rattle.lines.specs.declared.faults.FieldFault.{FieldFault}
use Rattle.lines.specs.declared.faults.FieldFault.TheVariants.{Scope, Number}
use Rattle.lines.specs.declared.faults.CallFault.{CallFault}
use Rattle.lines.specs.declared.faults.CallFault.TheVariants.{Unknown, Field}
use Rattle.lines.specs.declared.faults.LineFault.{LineFault}
use Rattle.lines.specs.declared.verbs.Verb.{Verb}
use Rattle.lines.specs.declared.verbs.Verb.TheVariants.{Tick, Values, Open, Retire, Limit, Enter, Cancel, Strike, Take, Receipt, PutBack, Kill, Release}
use Rattle.lines.specs.Verbs.{word_of}

-- the numbers of a call, in their order
abbrev pub field_names : Verb → List (List ℕ)
field_names Tick = codes "TIME" ∷ []
field_names Values =
    codes "SERIES" ∷ codes "TYPE" ∷ codes "STRIKE" ∷ codes "CLASS" ∷ codes "PHASE" ∷ codes "FLAG" ∷ codes "NBB" ∷ codes "NBO" ∷ codes "BID" ∷ codes "OFFER" ∷ codes "CLOSE" ∷ codes "UNDERLYING" ∷ []
field_names Open = codes "LOGIN" ∷ codes "ACRONYM" ∷ codes "ROLE" ∷ codes "REACH" ∷ []
field_names Retire = codes "LOGIN" ∷ []
field_names Limit = codes "N" ∷ codes "KIND" ∷ codes "LIMIT" ∷ codes "INTERVAL" ∷ []
field_names Enter =
    codes "LOGIN" ∷ codes "NUMBER" ∷ codes "SERIES" ∷ codes "SIDE" ∷ codes "KIND" ∷ codes "MARKS" ∷ codes "PRICE" ∷ codes "CONTRACTS" ∷ []
field_names Cancel = codes "LOGIN" ∷ codes "NUMBER" ∷ []
field_names Strike = []
field_names Take = codes "LOGIN" ∷ []
field_names Receipt = codes "LOGIN" ∷ codes "NUMBER" ∷ codes "SIDE" ∷ codes "CONTRACTS" ∷ codes "PRICE" ∷ []
field_names PutBack = codes "LOGIN" ∷ codes "NUMBER" ∷ codes "SIDE" ∷ codes "CONTRACTS" ∷ codes "PRICE" ∷ []
field_names Kill = codes "N" ∷ codes "REACH" ∷ codes "BLOCK" ∷ []
field_names Release = codes "N" ∷ []

abbrev pub texts : List (Bor (List ℕ)) → List (List ℕ)
texts ts = map (λ t. t.now) ts

abbrev pub name_at : List (List ℕ) → ℕ → List ℕ
name_at names k = slice_index_or names k (codes "a field")

-- what stands before a call's number
abbrev pub name_before : Verb → ℕ → List ℕ
name_before v k = cond (k == 0) (word_of v) (name_at (field_names v) (k - 1))

-- ---- messages

abbrev pub number_message : Verb → Fault → List ℕ
number_message v (script.Missing k) = codes "expected " ++ (name_at (field_names v) k ++ codes ", and the line ends")
number_message v (script.NotNumber k) = codes "expected " ++ (name_at (field_names v) k ++ codes ", a number")
number_message v (script.Extra k) = codes "expected the end of the line after " ++ name_before v k

abbrev pub field_message : FieldFault → List ℕ
field_message (Scope v) = codes "expected login or acronym after " ++ word_of v
field_message (Number v f) = number_message v f

abbrev pub message : CallFault → List ℕ
message Unknown = codes "expected a call: tick, values, open, retire, limit, enter, cancel, strike, take, receipt, putback, kill or release"
message (Field f) = field_message f

abbrev pub line_message : LineFault → List ℕ
line_message f = codes "line " ++ (decimal f.line ++ (codes ": " ++ message f.fault))
