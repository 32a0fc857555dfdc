-- A call as it is written, and what is promised of a line that is read. Assumes nothing.
use Rattle.std.specs.Prelude.{◌≡◌, ℕ, ◌⊎◌, List, [], ◌∷◌, ◌++◌, map, length, Some, None, Ok, Err, decimal, Option, Result, ◌≢◌}
use Rattle.script.specs.Numbers.{number_of as read_as, Fit, Told}
use Rattle.terms.specs.declared.messages.Fill.{Fill}
use Rattle.terms.specs.declared.messages.LimitNumbers.{LimitNumbers}
use Rattle.terms.specs.declared.messages.ScopeNumber.{ScopeNumber}
use Rattle.terms.specs.declared.messages.ScopeNumber.TheVariants.{Login, Acronym}
use Rattle.terms.specs.declared.messages.Ticket.{Ticket}
use Rattle.terms.specs.declared.values.ValueNumbers.{ValueNumbers}
use Rattle.terms.specs.declared.events.Call.{Call}
use Rattle.terms.specs.declared.events.Call.TheVariants.{Tick, Values, Open, Retire, Limit, Enter, Cancel, Strike, Take, Receipt, PutBack, Kill, Release}
use Rattle.lines.specs.declared.faults.CallFault.{CallFault}
use Rattle.lines.specs.declared.faults.CallFault.TheVariants.{Unknown, Field}
use Rattle.lines.specs.declared.faults.FieldFault.TheVariants.{Scope, Number}
use Rattle.lines.specs.declared.verbs.ScopeWord.{ScopeWord}
use Rattle.lines.specs.declared.verbs.ScopeWord.TheVariants as scope
use Rattle.lines.specs.declared.verbs.Verb.{Verb}
use Rattle.lines.specs.declared.verbs.Verb.TheVariants as verb
use Rattle.lines.specs.Verbs.{word_of, scope_word}
use Rattle.lines.specs.Names.{field_names}

abbrev pub name_of : ScopeNumber → List ℕ
name_of (Login n) = scope_word scope.Login
name_of (Acronym n) = scope_word scope.Acronym

abbrev pub number_of : ScopeNumber → ℕ
number_of (Login n) = n
number_of (Acronym n) = n

-- what stands before the numbers of a call
abbrev pub heading : Call → List (List ℕ)
heading (Tick t) = word_of verb.Tick ∷ []
heading (Values n v) = word_of verb.Values ∷ []
heading (Open l a role reach) = word_of verb.Open ∷ []
heading (Retire l) = word_of verb.Retire ∷ []
heading (Limit x) = word_of verb.Limit ∷ name_of x.scope ∷ []
heading (Enter t) = word_of verb.Enter ∷ []
heading (Cancel l n) = word_of verb.Cancel ∷ []
heading Strike = word_of verb.Strike ∷ []
heading (Take l) = word_of verb.Take ∷ []
heading (Receipt f) = word_of verb.Receipt ∷ []
heading (PutBack f) = word_of verb.PutBack ∷ []
heading (Kill s reach block) = word_of verb.Kill ∷ name_of s ∷ []
heading (Release s) = word_of verb.Release ∷ name_of s ∷ []

abbrev pub value_numbers : ValueNumbers → List ℕ
value_numbers v =
    v.option ∷ v.strike ∷ v.conditions.class ∷ v.conditions.phase ∷ v.conditions.flag ∷ v.conditions.nbb ∷ v.conditions.nbo ∷ v.conditions.bid ∷ v.conditions.offer ∷ v.conditions.close ∷ v.underlying ∷ []

abbrev pub ticket_numbers : Ticket → List ℕ
ticket_numbers t =
    t.login ∷ t.number ∷ t.series ∷ t.side ∷ t.kind ∷ t.marks ∷ t.price ∷ t.contracts ∷ []

abbrev pub fill_numbers : Fill → List ℕ
fill_numbers f = f.login ∷ f.number ∷ f.side ∷ f.contracts ∷ f.price ∷ []

abbrev pub numbers_of : Call → List ℕ
numbers_of (Tick t) = t ∷ []
numbers_of (Values n v) = n ∷ value_numbers v
numbers_of (Open l a role reach) = l ∷ a ∷ role ∷ reach ∷ []
numbers_of (Retire l) = l ∷ []
numbers_of (Limit x) = number_of x.scope ∷ x.kind ∷ x.limit ∷ x.interval ∷ []
numbers_of (Enter t) = ticket_numbers t
numbers_of (Cancel l n) = l ∷ n ∷ []
numbers_of Strike = []
numbers_of (Take l) = l ∷ []
numbers_of (Receipt f) = fill_numbers f
numbers_of (PutBack f) = fill_numbers f
numbers_of (Kill s reach block) = number_of s ∷ reach ∷ block ∷ []
numbers_of (Release s) = number_of s ∷ []

-- a call is written as its words and then its numbers in decimal
abbrev pub spelt : Call → List (List ℕ)
spelt c = heading c ++ map decimal (numbers_of c)

-- ---- words with single spaces

abbrev pub trailed : List (List ℕ) → List ℕ
trailed [] = []
trailed (w ∷ ws) = 32 ∷ (w ++ trailed ws)

abbrev pub spaced : List (List ℕ) → List ℕ
spaced [] = []
spaced (w ∷ ws) = w ++ trailed ws

-- ---- the law of reading

-- A call that is written with single spaces is read back, each number exact.
abbrev pub ReadsBack : (line : List ℕ) → Result (Option Call) CallFault → Type 0
ReadsBack line r = (c : Call) → Fit (numbers_of c) → line ≡ spaced (spelt c) → r ≡ Ok (Some c)

-- the words are the numbers of a call; the interval of a limit of kind 4 may be left out, and is then 0
abbrev pub Writes : List (List ℕ) → Call → Type 0
Writes ws c =
    (map read_as ws ≡ map Some (numbers_of c))
    ⊎ ((x : LimitNumbers) × (c ≡ Limit x) × (x.kind ≡ 4) × (x.interval ≡ 0) × (map read_as ws ≡ map Some (number_of x.scope ∷ x.kind ∷ x.limit ∷ [])))

-- how many words of a scope stand before a call's numbers
abbrev pub scopes : Verb → ℕ
scopes verb.Tick = 0
scopes verb.Values = 0
scopes verb.Open = 0
scopes verb.Retire = 0
scopes verb.Limit = 1
scopes verb.Enter = 0
scopes verb.Cancel = 0
scopes verb.Strike = 0
scopes verb.Take = 0
scopes verb.Receipt = 0
scopes verb.PutBack = 0
scopes verb.Kill = 1
scopes verb.Release = 1

-- A call is read where its words stand, each number as its word writes it. A fault names what is wrong first: a first word that is no call's, a word that is no scope's, or the first number that is missing,
-- is no number, or is one too many.
abbrev pub LineTold : List (List ℕ) → Result (Option Call) CallFault → Type 0
LineTold ws (Ok None) = ws ≡ []
LineTold ws (Ok (Some c)) = (vs : List (List ℕ)) × (ws ≡ heading c ++ vs) × Writes vs c
LineTold ws (Err Unknown) = (w : List ℕ) × (vs : List (List ℕ)) × (ws ≡ w ∷ vs) × ((v : Verb) → w ≢ word_of v)
LineTold ws (Err (Field (Scope v))) =
    (vs : List (List ℕ)) × (ws ≡ word_of v ∷ vs) × ((s : ScopeWord) (us : List (List ℕ)) → vs ≢ scope_word s ∷ us)
LineTold ws (Err (Field (Number v f))) =
    (hs : List (List ℕ)) × (vs : List (List ℕ)) × (ws ≡ word_of v ∷ (hs ++ vs)) × (length hs ≡ scopes v) × Told (length (field_names v)) vs (Err f)
