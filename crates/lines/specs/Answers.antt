-- An answer as it is printed. Assumes nothing.
use Rattle.std.specs.Prelude.{ℕ, List, [], ◌∷◌, ◌++◌, Some, None, Ok, Err, codes, decimal, Option, Result}
use Rattle.terms.specs.declared.refusal.Refusal.{Refusal}
use Rattle.terms.specs.declared.messages.Fill.{Fill}
use Rattle.terms.specs.declared.events.Effect.{Effect}
use Rattle.terms.specs.declared.events.Struck.{Struck}
use Rattle.terms.specs.declared.events.Trade.{Trade}
use Rattle.terms.specs.declared.events.Event.{Event}
use Rattle.terms.specs.declared.events.Event.TheVariants as event
use Rattle.terms.specs.Entered.{entered_number, entered_effect}
use Rattle.terms.specs.Refusals.{word, refusal_of, refusal_text}
use Rattle.lines.specs.declared.answers.Answer.{Answer}
use Rattle.lines.specs.declared.answers.Answer.TheVariants.{Done, Cancelled, Entered, NoTrade, Traded, Slip, Refused}
use Rattle.lines.specs.Spelling.{spaced}

-- ---- which answer

abbrev pub plainly : Result (Unit {0}) Refusal → Answer
plainly (Ok u) = Done
plainly (Err e) = Refused e

abbrev pub amounting : Result ℕ Refusal → Answer
amounting (Ok n) = Cancelled n
amounting (Err e) = Refused e

abbrev pub striking : Result (Option Struck) Refusal → Answer
striking (Ok None) = NoTrade
striking (Ok (Some x)) = Traded x
striking (Err e) = Refused e

abbrev pub taking : Result Fill Refusal → Answer
taking (Ok f) = Slip f
taking (Err e) = Refused e

abbrev pub answer_of : Event → Answer
answer_of (event.Tick t r) = plainly r
answer_of (event.Values n v r) = plainly r
answer_of (event.Open l a role reach r) = plainly r
answer_of (event.Retire l r) = amounting r
answer_of (event.Limit x r) = plainly r
answer_of (event.Enter t r) = Entered r
answer_of (event.Cancel l n r) = amounting r
answer_of (event.Strike r) = striking r
answer_of (event.Take l r) = taking r
answer_of (event.Receipt f r) = plainly r
answer_of (event.PutBack f r) = plainly r
answer_of (event.Kill s reach block r) = amounting r
answer_of (event.Release s r) = plainly r

-- what is told of a call that was done, and a refusal of one that was not
abbrev pub or_refused : Result Answer Refusal → Answer
or_refused (Ok a) = a
or_refused (Err e) = Refused e

-- ---- its text

-- numbers in decimal, with single spaces
abbrev pub row : List ℕ → List ℕ
row [] = []
row (n ∷ []) = decimal n
row (n ∷ m ∷ ns) = decimal n ++ (32 ∷ row (m ∷ ns))

abbrev pub effect_text : Effect → List ℕ
effect_text e = row (e.causes.login ∷ e.causes.acronym ∷ e.cancelled ∷ [])

abbrev pub trade_text : Trade → List ℕ
trade_text t =
    row (t.buyer.login ∷ t.buyer.number ∷ t.seller.login ∷ t.seller.number ∷ t.contracts ∷ t.price ∷ [])

abbrev pub fill_text : Fill → List ℕ
fill_text f = row (f.login ∷ f.number ∷ f.side ∷ f.contracts ∷ f.price ∷ [])

-- the word of a refusal; a number of a check of one's own has none
abbrev pub bracketed : Option Refusal → List ℕ
bracketed None = []
bracketed (Some e) = codes " (" ++ (word e ++ codes ")")

abbrev pub text : Answer → List ℕ
text Done = codes "ok"
text (Cancelled n) = codes "cancelled " ++ decimal n
text (Entered a) =
    codes "enter "
    ++ (decimal (entered_number a) ++ (codes " " ++ (effect_text (entered_effect a) ++ bracketed (refusal_of (entered_number a)))))
text NoTrade = codes "none"
text (Traded s) =
    codes "trade " ++ (trade_text s.trade ++ (codes " buyer " ++ (effect_text s.buy ++ (codes " seller " ++ effect_text s.sell))))
text (Slip f) = codes "slip " ++ fill_text f
text (Refused e) = codes "refused " ++ refusal_text e

-- ---- a line that is answered

abbrev pub answered : (number : ℕ) → (ws : List (List ℕ)) → Answer → List ℕ
answered number ws a = decimal number ++ (codes ": " ++ (spaced ws ++ (codes " -> " ++ text a)))
