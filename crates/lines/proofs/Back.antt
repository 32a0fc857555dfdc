-- A call that is written is read back. Assumes nothing.
use Rattle.std.proofs.Common.{◌≡◌, ℕ, true, false, List, [], ◌∷◌, ◌++◌, map, length, Some, Ok, Err, decimal, Option, Result, sym, refl, ap, ◌∙◌, inl, inr, arith}
use Rattle.std.proofs.lemmas.Option.{none-some}
use Rattle.std.proofs.lemmas.Bool.{cases_Bool, cond-false, and_from, and_parts}
use Rattle.std.proofs.lemmas.Bool.Decides.{nat_tests}
use Rattle.script.specs.declared.fields.Fault.{Fault}
use Rattle.script.specs.Words.{plain, all, words, is_word, begins, Laid}
use Rattle.script.specs.Numbers.{digit, number_of, numbers_in, Fit, Told}
use Rattle.script.proofs.Decimals.{number_printed}
use Rattle.script.proofs.Parting.{parted}
use Rattle.script.proofs.Telling.{printed, numbered}
use Rattle.terms.specs.declared.messages.ScopeNumber.{ScopeNumber}
use Rattle.terms.specs.declared.messages.ScopeNumber.TheVariants.{Login, Acronym}
use Rattle.terms.specs.declared.events.Call.{Call}
use Rattle.terms.specs.declared.events.Call.TheVariants as call
use Rattle.lines.specs.declared.faults.CallFault.{CallFault}
use Rattle.lines.specs.declared.verbs.Verb.{Verb}
use Rattle.lines.specs.declared.verbs.Verb.TheVariants.{Tick, Values, Open, Retire, Limit, Enter, Cancel, Take, Receipt, PutBack, Kill, Release}
use Rattle.lines.specs.Calls.{applied, in_call, in_line, plainly, spared, limit_numbers, line_in}
use Rattle.lines.specs.Spelling.{name_of, number_of as number_in, heading, value_numbers, ticket_numbers, fill_numbers, numbers_of, spelt, trailed, spaced, ReadsBack}

-- ---- words with single spaces are laid out as themselves

abbrev all_words : List (List ℕ) → Type 0
all_words [] = Unit {0}
all_words (w ∷ ws) = (is_word w ≡ true) × all_words ws

trailed_begins : (ws : List (List ℕ)) → begins (trailed ws) ≡ false
trailed_begins [] = refl
trailed_begins (w ∷ ws) = refl

trailed_laid : (ws : List (List ℕ)) → all_words ws → Laid (trailed ws) ws
trailed_laid [] t = ([], [], refl, refl, refl)
trailed_laid (w ∷ ws) t = (32 ∷ [], trailed ws, refl, refl, t.0, trailed_begins ws, trailed_laid ws t.1)

spaced_laid : (ws : List (List ℕ)) → all_words ws → Laid (spaced ws) ws
spaced_laid [] t = ([], [], refl, refl, refl)
spaced_laid (w ∷ ws) t = ([], trailed ws, refl, refl, t.0, trailed_begins ws, trailed_laid ws t.1)

pub words_spaced : (ws : List (List ℕ)) → all_words ws → words (spaced ws) ≡ ws
words_spaced ws t = (parted (spaced ws)).only ws (spaced_laid ws t)

-- ---- what is written are words

digit_plain : (b : ℕ) → digit b ≡ true → plain b ≡ true
digit_plain b t = grind (arith, nat_tests)

digits_plain : (w : List ℕ) → all digit w ≡ true → all plain w ≡ true
digits_plain [] t = refl
digits_plain (b ∷ bs) t =
    let both = and_parts (digit b) (all digit bs) t in
    and_from (plain b) (all plain bs) (digit_plain b both.0) (digits_plain bs both.1)

number_word : (w : List ℕ) (n : ℕ) → number_of w ≡ Some n → is_word w ≡ true
number_word [] n e = absurd (none-some n e)
number_word (b ∷ bs) n e =
    elim (cases_Bool (all digit (b ∷ bs))) [
      | inl t ↦ digits_plain (b ∷ bs) t
      | inr f ↦ absurd (none-some n (sym (cond-false (all digit (b ∷ bs)) _ _ f) ∙ e))
    ]

numbers_words : (ns : List ℕ) → Fit ns → all_words (map decimal ns)
numbers_words [] t = tt
numbers_words (n ∷ ns) t = (number_word (decimal n) n (number_printed n t.0), numbers_words ns t.1)

-- ---- the numbers of each call

plain_read : (v : Verb) (f : List ℕ → Call) (ns : List ℕ) → Fit ns → in_line (plainly v (length ns) f (map decimal ns)) ≡ Ok (Some (f ns))
plain_read v f ns t = ap (λ r. in_line (applied f (in_call v r))) (printed ns 0 t)

-- four numbers leave no interval out
spared_whole : (ws : List (List ℕ)) (three whole : Result (List ℕ) Fault) → Told 3 ws three → length ws ≡ 4 → spared three whole ≡ whole
spared_whole ws (Ok ns) whole t e = absurd (omega (arith, t.0))
spared_whole ws (Err f) whole t e = refl

limit_read : (f : List ℕ → Call) (a b c d : ℕ) → Fit (a ∷ b ∷ c ∷ d ∷ []) → in_line (applied f (in_call Limit (limit_numbers (map decimal (a ∷ b ∷ c ∷ d ∷ []))))) ≡ Ok (Some (f (a ∷ b ∷ c ∷ d ∷ [])))
limit_read f a b c d t =
    let ws = map decimal (a ∷ b ∷ c ∷ d ∷ []) in
    ap (λ r. in_line (applied f (in_call Limit r))) (spared_whole ws (numbers_in 3 0 ws) (numbers_in 4 0 ws) (numbered 3 ws (numbers_in 3 0 ws) refl).told refl) ∙ plain_read Limit f (a ∷ b ∷ c ∷ d ∷ []) t

read_limit : (s : ScopeNumber) (kind limit interval : ℕ) → Fit (number_in s ∷ kind ∷ limit ∷ interval ∷ []) → line_in (spelt (call.Limit (record { scope = s; kind = kind; limit = limit; interval = interval }))) ≡ Ok (Some (call.Limit (record { scope = s; kind = kind; limit = limit; interval = interval })))
read_limit (Login n) kind limit interval fit = limit_read _ n kind limit interval fit
read_limit (Acronym n) kind limit interval fit = limit_read _ n kind limit interval fit

read : (c : Call) → Fit (numbers_of c) → line_in (spelt c) ≡ Ok (Some c)
read (call.Tick t) fit = plain_read Tick _ (t ∷ []) fit
read (call.Values n v) fit = plain_read Values _ (n ∷ value_numbers v) fit
read (call.Open l a role reach) fit = plain_read Open _ (l ∷ a ∷ role ∷ reach ∷ []) fit
read (call.Retire l) fit = plain_read Retire _ (l ∷ []) fit
read (call.Limit x) fit = read_limit x.scope x.kind x.limit x.interval fit
read (call.Enter t) fit = plain_read Enter _ (ticket_numbers t) fit
read (call.Cancel l n) fit = plain_read Cancel _ (l ∷ n ∷ []) fit
read call.Strike fit = refl
read (call.Take l) fit = plain_read Take _ (l ∷ []) fit
read (call.Receipt f) fit = plain_read Receipt _ (fill_numbers f) fit
read (call.PutBack f) fit = plain_read PutBack _ (fill_numbers f) fit
read (call.Kill (Login n) reach block) fit = plain_read Kill _ (n ∷ reach ∷ block ∷ []) fit
read (call.Kill (Acronym n) reach block) fit = plain_read Kill _ (n ∷ reach ∷ block ∷ []) fit
read (call.Release (Login n)) fit = plain_read Release _ (n ∷ []) fit
read (call.Release (Acronym n)) fit = plain_read Release _ (n ∷ []) fit

-- ---- the words of each call

scope_word_is : (s : ScopeNumber) → is_word (name_of s) ≡ true
scope_word_is (Login n) = refl
scope_word_is (Acronym n) = refl

heading_words : (c : Call) → all_words (heading c)
heading_words (call.Tick t) = (refl, tt)
heading_words (call.Values n v) = (refl, tt)
heading_words (call.Open l a role reach) = (refl, tt)
heading_words (call.Retire l) = (refl, tt)
heading_words (call.Limit x) = (refl, (scope_word_is x.scope, tt))
heading_words (call.Enter t) = (refl, tt)
heading_words (call.Cancel l n) = (refl, tt)
heading_words call.Strike = (refl, tt)
heading_words (call.Take l) = (refl, tt)
heading_words (call.Receipt f) = (refl, tt)
heading_words (call.PutBack f) = (refl, tt)
heading_words (call.Kill s reach block) = (refl, (scope_word_is s, tt))
heading_words (call.Release s) = (refl, (scope_word_is s, tt))

both_words : (vs ws : List (List ℕ)) → all_words vs → all_words ws → all_words (vs ++ ws)
both_words [] ws s t = t
both_words (v ∷ vs) ws s t = (s.0, both_words vs ws s.1 t)

call_words : (c : Call) → Fit (numbers_of c) → all_words (spelt c)
call_words c fit = both_words (heading c) (map decimal (numbers_of c)) (heading_words c) (numbers_words (numbers_of c) fit)

pub reads_back : (line : List ℕ) (r : Result (Option Call) CallFault) → r ≡ line_in (words line) → ReadsBack line r
reads_back line r e c fit p =
    e ∙ ap (λ l. line_in (words l)) p ∙ ap line_in (words_spaced (spelt c) (call_words c fit)) ∙ read c fit
