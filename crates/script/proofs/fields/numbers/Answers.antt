-- A turn reads one number, and after the last the line ends. Assumes nothing.
use Rattle.std.proofs.Common.{◌≡◌, ◌∷◌, Err, sym, ◌∙◌, arith}
use Rattle.std.proofs.lemmas.List.{length-set, length-replicate}
use Rattle.script.specs.declared.fields.Fault.TheVariants.{Missing, NotNumber}
use Rattle.script.specs.Words.{remaining}
use Rattle.script.proofs.Counted.{none_read, word_missing, word_no_number, number_read, all_read, word_extra}
use Rattle.script.proofs.Telling.{numbered}
use Rattle.script.proofs.fields.numbers.Goals as goal

pub loop-field-init : goal.loop-field-init
loop-field-init g c = (length-replicate g.row.N 0, none_read g.row.N _)

pub loop-field-preserved : goal.loop-field-preserved
loop-field-preserved g c =
    let gives = c.next.ensures.steps in
    let word : remaining c.loop-field.reader ≡ c.in_ok-word.word.now ∷ remaining c.next.new.self = (rw c.in_ok-word.ensures.ok_part at gives) in
    (length-set c.loop-field.place-items c.loop-field.field c.in_ok-place.field-0 ∙ c.loop-field.invariant.0, c.loop-field.invariant.1 ∙ number_read g.row.N c.loop-field.field _ c.loop-field.place-items _ _ _ c.loop-field-test.true c.loop-field.invariant.0 word (sym c.in_ok-place.ensures.ok_part ∙ c.number.ensures.value))

pub returns-in_err-word : goal.returns-in_err-word
returns-in_err-word g c =
    let err : c.from_residual.result ≡ Err (Missing c.loop-field.field) = grind arith in
    let gives = c.next.ensures.steps in
    let none = (rw c.in_err-word.ensures.ok_part at gives) in
    let missing = err ∙ sym (c.loop-field.invariant.1 ∙ word_missing g.row.N c.loop-field.field _ _ c.loop-field-test.true none.0) in
    record { value = missing; numbered = numbered g.row.N _ _ missing; ended = rw err tt }

pub returns-in_err-place : goal.returns-in_err-place
returns-in_err-place g c =
    let err : c.from_residual-in_err-place.result ≡ Err (NotNumber c.loop-field.field) = grind arith in
    let gives = c.next.ensures.steps in
    let word : remaining c.loop-field.reader ≡ c.in_ok-word.word.now ∷ remaining c.next.new.self = (rw c.in_ok-word.ensures.ok_part at gives) in
    let no_number = err ∙ sym (c.loop-field.invariant.1 ∙ word_no_number g.row.N c.loop-field.field _ _ _ _ c.loop-field-test.true word (sym c.in_err-place.ensures.ok_part ∙ c.number.ensures.value)) in
    record { value = no_number; numbered = numbered g.row.N _ _ no_number; ended = rw err tt }

pub returns-in-None : goal.returns-in-None
returns-in-None g c =
    let all = sym (c.loop-field.invariant.1 ∙ all_read g.row.N c.loop-field.field _ c.loop-field.place-items c.loop-field-test.false c.loop-field.invariant.0 c.in-None.ensures.steps.0) in
    record { value = all; numbered = numbered g.row.N _ _ all; ended = c.in-None.ensures.steps.1 }

pub returns-in-Some : goal.returns-in-Some
returns-in-Some g c =
    let extra = sym (c.loop-field.invariant.1 ∙ word_extra g.row.N c.loop-field.field _ _ _ _ (omega arith) c.in-Some.ensures.steps) in
    record { value = extra; numbered = numbered g.row.N _ _ extra; ended = tt }
