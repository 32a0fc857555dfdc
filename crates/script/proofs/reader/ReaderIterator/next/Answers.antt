-- The reader gives the run of plain bytes after the blanks; where there is none, no word is left. Assumes nothing.
use Rattle.std.proofs.Common.{◌≡◌, ℕ, Bool, false, List, length, Option, Bor, ap, ◌∙◌, rules, tests}
use Rattle.std.specs.Fn.{CalledAt}
use Rattle.std.specs.Iterator.{Drains}
use Rattle.std.specs.Iterator.Adapters.{take_while_source, take_while_done, take_while_callee, take_while_steps}
use Rattle.std.specs.List.{prefix_len}
use Rattle.std.specs.declared.iter.TakeWhile.{TakeWhile}
use Rattle.std.proofs.lemmas.Iterator.{YieldsList, YieldsList-from_slice}
use Rattle.std.proofs.lemmas.Iterator.Consumers.{count_from_yields_List}
use Rattle.std.proofs.lemmas.Iterator.Search.{YieldsList-from_take_while}
use Rattle.std.proofs.lemmas.List.Folds.{length-prefix_len}
use denote.Param.Members.{Mut}
use Rattle.script.specs.Words.{blank, plain}
use Rattle.script.proofs.Words.{no_word, first_word}
use Rattle.script.proofs.reader.ReaderIterator.next.Goals as goal

-- how many bytes a chain of `take_while` and `count` counts
counted : {S F : Type 0} (test : ℕ → Bool) {steps : S → Option (Bor ℕ) → S → Type 0} {g : Mut F (Bor (Bor ℕ) × Unit {0}) Bool} {s : TakeWhile S F} {f : F} {bytes : List ℕ} (n : ℕ) → ((xs : List (Bor ℕ)) × Drains (take_while_steps steps g) s xs × (n ≡ length xs)) → YieldsList steps (λ b. b.now) (take_while_source s) bytes → take_while_callee s ≡ f → take_while_done s ≡ false → ((x : Bor ℕ) (b : Bool) (q : F) → CalledAt g f x b q → (q ≡ f) × (b ≡ test x.now)) → n ≡ prefix_len test bytes
counted test {g = g} {bytes = bytes} n ran source callee going calls =
    count_from_yields_List _ n ran (YieldsList-from_take_while g test source callee going calls) ∙ length-prefix_len test bytes

pub returns-then-length-eq0-clause-steps : goal.returns-then-length-eq0-clause-steps
returns-then-length-eq0-clause-steps c =
    let blanks = counted blank _ c.count-blanks.ensures.ran (YieldsList-from_slice c.args.self.now.rest.now cc) c.take_while.ensures.closure c.take_while.ensures.done (λ x b q k. search (rules, tests)) in
    let run = counted plain _ c.count-length.ensures.ran (YieldsList-from_slice c.split_at.result.1.now cc) c.take_while-2.ensures.closure c.take_while-2.ensures.done (λ x b q k. search (rules, tests)) in
    let none = no_word c.args.self.now.rest.now c.split_at.result.1.now _ _ blanks c.split_at.ensures.back run c.if-length-eq0.true in
    (none, none)

pub returns : goal.returns
returns c =
    let blanks = counted blank _ c.count-blanks.ensures.ran (YieldsList-from_slice c.args.self.now.rest.now cc) c.take_while.ensures.closure c.take_while.ensures.done (λ x b q k. search (rules, tests)) in
    let run = counted plain _ c.count-length.ensures.ran (YieldsList-from_slice c.split_at.result.1.now cc) c.take_while-2.ensures.closure c.take_while-2.ensures.done (λ x b q k. search (rules, tests)) in
    let word = first_word c.args.self.now.rest.now c.split_at.result.1.now _ _ blanks c.split_at.ensures.back run c.split_at-2.result.0.now c.split_at-2.result.1.now c.if-length-eq0.false c.split_at-2.ensures.front c.split_at-2.ensures.back in
    record { steps = word; goes = let fewer = ap length word in search rules }
