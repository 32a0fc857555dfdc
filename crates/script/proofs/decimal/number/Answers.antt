-- Reading starts at the whole word, and what is read is exact. Assumes nothing.
use Rattle.std.proofs.Common.{sym, arith}
use Rattle.std.proofs.lemmas.Bool.{eqb-false}
use Rattle.std.proofs.lemmas.Grind.{common_steps}
use Rattle.script.proofs.Decimals.{read_whole, number_exact}
use Rattle.script.proofs.decimal.number.Goals as goal

pub returns-then-is_empty-clause-exact : goal.returns-then-is_empty-clause-exact
returns-then-is_empty-clause-exact c = number_exact _ _ (grind (arith, common_steps))

pub loop-byte-init : goal.loop-byte-init
loop-byte-init c = read_whole c.args.word.now (eqb-false _ 0 (sym c.if-is_empty.ensures))

pub returns-in_err-digit-clause-exact : goal.returns-in_err-digit-clause-exact
returns-in_err-digit-clause-exact c = number_exact _ _ (grind (arith, common_steps))

pub returns-clause-exact : goal.returns-clause-exact
returns-clause-exact c = number_exact _ _ (grind (arith, common_steps))
