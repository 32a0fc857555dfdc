-- Each mark adds its amount, as far as it fits. Assumes nothing.
use Rattle.std.proofs.Common.{◌≡◌, min, subst, refl, arith}
use Rattle.std.proofs.lemmas.Fn.{fold_over, slice_gives, fronts}
use Rattle.std.proofs.lemmas.List.Sums.{sum_by_push}
use Rattle.rates.specs.Marks.{amount_of}
use Rattle.rates.proofs.counting.weight.Goals as goal

pub returns : goal.returns
returns c =
    subst (λ ms. c.fold.result ≡ min (amount_of ms) 18446744073709551615) c.iter.ensures.rest
    (fold_over fronts (λ y. y.now) _ (λ ms n. n ≡ min (amount_of ms) 18446744073709551615) _ (λ ms a x b f' j k. let more = sum_by_push (λ m. m.amount) ms x.now in grind arith)
    _ _ _ _ (slice_gives c.iter.result) refl c.fold.ensures.ran)
