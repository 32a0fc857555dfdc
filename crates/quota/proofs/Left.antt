-- A notice changes what the firm that it names has left. Assumes nothing.
use Rattle.std.proofs.Common.{◌≡◌, ℕ, List, refl, ap, ◌∙◌, sym}
use Rattle.terms.specs.declared.messages.Notice.{Notice}
use Rattle.terms.specs.Tables.{at, put}
use Rattle.checks.specs.Meaning.{whose, told_each}
use Rattle.checks.proofs.Told.{Quiet, told_at}
use Rattle.quota.specs.Quotas.{left_after, quota}

quiet : Quiet quota
quiet = record { ticked = λ t p q. refl; valued = λ s v p q. refl }

pub left_told : (n : Notice) (most : ℕ) (lefts : List ℕ) (w v : ℕ) → w ≡ whose n → v ≡ left_after n (at most lefts w) → put lefts w v ≡ told_each quota 1 n most lefts
left_told n most lefts w v whom so = ap (put lefts w) so ∙ ap (λ (a : ℕ). put lefts a (left_after n (at most lefts a))) whom ∙ sym (told_at quota quiet most lefts most n)
