-- The size check: the record that a number names judges, and is changed in place; without a record nothing is turned down, and nothing changed. Assumes nothing.
use Rattle.std.proofs.Common.{◌≡◌, ℕ, suc, ◌<◌, ◌≤◌, cond, ◌||◌, List, length, get_or, set, None, sym, refl, ap, ◌∙◌}
use Rattle.terms.specs.declared.messages.Notice.{Notice}
use Rattle.terms.specs.declared.messages.Ticket.{Ticket}
use Rattle.terms.specs.declared.refusal.Refusal.TheVariants.{TooLarge}
use Rattle.terms.specs.Refusals.{number}
use Rattle.terms.specs.Tables.{at}
use Rattle.terms.proofs.Tables.{same_all}
use Rattle.checks.specs.declared.sizing.SizeLimits.{SizeLimits}
use Rattle.checks.specs.Meaning.{whose, told_each}
use Rattle.checks.specs.Sizes.{unlimited, exceeds, sized, size, size_after}
use Rattle.checks.proofs.Places.{at_place, at_past}
use Rattle.checks.proofs.Told.{Quiet, told_in_place, told_nowhere}

size_quiet : Quiet size
size_quiet = record { ticked = λ t p q. refl; valued = λ s v p q. refl }

-- without limits every entry passes
unlimited_passes : (t : Ticket) → 0 ≡ sized t unlimited
unlimited_passes t = ap (λ n. cond (exceeds None t.contracts || exceeds n t.contracts) (number TooLarge) 0) (sym (same_all None 24 t.login))

pub sized_at : (t : Ticket) (qs : List SizeLimits) (n i : ℕ) (d : SizeLimits) → n ≡ suc i → i < length qs → sized t (get_or qs i d) ≡ sized t (at unlimited qs n)
sized_at t qs n i d is lt = ap (sized t) (at_place unlimited d qs n i is lt)

pub sized_past : (t : Ticket) (qs : List SizeLimits) (n : ℕ) → (1 ≤ n → length qs < n) → 0 ≡ sized t (at unlimited qs n)
sized_past t qs n none = unlimited_passes t ∙ ap (sized t) (sym (at_past unlimited qs n none))

pub told_here : (n : Notice) (qs : List SizeLimits) (w i : ℕ) (v d : SizeLimits) → w ≡ whose n → w ≡ suc i → v ≡ size_after n (get_or qs i d) → set qs i v ≡ told_each size 1 n tt qs
told_here n qs w i v d = told_in_place size size_quiet tt qs d n w i v

pub told_none : (n : Notice) (qs : List SizeLimits) (w : ℕ) → w ≡ whose n → (1 ≤ w → length qs < w) → qs ≡ told_each size 1 n tt qs
told_none n qs w = told_nowhere size size_quiet tt qs unlimited n w
