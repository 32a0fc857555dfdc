-- A sweep within a reach takes a login's own entries only, and one of both kinds all of them. Assumes nothing.
use Rattle.std.proofs.Common.{◌≡◌, ℕ, true, false, ◌&&◌, eqb, sym, ap, ◌∙◌}
use Rattle.std.proofs.lemmas.Bool.{and_parts, eq-eqb, eqb-true, ne_eqb}
use Rattle.terms.proofs.Tables.{mixed}
use Rattle.market.specs.Book.{Entry, in_reach}

pub reach_own : (l reach : ℕ) (e : Entry) → in_reach l reach e ≡ true → e.login ≡ l
reach_own l reach e h = eqb-true e.login l (and_parts _ _ h).0

pub reach_all : (l : ℕ) (e : Entry) → in_reach l 3 e ≡ false → eqb l e.login ≡ false
reach_all l e h = ne_eqb l e.login (λ q. mixed ⊥ (sym (ap (λ b. b && true) (eq-eqb e.login l (sym q))) ∙ h))
