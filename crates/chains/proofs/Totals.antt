-- How many chains there are, and how many items in all, also after a change; for the crates above.
use Rattle.std.proofs.Common.{◌≡◌, ℕ, ◌+◌, ◌<◌, ◌≤◌, List, [], ◌∷◌, ◌++◌, length, get_or, arith}
use Rattle.std.proofs.lemmas.List.{length_push}
use Rattle.std.proofs.lemmas.List.Sums.{sum_by-set}
use Rattle.chains.specs.declared.table.Chains.{Chains}
use Rattle.chains.specs.Lists.{lists, parts, places, total, appended}
use Rattle.chains.proofs.Kept.{sound}
use Rattle.chains.proofs.Whole.{listed_count, room_left}

pub lists_count : {X : Type 0} {N : ℕ} (c : Chains X N) → length (lists c) ≡ N
unfolding lists
lists_count c = listed_count (parts c) (sound c)

pub total_fits : {X : Type 0} {N : ℕ} (c : Chains X N) → total (lists c) ≤ places c
unfolding lists places
total_fits c = omega (arith, room_left (parts c) (sound c))

pub total_appended : {X : Type 0} (ls : List (List X)) (k : ℕ) (x : X) → k < length ls → total (appended ls k x) ≡ total ls + 1
total_appended ls k x lt = omega (arith, sum_by-set length ls k (get_or ls k [] ++ x ∷ []) [] lt, length_push (get_or ls k []) x)
