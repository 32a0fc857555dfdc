-- The numbers of a line, one after another. Assumes nothing.
use Rattle.std.proofs.Common.{◌≡◌, ℕ, suc, ◌+◌, ◌-◌, ◌<◌, ◌≤◌, List, [], ◌∷◌, ◌++◌, length, take, set, Some, None, Ok, Err, Result, sym, refl, ap, ◌∙◌, arith}
use Rattle.std.proofs.lemmas.List.{append-nil, append_assoc, take_all, take_more_set}
use Rattle.script.specs.declared.fields.Fault.{Fault}
use Rattle.script.specs.declared.fields.Fault.TheVariants.{Missing, NotNumber, Extra}
use Rattle.script.specs.Numbers.{number_of, followed, numbers_in}

-- numbers in front of those that follow them
abbrev pub after : List ℕ → Result (List ℕ) Fault → Result (List ℕ) Fault
after ns (Ok ms) = Ok (ns ++ ms)
after ns (Err f) = Err f

after_none : (r : Result (List ℕ) Fault) → after [] r ≡ r
after_none (Ok ms) = refl
after_none (Err f) = refl

after_one : (ns : List ℕ) (n field : ℕ) (r : Result (List ℕ) Fault) → after ns (followed field (Some n) r) ≡ after (ns ++ n ∷ []) r
after_one ns n field (Ok ms) = ap Ok (sym (append_assoc ns (n ∷ []) ms))
after_one ns n field (Err f) = refl

-- ---- where `field` numbers of `count` are read

pub none_read : (count : ℕ) (ws : List (List ℕ)) → numbers_in count 0 ws ≡ after [] (numbers_in (count - 0) 0 ws)
none_read count ws =
    let all : count ≡ count - 0 = omega arith in
    ap (λ n. numbers_in n 0 ws) all ∙ sym (after_none (numbers_in (count - 0) 0 ws))

module _ (count field : ℕ) (ws : List (List ℕ)) where
  -- one number is asked for, and the rest
  one_asked : field < count → numbers_in (count - field) field ws ≡ numbers_in (suc (count - (field + 1))) field ws
  one_asked h =
      let more : count - field ≡ suc (count - (field + 1)) = omega arith in
      ap (λ k. numbers_in k field ws) more

  none_asked : count ≤ field → numbers_in (count - field) field ws ≡ numbers_in 0 field ws
  none_asked h =
      let no_more : count - field ≡ 0 = omega arith in
      ap (λ k. numbers_in k field ws) no_more

  pub word_missing : (ns : List ℕ) → field < count → ws ≡ [] → after ns (numbers_in (count - field) field ws) ≡ Err (Missing field)
  word_missing ns h e = ap (after ns) (one_asked h ∙ ap (numbers_in (suc (count - (field + 1))) field) e)

  pub word_no_number : (ns w : List ℕ) (vs : List (List ℕ)) → field < count → ws ≡ w ∷ vs → None ≡ number_of w → after ns (numbers_in (count - field) field ws) ≡ Err (NotNumber field)
  word_no_number ns w vs h e o =
      ap (after ns) (one_asked h ∙ ap (numbers_in (suc (count - (field + 1))) field) e ∙ ap (λ x. followed field x (numbers_in (count - (field + 1)) (field + 1) vs)) (sym o))

  pub number_read : (ns w : List ℕ) (vs : List (List ℕ)) (n : ℕ) → field < count → length ns ≡ count → ws ≡ w ∷ vs → Some n ≡ number_of w → after (take field ns) (numbers_in (count - field) field ws) ≡ after (take (field + 1) (set ns field n)) (numbers_in (count - (field + 1)) (field + 1) vs)
  number_read ns w vs n h long e o =
      ap (after (take field ns)) (one_asked h ∙ ap (numbers_in (suc (count - (field + 1))) field) e ∙ ap (λ x. followed field x (numbers_in (count - (field + 1)) (field + 1) vs)) (sym o)) ∙ after_one (take field ns) n field _ ∙ ap (λ ms. after ms (numbers_in (count - (field + 1)) (field + 1) vs)) (sym (take_more_set ns field n (omega arith)))

  pub all_read : (ns : List ℕ) → count ≤ field → length ns ≡ count → ws ≡ [] → after (take field ns) (numbers_in (count - field) field ws) ≡ Ok ns
  all_read ns h long e =
      ap (after (take field ns)) (none_asked h ∙ ap (numbers_in 0 field) e) ∙ ap Ok (append-nil (take field ns) ∙ take_all field ns (omega arith))

  pub word_extra : (ns w : List ℕ) (vs : List (List ℕ)) → count ≡ field → ws ≡ w ∷ vs → after ns (numbers_in (count - field) field ws) ≡ Err (Extra count)
  word_extra ns w vs h e =
      ap (after ns) (none_asked (omega arith) ∙ ap (numbers_in 0 field) e) ∙ ap (λ f. Err (Extra f)) (sym h)
