-- What is read of a line is told in full. Assumes nothing.
use Rattle.std.proofs.Common.{◌≡◌, ℕ, zero, suc, ◌+◌, true, List, [], ◌∷◌, map, length, take, is_some, Some, None, Ok, Err, decimal as shown, Option, Result, sym, refl, ap, ◌∙◌, subst, add-one, arith}
use Rattle.std.proofs.lemmas.Bool.{and_from}
use Rattle.script.specs.declared.fields.Fault.{Fault}
use Rattle.script.specs.declared.fields.Fault.TheVariants.{Missing, NotNumber, Extra}
use Rattle.script.specs.Numbers.{number_of, followed, numbers_in, numeric, Told, Fit, Numbered}
use Rattle.script.proofs.Decimals.{number_printed}

-- ---- a fault one field later

abbrev later : Fault → Fault
later (Missing k) = Missing (k + 1)
later (NotNumber k) = NotNumber (k + 1)
later (Extra k) = Extra (k + 1)

abbrev moved : Result (List ℕ) Fault → Result (List ℕ) Fault
moved (Ok ns) = Ok ns
moved (Err f) = Err (later f)

followed_moved : (field : ℕ) (o : Option ℕ) (r : Result (List ℕ) Fault) → followed (field + 1) o (moved r) ≡ moved (followed field o r)
followed_moved field None r = refl
followed_moved field (Some n) (Ok ns) = refl
followed_moved field (Some n) (Err f) = refl

numbers_moved : (count field : ℕ) (ws : List (List ℕ)) → numbers_in count (field + 1) ws ≡ moved (numbers_in count field ws)
numbers_moved zero field [] = refl
numbers_moved zero field (w ∷ ws) = refl
numbers_moved (suc count) field [] = refl
numbers_moved (suc count) field (w ∷ ws) =
    ap (followed (field + 1) (number_of w)) (numbers_moved count (field + 1) ws) ∙ followed_moved field (number_of w) (numbers_in count (field + 1) ws)

-- ---- what is told of the words after the first, told of all

numeric_more : (w : List ℕ) (ws : List (List ℕ)) (n : ℕ) → number_of w ≡ Some n → numeric ws ≡ true → numeric (w ∷ ws) ≡ true
numeric_more w ws n e t = and_from (is_some (number_of w)) (numeric ws) (ap is_some e) t

front_more : (w : List ℕ) (ws : List (List ℕ)) (n k : ℕ) → number_of w ≡ Some n → numeric (take k ws) ≡ true → numeric (take (k + 1) (w ∷ ws)) ≡ true
front_more w ws n k e t = rw add-one (numeric_more w (take k ws) n e t)

told_more : (count : ℕ) (w : List ℕ) (ws : List (List ℕ)) (n : ℕ) (r : Result (List ℕ) Fault) → number_of w ≡ Some n → Told count ws r → Told (suc count) (w ∷ ws) (followed 0 (Some n) (moved r))
told_more count w ws n (Ok ns) e t = (ap suc t.0, cc t.1)
told_more count w ws n (Err (Missing k)) e t = (omega arith, omega arith, numeric_more w ws n e t.2)
told_more count w ws n (Err (NotNumber k)) e t =
    (omega arith, omega arith, front_more w ws n k e t.2, rw add-one t.3)
told_more count w ws n (Err (Extra k)) e t = (omega arith, omega arith, front_more w ws n k e t.2)

told_first : (count : ℕ) (w : List ℕ) (ws : List (List ℕ)) (o : Option ℕ) (r : Result (List ℕ) Fault) → number_of w ≡ o → Told count ws r → Told (suc count) (w ∷ ws) (followed 0 o (moved r))
told_first count w ws None r e t = (omega arith, omega arith, refl, e)
told_first count w ws (Some n) r e t = told_more count w ws n r e t

told : (count : ℕ) (ws : List (List ℕ)) → Told count ws (numbers_in count 0 ws)
told zero [] = (refl, refl)
told zero (w ∷ ws) = (refl, omega arith, refl)
told (suc count) [] = (omega arith, refl, refl)
told (suc count) (w ∷ ws) =
    subst (λ r. Told (suc count) (w ∷ ws) (followed 0 (number_of w) r)) (sym (numbers_moved count 0 ws)) (told_first count w ws (number_of w) (numbers_in count 0 ws) refl (told count ws))

-- ---- printed numbers

pub printed : (ns : List ℕ) (field : ℕ) → Fit ns → numbers_in (length ns) field (map shown ns) ≡ Ok ns
printed [] field t = refl
printed (n ∷ ns) field t =
    ap (λ o. followed field o (numbers_in (length ns) (field + 1) (map shown ns))) (number_printed n t.0) ∙ ap (followed field (Some n)) (printed ns (field + 1) t.1)

pub numbered : (count : ℕ) (ws : List (List ℕ)) (r : Result (List ℕ) Fault) → r ≡ numbers_in count 0 ws → Numbered count ws r
numbered count ws r e =
    record {
      told = subst (Told count ws) (sym e) (told count ws);
      printed = λ ns long t p. e ∙ ap (numbers_in count 0) p ∙ ap (λ k. numbers_in k 0 (map shown ns)) (sym long) ∙ printed ns 0 t;
    }
