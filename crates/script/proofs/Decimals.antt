-- A number that is held to 64 bits digit by digit is the whole number, held to 64 bits. Assumes nothing.
use Rattle.std.proofs.Common.{◌≡◌, ℕ, ◌+◌, ◌-◌, ◌*◌, ◌^◌, ◌<◌, min, true, cond, ◌&&◌, List, [], ◌∷◌, length, Some, None, decimal as shown, Option, sym, refl, ap, ◌∙◌, inl, inr, arith, rules}
use Rattle.std.proofs.lemmas.Bool.{cases_Bool, cond-true, cond-false, and_left}
use Rattle.std.proofs.lemmas.Str.Parse.{IsNumeralModel, numerals_by_fold}
use Rattle.std.proofs.lemmas.Fmt.{decimal_nonempty, digits_decimal, digits_value-decimal}
use Rattle.script.specs.Words.{all}
use Rattle.script.specs.Numbers.{digit, decimal, decimal_after, largest, number_of, Exact}

-- one more digit, held to 64 bits at each step
abbrev pub capped : ℕ → ℕ → ℕ
capped n d = min (min (n * 10) largest + d) largest

-- digits that follow a number, read with it so
abbrev pub read_on : ℕ → List ℕ → Option ℕ
read_on n [] = Some n
read_on n (b ∷ bs) = cond (digit b) (read_on (capped n (b - 48)) bs) None

-- a digit after a number that is held to 64 bits
capped_once : (n d : ℕ) → capped (min n largest) d ≡ min (n * 10 + d) largest
capped_once n d = omega arith

read_capped : (n : ℕ) (bs : List ℕ) → read_on (min n largest) bs ≡ cond (all digit bs) (Some (min (decimal_after n bs) largest)) None
read_capped n [] = refl
read_capped n (b ∷ bs) =
    elim (cases_Bool (digit b)) [
      | inl t ↦
          cond-true (digit b) _ _ t ∙ ap (λ v. read_on v bs) (capped_once n (b - 48)) ∙ read_capped (n * 10 + (b - 48)) bs ∙ ap (λ v. cond v (Some (min (decimal_after n (b ∷ bs)) largest)) None) (sym (ap (λ d. d && all digit bs) t))
      | inr f ↦ cond-false (digit b) _ _ f ∙ sym (cond-false (all digit (b ∷ bs)) _ _ (and_left (digit b) (all digit bs) f))
    ]

pub read_whole : (w : List ℕ) → (length w ≡ 0 → ⊥) → read_on 0 w ≡ number_of w
read_whole [] n = absurd (n refl)
read_whole (b ∷ bs) n = read_capped 0 (b ∷ bs)

-- ---- laws

own : IsNumeralModel (λ ds. all digit ds ≡ true) decimal
own = numerals_by_fold _ (search rules) decimal_after (search rules)

number_fits : (w : List ℕ) → 0 < length w → all digit w ≡ true → decimal w < 2 ^ 64 → number_of w ≡ Some (decimal w)
number_fits [] some t h = absurd (omega arith)
number_fits (b ∷ bs) some t h =
    let small : min (decimal (b ∷ bs)) largest ≡ decimal (b ∷ bs) = omega arith in
    cond-true (all digit (b ∷ bs)) _ _ t ∙ ap Some small

pub number_printed : (n : ℕ) → n < 2 ^ 64 → number_of (shown n) ≡ Some n
number_printed n h =
    let back : decimal (shown n) ≡ n = digits_value-decimal own n h in
    number_fits (shown n) (decimal_nonempty n h) (digits_decimal own n h) (omega arith) ∙ ap Some back

pub number_exact : (w : List ℕ) (r : Option ℕ) → r ≡ number_of w → Exact w r
number_exact w r e =
    record {
      fits = λ some t h. e ∙ number_fits w some t h;
      printed = λ n h p. e ∙ ap number_of p ∙ number_printed n h;
    }
