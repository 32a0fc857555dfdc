-- Blanks in front of a text do not matter, and a run of plain bytes is its first word. Assumes nothing.
use Rattle.std.proofs.Common.{◌≡◌, ℕ, suc, Bool, true, false, cond, not, List, [], ◌∷◌, take, drop, sym, refl, ap, ◌∙◌, inl, inr, one-add, arith}
use Rattle.std.specs.List.{prefix_len}
use Rattle.std.proofs.lemmas.Bool.{cases_Bool, cond-true, cond-false, not-true, not-false, and_parts, and_cases, both_ways, ne_eqb}
use Rattle.script.specs.Words.{blank, ends, plain, begins, glued, words}

-- ---- one byte

blank_ends_nothing : (b : ℕ) → blank b ≡ true → ends b ≡ false
blank_ends_nothing b t =
    ne_eqb b 35 (λ e. both_ways (blank b) (ap blank e) t)

plain_ends_nothing : (b : ℕ) → plain b ≡ true → ends b ≡ false
plain_ends_nothing b t = not-true (ends b) (and_parts (not (ends b)) (not (blank b)) t).0

pub plain_no_blank : (b : ℕ) → plain b ≡ true → blank b ≡ false
plain_no_blank b t = not-true (blank b) (and_parts (not (ends b)) (not (blank b)) t).1

neither_ends : (b : ℕ) → plain b ≡ false → blank b ≡ false → ends b ≡ true
neither_ends b p f =
    elim (and_cases (not (ends b)) (not (blank b)) p)
    [ inl e ↦ not-false (ends b) e | inr e ↦ absurd (both_ways (blank b) f (not-false (blank b) e)) ]

-- ---- one byte in front of a text

run_more : (test : ℕ → Bool) (b : ℕ) (bs : List ℕ) → test b ≡ true → prefix_len test (b ∷ bs) ≡ suc (prefix_len test bs)
run_more test b bs t = cond-true (test b) _ _ t ∙ one-add (prefix_len test bs)

run_none : (test : ℕ → Bool) (b : ℕ) (bs : List ℕ) → test b ≡ false → prefix_len test (b ∷ bs) ≡ 0
run_none test b bs f = cond-false (test b) _ _ f

pub words_past_blank : (b : ℕ) (bs : List ℕ) → blank b ≡ true → words (b ∷ bs) ≡ words bs
words_past_blank b bs t = cond-false (ends b) _ _ (blank_ends_nothing b t) ∙ cond-true (blank b) _ _ t

pub words_in_word : (b : ℕ) (bs : List ℕ) → plain b ≡ true → words (b ∷ bs) ≡ cond (begins bs) (glued b (words bs)) ((b ∷ []) ∷ words bs)
words_in_word b bs t = cond-false (ends b) _ _ (plain_ends_nothing b t) ∙ cond-false (blank b) _ _ (plain_no_blank b t)

-- ---- runs

blanks_passed : (xs : List ℕ) → words xs ≡ words (drop (prefix_len blank xs) xs)
blanks_passed [] = refl
blanks_passed (b ∷ bs) =
    elim (cases_Bool (blank b)) [
      | inl t ↦ words_past_blank b bs t ∙ blanks_passed bs ∙ ap (λ n. words (drop n (b ∷ bs))) (sym (run_more blank b bs t))
      | inr f ↦ ap (λ n. words (drop n (b ∷ bs))) (sym (run_none blank b bs f))
    ]

no_blank_after : (xs : List ℕ) → prefix_len blank (drop (prefix_len blank xs) xs) ≡ 0
no_blank_after [] = refl
no_blank_after (b ∷ bs) =
    elim (cases_Bool (blank b)) [
      | inl t ↦ ap (λ n. prefix_len blank (drop n (b ∷ bs))) (run_more blank b bs t) ∙ no_blank_after bs
      | inr f ↦ ap (λ n. prefix_len blank (drop n (b ∷ bs))) (run_none blank b bs f) ∙ run_none blank b bs f
    ]

no_run : (xs : List ℕ) → begins xs ≡ false → prefix_len plain xs ≡ 0
no_run [] f = refl
no_run (b ∷ bs) f = run_none plain b bs f

run_begins : (xs : List ℕ) → (prefix_len plain xs ≡ 0 → ⊥) → begins xs ≡ true
run_begins [] n = absurd (n refl)
run_begins (b ∷ bs) n = elim (cases_Bool (plain b)) [ inl t ↦ t | inr f ↦ absurd (n (run_none plain b bs f)) ]

none_first : (test : ℕ → Bool) (b : ℕ) (bs : List ℕ) → prefix_len test (b ∷ bs) ≡ 0 → test b ≡ false
none_first test b bs z =
    elim (cases_Bool (test b)) [ inl t ↦ absurd (omega (arith, run_more test b bs t)) | inr f ↦ f ]

nothing_left : (xs : List ℕ) → prefix_len blank xs ≡ 0 → prefix_len plain xs ≡ 0 → words xs ≡ []
nothing_left [] y z = refl
nothing_left (b ∷ bs) y z = cond-true (ends b) _ _ (neither_ends b (none_first plain b bs z) (none_first blank b bs y))

-- the first n bytes as a word, and the words after them
abbrev pub cut : ℕ → List ℕ → List (List ℕ)
cut n xs = take n xs ∷ words (drop n xs)

pub word_taken : (xs : List ℕ) → begins xs ≡ true → words xs ≡ cut (prefix_len plain xs) xs
word_taken [] t = absurd (both_ways false refl t)
word_taken (b ∷ bs) t =
    elim (cases_Bool (begins bs)) [
      | inl u ↦
          words_in_word b bs t ∙ cond-true (begins bs) _ _ u ∙ ap (glued b) (word_taken bs u) ∙ ap (λ n. cut n (b ∷ bs)) (sym (run_more plain b bs t))
      | inr f ↦
          words_in_word b bs t ∙ cond-false (begins bs) _ _ f ∙ ap (λ n. cut n (b ∷ bs)) (sym (run_more plain b bs t ∙ ap suc (no_run bs f)))
    ]

-- ---- n blanks stand first, then a text that begins with k bytes of a word

module _ (line text : List ℕ) (n k : ℕ) (blanks : n ≡ prefix_len blank line) (from : text ≡ drop n line) (run : k ≡ prefix_len plain text) where
  past : text ≡ drop (prefix_len blank line) line
  past = from ∙ ap (λ i. drop i line) blanks

  same_words : words line ≡ words text
  same_words = blanks_passed line ∙ ap words (sym past)

  pub no_word : k ≡ 0 → words line ≡ []
  no_word none = same_words ∙ nothing_left text (ap (prefix_len blank) past ∙ no_blank_after line) (sym run ∙ none)

  pub first_word : (word rest : List ℕ) → (k ≡ 0 → ⊥) → word ≡ take k text → rest ≡ drop k text → words line ≡ word ∷ words rest
  first_word word rest some front back =
      same_words ∙ word_taken text (run_begins text (λ none. some (run ∙ none))) ∙ ap (λ i. cut i text) (sym run) ∙ ap (λ w. w ∷ words (drop k text)) (sym front) ∙ ap (λ ys. word ∷ words ys) (sym back)
