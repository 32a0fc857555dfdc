-- A line is laid out as its words, and as no others. Assumes nothing.
use Rattle.std.proofs.Common.{◌≡◌, ℕ, true, false, not, List, [], ◌∷◌, ◌++◌, sym, refl, ap, ◌∙◌, subst, inl, inr}
use Rattle.std.proofs.lemmas.Bool.{cases_Bool, cond-true, cond-false, and_parts, and_from, not_from_false, both_ways}
use Rattle.script.specs.Words.{blank, ends, plain, all, begins, glued, words, is_word, over, Laid, Parted}
use Rattle.script.proofs.Words.{plain_no_blank, words_past_blank, words_in_word, word_taken}

-- ---- a line is laid out as its words

gap_longer : (b : ℕ) (xs : List ℕ) (ws : List (List ℕ)) → blank b ≡ true → Laid xs ws → Laid (b ∷ xs) ws
gap_longer b xs [] t l = (b ∷ l.0, l.1, ap (λ ys. b ∷ ys) l.2, and_from (blank b) (all blank l.0) t l.3, l.4)
gap_longer b xs (w ∷ ws) t l =
    (b ∷ l.0, l.1, ap (λ ys. b ∷ ys) l.2, and_from (blank b) (all blank l.0) t l.3, l.4, l.5, l.6)

no_gap : (gap xs ys : List ℕ) → xs ≡ gap ++ ys → all blank gap ≡ true → begins xs ≡ true → gap ≡ []
no_gap [] xs ys e t p = refl
no_gap (g ∷ gs) xs ys e t p =
    absurd (both_ways (blank g) (plain_no_blank g (sym (ap begins e) ∙ p)) (and_parts (blank g) (all blank gs) t).0)

word_longer : (b : ℕ) (w : List ℕ) → plain b ≡ true → is_word w ≡ true → is_word (b ∷ w) ≡ true
word_longer b [] p t = absurd (both_ways false refl t)
word_longer b (c ∷ cs) p t = and_from (plain b) (all plain (c ∷ cs)) p t

first_longer : (b : ℕ) (xs w : List ℕ) (ws : List (List ℕ)) → plain b ≡ true → begins xs ≡ true → Laid xs (w ∷ ws) → Laid (b ∷ xs) ((b ∷ w) ∷ ws)
first_longer b xs w ws p u l =
    let close : l.0 ≡ [] = no_gap l.0 xs (w ++ l.1) l.2 l.3 u in
    ([], l.1, ap (λ ys. b ∷ ys) (l.2 ∙ ap (λ gap. gap ++ (w ++ l.1)) close), refl, word_longer b w p l.4, l.5, l.6)

laid_in_word : (b : ℕ) (bs : List ℕ) → plain b ≡ true → Laid bs (words bs) → Laid (b ∷ bs) (words (b ∷ bs))
laid_in_word b bs p l =
    elim (cases_Bool (begins bs)) [
      | inl u ↦
          subst (Laid (b ∷ bs)) (sym (words_in_word b bs p ∙ cond-true (begins bs) _ _ u ∙ ap (glued b) (word_taken bs u))) (first_longer b bs _ _ p u (subst (Laid bs) (word_taken bs u) l))
      | inr f ↦
          subst (Laid (b ∷ bs)) (sym (words_in_word b bs p ∙ cond-false (begins bs) _ _ f)) ([], bs, refl, refl, and_from (plain b) true p refl, f, l)
    ]

laid_as_words : (xs : List ℕ) → Laid xs (words xs)
laid_as_words [] = ([], [], refl, refl, refl)
laid_as_words (b ∷ bs) =
    elim (cases_Bool (ends b)) [
      | inl e ↦ subst (Laid (b ∷ bs)) (sym (cond-true (ends b) _ _ e)) ([], b ∷ bs, refl, refl, e)
      | inr n ↦
          elim (cases_Bool (blank b)) [
            | inl t ↦ subst (Laid (b ∷ bs)) (sym (words_past_blank b bs t)) (gap_longer b bs (words bs) t (laid_as_words bs))
            | inr f ↦
                laid_in_word b bs (and_from (not (ends b)) (not (blank b)) (not_from_false (ends b) n) (not_from_false (blank b) f)) (laid_as_words bs)
          ]
    ]

-- ---- it is laid out as no others

gap_passed : (gap xs : List ℕ) → all blank gap ≡ true → words (gap ++ xs) ≡ words xs
gap_passed [] xs t = refl
gap_passed (g ∷ gs) xs t =
    let both = and_parts (blank g) (all blank gs) t in
    words_past_blank g (gs ++ xs) both.0 ∙ gap_passed gs xs both.1

over_no_words : (xs : List ℕ) → over xs ≡ true → words xs ≡ []
over_no_words [] t = refl
over_no_words (b ∷ bs) t = cond-true (ends b) _ _ t

word_first : (w xs : List ℕ) → is_word w ≡ true → begins xs ≡ false → words (w ++ xs) ≡ w ∷ words xs
word_first [] xs t f = absurd (both_ways false refl t)
word_first (b ∷ []) xs t f =
    words_in_word b xs (and_parts (plain b) true t).0 ∙ cond-false (begins xs) _ _ f
word_first (b ∷ c ∷ cs) xs t f =
    let both = and_parts (plain b) (all plain (c ∷ cs)) t in
    words_in_word b ((c ∷ cs) ++ xs) both.0 ∙ cond-true (plain c) _ _ (and_parts (plain c) (all plain cs) both.1).0 ∙ ap (glued b) (word_first (c ∷ cs) xs both.1 f)

no_other_words : (ws : List (List ℕ)) (xs : List ℕ) → Laid xs ws → words xs ≡ ws
no_other_words [] xs l = ap words l.2 ∙ gap_passed l.0 l.1 l.3 ∙ over_no_words l.1 l.4
no_other_words (w ∷ ws) xs l =
    ap words l.2 ∙ gap_passed l.0 (w ++ l.1) l.3 ∙ word_first w l.1 l.4 l.5 ∙ ap (λ vs. w ∷ vs) (no_other_words ws l.1 l.6)

pub parted : (xs : List ℕ) → Parted xs (words xs)
parted xs = record { laid = laid_as_words xs; only = λ vs l. no_other_words vs xs l }
