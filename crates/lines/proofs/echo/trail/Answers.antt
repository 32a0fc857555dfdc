-- A turn writes a space and a word. Assumes nothing.
use Rattle.std.proofs.Common.{◌≡◌, ℕ, List, ◌∷◌, ◌++◌, is_ok, sym, ap, ◌∙◌, append_assoc}
use Rattle.std.proofs.Output.{has_written_append}
use Rattle.lines.specs.Spelling.{trailed}
use Rattle.lines.proofs.echo.trail.Goals as goal

word_written : (so text word : List ℕ) (all rest : List (List ℕ)) (whole : List ℕ) → text ≡ word → all ≡ word ∷ rest → so ++ trailed all ≡ whole → (so ++ (32 ∷ text)) ++ trailed rest ≡ whole
word_written so text word all rest whole t w e =
    append_assoc so (32 ∷ text) (trailed rest) ∙ ap (λ v. so ++ (32 ∷ (v ++ trailed rest))) t ∙ ap (λ ws. so ++ trailed ws) (sym w) ∙ e

pub loop-word-preserved : goal.loop-word-preserved
loop-word-preserved g c plain =
    let i = c.loop-word.invariant plain in
    (i.0 ++ (32 ∷ c.in_ok-text_of.field-0.now), has_written_append g.W.Write.write_str_gives c.args.f.now i.0 c.loop-word.f (32 ∷ c.in_ok-text_of.field-0.now) c.write.new.self i.1 (c.write.ensures.writes i.1.plain (ap is_ok c.in_ok-write.was)), word_written i.0 _ _ _ _ _ c.in_ok-text_of.ensures c.in-Some.ensures.steps i.2)
