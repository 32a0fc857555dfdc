-- A turn writes one login, if it is listed. Assumes nothing.
use Rattle.std.proofs.Common.{◌≡◌, ℕ, ◌+◌, ◌<◌, true, false, cond, List, [], ◌++◌, length, get_or, drop, is_ok, Option, sym, ap, ◌∙◌, append_assoc}
use Rattle.std.proofs.Output.{has_written_append}
use Rattle.std.proofs.lemmas.Bool.{cond-true, cond-false}
use Rattle.std.proofs.lemmas.List.{at_drop_more}
use Rattle.ledger.specs.declared.report.Listing.{Listing}
use Rattle.ledger.specs.declared.report.Standing.{Standing}
use Rattle.ledger.specs.declared.report.Standing.TheVariants.{Free}
use Rattle.ledger.specs.Report.{is_among, firm_of, entry_text, listed}
use Rattle.ledger.proofs.report.write_listed.Goals.{then-is_among+in_ok-write, else-is_among}
use Rattle.ledger.proofs.report.write_listed.Goals as goal

module _ (listing : Listing) (ss : List Standing) (i : ℕ) (so whole : List ℕ) (all : so ++ listed listing (i + 1) (drop i ss) ≡ whole) (h : i < length ss) where
  -- the texts of the logins after the i-th
  abbrev others : List ℕ
  others = listed listing (i + 1 + 1) (drop (i + 1) ss)

  turn : so ++ (cond (is_among listing (get_or ss i Free)) (entry_text (i + 1) (firm_of (get_or ss i Free))) [] ++ others) ≡ whole
  turn = ap (λ rest. so ++ rest) (sym (at_drop_more (listed listing (i + 1)) ss i Free h)) ∙ all

  written : (firm : Option ℕ) → firm ≡ firm_of (get_or ss i Free) → is_among listing (get_or ss i Free) ≡ true → (so ++ entry_text (i + 1) firm) ++ others ≡ whole
  written firm e t =
      append_assoc so _ others ∙ ap (λ o. so ++ (entry_text (i + 1) o ++ others)) e ∙ ap (λ text. so ++ (text ++ others)) (sym (cond-true (is_among listing (get_or ss i Free)) _ [] t)) ∙ turn

  passed : is_among listing (get_or ss i Free) ≡ false → so ++ others ≡ whole
  passed f = ap (λ text. so ++ (text ++ others)) (sym (cond-false (is_among listing (get_or ss i Free)) (entry_text (i + 1) (firm_of (get_or ss i Free))) [] f)) ∙ turn

pub loop-place-preserved : goal.loop-place-preserved
loop-place-preserved g c plain =
    let v = c.loop-place.invariant plain in
    elim c.if-is_among.branch [
      | then-is_among+in_ok-write w ↦
          rw w.f-is (v.0 ++ entry_text (c.loop-place.place + 1) w.acronym.result, has_written_append g.W.Write.write_str_gives _ _ _ _ _ v.1 (w.write.ensures.writes v.1.plain (ap is_ok w.in_ok-write.was)), written c.args.listing c.args.standings.now c.loop-place.place v.0 _ v.2 c.loop-place-test.true _ w.acronym.ensures (sym w.if-is_among.ensures))
      | else-is_among w ↦
          rw w.f-is (v.0, v.1, passed c.args.listing c.args.standings.now c.loop-place.place v.0 _ v.2 c.loop-place-test.true (sym w.if-is_among.ensures))
    ]
