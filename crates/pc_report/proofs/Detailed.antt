-- The findings of a report with their details, one more.
use Rattle.std.proofs.Common.{◌≡◌, ◌∙◌, ◌<◌, ◌+◌, ℕ, suc, List, [], ◌∷◌, ◌++◌, Option, drop, length, get_or, refl, sym, ap}
use Rattle.std.proofs.Common.{append_assoc, arith}
use Rattle.std.proofs.lemmas.List.{drop_more}
use Rattle.pc_report.specs.declared.detailed_pieces.ShownDetail.{ShownDetail}
use Rattle.pc_report.specs.declared.format.Format.{Format}
use Rattle.pc_report.specs.declared.report.Row.{Row}
use Rattle.pc_report.specs.Detailed.{finding_with_detail, further_findings, detail_at}
use Rattle.pc_report.specs.Report.{shown_flow}

module _ (format : Format) (details : List (Option ShownDetail)) where
  -- the finding with this number, after a comma
  abbrev pub after_comma : ℕ → Row → List ℕ
  after_comma number row = 44 ∷ finding_with_detail (shown_flow format row) (detail_at details number) row

  -- what is left begins with the next finding
  next_left : (rows : List Row) (i : ℕ) (row : Row) → i < length rows → row ≡ get_or rows i row
      → further_findings format details (i + 1) (drop i rows)
      ≡ after_comma (i + 1) row ++ further_findings format details (i + 1 + 1) (drop (i + 1) rows)
  next_left rows i row lt e =
      let same : suc (i + 1) ≡ i + 1 + 1 = omega arith in
      ap (further_findings format details (i + 1)) (drop_more rows i row lt ∙ ap (λ x. x ∷ drop (i + 1) rows) (sym e))
      ∙ ap (λ k. after_comma (i + 1) row ++ further_findings format details k (drop (i + 1) rows)) same

  -- one finding more
  pub finding_more : (rows : List Row) (i : ℕ) (row : Row) (put all : List ℕ) → i < length rows
      → row ≡ get_or rows i row → put ++ further_findings format details (i + 1) (drop i rows) ≡ all
      → (put ++ after_comma (i + 1) row) ++ further_findings format details (i + 1 + 1) (drop (i + 1) rows) ≡ all
  finding_more rows i row put all lt e h =
      append_assoc put (after_comma (i + 1) row) (further_findings format details (i + 1 + 1) (drop (i + 1) rows))
      ∙ ap (λ (l : List ℕ). put ++ l) (sym (next_left rows i row lt e)) ∙ h
