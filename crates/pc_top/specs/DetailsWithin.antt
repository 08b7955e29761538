-- The guarantees of a report with details where it has not too many rows. Own rule of the profile.
use Rattle.std.specs.Prelude.{◌≡◌, ℕ, List, [], Option, None, length, map, nat_lt, if◌then◌else◌}
use Rattle.std.specs.List.{AllByRecursion}
use Rattle.pc_tree.specs.declared.code.Finding.{Finding}
use Rattle.pc_detail_texts.specs.Details.{Detail}
use Rattle.pc_detail_texts.specs.Sentences.{Words}
use Rattle.pc_report.specs.declared.report.Row.{Row}
use Rattle.pc_report.specs.Report.{row_findings}
use Rattle.pc_details.specs.Listed.{listed_of}
use Rattle.pc_top.specs.declared.detailed.DetailedReport.{DetailedReport}
use Rattle.pc_top.specs.DetailedBytes.{ExplainsFinding, HasOtherPositions, details_held, details_in}
use Rattle.pc_top.specs.Headline.{Headline}

-- the rows that are told with details: all of them; none if there are more than `limit`
abbrev pub told_rows : ℕ → List Row → List Row
told_rows limit rows = if nat_lt limit (length rows) then [] else rows

-- the detail that a finding of so many rows is told: its own; none if there are more than `limit` rows
abbrev pub told_within : ℕ → ℕ → (Finding → Option (Detail Words)) → Finding → Option (Detail Words)
told_within limit count told finding = if nat_lt limit count then None else told finding

-- the guarantees of a report with details within a limit: those of a report; its details are exactly those of the findings
-- of its rows, or none if there are more than `limit` rows; each has the positions of the other places that it names; and
-- each detail explains its finding
pub record DetailedWithin (bytes : List ℕ) (limit : ℕ) (report : DetailedReport) : Type 0 where
  pub headline : Headline bytes report.report
  pub exact : map listed_of (details_held report)
      ≡ details_in headline.whole (row_findings (told_rows limit report.report))
  pub placed : AllByRecursion (HasOtherPositions bytes) report.details.items
  pub explained : AllByRecursion (ExplainsFinding headline.whole (row_findings (told_rows limit report.report)))
      (details_held report)
