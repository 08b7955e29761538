-- The rows of a report that are told with details, and the details that are left before them.
use Rattle.std.proofs.Common.{◌≡◌, ◌∙◌, ℕ, List, [], ◌∷◌, length, map, Bool, true, false, Option, None, refl, ap, nat_lt}
use Rattle.std.specs.Prelude.{filter_map, if◌then◌else◌}
use Rattle.pc_tree.specs.declared.code.Finding.{Finding}
use Rattle.pc_tree.specs.Tree.{Module}
use Rattle.pc_report.specs.declared.report.Row.{Row}
use Rattle.pc_report.specs.Report.{IsInOrder, row_findings}
use Rattle.pc_details.specs.Listed.{FindingsDiffer, ListedDetail, listed_of}
use Rattle.pc_top.specs.declared.detailed.DetailedReport.{DetailedReport}
use Rattle.pc_top.specs.declared.detailed.PlacedDetail.{PlacedDetail}
use Rattle.pc_top.specs.DetailedBytes.{details_in}
use Rattle.pc_top.specs.DetailedTexts.{detail_in}
use Rattle.pc_top.specs.DetailsWithin.{DetailedWithin, told_rows, told_within}
use Rattle.pc_top.specs.PrintedDetails.{AreLeft, listed_by}
use Rattle.pc_top.proofs.DetailsLeft.{told_alike}
use Rattle.pc_top.proofs.ExplainedFindings.{distinct_in_order}

-- findings that differ do so among the rows that are told, whether these are none or all
told_differ : (many : Bool) (rows : List Row) → FindingsDiffer (row_findings rows)
    → FindingsDiffer (row_findings (if many then [] else rows))
told_differ true rows apart = distinct_in_order [] tt
told_differ false rows apart = apart

-- the findings of the told ones of rows in order differ
pub told_in_order : (limit : ℕ) (rows : List Row) → IsInOrder (row_findings rows)
    → FindingsDiffer (row_findings (told_rows limit rows))
told_in_order limit rows sorted =
    told_differ (nat_lt limit (length rows)) rows (distinct_in_order (row_findings rows) sorted)

-- where nothing is told, no finding has a detail
none_listed : (findings : List Finding) → [] ≡ filter_map (listed_by (λ f. None)) findings
none_listed [] = refl
none_listed (f ∷ findings) = none_listed findings

module _ (m : Module) (rows : List Row) (details : List PlacedDetail) where
  -- the details are those that are told, whether there are too many rows for them or not
  exactly_told : (many : Bool) → map listed_of (map (λ (p : PlacedDetail). p.detailed) details)
      ≡ details_in m (row_findings (if many then [] else rows))
      → map listed_of (map (λ (p : PlacedDetail). p.detailed) details)
      ≡ filter_map (listed_by (λ f. if many then None else detail_in m f)) (row_findings rows)
  exactly_told true exact = exact ∙ none_listed (row_findings rows)
  exactly_told false exact = exact
      ∙ ap (λ (g : Finding → Option ListedDetail). filter_map g (row_findings rows)) (λ i f. told_alike m f i)

-- at first, all details that are told are left
pub all_left_within : (bytes : List ℕ) (limit : ℕ) (report : DetailedReport) (h : DetailedWithin bytes limit report)
    → AreLeft bytes (told_within limit (length report.report) (detail_in h.headline.whole)) (row_findings report.report)
    report.details.items
all_left_within bytes limit report h = record {
  apart = distinct_in_order (row_findings report.report) h.headline.listed.sorted;
  exact = exactly_told h.headline.whole report.report report.details.items (nat_lt limit (length report.report)) h.exact;
  placed = h.placed;
}
