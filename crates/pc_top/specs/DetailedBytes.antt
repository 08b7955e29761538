-- The guarantees of a report with details about the bytes: they are exactly the details of the findings of its rows, and
-- each explains its finding. Own rule of the profile.
use Rattle.std.specs.Prelude.{◌≡◌, ℕ, List, [], map, true, Contains}
use Rattle.std.specs.List.{AllByRecursion}
use Rattle.pc_source.specs.declared.place.Place.{Place}
use Rattle.pc_source.specs.Lines.{line_of, column_of}
use Rattle.pc_tree.specs.declared.code.Finding.{Finding}
use Rattle.pc_tree.specs.Tree.{Module}
use Rattle.pc_detail_texts.specs.Places.{other_places}
use Rattle.pc_detail_texts.specs.Shown.{detail_of_value}
use Rattle.pc_report.specs.Report.{row_findings}
use Rattle.pc_module_rules.specs.Computed.Modules.{module_notes}
use Rattle.pc_details.specs.declared.explained.DetailedFinding.{DetailedFinding}
use Rattle.pc_details.specs.Listed.{ListedDetail, details_told, listed_of}
use Rattle.pc_detail_rules.specs.Explains.{AreWords}
use Rattle.pc_top.specs.declared.detailed.DetailedReport.{DetailedReport}
use Rattle.pc_top.specs.declared.detailed.PlacedDetail.{PlacedDetail}
use Rattle.pc_top.specs.Headline.{Headline}

-- a finding of a list with the detail that explains it, under every lawful labelling of the module, with types as texts
pub record ExplainsFinding (m : Module) (findings : List Finding) (d : DetailedFinding) : Type 0 where
  pub listed : Contains findings d.finding
  pub told : AreWords m d.finding (detail_of_value d.detail)

-- the details of findings of a module, in their order, of each that has one, with types as texts: by the notes of its one
-- lawful labelling
abbrev pub details_in : Module → List Finding → List ListedDetail
details_in m findings = details_told m (module_notes true m []) findings

-- the details of a report
abbrev pub details_held : DetailedReport → List DetailedFinding
details_held report = map (λ d. d.detailed) report.details.items

-- the line and the column of the start of a place
abbrev pub start_position : List ℕ → Place → ℕ × ℕ
start_position source at = (line_of source at.start, column_of source at.start)

-- a detail has the positions of the other places that it names
abbrev pub HasOtherPositions : List ℕ → PlacedDetail → Type 0
HasOtherPositions source p =
    p.others.items ≡ map (start_position source) (other_places (detail_of_value p.detailed.detail))

-- The guarantees of a report with details: those of a report; its details are exactly those of the findings of its rows;
-- each has the positions of the other places that it names; and each detail explains its finding.
pub record DetailedHeadline (bytes : List ℕ) (report : DetailedReport) : Type 0 where
  pub headline : Headline bytes report.report
  pub exact : map listed_of (details_held report) ≡ details_in headline.whole (row_findings report.report)
  pub placed : AllByRecursion (HasOtherPositions bytes) report.details.items
  pub explained : AllByRecursion (ExplainsFinding headline.whole (row_findings report.report)) (details_held report)
