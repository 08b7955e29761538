-- Bytes have one report. Own rule of the profile.
use Rattle.std.specs.Prelude.{◌≡◌, ℕ, List, map, Option, option_map}
use Rattle.std.specs.Rc.{rc_str_bytes}
use Rattle.pc_tree.specs.declared.code.Finding.{Finding}
use Rattle.pc_report.specs.declared.flow.FlowTexts.{FlowTexts}
use Rattle.pc_report.specs.declared.format.Format.{Format}
use Rattle.pc_report.specs.declared.report.Row.{Row}
use Rattle.pc_report.specs.Json.{report_json}
use Rattle.pc_report.specs.Report.{row_flow, report_text}
use Rattle.pc_top.specs.Headline.{Headline}

-- the content of a row: its finding, and the texts of the two types of its flow, if it has one
pub record RowSays : Type 0 where
  pub finding : Finding
  pub flow : Option (List ℕ × List ℕ)

-- the texts of the two types of a flow
abbrev pub texts_of : FlowTexts → List ℕ × List ℕ
texts_of texts = (rc_str_bytes texts.from, rc_str_bytes texts.to)

-- the content of this row
abbrev pub said_by : Row → RowSays
said_by row = record { finding = row.finding; flow = option_map texts_of (row_flow row) }

-- two reports of the same bytes, for which the headline holds, have the same content, row by row
abbrev pub OneReport : Type 0
OneReport = (bytes : List ℕ) (rows others : List Row) → Headline bytes rows → Headline bytes others
    → map said_by rows ≡ map said_by others

-- two reports of the same bytes, for which the headline holds, have the same text and the same JSON, in each format
abbrev pub OneText : Type 0
OneText = (bytes : List ℕ) (rows others : List Row) → Headline bytes rows → Headline bytes others
    → (format : Format)
    → (report_text format rows ≡ report_text format others) × (report_json format rows ≡ report_json format others)
