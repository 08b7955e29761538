-- The value of a report is read whole.
use Rattle.std.proofs.Common.{◌≡◌, ℕ, List, [], ◌∷◌, map, Option, Some, None, refl, ap, ap₂, ◌∙◌}
use Rattle.std.specs.Prelude.{option_map, option_and_then}
use Rattle.serde_json.specs.Data.{object}
use Rattle.pc_tree.specs.declared.code.Finding.{Finding}
use Rattle.pc_report.specs.declared.flow.FlowTexts.{FlowTexts}
use Rattle.pc_report.specs.declared.format.Format.{Format}
use Rattle.pc_report.specs.declared.report.Row.{Row}
use Rattle.pc_report.specs.Format.{format_number}
use Rattle.pc_report.specs.Json.{finding_members, findings_data, report_data}
use Rattle.pc_report.specs.ReadWhole.{RowOfJson, texts_of, row_in, rows_of_items, report_in, row_of_json, report_of_json}
use Rattle.pc_report.specs.ReadWhole.{JsonIsReadBack}
use Rattle.pc_report.specs.Report.{shown_flow, errors_of, dynamic_count}
use Rattle.pc_report.proofs.Json.{report_read, told}

-- a row of this content
abbrev said : Row → Option (List ℕ × List ℕ) → Finding → RowOfJson
said row flow found = record { finding = found; line = row.line; column = row.column; flow = flow }

row_told : (flow : Option FlowTexts) (row : Row) → row_in (object (finding_members flow row))
    ≡ Some (said row (option_map texts_of flow) row.finding)
row_told None row = ap (option_and_then (λ found. Some (said row None found))) (told None row)
row_told (Some flow) row = ap (option_and_then (λ found. Some (said row (Some (texts_of flow)) found)))
    (told (Some flow) row)

rows_told : (format : Format) (rows : List Row) → rows_of_items (findings_data format rows)
    ≡ Some (map (row_of_json format) rows)
rows_told format [] = refl
rows_told format (row ∷ rows) = ap₂ (λ r rs. option_and_then (λ x. option_map (λ xs. x ∷ xs) rs) r)
    (row_told (shown_flow format row) row) (rows_told format rows)

report_told : (format : Format) (rows : List Row) → report_in (report_data format rows)
    ≡ Some (report_of_json format rows)
report_told format rows = ap (option_and_then (λ rs. Some (record {
  rows = rs;
  errors = errors_of rows;
  dynamic = dynamic_count rows;
  format = format_number format;
}))) (rows_told format rows)

pub json_is_read_back : JsonIsReadBack
json_is_read_back format rows fits =
    ap (option_and_then report_in) (report_read format rows fits.rows_fit fits.dynamic_fit fits.errors_fit)
    ∙ report_told format rows
