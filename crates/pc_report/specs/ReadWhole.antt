-- A report read back whole, from its JSON and from its text. Own rule of the profile.
use Rattle.std.specs.Prelude.{◌≡◌, ◌==◌, ◌≢◌, ◌<◌, ◌^◌, ℕ, List, [], ◌∷◌, Option, None, Some, option_map}
use Rattle.std.specs.Prelude.{option_and_then, MatchOption, ◌-◌, length, take, drop, map, codes, if◌then◌else◌}
use Rattle.std.specs.List.{AllByRecursion}
use Rattle.std.specs.Rc.{rc_str_bytes}
use Rattle.std.specs.Str.Parse.{digits_value}
use Rattle.serde_json.specs.Data.{Data, Items, no_items, item}
use Rattle.serde_json.specs.Find.{get, as_str, as_array}
use Rattle.serde_json.specs.Read.{read}
use Rattle.pc_tree.specs.declared.code.Code.{Code}
use Rattle.pc_tree.specs.declared.code.Finding.{Finding}
use Rattle.pc_report.specs.declared.flow.FlowTexts.{FlowTexts}
use Rattle.pc_report.specs.declared.format.Format.{Format}
use Rattle.pc_report.specs.declared.report.Row.{Row}
use Rattle.pc_report.specs.Format.{format_number}
use Rattle.pc_report.specs.Json.{report_object, FitsWords}
use Rattle.pc_report.specs.ReadBack.{code_of, member_number, finding_in}
use Rattle.pc_report.specs.Report.{shown_flow, errors_of, dynamic_count, report_text}

-- ---- the contents of a report

-- the texts of the two types of a flow
abbrev pub texts_of : FlowTexts → List ℕ × List ℕ
texts_of flow = (rc_str_bytes flow.from, rc_str_bytes flow.to)

-- a row of the JSON: its finding, its line and column, and the two types of its flow, if they are shown
pub record RowOfJson : Type 0 where
  pub finding : Finding
  pub line : ℕ
  pub column : ℕ
  pub flow : Option (List ℕ × List ℕ)

-- the JSON of a report: its rows, the numbers of errors and of dynamic places, and the number of the format
pub record ReportOfJson : Type 0 where
  pub rows : List RowOfJson
  pub errors : ℕ
  pub dynamic : ℕ
  pub format : ℕ

-- a row of the text: its line and column, its code, and the two types of its flow, if they are shown
pub record RowOfText : Type 0 where
  pub line : ℕ
  pub column : ℕ
  pub code : Code
  pub flow : Option (List ℕ × List ℕ)

-- the text of a report: its rows, and the numbers of errors and of dynamic places
pub record ReportOfText : Type 0 where
  pub rows : List RowOfText
  pub errors : ℕ
  pub dynamic : ℕ

-- a row of a report as JSON in this format
abbrev pub row_of_json : Format → Row → RowOfJson
row_of_json format row = record {
  finding = row.finding;
  line = row.line;
  column = row.column;
  flow = option_map texts_of (shown_flow format row);
}

-- the rows of a report as JSON in this format
abbrev pub report_of_json : Format → List Row → ReportOfJson
report_of_json format rows = record {
  rows = map (row_of_json format) rows;
  errors = errors_of rows;
  dynamic = dynamic_count rows;
  format = format_number format;
}

-- a row of a report as text in this format
abbrev pub row_of_text : Format → Row → RowOfText
row_of_text format row = record {
  line = row.line;
  column = row.column;
  code = row.finding.code;
  flow = option_map texts_of (shown_flow format row);
}

-- the rows of a report as text in this format
abbrev pub report_of_text : Format → List Row → ReportOfText
report_of_text format rows = record {
  rows = map (row_of_text format) rows;
  errors = errors_of rows;
  dynamic = dynamic_count rows;
}

-- ---- read from JSON

-- the text in the member of this name
abbrev pub text_at : List ℕ → Data → Option (List ℕ)
text_at name d = option_and_then as_str (get name d)

-- the two types of a flow, if the object has both
abbrev pub flow_in : Data → Option (List ℕ × List ℕ)
flow_in d = option_and_then (λ from. option_map (λ to. (from, to)) (text_at (codes "to") d)) (text_at (codes "from") d)

-- the row read from an object
abbrev pub row_in : Data → Option RowOfJson
row_in d = option_and_then
    (λ found. option_and_then
    (λ line. option_map (λ column. record { finding = found; line = line; column = column; flow = flow_in d })
    (member_number (codes "column") d)) (member_number (codes "line") d)) (finding_in d)

-- the rows read from the items, in order
abbrev pub rows_of_items : Items → Option (List RowOfJson)
rows_of_items no_items = Some []
rows_of_items (item d ds) = option_and_then (λ row. option_map (λ rows. row ∷ rows) (rows_of_items ds)) (row_in d)

-- the report read from a value
abbrev pub report_in : Data → Option ReportOfJson
report_in d = option_and_then
    (λ rows. option_and_then
    (λ errors. option_and_then
    (λ dynamic. option_map (λ format. record { rows = rows; errors = errors; dynamic = dynamic; format = format })
    (member_number (codes "format") d)) (member_number (codes "dynamic") d)) (member_number (codes "errors") d))
    (option_and_then rows_of_items (option_and_then as_array (get (codes "findings") d)))

-- ---- read from text

-- the bytes before the first byte of this value, and those after it
abbrev pub parted_at : ℕ → List ℕ → Option (List ℕ × List ℕ)
parted_at byte [] = None
parted_at byte (b ∷ bs) = if b == byte then Some ([], bs) else option_map (λ parts. (b ∷ parts.0, parts.1))
    (parted_at byte bs)

-- the two types around the first ` -> `
abbrev pub types_around_arrow : List ℕ → Option (List ℕ × List ℕ)
types_around_arrow text = option_map (λ parts. (take (length parts.0 - 2) parts.0, drop 1 parts.1)) (parted_at 62 text)

-- the two types after a label and a space
abbrev pub flow_after : List ℕ → Option (List ℕ × List ℕ)
flow_after rest = option_and_then (λ parts. types_around_arrow parts.1) (parted_at 32 rest)

-- the row read from a line: the line up to a colon, the column and the code each up to a space, and the types that
-- follow the label
abbrev pub row_in_line : List ℕ → Option RowOfText
row_in_line text = option_and_then
    (λ line. option_and_then
    (λ column. option_and_then
    (λ code. option_map (λ c. record {
      line = digits_value 10 line.0;
      column = digits_value 10 column.0;
      code = c;
      flow = flow_after code.1;
    }) (code_of code.0)) (parted_at 32 column.1)) (parted_at 32 line.1)) (parted_at 58 text)

-- the numbers after `errors ` and after `, dynamic `
abbrev pub counts_in_line : List ℕ → Option (ℕ × ℕ)
counts_in_line text = option_map (λ parts. (digits_value 10 parts.0, digits_value 10 (drop 9 parts.1)))
    (parted_at 44 (drop 7 text))

-- one more byte at the front of the first line
abbrev pub onto_first_line : ℕ → List (List ℕ) → List (List ℕ)
onto_first_line b [] = (b ∷ []) ∷ []
onto_first_line b (line ∷ lines) = (b ∷ line) ∷ lines

-- the lines of a text, each without the line feed that ends it
abbrev pub lines_in : List ℕ → List (List ℕ)
lines_in [] = []
lines_in (b ∷ bs) = if b == 10 then [] ∷ lines_in bs else onto_first_line b (lines_in bs)

-- the report read from lines: the last one has the numbers, each before it is a row
abbrev pub report_in_lines : List (List ℕ) → Option ReportOfText
report_in_lines [] = None
report_in_lines (last ∷ []) = option_map (λ counts. record { rows = []; errors = counts.0; dynamic = counts.1 })
    (counts_in_line last)
report_in_lines (line ∷ next ∷ lines) = option_and_then
    (λ row. option_map (λ report. record { rows = row ∷ report.rows; errors = report.errors; dynamic = report.dynamic })
    (report_in_lines (next ∷ lines))) (row_in_line line)

-- ---- the laws

-- the numbers of a report fit 64 bits, as those of the program do
pub record FitsReport (rows : List Row) : Type 0 where
  pub rows_fit : AllByRecursion FitsWords rows
  pub errors_fit : errors_of rows < 2 ^ 64
  pub dynamic_fit : dynamic_count rows < 2 ^ 64

-- a text without a line feed and without `>`, like the text of each type
abbrev pub IsPlainText : List ℕ → Type 0
IsPlainText text = AllByRecursion (λ b. (b ≢ 10) × (b ≢ 62)) text

-- the texts of the types of a flow, if it is shown, have no line feed and no `>`
abbrev pub HasPlainTypes : Option FlowTexts → Type 0
HasPlainTypes shown = MatchOption shown (Unit {0})
    (λ flow. IsPlainText (rc_str_bytes flow.from) × IsPlainText (rc_str_bytes flow.to))

-- the JSON of a report whose numbers fit 64 bits is read back whole: its rows with lines, columns, findings and types,
-- its numbers, and its format
abbrev pub JsonIsReadBack : Type 0
JsonIsReadBack = (format : Format) (rows : List Row) → FitsReport rows
    → option_and_then report_in (read (report_object format rows)) ≡ Some (report_of_json format rows)

-- the text of a report whose numbers fit 64 bits, and whose types hold no line feed and no `>`, is read back: its rows
-- with lines, columns, codes and types, and its numbers
abbrev pub TextIsReadBack : Type 0
TextIsReadBack = (format : Format) (rows : List Row) → FitsReport rows
    → AllByRecursion (λ row. HasPlainTypes (shown_flow format row)) rows
    → report_in_lines (lines_in (report_text format rows)) ≡ Some (report_of_text format rows)
