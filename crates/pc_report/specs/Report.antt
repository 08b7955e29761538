-- The report of findings: sorted, without repeats, with lines and columns; and its text. Own rule of the profile.
use Rattle.std.specs.Prelude.{◌≡◌, ℕ, Option, None, Some, ◌<◌, ◌⊎◌, List, [], ◌∷◌, ◌++◌, ◌↔◌, map}
use Rattle.std.specs.Prelude.{Contains, codes, count_by, not, option_map, box_value}
use Rattle.std.specs.Rc.{rc_str_bytes}
use Rattle.std.specs.declared.cmp.Ordering.TheVariants.{Less}
use Rattle.std.specs.Ordering.{nat_cmp}
use Rattle.std.specs.Cmp.Lexicographic.{slice_cmp}
use Rattle.std.specs.Fmt.{decimal}
use Rattle.std.specs.List.{AllByRecursion, flat_map}
use Rattle.pc_source.specs.Lines.{line_of, column_of}
use Rattle.pc_tree.specs.declared.code.Finding.{Finding}
use Rattle.pc_tree.specs.Code.{is_error, text_of, label_of}
use Rattle.pc_report.specs.declared.format.Format.{Format}
use Rattle.pc_report.specs.declared.format.Format.TheVariants.{One, Two}
use Rattle.pc_report.specs.declared.flow.FlowTexts.{FlowTexts}
use Rattle.pc_report.specs.declared.report.Row.{Row}
use Rattle.pc_report.specs.Flows.{FlowEntry, IsExplained}

-- one finding is ordered before another: by start, by end, by the text of the code
abbrev pub IsBefore : Finding → Finding → Type 0
IsBefore f g = (f.place.start < g.place.start)
    ⊎ ((f.place.start ≡ g.place.start) × ((f.place.end < g.place.end)
    ⊎ ((f.place.end ≡ g.place.end) × (slice_cmp nat_cmp (text_of f.code) (text_of g.code) ≡ Less))))

-- each finding is ordered before the next, so that none is repeated
abbrev pub IsInOrder : List Finding → Type 0
IsInOrder [] = Unit {0}
IsInOrder (f ∷ []) = Unit {0}
IsInOrder (f ∷ g ∷ fs) = IsBefore f g × IsInOrder (g ∷ fs)

-- the findings of the rows, in their order
abbrev pub row_findings : List Row → List Finding
row_findings rows = map (λ row. row.finding) rows

-- a row has the line and the column of its finding's start
abbrev pub IsPlaced : List ℕ → Row → Type 0
IsPlaced source row = (row.line ≡ line_of source row.finding.place.start)
    × (row.column ≡ column_of source row.finding.place.start)

-- the texts of the flow of a row, out of their box
abbrev pub row_flow : Row → Option FlowTexts
row_flow row = option_map box_value row.flow

-- each row of a flow through `Any` has the texts given for its place, and no other row has texts
abbrev pub ExplainsRows : List FlowEntry → List Row → Type 0
ExplainsRows flows rows = AllByRecursion (λ row. IsExplained flows row.finding (row_flow row)) rows

-- the rows list exactly the findings that satisfy P
pub record Lists (source : List ℕ) (P : Finding → Type 0) (rows : List Row) : Type 0 where
  pub sorted : IsInOrder (row_findings rows)
  pub exact : (f : Finding) → Contains (row_findings rows) f ↔ P f
  pub placed : AllByRecursion (IsPlaced source) rows

-- the flow of a row, if the format shows it
abbrev pub shown_flow : Format → Row → Option FlowTexts
shown_flow One row = None
shown_flow Two row = row_flow row

-- the two types of a flow, if it is shown
abbrev pub flow_text : Option FlowTexts → List ℕ
flow_text None = []
flow_text (Some flow) = 32 ∷ (rc_str_bytes flow.from ++ (codes " -> " ++ rc_str_bytes flow.to))

-- a row's line and column, its code and its label, and its flow if it is shown
abbrev pub row_text : Format → Row → List ℕ
row_text format row = decimal row.line
    ++ (58 ∷ (decimal row.column
    ++ (32 ∷ (text_of row.finding.code ++ (32 ∷ (label_of row.finding.code ++ flow_text (shown_flow format row)))))))

-- the number of rows that are errors
abbrev pub errors_of : List Row → ℕ
errors_of rows = count_by (λ row. is_error row.finding.code) rows

-- the number of rows that are dynamic places
abbrev pub dynamic_count : List Row → ℕ
dynamic_count rows = count_by (λ row. not (is_error row.finding.code)) rows

-- a line for each row, and a last line with the numbers of errors and of dynamic places
abbrev pub report_text : Format → List Row → List ℕ
report_text format rows = flat_map (λ row. row_text format row ++ 10 ∷ []) rows
    ++ (codes "errors " ++ (decimal (errors_of rows)
    ++ (codes ", dynamic " ++ (decimal (dynamic_count rows) ++ 10 ∷ []))))
