-- The JSON of a report is the text of its value, is parsed as that value, and gives back its findings.
use Rattle.std.proofs.Common.{◌≡◌, ◌≤◌, ◌<◌, ◌^◌, ℕ, suc, max, List, [], ◌∷◌, ◌++◌, false, Option, Some, None}
use Rattle.std.proofs.Common.{option_map, option_and_then, codes, decimal, refl, ap, ap₂, sym, ◌∙◌, append_assoc}
use Rattle.std.proofs.Common.{append-nil, arith}
use Rattle.std.specs.List.{AllByRecursion, flat_map}
use Rattle.json.specs.Json as json
use Rattle.json.specs.Lex.{tokens}
use Rattle.json.specs.Print.{quoted}
use Rattle.json.specs.Tree as tree
use Rattle.json.specs.Tree.{json_tokens, HasNumbers, ItemsHaveNumbers}
use Rattle.json.proofs.Printed.Decimals.{IsNumber-decimal}
use Rattle.json.proofs.Printed.Tokens.{tokens-print}
use Rattle.json.proofs.Printed.Trees.{value-json_tokens, ArePrintable-json_tokens}
use Rattle.serde_json.proofs.Numbers.{number_of-decimal}
use Rattle.serde_json.proofs.OnLiterals.{serde_json_on_literals}
use Rattle.serde_json.proofs.Texts.{print-outline}
use Rattle.serde_json.specs.Data.{Data, object, item}
use Rattle.serde_json.specs.Read.{read, of_json, of_items}
use Rattle.serde_json.specs.Written.{compact_text, items_text, has_float, outline, items_outline}
use Rattle.pc_tree.specs.declared.code.Code.{Code}
use Rattle.pc_tree.specs.declared.code.Code.TheVariants.{A1}
use Rattle.pc_tree.specs.Code.{finding, text_of}
use Rattle.pc_report.specs.declared.flow.FlowTexts.{FlowTexts}
use Rattle.pc_report.specs.declared.format.Format.{Format}
use Rattle.pc_report.specs.declared.format.Format.TheVariants.{One, Two}
use Rattle.pc_report.specs.declared.report.Row.{Row}
use Rattle.pc_report.specs.Format.{format_number}
use Rattle.pc_report.specs.Report.{row_findings, errors_of, dynamic_count, shown_flow}
use Rattle.pc_report.specs.Json.{finding_json, findings_json, report_object, report_json, finding_members, finding_data}
use Rattle.pc_report.specs.Json.{findings_data, report_data, FitsWords}
use Rattle.pc_report.specs.ReadBack.{finding_in, findings_of_items, findings_in}
use Rattle.pc_report.proofs.CodeOrder.{code_again}

-- ---- the text

code_quoted : (c : Code) → quoted (text_of c) ≡ 34 ∷ (text_of c ++ 34 ∷ [])
unfolding serde_json_on_literals
code_quoted A1 = refl
code_quoted _ = refl

opened : (t rest : List ℕ) → quoted t ≡ 34 ∷ (t ++ 34 ∷ []) → quoted t ++ rest ≡ 34 ∷ (t ++ 34 ∷ rest)
opened t rest e = ap (λ x. x ++ rest) e ∙ ap (λ x. 34 ∷ x) (append_assoc t (34 ∷ []) rest)

finding_is : (flow : Option FlowTexts) (row : Row) → compact_text (object (finding_members flow row)) ≡ finding_json
    flow row
unfolding serde_json_on_literals
finding_is None row = ap (λ x. codes "{\"code\":" ++ x) (opened (text_of row.finding.code) _
    (code_quoted row.finding.code))
finding_is (Some flow) row = ap (λ x. codes "{\"code\":" ++ x)
    (opened (text_of row.finding.code) _ (code_quoted row.finding.code))

findings_are : (format : Format) (rows : List Row) → items_text false (findings_data format rows) ≡ findings_json format
    rows ++ 93 ∷ []
findings_are format [] = refl
findings_are format (row ∷ []) = ap (λ x. x ++ 93 ∷ []) (finding_is (shown_flow format row) row)
findings_are format (row ∷ next ∷ rows) =
    ap₂ (λ x y. x ++ 44 ∷ y) (finding_is (shown_flow format row) row) (findings_are format (next ∷ rows))
    ∙ sym (append_assoc (finding_json (shown_flow format row) row) (44 ∷ findings_json format (next ∷ rows)) (93 ∷ []))

report_is : (format : Format) (rows : List Row) → compact_text (report_data format rows) ≡ report_object format rows
unfolding serde_json_on_literals
report_is format rows =
    ap (λ x. codes "{\"dynamic\":" ++ (decimal (dynamic_count rows)
    ++ (codes ",\"errors\":" ++ (decimal (errors_of rows) ++ (codes ",\"findings\":[" ++ x)))))
    (ap (λ x. x ++ (codes ",\"format\":" ++ (decimal (format_number format) ++ codes "}"))) (findings_are format rows)
    ∙ append_assoc (findings_json format rows) (93 ∷ []) _)

joined : (a b c d e f g h i j : List ℕ) → ((a ++ (b ++ (c ++ (d ++ e)))) ++ f) ++ (g ++ (h ++ (i ++ j)))
    ≡ (a ++ (b ++ (c ++ (d ++ (e ++ (f ++ (g ++ (h ++ i)))))))) ++ j
joined a b c d e f g h i j = simp append_assoc

-- the head, the findings and the tail, written one after another, are the report as JSON
pub report_written : (format : Format) (rows : List Row) (before between after : List ℕ)
    → before ≡ codes "{\"dynamic\":" ++ (decimal (dynamic_count rows)
    ++ (codes ",\"errors\":" ++ (decimal (errors_of rows) ++ codes ",\"findings\":[")))
    → between ≡ before ++ findings_json format rows → after ≡ between
    ++ (codes "],\"format\":" ++ (decimal (format_number format) ++ (codes "}" ++ 10 ∷ [])))
    → after ≡ report_json format rows
report_written format rows before between after a b c =
    c ∙ ap (λ x. x ++ (codes "],\"format\":" ++ (decimal (format_number format) ++ (codes "}" ++ 10 ∷ []))))
    (b ∙ ap (λ x. x ++ findings_json format rows) a)
    ∙ joined (codes "{\"dynamic\":") (decimal (dynamic_count rows)) (codes ",\"errors\":") (decimal (errors_of rows))
    (codes ",\"findings\":[") (findings_json format rows) (codes "],\"format\":") (decimal (format_number format))
    (codes "}") (10 ∷ [])

-- ---- no float

finding_whole : (flow : Option FlowTexts) (row : Row) → has_float (object (finding_members flow row)) ≡ false
finding_whole None row = refl
finding_whole (Some flow) row = refl

-- the text printed for the value of a finding is the finding as JSON
pub finding_printed : (format : Format) (row : Row) (d : Data) (text : List ℕ) → d ≡ finding_data format row
    → (has_float d ≡ false → text ≡ compact_text d) → text ≡ finding_json (shown_flow format row) row
finding_printed format row d text value printed = printed (ap has_float value
    ∙ finding_whole (shown_flow format row) row) ∙ (ap compact_text value ∙ finding_is (shown_flow format row) row)

-- the findings after the first, a comma before each
pub findings_later : (format : Format) (row : Row) (rows : List Row) → findings_json format (row ∷ rows) ≡ finding_json
    (shown_flow format row) row ++ flat_map (λ r. 44 ∷ finding_json (shown_flow format r) r) rows
findings_later format row [] = sym (append-nil (finding_json (shown_flow format row) row))
findings_later format row (next ∷ rows) = ap (λ x. finding_json (shown_flow format row) row ++ 44 ∷ x)
    (findings_later format next rows)

-- ---- the text is read as the value

-- the text of a value whose numbers are read back
reads : (d : Data) → HasNumbers (outline d) → tree.depth (outline d) ≤ 127 → of_json (outline d) ≡ Some d
    → read (compact_text d) ≡ Some d
reads d numbers shallow again =
    let ts = json_tokens (outline d) in
    let printed : tokens (compact_text d) ≡ ts = ap tokens (sym (print-outline d))
    ∙ tokens-print ts (ArePrintable-json_tokens (outline d) numbers) in
    let found : json.value 127 (tokens (compact_text d)) ≡ Some (outline d, []) =
    ap (json.value 127) (printed ∙ sym (append-nil ts)) ∙ value-json_tokens (outline d) 127 [] shallow in
    ap (λ o. option_and_then of_json (option_and_then (λ p. json.if_last p.0 p.1) o)) found ∙ again

finding_numbers : (flow : Option FlowTexts) (row : Row) → FitsWords row
    → HasNumbers (outline (object (finding_members flow row)))
finding_numbers None row h = (
  tt,
  (
    IsNumber-decimal row.column h.1,
    (
      IsNumber-decimal row.finding.place.end h.3,
      (IsNumber-decimal row.line h.0, (IsNumber-decimal row.finding.place.start h.2, tt)),
    ),
  ),
)
finding_numbers (Some flow) row h = (
  tt,
  (
    IsNumber-decimal row.column h.1,
    (
      IsNumber-decimal row.finding.place.end h.3,
      (tt, (IsNumber-decimal row.line h.0, (IsNumber-decimal row.finding.place.start h.2, (tt, tt)))),
    ),
  ),
)

findings_numbers : (format : Format) (rows : List Row) → AllByRecursion FitsWords rows
    → ItemsHaveNumbers (items_outline (findings_data format rows))
findings_numbers format [] h = tt
findings_numbers format (row ∷ rows) h = (
  finding_numbers (shown_flow format row) row h.0,
  findings_numbers format rows
      h.1,
)

finding_depth : (flow : Option FlowTexts) (row : Row) → tree.depth (outline (object (finding_members flow row))) ≡ 1
finding_depth None row = refl
finding_depth (Some flow) row = refl

most : (x y : ℕ) → x ≡ 1 → y ≤ 1 → max x y ≤ 1
most x y a b = omega arith

findings_depth : (format : Format) (rows : List Row) → tree.items_depth (items_outline (findings_data format rows)) ≤ 1
findings_depth format [] = omega arith
findings_depth format (row ∷ rows) = most (tree.depth (outline (finding_data format row)))
    (tree.items_depth (items_outline (findings_data format rows))) (finding_depth (shown_flow format row) row)
    (findings_depth format rows)

shallow : (x : ℕ) → x ≤ 1 → suc (max 0 (max 0 (max (suc x) (max 0 0)))) ≤ 127
shallow x h = omega arith

finding_again : (flow : Option FlowTexts) (row : Row) → FitsWords row
    → of_json (outline (object (finding_members flow row))) ≡ Some (object (finding_members flow row))
finding_again None row h = rw (
  number_of-decimal row.column h.1,
  number_of-decimal row.finding.place.end h.3,
  number_of-decimal row.line h.0,
  number_of-decimal row.finding.place.start h.2,
) refl
finding_again (Some flow) row h = rw (
  number_of-decimal row.column h.1,
  number_of-decimal row.finding.place.end h.3,
  number_of-decimal row.line h.0,
  number_of-decimal row.finding.place.start h.2,
) refl

findings_again : (format : Format) (rows : List Row) → AllByRecursion FitsWords rows
    → of_items (items_outline (findings_data format rows)) ≡ Some (findings_data format rows)
findings_again format [] h = refl
findings_again format (row ∷ rows) h = ap₂ (λ x y. option_and_then (λ d. option_map (item d) y) x)
    (finding_again (shown_flow format row) row h.0) (findings_again format rows h.1)

small : (format : Format) → format_number format < 2 ^ 64
small One = omega arith
small Two = omega arith

pub report_read : (format : Format) (rows : List Row) → AllByRecursion FitsWords rows → dynamic_count rows < 2 ^ 64
    → errors_of rows < 2 ^ 64 → read (report_object format rows) ≡ Some (report_data format rows)
report_read format rows h dynamic errors =
    let d = report_data format rows in
    let numbers : HasNumbers (outline d) = (
      IsNumber-decimal (dynamic_count rows) dynamic,
      (
        IsNumber-decimal (errors_of rows) errors,
        (
          findings_numbers format rows h,
          (IsNumber-decimal (format_number format) (small format), tt),
        ),
      ),
    ) in
    let again : of_json (outline d) ≡ Some d = rw (
      number_of-decimal (dynamic_count rows) dynamic,
      number_of-decimal (errors_of rows) errors,
      findings_again format rows h,
      number_of-decimal (format_number format) (small format),
    ) refl in
    ap read (sym (report_is format rows))
    ∙ reads d numbers (shallow (tree.items_depth (items_outline (findings_data format rows)))
    (findings_depth format rows)) again

-- ---- findings read from a report

pub told : (flow : Option FlowTexts) (row : Row) → finding_in (object (finding_members flow row)) ≡ Some row.finding
told None row = ap (option_map (finding row.finding.place)) (code_again row.finding.code)
told (Some flow) row = ap (option_map (finding row.finding.place)) (code_again row.finding.code)

all_told : (format : Format) (rows : List Row) → findings_of_items (findings_data format rows)
    ≡ Some (row_findings rows)
all_told format [] = refl
all_told format (row ∷ rows) = ap₂ (λ f fs. option_and_then (λ g. option_map (λ gs. g ∷ gs) fs) f)
    (told (shown_flow format row) row) (all_told format rows)

report_told : (format : Format) (rows : List Row) → findings_in (report_data format rows) ≡ Some (row_findings rows)
report_told = all_told

-- the findings are found in the text again
pub report_found : (format : Format) (rows : List Row) → AllByRecursion FitsWords rows → dynamic_count rows < 2 ^ 64
    → errors_of rows < 2 ^ 64 → option_and_then findings_in (read (report_object format rows))
    ≡ Some (row_findings rows)
report_found format rows h dynamic errors = ap (option_and_then findings_in) (report_read format rows h dynamic errors)
    ∙ report_told format rows
