-- The text of a report is read: its lines are found, and each is parted where it was joined.
use Rattle.std.proofs.Common.{◌≡◌, ◌==◌, ◌<◌, ◌^◌, ◌-◌, ℕ, List, [], ◌∷◌, ◌++◌, length, take, drop, map, codes, decimal}
use Rattle.std.proofs.Common.{Bool, true, false, Option, Some, None, refl, sym, ap, ◌∙◌, append_assoc, arith, subst, inl, inr}
use Rattle.std.specs.Prelude.{option_map, option_and_then, if◌then◌else◌}
use Rattle.std.specs.List.{AllByRecursion, flat_map}
use Rattle.std.specs.Rc.{rc_str_bytes}
use Rattle.std.specs.Str.Parse.{AllDigits, digits_value}
use Rattle.std.proofs.lemmas.Bool.{ne_eqb}
use Rattle.std.proofs.lemmas.Bool.Decides.{eqb_tells}
use Rattle.std.proofs.lemmas.Fmt.{decimal_is_IsNumeral}
use Rattle.std.proofs.lemmas.List.{append-nil, length-append}
use Rattle.std.proofs.Math.Seq.{take-append_seam}
use Rattle.std.specs.Char.{digit_value}
use Rattle.pc_tree.specs.declared.code.Code.{Code}
use Rattle.pc_tree.specs.declared.code.Code.TheVariants.{A1}
use Rattle.pc_tree.specs.Code.{text_of, label_of}
use Rattle.pc_report.specs.declared.flow.FlowTexts.{FlowTexts}
use Rattle.pc_report.specs.declared.format.Format.{Format}
use Rattle.pc_report.specs.declared.report.Row.{Row}
use Rattle.pc_report.specs.Json.{FitsWords}
use Rattle.pc_report.specs.ReadWhole.{texts_of, row_of_text, parted_at}
use Rattle.pc_report.specs.ReadWhole.{types_around_arrow, flow_after, row_in_line, counts_in_line, lines_in, report_in_lines}
use Rattle.pc_report.specs.ReadWhole.{IsPlainText, HasPlainTypes, TextIsReadBack}
use Rattle.pc_report.specs.Report.{shown_flow, flow_text, row_text, errors_of, dynamic_count}
use Rattle.pc_report.proofs.CodeOrder.{code_again}

-- ---- bytes that do not occur

-- a byte does not occur in a list
abbrev Lacks : ℕ → List ℕ → Type 0
Lacks byte bs = AllByRecursion (λ b. (b == byte) ≡ false) bs

lacks_both : (byte : ℕ) (xs ys : List ℕ) → Lacks byte xs → Lacks byte ys → Lacks byte (xs ++ ys)
lacks_both byte [] ys h k = k
lacks_both byte (x ∷ xs) ys h k = (h.0, lacks_both byte xs ys h.1 k)

same_byte : (b : ℕ) → (b == b) ≡ true
same_byte b = elim (eqb_tells b b) [ inl x ↦ x.0 | inr x ↦ absurd (x.1 refl) ]

parted : (byte : ℕ) (xs rest : List ℕ) → Lacks byte xs → parted_at byte (xs ++ byte ∷ rest) ≡ Some (xs, rest)
parted byte [] rest h = rw (same_byte byte) refl
parted byte (x ∷ xs) rest h = rw (h.0, parted byte xs rest h.1) refl

lined : (xs rest : List ℕ) → Lacks 10 xs → lines_in (xs ++ 10 ∷ rest) ≡ xs ∷ lines_in rest
lined [] rest h = refl
lined (x ∷ xs) rest h = rw (h.0, lined xs rest h.1) refl

lacks_digits : (byte : ℕ) → ¬ (digit_value byte < 10) → (ds : List ℕ) → AllDigits 10 ds → Lacks byte ds
lacks_digits byte h [] d = tt
lacks_digits byte h (c ∷ ds) d = (
  ne_eqb c byte (λ same. h (subst (λ x. digit_value x < 10) same d.0)),
  lacks_digits byte h ds d.1,
)

no_colon : ¬ (digit_value 58 < 10)
no_colon h = absurd (omega (arith, h))

no_space : ¬ (digit_value 32 < 10)
no_space h = absurd (omega (arith, h))

no_feed : ¬ (digit_value 10 < 10)
no_feed h = absurd (omega (arith, h))

no_comma : ¬ (digit_value 44 < 10)
no_comma h = absurd (omega (arith, h))

-- the decimal digits of a number are digits, and their value is the number
digits : (n : ℕ) → n < 2 ^ 64 → AllDigits 10 (decimal n)
digits n h = (decimal_is_IsNumeral n h).0.1

again : (n : ℕ) → n < 2 ^ 64 → digits_value 10 (decimal n) ≡ n
again n h = (decimal_is_IsNumeral n h).1

-- ---- codes, labels and types

-- whether a byte does not occur in a list
abbrev lacks : ℕ → List ℕ → Bool
lacks byte [] = true
lacks byte (b ∷ bs) = if b == byte then false else lacks byte bs

lacks_first : (byte b : ℕ) (bs : List ℕ) → (lacks byte bs ≡ true → Lacks byte bs) → (v : Bool) → (b == byte) ≡ v
    → (if v then false else lacks byte bs) ≡ true → Lacks byte (b ∷ bs)
lacks_first byte b bs others true e h = let none : ⊥ = cc in absurd none
lacks_first byte b bs others false e h = (e, others h)

lacks_is : (byte : ℕ) (bs : List ℕ) → lacks byte bs ≡ true → Lacks byte bs
lacks_is byte [] h = tt
lacks_is byte (b ∷ bs) h = lacks_first byte b bs (lacks_is byte bs) (b == byte) refl h

code_spaceless : (c : Code) → lacks 32 (text_of c) ≡ true
code_spaceless A1 = refl
code_spaceless _ = refl

code_lineless : (c : Code) → lacks 10 (text_of c) ≡ true
code_lineless A1 = refl
code_lineless _ = refl

label_spaceless : (c : Code) → lacks 32 (label_of c) ≡ true
label_spaceless A1 = refl
label_spaceless _ = refl

label_lineless : (c : Code) → lacks 10 (label_of c) ≡ true
label_lineless A1 = refl
label_lineless _ = refl

lacks_feed : (bs : List ℕ) → IsPlainText bs → Lacks 10 bs
lacks_feed [] h = tt
lacks_feed (b ∷ bs) h = (ne_eqb b 10 h.0.0, lacks_feed bs h.1)

lacks_arrow : (bs : List ℕ) → IsPlainText bs → Lacks 62 bs
lacks_arrow [] h = tt
lacks_arrow (b ∷ bs) h = (ne_eqb b 62 h.0.1, lacks_arrow bs h.1)

-- a list without a byte is not parted at it
whole : (byte : ℕ) (bs : List ℕ) → Lacks byte bs → parted_at byte bs ≡ None
whole byte [] h = refl
whole byte (b ∷ bs) h = rw (h.0, whole byte bs h.1) refl

without_two : (xs : List ℕ) → take (length (xs ++ 32 ∷ 45 ∷ []) - 2) (xs ++ 32 ∷ 45 ∷ []) ≡ xs
without_two xs =
    let n : length (xs ++ 32 ∷ 45 ∷ []) - 2 ≡ length xs = omega (arith, length-append xs (32 ∷ 45 ∷ [])) in
    ap (λ k. take k (xs ++ 32 ∷ 45 ∷ [])) n ∙ take-append_seam xs (32 ∷ 45 ∷ [])

types_read : (from to : List ℕ) → Lacks 62 from → types_around_arrow (from ++ (codes " -> " ++ to)) ≡ Some (from, to)
types_read from to h =
    let front : Lacks 62 (from ++ 32 ∷ 45 ∷ []) = lacks_both 62 from (32 ∷ 45 ∷ []) h (refl, (refl, tt)) in
    ap types_around_arrow (sym (append_assoc from (32 ∷ 45 ∷ []) (62 ∷ 32 ∷ to)))
    ∙ ap (option_map (λ (parts : List ℕ × List ℕ). (take (length parts.0 - 2) parts.0, drop 1 parts.1)))
    (parted 62 (from ++ 32 ∷ 45 ∷ []) (32 ∷ to) front)
    ∙ ap (λ x. Some (x, to)) (without_two from)

flow_read : (label : List ℕ) (flow : Option FlowTexts) → Lacks 32 label → HasPlainTypes flow
    → flow_after (label ++ flow_text flow) ≡ option_map texts_of flow
flow_read label None h k = ap (λ x. option_and_then (λ (parts : List ℕ × List ℕ). types_around_arrow parts.1) x)
    (ap (parted_at 32) (append-nil label) ∙ whole 32 label h)
flow_read label (Some flow) h k = ap (λ x. option_and_then (λ (parts : List ℕ × List ℕ). types_around_arrow parts.1) x)
    (parted 32 label (rc_str_bytes flow.from ++ (codes " -> " ++ rc_str_bytes flow.to)) h)
    ∙ types_read (rc_str_bytes flow.from) (rc_str_bytes flow.to) (lacks_arrow (rc_str_bytes flow.from) k.0)

flow_lineless : (flow : Option FlowTexts) → HasPlainTypes flow → Lacks 10 (flow_text flow)
flow_lineless None h = tt
flow_lineless (Some flow) h = (
  refl,
  lacks_both 10 (rc_str_bytes flow.from) (codes " -> " ++ rc_str_bytes flow.to)
      (lacks_feed (rc_str_bytes flow.from) h.0)
      (refl, (refl, (refl, (refl, lacks_feed (rc_str_bytes flow.to) h.1)))),
)

-- ---- a row

module _ (format : Format) (row : Row) (fits : FitsWords row) (plain : HasPlainTypes (shown_flow format row)) where
  abbrev code : Code
  code = row.finding.code

  -- the text of a row after its code: its label, and its flow if it is shown
  abbrev ending : List ℕ
  ending = label_of code ++ flow_text (shown_flow format row)

  row_read : row_in_line (row_text format row) ≡ Some (row_of_text format row)
  row_read = rw (
    parted 58 (decimal row.line) (decimal row.column ++ 32 ∷ (text_of code ++ 32 ∷ ending))
        (lacks_digits 58 no_colon (decimal row.line) (digits row.line fits.0)),
    parted 32 (decimal row.column) (text_of code ++ 32 ∷ ending)
        (lacks_digits 32 no_space (decimal row.column) (digits row.column fits.1)),
    parted 32 (text_of code) ending (lacks_is 32 (text_of code) (code_spaceless code)),
    code_again code,
    again row.line fits.0,
    again row.column fits.1,
    flow_read (label_of code) (shown_flow format row) (lacks_is 32 (label_of code) (label_spaceless code)) plain,
  ) refl

  row_lineless : Lacks 10 (row_text format row)
  row_lineless = lacks_both 10 (decimal row.line) _
      (lacks_digits 10 no_feed (decimal row.line) (digits row.line fits.0)) (
        refl,
        lacks_both 10 (decimal row.column) _
            (lacks_digits 10 no_feed (decimal row.column) (digits row.column fits.1)) (
              refl,
              lacks_both 10 (text_of code) _ (lacks_is 10 (text_of code) (code_lineless code)) (
                refl,
                lacks_both 10 (label_of code) _ (lacks_is 10 (label_of code) (label_lineless code))
                    (flow_lineless (shown_flow format row) plain),
              ),
            ),
      )

-- ---- the last line

abbrev last_line : ℕ → ℕ → List ℕ
last_line errors dynamic = codes "errors " ++ (decimal errors ++ (codes ", dynamic " ++ decimal dynamic))

counts_read : (errors dynamic : ℕ) → errors < 2 ^ 64 → dynamic < 2 ^ 64
    → counts_in_line (last_line errors dynamic) ≡ Some (errors, dynamic)
counts_read errors dynamic h k = rw (
  parted 44 (decimal errors) (codes " dynamic " ++ decimal dynamic)
      (lacks_digits 44 no_comma (decimal errors) (digits errors h)),
  again errors h,
  again dynamic k,
) refl

last_lineless : (errors dynamic : ℕ) → errors < 2 ^ 64 → dynamic < 2 ^ 64 → Lacks 10 (last_line errors dynamic)
last_lineless errors dynamic h k = lacks_both 10 (codes "errors ") _ (lacks_is 10 (codes "errors ") refl)
    (lacks_both 10 (decimal errors) _ (lacks_digits 10 no_feed (decimal errors) (digits errors h))
    (lacks_both 10 (codes ", dynamic ") _ (lacks_is 10 (codes ", dynamic ") refl)
    (lacks_digits 10 no_feed (decimal dynamic) (digits dynamic k))))

-- ---- the report

module _ (format : Format) where
  joined : (row rest last : List ℕ) → ((row ++ 10 ∷ []) ++ rest) ++ last ≡ row ++ 10 ∷ (rest ++ last)
  joined row rest last = simp append_assoc

  lines_found : (last : List ℕ) → Lacks 10 last → (rows : List Row) → AllByRecursion FitsWords rows
      → AllByRecursion (λ row. HasPlainTypes (shown_flow format row)) rows
      → lines_in (flat_map (λ row. row_text format row ++ 10 ∷ []) rows ++ (last ++ 10 ∷ []))
      ≡ map (row_text format) rows ++ last ∷ []
  lines_found last h [] fits plain = lined last [] h
  lines_found last h (row ∷ rows) fits plain =
      ap lines_in (joined (row_text format row) (flat_map (λ r. row_text format r ++ 10 ∷ []) rows) (last ++ 10 ∷ []))
      ∙ lined (row_text format row) _ (row_lineless format row fits.0 plain.0)
      ∙ ap (λ ls. row_text format row ∷ ls) (lines_found last h rows fits.1 plain.1)

  rows_read : (errors dynamic : ℕ) → errors < 2 ^ 64 → dynamic < 2 ^ 64 → (rows : List Row)
      → AllByRecursion FitsWords rows → AllByRecursion (λ row. HasPlainTypes (shown_flow format row)) rows
      → report_in_lines (map (row_text format) rows ++ last_line errors dynamic ∷ [])
      ≡ Some (record { rows = map (row_of_text format) rows; errors = errors; dynamic = dynamic })
  rows_read errors dynamic h k [] fits plain = rw (counts_read errors dynamic h k) refl
  rows_read errors dynamic h k (row ∷ []) fits plain = rw (
    row_read format row fits.0 plain.0,
    counts_read errors dynamic h k,
  ) refl
  rows_read errors dynamic h k (row ∷ next ∷ rows) fits plain = rw (
    row_read format row fits.0 plain.0,
    rows_read errors dynamic h k (next ∷ rows) fits.1 plain.1,
  ) refl

ended : (errors dynamic : ℕ) → codes "errors "
    ++ (decimal errors ++ (codes ", dynamic " ++ (decimal dynamic ++ 10 ∷ [])))
    ≡ last_line errors dynamic ++ 10 ∷ []
ended errors dynamic = parts (codes "errors ") (decimal errors) (codes ", dynamic ") (decimal dynamic)
  where
    parts : (a b c d : List ℕ) → a ++ (b ++ (c ++ (d ++ 10 ∷ []))) ≡ (a ++ (b ++ (c ++ d))) ++ 10 ∷ []
    parts a b c d = simp append_assoc

pub text_is_read_back : TextIsReadBack
text_is_read_back format rows fits plain =
    let errors = errors_of rows in
    let dynamic = dynamic_count rows in
    ap (λ last. report_in_lines (lines_in (flat_map (λ row. row_text format row ++ 10 ∷ []) rows ++ last)))
    (ended errors dynamic)
    ∙ ap report_in_lines (lines_found format (last_line errors dynamic)
    (last_lineless errors dynamic fits.errors_fit fits.dynamic_fit) rows fits.rows_fit plain)
    ∙ rows_read format errors dynamic fits.errors_fit fits.dynamic_fit rows fits.rows_fit plain
