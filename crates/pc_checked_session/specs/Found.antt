-- The findings of the proved check in a text, and the types that it shows there. Own rule of the server.
use Rattle.std.specs.Prelude.{◌≡◌, ◌⊎◌, ◌++◌, ℕ, nat_lt, ◌||◌, Bool, not, List, length, Option, None, Some, string_bytes, map, option_map}
use Rattle.std.specs.Prelude.{if◌then◌else◌}
use Rattle.std.specs.Rc.{rc_str_bytes}
use Rattle.pc_source.specs.declared.fault.Refusal.{Refusal}
use Rattle.pc_source.specs.declared.place.Place.{Place}
use Rattle.pc_tree.specs.declared.code.Code.{Code}
use Rattle.pc_tree.specs.declared.code.Finding.{Finding}
use Rattle.pc_detail_texts.specs.Details.{Detail}
use Rattle.pc_detail_texts.specs.Places.{other_places}
use Rattle.pc_detail_texts.specs.Sentences.{Words, sentence_of}
use Rattle.pc_detail_texts.specs.Shown.{detail_of_value}
use Rattle.pc_front.specs.Bytes.{IsRefusalOf}
use Rattle.pc_report.specs.declared.flow.FlowTexts.{FlowTexts}
use Rattle.pc_report.specs.declared.report.Row.{Row}
use Rattle.pc_report.specs.Report.{row_flow}
use Rattle.pc_documents.specs.declared.checker.FlowTypes.{FlowTypes}
use Rattle.pc_documents.specs.declared.checker.ReportedFinding.{ReportedFinding}
use Rattle.pc_documents.specs.declared.checker.CheckOutcome.{CheckOutcome}
use Rattle.pc_documents.specs.declared.checker.CheckOutcome.TheVariants.{Items, Refused}
use Rattle.pc_report.specs.declared.listing.TypeRow.{TypeRow}
use Rattle.pc_report.specs.TypeTexts.{current_text}
use Rattle.pc_documents.specs.CheckerAnswers.{CheckerAnswer, outcome, type_shown}
use Rattle.pc_documents.specs.Diagnostics.{diagnostics_limit}
use Rattle.pc_documents.specs.Said.{told_by}
use Rattle.pc_top.specs.declared.detailed.PlacedDetail.{PlacedDetail}
use Rattle.pc_top.specs.DetailedTexts.{detail_in}
use Rattle.pc_top.specs.DetailsWithin.{told_within}
use Rattle.pc_top.specs.Headline.{Headline}
use Rattle.pc_top.specs.TypesOfBytes.{IsTypeAt}

-- the content of a row: a finding, the texts of the two types of its flow, and the sentence of its detail with the other
-- places that the detail names, if it has them
pub record Said : Type 0 where
  pub finding : Finding
  pub flow : Option (List ℕ × List ℕ)
  pub detail : Option (List ℕ × List Place)

-- the greatest length in bytes of a type's text that is shown
abbrev pub shown_limit : ℕ
shown_limit = 200

-- whether the texts of two types are short enough to be shown: neither is over the limit
abbrev pub are_shown : List ℕ → List ℕ → Bool
are_shown from to = not (nat_lt shown_limit (length from) || nat_lt shown_limit (length to))

-- the texts of the two types of a flow, if they are short enough to be shown
abbrev pub shown : List ℕ → List ℕ → Option (List ℕ × List ℕ)
shown from to = if are_shown from to then Some (from, to) else None

-- the texts of the two types of a row's flow, if it has one and they are short enough
abbrev pub shown_flow : Option FlowTexts → Option (List ℕ × List ℕ)
shown_flow None = None
shown_flow (Some texts) = shown (rc_str_bytes texts.from) (rc_str_bytes texts.to)

-- the sentence of a detail of a finding with this code, and the other places that the detail names
abbrev pub detail_said : Code → Detail Words → List ℕ × List Place
detail_said code detail = (sentence_of code detail, other_places detail)

-- the same of a detail that a report holds
abbrev pub held_said : Code → PlacedDetail → List ℕ × List Place
held_said code held = detail_said code (detail_of_value held.detailed.detail)

-- the content of a row, given that of its detail
abbrev pub said_with : Option (List ℕ × List Place) → Row → Said
said_with detail row = record { finding = row.finding; flow = shown_flow (row_flow row); detail = detail }

-- the content of a row, with the detail that its finding is told
abbrev pub said_by_row : (Finding → Option (Detail Words)) → Row → Said
said_by_row told row = said_with (option_map (detail_said row.finding.code) (told row.finding)) row

-- the length in bytes up to which a text has the details of all its findings
abbrev pub whole_length : ℕ
whole_length = 262144

-- the greatest number of rows of a text whose details are told: any number that a word holds for a text of that length,
-- and as many as there may be diagnostics for a longer one
abbrev pub told_limit : List ℕ → ℕ
told_limit text = if nat_lt whole_length (length text) then diagnostics_limit else 18446744073709551615

-- the detail that a finding of a text's rows is told: its own; none if there are more rows than its limit
abbrev pub told_of_rows : List ℕ → List Row → (Finding → Option (Detail Words)) → Finding → Option (Detail Words)
told_of_rows text rows = told_within (told_limit text) (length rows)

-- the content of the rows of a text, as far as it is shown
abbrev pub said_by_rows : List ℕ → (Finding → Option (Detail Words)) → List Row → List Said
said_by_rows text told rows = map (said_by_row (told_of_rows text rows told)) rows

-- the texts of the two types of an item's flow
abbrev pub flow_type_texts : FlowTypes → List ℕ × List ℕ
flow_type_texts flow = (string_bytes flow.from, string_bytes flow.to)

-- the content of an item
abbrev pub said_by_item : ReportedFinding → Said
said_by_item item = record {
  finding = item.finding;
  flow = option_map flow_type_texts item.flow;
  detail = option_map told_by item.detail;
}

-- the findings of a text: items with the content, in order, of rows for which the headline holds, with the details of
-- their findings unless the text is long and has too many rows; or its refusal
abbrev pub IsOutcomeOf : List ℕ → CheckOutcome → Type 0
IsOutcomeOf text (Items items) = (rows : List Row) × (headline : Headline text rows)
    × (map said_by_item items.items ≡ said_by_rows text (detail_in headline.whole) rows)
IsOutcomeOf text (Refused refusal) = IsRefusalOf text refusal

-- the types of a row as a text, as `--types` prints them: of an expression its type; of a name its declared type and, if it
-- is another, its current type
abbrev pub types_of_row : TypeRow → List ℕ
types_of_row row = rc_str_bytes row.entry.text ++ current_text row.entry.current

-- the type shown at a byte of a module's text: that of the smallest row around the byte in the listing of its types
pub record IsTypeOf (text : List ℕ) (byte : ℕ) (shown : Option (List ℕ)) : Type 0 where
  pub row : Option TypeRow
  pub is_there : IsTypeAt text byte row
  pub are : shown ≡ option_map types_of_row row

-- no type is shown in a text that is refused
pub record IsRefusedWithoutType (text : List ℕ) (shown : Option (List ℕ)) : Type 0 where
  pub refusal : Refusal
  pub refused : IsRefusalOf text refusal
  pub none : shown ≡ None

-- an answer about a text: its findings or its refusal, or the type that is shown at a byte
abbrev pub IsFoundIn : List ℕ → CheckerAnswer → Type 0
IsFoundIn text (outcome found) = IsOutcomeOf text found
IsFoundIn text (type_shown byte shown) = IsTypeOf text byte shown ⊎ IsRefusedWithoutType text shown
