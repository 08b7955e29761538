-- The replies to a new text of a document, from the relation of steps.
use Rattle.std.proofs.Common.{◌≡◌, ℕ, ◌<◌, ◌≤◌, List, [], ◌∷◌, length, map, Option, None, Some}
use Rattle.std.proofs.Common.{refl, sym, ap, ap₂, ◌∙◌, inl, inr, Bool, true, false, arith}
use Rattle.std.specs.Prelude.{codes, option_map}
use Rattle.serde_json.specs.Data.{Data}
use Rattle.pc_source.specs.declared.fault.Refusal.{Refusal}
use Rattle.pc_source.specs.declared.fault.RefusalCode.TheVariants.{S1}
use Rattle.pc_source.specs.declared.place.Place.{Place}
use Rattle.pc_source.specs.Text.{source_limit}
use Rattle.pc_front.specs.Bytes.{IsRefusalOf, of_source}
use Rattle.pc_front.proofs.OneRefusal.{one_refusal}
use Rattle.pc_detail_texts.specs.Details.{Detail}
use Rattle.pc_detail_texts.specs.Sentences.{Words}
use Rattle.pc_report.specs.declared.report.Row.{Row}
use Rattle.pc_report.specs.Report.{row_flow}
use Rattle.pc_top.specs.DetailedTexts.{detail_in}
use Rattle.pc_top.specs.Headline.{Headline}
use Rattle.pc_top.proofs.ExplainedFindings.{details_told_of}
use Rattle.pc_documents.specs.declared.checker.FlowTypes.{FlowTypes}
use Rattle.pc_documents.specs.declared.checker.CheckOutcome.{CheckOutcome}
use Rattle.pc_documents.specs.declared.checker.CheckOutcome.TheVariants.{Items, Refused}
use Rattle.pc_documents.specs.declared.checker.ReportedFinding.{ReportedFinding}
use Rattle.pc_documents.specs.declared.checker.ToldDetail.{ToldDetail}
use Rattle.pc_session.specs.declared.session.Stage.TheVariants.{Running}
use Rattle.pc_documents.specs.Anchors.{anchor_of, entry_at}
use Rattle.pc_documents.specs.Checked.{IsChecked, AreDiagnostics, is_sent}
use Rattle.pc_session.specs.Publications.{IsSentWhere}
use Rattle.pc_documents.specs.Diagnostics.{item_data, found_data, meaning_with_types, message_text, range_data, severity_of}
use Rattle.pc_documents.specs.Diagnostics.{related_to, related_data, diagnostic_data, refusal_data, limited}
use Rattle.pc_documents.specs.Said.{told_by}
use Rattle.pc_documents.specs.Documents.{document_at}
use Rattle.pc_session.specs.Messages.{version_in, is_older}
use Rattle.pc_session.specs.Sessions.{Step, IsKept, opened_in, changed_in}
use Rattle.pc_documents.specs.Agreed.{Agreed}
use Rattle.pc_session.specs.States.{State}
use Rattle.pc_documents.specs.Documents.{OpenDocument}
use Rattle.pc_tree.specs.declared.code.Code.{Code}
use Rattle.pc_tree.specs.declared.code.Finding.{Finding}
use Rattle.pc_tree.specs.Code.{text_of}
use Rattle.pc_checked_session.specs.Found.{Said, flow_type_texts, shown_flow, detail_said, said_by_item}
use Rattle.pc_checked_session.specs.Found.{said_by_row, told_of_rows, IsFoundIn, IsOutcomeOf}
use Rattle.pc_checked_session.specs.Published.{row_meaning, row_message, row_related, row_data, AreOfText, AreOfDocument}
use Rattle.pc_checked_session.specs.Published.{PublishesWhere, IsPublishedOf}
use Rattle.pc_session.specs.Notices.{IsNoticeOf}
use Rattle.pc_session.proofs.Notices.{opened_is_kept, changed_is_kept}

-- ---- rows

abbrev message_said : Code → Option (List ℕ × List ℕ) → Option (List ℕ × List Place) → List ℕ
message_said code types None = row_meaning code types
message_said code types (Some detail) = detail.0

item_meaning : (code : Code) (flow : Option FlowTypes) → meaning_with_types code flow
    ≡ row_meaning code (option_map flow_type_texts flow)
item_meaning code None = refl
item_meaning code (Some flow) = refl

item_message : (code : Code) (flow : Option FlowTypes) (detail : Option ToldDetail) → message_text code flow detail
    ≡ message_said code (option_map flow_type_texts flow) (option_map told_by detail)
item_message code flow None = item_meaning code flow
item_message code flow (Some detail) = refl

message_alike : (code : Code) (types : Option (List ℕ × List ℕ)) (told : Option (Detail Words))
    → row_message code types told ≡ message_said code types (option_map (detail_said code) told)
message_alike code types None = refl
message_alike code types (Some detail) = refl

module _ (agreed : Agreed) (text uri : List ℕ) where
  abbrev related_said : Option (List ℕ × List Place) → Option Data
  related_said None = None
  related_said (Some detail) = related_to agreed text uri detail.1

  item_related : (detail : Option ToldDetail)
      → related_data agreed text uri detail ≡ related_said (option_map told_by detail)
  item_related None = refl
  item_related (Some detail) = refl

  related_alike : (code : Code) (told : Option (Detail Words))
      → row_related agreed text uri told ≡ related_said (option_map (detail_said code) told)
  related_alike code None = refl
  related_alike code (Some detail) = refl

  -- a diagnostic of a finding, by its related information and its message
  abbrev of_finding : Finding → Option Data → List ℕ → Data
  of_finding finding related message = diagnostic_data (entry_at agreed.codes_page (anchor_of finding.code)) related
      (range_data agreed.encoding text finding.place.start finding.place.end)
      (severity_of agreed.dynamic_severity finding.code) (text_of finding.code) message

  -- the diagnostic of what is said at a place
  abbrev said_data : Said → Data
  said_data said = of_finding said.finding (related_said said.detail)
      (message_said said.finding.code said.flow said.detail)

  items_said : (items : List ReportedFinding) → map (item_data agreed text uri) items
      ≡ map said_data (map said_by_item items)
  items_said [] = refl
  items_said (item ∷ items) = ap₂ (λ x xs. x ∷ xs)
      (ap₂ (of_finding item.finding) (item_related item.detail)
      (item_message item.finding.code item.flow item.detail)) (items_said items)

  module _ (told : Finding → Option (Detail Words)) where
    row_said : (row : Row) → said_data (said_by_row told row) ≡ row_data agreed text uri told row
    row_said row = ap₂ (of_finding row.finding) (sym (related_alike row.finding.code (told row.finding)))
        (sym (message_alike row.finding.code (shown_flow (row_flow row)) (told row.finding)))

    rows_said : (rows : List Row) → map said_data (map (said_by_row told) rows)
        ≡ map (row_data agreed text uri told) rows
    rows_said [] = refl
    rows_said (row ∷ rows) = ap₂ (λ x xs. x ∷ xs) (row_said row) (rows_said rows)

    -- items and rows that say the same have the same diagnostics
    same_data : (items : List ReportedFinding) (rows : List Row) → map said_by_item items ≡ map (said_by_row told) rows
        → map (item_data agreed text uri) items ≡ map (row_data agreed text uri told) rows
    same_data items rows same = items_said items ∙ (ap (map said_data) same ∙ rows_said rows)

  of_found : (diagnostics : List Data) (found : CheckOutcome) → IsOutcomeOf text found
      → diagnostics ≡ found_data agreed text uri found → AreOfText agreed text uri diagnostics
  of_found diagnostics (Items items) answers are =
      let told : Finding → Option (Detail Words) = detail_in answers.1.whole in
      inl (record {
        rows = answers.0;
        headline = answers.1;
        told = told;
        tells = details_told_of answers.1.whole;
        are = are ∙ ap limited (same_data (told_of_rows text answers.0 told) items.items answers.0 answers.2);
      })
  of_found diagnostics (Refused refusal) answers are =
      inr (record { refusal = refusal; of_text = answers; are = are })

pub diagnostics_are : (agreed : Agreed) (text uri : List ℕ) (diagnostics : List Data)
    → AreDiagnostics IsFoundIn agreed text uri diagnostics → AreOfText agreed text uri diagnostics
diagnostics_are agreed text uri diagnostics checked =
    of_found agreed text uri diagnostics checked.found checked.finds_it checked.are

-- ---- documents

of_checked : (agreed : Agreed) (text : Option (List ℕ)) (uri : List ℕ) (diagnostics : List Data)
    → IsChecked IsFoundIn agreed text uri diagnostics → AreOfDocument agreed text uri diagnostics
of_checked agreed None uri diagnostics checked = checked
of_checked agreed (Some text) uri diagnostics checked = diagnostics_are agreed text uri diagnostics checked

of_sent : (sent : Bool) (agreed : Agreed) (document : OpenDocument) (replies : List Data)
    → IsSentWhere IsFoundIn agreed sent document replies → PublishesWhere sent agreed document replies
of_sent false agreed document replies none = none
of_sent true agreed document replies sent = record {
  diagnostics = sent.diagnostics;
  of_document = of_checked agreed document.text document.uri sent.diagnostics sent.is_checked;
  are = sent.are;
}

of_kept : (document : OpenDocument) (old new : State) (replies : List Data)
    → IsKept IsFoundIn document old replies new → IsPublishedOf old.agreed document replies
of_kept document old new replies kept =
    of_sent (is_sent old.agreed document) old.agreed document replies kept.published

-- ---- messages

pub opened : (old new : State) (uri bytes : List ℕ) (message : Data) (replies : List Data) → old.stage ≡ Running
    → IsNoticeOf (codes "textDocument/didOpen") uri bytes message → Step IsFoundIn old bytes replies new
    → IsPublishedOf old.agreed (opened_in message uri) replies
opened old new uri bytes message replies running notice step =
    of_kept (opened_in message uri) old new replies
    (opened_is_kept IsFoundIn old new uri bytes message replies running notice step)

pub changed : (old new : State) (uri bytes : List ℕ) (message : Data) (document : OpenDocument) (replies : List Data)
    → old.stage ≡ Running → document_at uri old.documents ≡ Some document
    → is_older (version_in message) document.version ≡ false
    → IsNoticeOf (codes "textDocument/didChange") uri bytes message → Step IsFoundIn old bytes replies new
    → IsPublishedOf old.agreed (changed_in message document) replies
changed old new uri bytes message document replies running was_open in_order notice step =
    of_kept (changed_in message document) old new replies
    (changed_is_kept IsFoundIn old new uri bytes message document replies running was_open in_order notice step)

-- ---- long texts

-- a text over the limit spells no module
none_spelled : (text : List ℕ) (rows : List Row) → source_limit < length text → Headline text rows → ⊥
none_spelled text rows long headline =
    let short : length text ≤ source_limit = headline.spelled.laid_out.lined.text.short in
    omega arith

pub long_texts : (agreed : Agreed) (text uri : List ℕ) (diagnostics : List Data) → source_limit < length text
    → AreOfText agreed text uri diagnostics
    → diagnostics ≡ refusal_data agreed text (record { code = S1; byte = source_limit }) ∷ []
long_texts agreed text uri diagnostics long (inl rows) = absurd (none_spelled text rows.rows long rows.headline)
long_texts agreed text uri diagnostics long (inr alone) =
    let refusal : Refusal = record { code = S1; byte = source_limit } in
    let is : IsRefusalOf text refusal = of_source (long, refl) in
    let same : alone.refusal ≡ refusal = one_refusal text alone.refusal refusal alone.of_text is in
    alone.are ∙ ap (λ r. refusal_data agreed text r ∷ []) same
