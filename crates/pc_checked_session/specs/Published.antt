-- The diagnostics published for the texts of documents, in terms of their reports. Own rule of the server.
use Rattle.std.specs.Prelude.{◌≡◌, ◌⊎◌, ℕ, ◌<◌, Bool, true, false, List, [], ◌∷◌, ◌++◌, length, map, codes}
use Rattle.std.specs.Prelude.{Option, None, Some}
use Rattle.serde_json.specs.Data.{Data}
use Rattle.pc_source.specs.declared.fault.Refusal.{Refusal}
use Rattle.pc_source.specs.declared.fault.RefusalCode.TheVariants.{S1}
use Rattle.pc_source.specs.Text.{source_limit}
use Rattle.pc_tree.specs.declared.code.Code.{Code}
use Rattle.pc_tree.specs.declared.code.Finding.{Finding}
use Rattle.pc_tree.specs.Code.{text_of}
use Rattle.pc_front.specs.Bytes.{IsRefusalOf}
use Rattle.pc_report.specs.declared.report.Row.{Row}
use Rattle.pc_report.specs.Report.{row_flow}
use Rattle.pc_top.specs.Headline.{Headline}
use Rattle.pc_top.specs.DetailedTexts.{TellsDetails}
use Rattle.pc_detail_texts.specs.Details.{Detail}
use Rattle.pc_code_texts.specs.Findings.{meaning_of}
use Rattle.pc_detail_texts.specs.Places.{other_places}
use Rattle.pc_detail_texts.specs.Sentences.{Words, sentence_of}
use Rattle.pc_session.specs.declared.session.Stage.TheVariants.{Running}
use Rattle.pc_documents.specs.Anchors.{anchor_of, entry_at}
use Rattle.pc_documents.specs.Checked.{AreDiagnostics, is_sent}
use Rattle.pc_documents.specs.Diagnostics.{range_data, severity_of, diagnostic_data, refusal_data, unknown_data}
use Rattle.pc_documents.specs.Diagnostics.{limited, related_to}
use Rattle.pc_documents.specs.Documents.{document_at}
use Rattle.pc_session.specs.Messages.{version_in, is_older}
use Rattle.pc_session.specs.Replies.{publish_data}
use Rattle.pc_session.specs.Sessions.{Step, opened_in, changed_in}
use Rattle.pc_documents.specs.Agreed.{Agreed}
use Rattle.pc_documents.specs.Documents.{OpenDocument}
use Rattle.pc_session.specs.States.{State}
use Rattle.pc_checked_session.specs.Found.{shown_flow, told_of_rows, IsFoundIn}
use Rattle.pc_session.specs.Notices.{IsNoticeOf}

-- the meaning of the code of a row, after the two types of its flow
abbrev pub row_meaning : Code → Option (List ℕ × List ℕ) → List ℕ
row_meaning code None = meaning_of code
row_meaning code (Some types) = types.0 ++ (codes " -> " ++ (types.1 ++ (codes ": " ++ meaning_of code)))

-- the message of a row: the sentence of its finding's detail; without one the meaning of its code, after the two types of
-- its flow
abbrev pub row_message : Code → Option (List ℕ × List ℕ) → Option (Detail Words) → List ℕ
row_message code types None = row_meaning code types
row_message code types (Some detail) = sentence_of code detail

-- the related information of a row: the other places that its finding's detail names
abbrev pub row_related : Agreed → List ℕ → List ℕ → Option (Detail Words) → Option Data
row_related agreed text uri None = None
row_related agreed text uri (Some detail) = related_to agreed text uri (other_places detail)

-- the diagnostic of a row of a text's report, at the positions of its place, with the detail that its finding is told; long
-- types of a flow are left out
abbrev pub row_data : Agreed → List ℕ → List ℕ → (Finding → Option (Detail Words)) → Row → Data
row_data agreed text uri told row = diagnostic_data (entry_at agreed.codes_page (anchor_of row.finding.code))
    (row_related agreed text uri (told row.finding))
    (range_data agreed.encoding text row.finding.place.start row.finding.place.end)
    (severity_of agreed.dynamic_severity row.finding.code)
    (text_of row.finding.code) (row_message row.finding.code (shown_flow (row_flow row)) (told row.finding))

-- the diagnostics of the text of the document with this address are exactly the rows of a report for which the headline
-- holds, in order, each with the detail that explains its finding; of too many rows the first ones, without details if the
-- text is long, and a last one that says how many more there are
pub record AreRows (agreed : Agreed) (text uri : List ℕ) (diagnostics : List Data) : Type 0 where
  pub rows : List Row
  pub headline : Headline text rows
  pub told : Finding → Option (Detail Words)
  pub tells : TellsDetails headline.whole told
  pub are : diagnostics ≡ limited (map (row_data agreed text uri (told_of_rows text rows told)) rows)

-- there is exactly one diagnostic, at the character of the byte of the text's refusal
pub record IsRefusalAlone (agreed : Agreed) (text : List ℕ) (diagnostics : List Data) : Type 0 where
  pub refusal : Refusal
  pub of_text : IsRefusalOf text refusal
  pub are : diagnostics ≡ refusal_data agreed text refusal ∷ []

-- the diagnostics of the text of the document with this address: those of its report, or that of its refusal
abbrev pub AreOfText : Agreed → List ℕ → List ℕ → List Data → Type 0
AreOfText agreed text uri diagnostics = AreRows agreed text uri diagnostics ⊎ IsRefusalAlone agreed text diagnostics

-- the diagnostics of a document: those of its text, or one that says that the text is not known
abbrev pub AreOfDocument : Agreed → Option (List ℕ) → List ℕ → List Data → Type 0
AreOfDocument agreed None uri diagnostics = diagnostics ≡ unknown_data ∷ []
AreOfDocument agreed (Some text) uri diagnostics = AreOfText agreed text uri diagnostics

-- exactly one notification, for this document and version, with the diagnostics of its text
pub record Publishes (agreed : Agreed) (document : OpenDocument) (replies : List Data) : Type 0 where
  pub diagnostics : List Data
  pub of_document : AreOfDocument agreed document.text document.uri diagnostics
  pub are : replies ≡ publish_data document.uri document.version diagnostics ∷ []

-- exactly one notification if this is true, else none
abbrev pub PublishesWhere : Bool → Agreed → OpenDocument → List Data → Type 0
PublishesWhere false agreed document replies = replies ≡ []
PublishesWhere true agreed document replies = Publishes agreed document replies

-- the diagnostics published for a document: one notification; none if it is not Python, or the client pulls diagnostics
abbrev pub IsPublishedOf : Agreed → OpenDocument → List Data → Type 0
IsPublishedOf agreed document replies = PublishesWhere (is_sent agreed document) agreed document replies

-- the diagnostics of a text are the rows of its report, or its refusal
abbrev pub DiagnosticsAreRows : Type 0
DiagnosticsAreRows = (agreed : Agreed) (text uri : List ℕ) (diagnostics : List Data)
    → AreDiagnostics IsFoundIn agreed text uri diagnostics → AreOfText agreed text uri diagnostics

-- a text over the limit has one diagnostic, which says so, at the byte of the limit
abbrev pub LongTextsAreRefused : Type 0
LongTextsAreRefused = (agreed : Agreed) (text uri : List ℕ) (diagnostics : List Data) → source_limit < length text
    → AreOfText agreed text uri diagnostics
    → diagnostics ≡ refusal_data agreed text (record { code = S1; byte = source_limit }) ∷ []

-- the replies to `didOpen` in a running session are the diagnostics published for the document that it opens
abbrev pub OpenedTextsArePublished : Type 0
OpenedTextsArePublished = (old new : State) (uri bytes : List ℕ) (message : Data) (replies : List Data)
    → old.stage ≡ Running → IsNoticeOf (codes "textDocument/didOpen") uri bytes message
    → Step IsFoundIn old bytes replies new → IsPublishedOf old.agreed (opened_in message uri) replies

-- the replies to `didChange` of an open document, to a version that is not older, are the diagnostics published for the
-- changed document
abbrev pub ChangedTextsArePublished : Type 0
ChangedTextsArePublished = (old new : State) (uri bytes : List ℕ) (message : Data) (document : OpenDocument)
    (replies : List Data) → old.stage ≡ Running → document_at uri old.documents ≡ Some document
    → is_older (version_in message) document.version ≡ false
    → IsNoticeOf (codes "textDocument/didChange") uri bytes message → Step IsFoundIn old bytes replies new
    → IsPublishedOf old.agreed (changed_in message document) replies
