-- Where the same is said of a text, its diagnostics and what hover tells are the same.
use Rattle.std.specs.Prelude.{codes, fold, filter, option_map}
use Rattle.std.proofs.Common.{◌≡◌, ℕ, Bool, true, false, cond, List, [], ◌∷◌, ◌++◌, map, Option, None, Some, refl}
use Rattle.std.proofs.Common.{ap, ap₂, sym, ◌∙◌}
use Rattle.serde_json.specs.Data.{Data}
use Rattle.pc_source.specs.declared.place.Place.{Place}
use Rattle.pc_position.specs.declared.positions.Encoding.{Encoding}
use Rattle.pc_position.specs.declared.positions.Position.{Position}
use Rattle.pc_tree.specs.declared.code.Code.{Code}
use Rattle.pc_tree.specs.declared.code.Finding.{Finding}
use Rattle.pc_tree.specs.Code.{text_of, label_of}
use Rattle.pc_code_texts.specs.Findings.{meaning_of, mending_of}
use Rattle.pc_documents.specs.declared.checker.CheckOutcome.{CheckOutcome}
use Rattle.pc_documents.specs.declared.checker.CheckOutcome.TheVariants.{Items, Refused}
use Rattle.pc_documents.specs.declared.checker.FlowTypes.{FlowTypes}
use Rattle.pc_documents.specs.declared.checker.ReportedFinding.{ReportedFinding}
use Rattle.pc_documents.specs.declared.checker.ToldDetail.{ToldDetail}
use Rattle.pc_documents.specs.Agreed.{Agreed}
use Rattle.pc_documents.specs.Anchors.{anchor_of, entry_at}
use Rattle.pc_documents.specs.Diagnostics.{position_at, range_data, severity_of, meaning_with_types, message_text}
use Rattle.pc_documents.specs.Diagnostics.{related_to, related_data, diagnostic_data, item_data, found_data, limited}
use Rattle.pc_documents.specs.Hovers.{has_position, flow_text, told_reason, ruled, said_after, code_block}
use Rattle.pc_documents.specs.Hovers.{with_declaration, hover_text}
use Rattle.pc_documents.specs.Said.{texts_of, told_by, said_by, SayTheSame}
use Rattle.pc_documents.specs.Within.{is_within}

-- a finding, the texts of the two types of its flow, and the sentence and the places of its detail
abbrev Said : Type 0
Said = Finding × Option (List ℕ × List ℕ) × Option (List ℕ × List Place)

-- ---- diagnostics

abbrev meaning_said : Code → Option (List ℕ × List ℕ) → List ℕ
meaning_said code None = meaning_of code
meaning_said code (Some texts) = texts.0 ++ (codes " -> " ++ (texts.1 ++ (codes ": " ++ meaning_of code)))

meaning_same : (code : Code) (flow : Option FlowTypes) → meaning_with_types code flow ≡ meaning_said code (option_map texts_of flow)
meaning_same code None = refl
meaning_same code (Some flow) = refl

abbrev message_said : Code → Option (List ℕ × List ℕ) → Option (List ℕ × List Place) → List ℕ
message_said code flow None = meaning_said code flow
message_said code flow (Some told) = told.0

message_same : (code : Code) (flow : Option FlowTypes) (detail : Option ToldDetail)
    → message_text code flow detail ≡ message_said code (option_map texts_of flow) (option_map told_by detail)
message_same code flow None = meaning_same code flow
message_same code flow (Some detail) = refl

module _ (agreed : Agreed) (text uri : List ℕ) where
  abbrev related_said : Option (List ℕ × List Place) → Option Data
  related_said None = None
  related_said (Some told) = related_to agreed text uri told.1

  related_same : (detail : Option ToldDetail)
      → related_data agreed text uri detail ≡ related_said (option_map told_by detail)
  related_same None = refl
  related_same (Some detail) = refl

  abbrev of_finding : Finding → Option Data → List ℕ → Data
  of_finding finding related message = diagnostic_data (entry_at agreed.codes_page (anchor_of finding.code)) related
      (range_data agreed.encoding text finding.place.start finding.place.end)
      (severity_of agreed.dynamic_severity finding.code) (text_of finding.code) message

  abbrev said_data : Said → Data
  said_data said = of_finding said.0 (related_said said.2) (message_said said.0.code said.1 said.2)

  all_data : (items : List ReportedFinding) → map (item_data agreed text uri) items ≡ map said_data (map said_by items)
  all_data [] = refl
  all_data (item ∷ items) = ap₂ (λ x xs. x ∷ xs)
      (ap₂ (of_finding item.finding) (related_same item.detail)
      (message_same item.finding.code item.flow item.detail)) (all_data items)

  pub same_diagnostics : (one other : CheckOutcome) → SayTheSame one other
      → found_data agreed text uri one ≡ found_data agreed text uri other
  same_diagnostics (Items items) (Items others) same = ap limited (all_data items.items
      ∙ (ap (map said_data) same ∙ sym (all_data others.items)))
  same_diagnostics (Items items) (Refused refusal) same = absurd same
  same_diagnostics (Refused refusal) (Items items) same = absurd same
  same_diagnostics (Refused refusal) (Refused other) same = ap (λ r. found_data agreed text uri (Refused r)) same

-- ---- hover

abbrev types_of : Option (List ℕ × List ℕ) → List ℕ
types_of None = []
types_of (Some texts) = codes ": `" ++ (texts.0 ++ (codes "` to `" ++ (texts.1 ++ codes "`")))

abbrev told_text : Code → List ℕ → List ℕ
told_text code reason = codes "**" ++ (text_of code ++ (codes "** " ++ (label_of code ++ (reason
    ++ (codes "\n\n" ++ (meaning_of code ++ (codes "\n\n" ++ mending_of code)))))))

types_same : (flow : Option FlowTypes) → flow_text flow ≡ types_of (option_map texts_of flow)
types_same None = refl
types_same (Some flow) = refl

abbrev reason_of : Option (List ℕ × List ℕ) → Option (List ℕ × List Place) → List ℕ
reason_of flow None = types_of flow
reason_of flow (Some told) = codes "\n\n```text\n" ++ (told.0 ++ codes "\n```")

reason_same : (flow : Option FlowTypes) (detail : Option ToldDetail)
    → told_reason flow detail ≡ reason_of (option_map texts_of flow) (option_map told_by detail)
reason_same flow None = types_same flow
reason_same flow (Some detail) = refl

abbrev told_after : List ℕ → Said → List ℕ
told_after told said = ruled told ++ told_text said.0.code (reason_of said.1 said.2)

abbrev is_at : Encoding → List ℕ → Position → Said → Bool
is_at encoding text position said = is_within (position_at encoding text said.0.place.start) position
    (position_at encoding text said.0.place.end)

all_told : (encoding : Encoding) (text : List ℕ) (position : Position) (items : List ReportedFinding) (told : List ℕ)
    → fold said_after told (filter (has_position encoding text position) items)
    ≡ fold told_after told (filter (is_at encoding text position) (map said_by items))
all_told encoding text position [] told = refl
all_told encoding text position (item ∷ items) told =
    let here : List ReportedFinding = filter (has_position encoding text position) items in
    let there : List Said = filter (is_at encoding text position) (map said_by items) in
    let M = λ (t : Bool). fold said_after told (cond t (item ∷ here) here)
    ≡ fold told_after told (cond t (said_by item ∷ there) there) in
    elim (has_position encoding text position item) as M [
      | true ↦ all_told encoding text position items (said_after told item)
          ∙ ap (λ t. fold told_after (ruled told ++ told_text item.finding.code t) there) (reason_same item.flow item.detail)
      | false ↦ all_told encoding text position items told
    ]

pub same_hovers : (agreed : Agreed) (text : List ℕ) (position : Position) (type declaration : Option (List ℕ))
    (one other : CheckOutcome) → SayTheSame one other
    → hover_text agreed text one type declaration position ≡ hover_text agreed text other type declaration position
same_hovers agreed text position type declaration (Items items) (Items others) same =
    let first : List ℕ = with_declaration (code_block type) declaration in
    all_told agreed.encoding text position items.items first
    ∙ (ap (λ said. fold told_after first (filter (is_at agreed.encoding text position) said)) same
    ∙ sym (all_told agreed.encoding text position others.items first))
same_hovers agreed text position type declaration (Items items) (Refused refusal) same = absurd same
same_hovers agreed text position type declaration (Refused refusal) (Items items) same = absurd same
same_hovers agreed text position type declaration (Refused refusal) (Refused other) same =
    ap (λ r. hover_text agreed text (Refused r) type declaration position) same
