-- Hover texts: explanations of the findings at a position, in Markdown. Own rule of the server.
use Rattle.std.specs.Prelude.{◌≡◌, ℕ, ◌==◌, Bool, List, [], ◌∷◌, ◌++◌, codes, filter, fold}
use Rattle.std.specs.Prelude.{string_bytes, true, false, Option, None, Some, if◌then◌else◌}
use Rattle.pc_source.specs.declared.fault.Refusal.{Refusal}
use Rattle.pc_source.specs.Refusals.{code_text}
use Rattle.pc_position.specs.declared.positions.Encoding.{Encoding}
use Rattle.pc_position.specs.declared.positions.Position.{Position}
use Rattle.pc_position.specs.Positions.{line_at, IsByteAt}
use Rattle.pc_tree.specs.Code.{text_of, label_of}
use Rattle.pc_code_texts.specs.Findings.{meaning_of, mending_of}
use Rattle.pc_code_texts.specs.Refusals.{refusal_title_of, refusal_meaning_of, refusal_mending_of}
use Rattle.pc_documents.specs.declared.checker.CheckOutcome.{CheckOutcome}
use Rattle.pc_documents.specs.declared.checker.CheckOutcome.TheVariants.{Items, Refused}
use Rattle.pc_documents.specs.declared.checker.FlowTypes.{FlowTypes}
use Rattle.pc_documents.specs.declared.checker.ReportedFinding.{ReportedFinding}
use Rattle.pc_documents.specs.declared.checker.ToldDetail.{ToldDetail}
use Rattle.pc_documents.specs.Agreed.{Agreed}
use Rattle.pc_documents.specs.CheckerAnswers.{CheckerAnswer, outcome, type_shown}
use Rattle.pc_documents.specs.Declarations.{IsDeclarationAt}
use Rattle.pc_documents.specs.Diagnostics.{position_at, start_of}
use Rattle.pc_documents.specs.Within.{is_within}

-- the place of a finding covers the position
abbrev pub has_position : Encoding → List ℕ → Position → ReportedFinding → Bool
has_position encoding text position item = is_within (position_at encoding text item.finding.place.start) position
    (position_at encoding text item.finding.place.end)

-- the text of the two types of a flow
abbrev pub flow_text : Option FlowTypes → List ℕ
flow_text None = []
flow_text (Some flow) =
    codes ": `" ++ (string_bytes flow.from ++ (codes "` to `" ++ (string_bytes flow.to ++ codes "`")))

-- the reason for a finding: the sentence of its detail, as a block of code, in which no character has a meaning in
-- Markdown; without a detail the two types of its flow
abbrev pub told_reason : Option FlowTypes → Option ToldDetail → List ℕ
told_reason flow None = flow_text flow
told_reason flow (Some detail) = codes "\n\n```text\n" ++ (string_bytes detail.sentence ++ codes "\n```")

-- the explanation of a finding: its code, its label, its reason, its meaning, and how to mend it
abbrev pub item_text : ReportedFinding → List ℕ
item_text item = codes "**" ++ (text_of item.finding.code ++ (codes "** " ++ (label_of item.finding.code
    ++ (told_reason item.flow item.detail ++ (codes "\n\n" ++ (meaning_of item.finding.code
    ++ (codes "\n\n" ++ mending_of item.finding.code)))))))

-- the explanation of a refusal: its code, its title, its meaning, and how to mend it
abbrev pub refusal_text : Refusal → List ℕ
refusal_text refusal = codes "**" ++ (code_text refusal.code ++ (codes "** " ++ (refusal_title_of refusal.code
    ++ (codes "\n\n" ++ (refusal_meaning_of refusal.code ++ (codes "\n\n" ++ refusal_mending_of refusal.code))))))

-- a text, with a horizontal rule below it unless it is empty
abbrev pub ruled : List ℕ → List ℕ
ruled [] = []
ruled (byte ∷ bytes) = (byte ∷ bytes) ++ codes "\n\n---\n\n"

-- a hover text, followed by the explanation of one more finding
abbrev pub said_after : List ℕ → ReportedFinding → List ℕ
said_after told item = ruled told ++ item_text item

-- a type or a line of a module, as code in Markdown
abbrev pub code_block : Option (List ℕ) → List ℕ
code_block None = []
code_block (Some code) = codes "```python\n" ++ (code ++ codes "\n```")

-- a hover text, followed by a declaration as code in Markdown, if there is one
abbrev pub with_declaration : List ℕ → Option (List ℕ) → List ℕ
with_declaration told None = told
with_declaration told (Some line) = ruled told ++ code_block (Some line)

-- the hover text at a position: the type there, the declaration of the name there, and the explanation of each finding
-- whose place covers it, in order; or the explanation of the refusal on the line of its character
abbrev pub hover_text : Agreed → List ℕ → CheckOutcome → Option (List ℕ) → Option (List ℕ) → Position → List ℕ
hover_text agreed text (Items items) type declaration position =
    fold said_after (with_declaration (code_block type) declaration)
    (filter (has_position agreed.encoding text position) items.items)
hover_text agreed text (Refused refusal) type declaration position =
    if line_at text (start_of text refusal.byte) == position.line then refusal_text refusal else []

-- a hover text, followed by the declaration at a position of a text
pub record IsDeclarationSaid (encoding : Encoding) (text : List ℕ) (position : Position) (before told : List ℕ) : Type 0 where
  pub declaration : Option (List ℕ)
  pub declares_it : IsDeclarationAt encoding text position declaration
  pub are : told ≡ with_declaration before declaration

module _ (answers : List ℕ → CheckerAnswer → Type 0) where
  -- the type that is shown at a byte of a text, none without a byte
  abbrev pub IsShownAtByte : List ℕ → Option ℕ → Option (List ℕ) → Type 0
  IsShownAtByte text None type = type ≡ None
  IsShownAtByte text (Some byte) type = answers text (type_shown byte type)

  -- the type that is shown at a position of a text: that at the byte there
  pub record IsShownAt (encoding : Encoding) (text : List ℕ) (position : Position) (type : Option (List ℕ)) : Type 0 where
    pub byte : Option ℕ
    pub is_there : IsByteAt encoding text position byte
    pub shown : IsShownAtByte text byte type

  -- the hover text at a position, given the findings of the text, the type shown at the position and the declaration of
  -- the name there
  pub record IsSaidOf (text : List ℕ) (position : Position) (agreed : Agreed) (told : List ℕ) : Type 0 where
    pub found : CheckOutcome
    pub finds_it : answers text (outcome found)
    pub type : Option (List ℕ)
    pub shows_it : IsShownAt agreed.encoding text position type
    pub declaration : Option (List ℕ)
    pub declares_it : IsDeclarationAt agreed.encoding text position declaration
    pub are : told ≡ hover_text agreed text found type declaration position

  -- the hover text at a position of a text, empty if the text is not known
  abbrev pub IsToldOf : Option (List ℕ) → Position → Agreed → List ℕ → Type 0
  IsToldOf None position agreed told = told ≡ []
  IsToldOf (Some text) position agreed told = IsSaidOf text position agreed told

  -- the hover text at a position of a document, empty if it is not Python
  abbrev pub IsToldAs : Bool → Option (List ℕ) → Position → Agreed → List ℕ → Type 0
  IsToldAs false text position agreed told = told ≡ []
  IsToldAs true text position agreed told = IsToldOf text position agreed told

  -- the type shown at a position, as code in Markdown
  pub record IsTypeSaid (encoding : Encoding) (text : List ℕ) (position : Position) (told : List ℕ) : Type 0 where
    pub type : Option (List ℕ)
    pub shows_it : IsShownAt encoding text position type
    pub are : told ≡ code_block type
