-- The diagnostics of a text and of a document. Own rule of the server.
use Rattle.std.specs.Prelude.{◌≡◌, ℕ, ◌&&◌, Bool, true, false, not, List, [], ◌∷◌, Option, None, Some}
use Rattle.serde_json.specs.Data.{Data}
use Rattle.pc_documents.specs.declared.checker.CheckOutcome.{CheckOutcome}
use Rattle.pc_documents.specs.Agreed.{Agreed}
use Rattle.pc_documents.specs.CheckerAnswers.{CheckerAnswer, outcome}
use Rattle.pc_documents.specs.Diagnostics.{found_data, unknown_data}
use Rattle.pc_documents.specs.Documents.{OpenDocument}

-- the diagnostics of a document are sent: it is Python, and the client does not pull them
abbrev pub is_sent : Agreed → OpenDocument → Bool
is_sent agreed document = document.python && not agreed.pulls

module _ (answers : List ℕ → CheckerAnswer → Type 0) (agreed : Agreed) where
  -- the diagnostics are exactly those of what is found in the text of the document with this address
  pub record AreDiagnostics (text uri : List ℕ) (diagnostics : List Data) : Type 0 where
    pub found : CheckOutcome
    pub finds_it : answers text (outcome found)
    pub are : diagnostics ≡ found_data agreed text uri found

  -- the diagnostics of the text of a document: those of its findings, or one that says that the text is not known
  abbrev pub IsChecked : Option (List ℕ) → List ℕ → List Data → Type 0
  IsChecked None uri diagnostics = diagnostics ≡ unknown_data ∷ []
  IsChecked (Some text) uri diagnostics = AreDiagnostics text uri diagnostics

  -- the diagnostics of a document: those of its text, or none if it is not Python
  abbrev pub IsCheckedAs : Bool → Option (List ℕ) → List ℕ → List Data → Type 0
  IsCheckedAs false text uri diagnostics = diagnostics ≡ []
  IsCheckedAs true text uri diagnostics = IsChecked text uri diagnostics
