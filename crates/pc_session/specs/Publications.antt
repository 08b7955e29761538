-- Diagnostics that are published for a text. Own rule of the server.
use Rattle.std.specs.Prelude.{◌≡◌, ℕ, Bool, true, false, List, [], ◌∷◌}
use Rattle.serde_json.specs.Data.{Data}
use Rattle.pc_documents.specs.CheckerAnswers.{CheckerAnswer}
use Rattle.pc_documents.specs.Agreed.{Agreed}
use Rattle.pc_documents.specs.Checked.{IsChecked, is_sent}
use Rattle.pc_documents.specs.Documents.{OpenDocument}
use Rattle.pc_session.specs.Replies.{publish_data}

module _ (answers : List ℕ → CheckerAnswer → Type 0) (agreed : Agreed) where
  -- one notification is sent, of the diagnostics of the document's text
  pub record IsSentOf (document : OpenDocument) (replies : List Data) : Type 0 where
    pub diagnostics : List Data
    pub is_checked : IsChecked answers agreed document.text document.uri diagnostics
    pub are : replies ≡ publish_data document.uri document.version diagnostics ∷ []

  -- one notification is sent, or nothing is
  abbrev pub IsSentWhere : Bool → OpenDocument → List Data → Type 0
  IsSentWhere false document replies = replies ≡ []
  IsSentWhere true document replies = IsSentOf document replies

  -- the replies to a new text of a document: one notification, of its diagnostics; none if it is not Python, or the
  -- client pulls diagnostics
  abbrev pub IsPublished : OpenDocument → List Data → Type 0
  IsPublished document replies = IsSentWhere (is_sent agreed document) document replies
