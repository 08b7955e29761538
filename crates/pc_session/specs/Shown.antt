-- The last publication that a client was sent of each document. Own rule of the server, over Language Server Protocol 3.17.
use Rattle.std.specs.List.{AllByRecursion}
use Rattle.std.specs.Prelude.{◌≡◌, ◌⊎◌, ◌&&◌, ℕ, Bool, true, false, List, [], ◌∷◌, ◌++◌, ⊤, codes, fold, Option, None}
use Rattle.std.specs.Prelude.{Some, option_map, unwrap_or, if◌then◌else◌}
use Rattle.serde_json.specs.Data.{Data, number, string, object, unsigned, no_members, member}
use Rattle.serde_json.specs.Find.{get}
use Rattle.pc_documents.specs.CheckerAnswers.{CheckerAnswer}
use Rattle.pc_documents.specs.Agreed.{Agreed}
use Rattle.pc_documents.specs.Checked.{IsChecked, is_sent}
use Rattle.pc_documents.specs.Documents.{is_open, OpenDocument}
use Rattle.pc_session.specs.Messages.{is_text, parameter}
use Rattle.pc_session.specs.Replies.{notification_data, publish_data}
use Rattle.pc_session.specs.States.{State}

-- a value that is there and is this text
abbrev pub is_some_text : List ℕ → Option Data → Bool
is_some_text text value = unwrap_or (option_map (is_text text) value) false

-- the message is a publication of the diagnostics of this document
abbrev pub is_publication : List ℕ → Data → Bool
is_publication uri message = is_some_text (codes "textDocument/publishDiagnostics") (get (codes "method") message)
    && is_some_text uri (parameter (codes "uri") message)

-- the last publication for a document, after one more message
abbrev pub published_after : List ℕ → Option Data → Data → Option Data
published_after uri last message = if is_publication uri message then Some message else last

-- the last publication for a document among messages
abbrev pub last_publication : List ℕ → List Data → Option Data
last_publication uri messages = fold (published_after uri) None messages

-- no two open documents have the same URI
abbrev pub AreDistinct : List OpenDocument → Type 0
AreDistinct [] = ⊤
AreDistinct (document ∷ documents) = (is_open document.uri documents ≡ false) × AreDistinct documents

-- the warning for the client's log that a message was lost for want of memory
abbrev pub lost_data : Data
lost_data = notification_data (codes "window/logMessage")
    (object (member (codes "message")
    (string (codes "out of memory: a message was lost, and no text is known until it changes"))
    (member (codes "type") (number (unsigned 1)) no_members)))

-- the log was told that a message was lost, and nothing was published for this document since
pub record IsLostSince (uri : List ℕ) (sent : List Data) : Type 0 where
  pub earlier : List Data
  pub later : List Data
  pub split : sent ≡ earlier ++ lost_data ∷ later
  pub silent : last_publication uri later ≡ None

-- the last publication for a document has no diagnostics, or there is none
abbrev pub IsCleared : List ℕ → List Data → Type 0
IsCleared uri sent = (last_publication uri sent ≡ None)
    ⊎ (last_publication uri sent ≡ Some (publish_data uri None []))

module _ (answers : List ℕ → CheckerAnswer → Type 0) where
  -- the last publication for a document is that of the diagnostics of its text, with its version
  pub record ShowsText (agreed : Agreed) (sent : List Data) (document : OpenDocument) : Type 0 where
    pub diagnostics : List Data
    pub is_checked : IsChecked answers agreed document.text document.uri diagnostics
    pub last : last_publication document.uri sent ≡ Some (publish_data document.uri document.version diagnostics)

  -- the last publication for a document is that of its text and version; or its text has not been known since a message
  -- was lost, as the log says
  abbrev pub IsShown : Agreed → List Data → OpenDocument → Type 0
  IsShown agreed sent document = ShowsText agreed sent document
      ⊎ ((document.text ≡ None) × IsLostSince document.uri sent)

  -- the same, if the diagnostics of the document are sent: it is Python, and the client does not pull them
  abbrev pub IsShownWhereSent : Agreed → List Data → OpenDocument → Type 0
  IsShownWhereSent agreed sent document = is_sent agreed document ≡ true → IsShown agreed sent document

  -- The publications are in step with the session: no two open documents have the same URI; the last publication for each is
  -- that of its text and version; that for a document that is not open has no diagnostics; and a client that pulls
  -- diagnostics was sent none.
  pub record IsInStep (sent : List Data) (session : State) : Type 0 where
    pub distinct : AreDistinct session.documents
    pub shown : AllByRecursion (IsShownWhereSent session.agreed sent) session.documents
    pub cleared : (uri : List ℕ) → is_open uri session.documents ≡ false → IsCleared uri sent
    pub pulled : session.agreed.pulls ≡ true → (uri : List ℕ) → last_publication uri sent ≡ None
