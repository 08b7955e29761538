-- Steps of a session: the replies to a message, and the session after it. Own rule of the server, over Language Server
-- Protocol 3.17.
use Rattle.std.specs.Prelude.{◌≡◌, ◌⊎◌, ℕ, Bool, List, [], ◌∷◌, ◌++◌, map, filter, codes, true, false, Option, None}
use Rattle.std.specs.Prelude.{Some, option_and_then, IsUtf8, if◌then◌else◌}
use Rattle.serde_json.specs.Data.{Data, null, array, no_items}
use Rattle.serde_json.specs.Find.{get}
use Rattle.serde_json.specs.Read.{read}
use Rattle.pc_position.specs.declared.positions.Position.{Position}
use Rattle.pc_documents.specs.CheckerAnswers.{CheckerAnswer}
use Rattle.pc_documents.specs.Checked.{IsCheckedAs, is_sent}
use Rattle.pc_documents.specs.Diagnostics.{unknown_data}
use Rattle.pc_documents.specs.Documents.{document_at, is_open, with_document, without_document, forgotten, OpenDocument}
use Rattle.pc_documents.specs.Hovers.{IsToldAs}
use Rattle.pc_documents.specs.Symbols.{AreSymbolsAs}
use Rattle.pc_documents.specs.Definitions.{AreDefinitionsAs}
use Rattle.pc_session.specs.declared.messages.LspMethod.{LspMethod}
use Rattle.pc_session.specs.declared.messages.LspMethod.TheVariants.{Initialize, Shutdown, Exit, DidOpen, DidChange}
use Rattle.pc_session.specs.declared.messages.LspMethod.TheVariants.{DidClose, Hover, Diagnostic, CodeAction}
use Rattle.pc_session.specs.declared.messages.LspMethod.TheVariants.{DocumentSymbol, Definition}
use Rattle.pc_session.specs.declared.replies.ErrorCode.{ErrorCode}
use Rattle.pc_session.specs.declared.replies.ErrorCode.TheVariants.{ParseError, InvalidRequest, MethodNotFound}
use Rattle.pc_session.specs.declared.replies.ErrorCode.TheVariants.{InvalidParams, ServerNotInitialized}
use Rattle.pc_session.specs.declared.session.Stage.{Stage}
use Rattle.pc_session.specs.declared.session.Stage.TheVariants.{Fresh, Running, ShutDown, Ended}
use Rattle.pc_session.specs.Messages.{method_in, is_identifier, is_reply, uri_in, version_in, opened_text, changed_text}
use Rattle.pc_session.specs.Messages.{position_in, agreed_in, is_older, is_python}
use Rattle.pc_session.specs.Publications.{IsPublished}
use Rattle.pc_session.specs.Replies.{publish_data, log_data, result_data, full_data, hover_data, capabilities_data}
use Rattle.pc_session.specs.Replies.{refusal_of, symbols_data, definitions_data}
use Rattle.pc_session.specs.Spoiled.{Spoils}
use Rattle.pc_session.specs.States.{State}

-- the same session, at another stage
abbrev pub at_stage : Stage → State → State
at_stage stage old = record { stage = stage; agreed = old.agreed; documents = old.documents }

-- the same session, with other documents
abbrev pub with_documents : List OpenDocument → State → State
with_documents documents old = record { stage = old.stage; agreed = old.agreed; documents = documents }

-- these are the replies, and this is the session after the message
pub record IsTurn (wanted : List Data) (next : State) (replies : List Data) (new : State) : Type 0 where
  pub replies_are : replies ≡ wanted
  pub new_is : new ≡ next

-- there is no reply, and nothing changes
abbrev pub IsLetBe : State → List Data → State → Type 0
IsLetBe old replies new = IsTurn [] old replies new

-- this alone is replied, and nothing changes
abbrev pub RepliesAlone : Data → State → List Data → State → Type 0
RepliesAlone reply old replies new = IsTurn (reply ∷ []) old replies new

-- after `exit` the program ends: with status 0 after `shutdown`, otherwise 1
abbrev pub exit_status : Stage → ℕ
exit_status ShutDown = 0
exit_status stage = 1

-- the same session, with no text known
abbrev pub forgot : State → State
forgot old = with_documents (map forgotten old.documents) old

-- the publication that says that the text of a document is not known
abbrev pub unknown_of : OpenDocument → Data
unknown_of document = publish_data document.uri document.version (unknown_data ∷ [])

-- the publications that the text is not known, for each document whose diagnostics are sent
abbrev pub unknown_all : State → List Data
unknown_all old = map unknown_of (filter (is_sent old.agreed) old.documents)

-- the line for the log when texts are forgotten; none if no document is open
abbrev pub told_of : List OpenDocument → List Data
told_of [] = []
told_of (document ∷ documents) =
    log_data (codes "a message was not read: the texts of the open documents are not known until they change") ∷ []

-- an unreadable message: the reply is this error, and no text is known from then on
abbrev pub IsUnreadable : ErrorCode → State → List Data → State → Type 0
IsUnreadable code old replies new = IsTurn
    (refusal_of code null ∷ (unknown_all old ++ told_of old.documents)) (forgot old) replies new

-- the open document that a message names
abbrev pub named_document : Data → State → Option OpenDocument
named_document message old = option_and_then (λ uri. document_at uri old.documents) (uri_in message)

-- a message names no document: the log says so, and nothing changes
pub record IsUnnamed (told : List ℕ) (message : Data) (old : State) (replies : List Data) (new : State) : Type 0 where
  pub none : uri_in message ≡ None
  pub answered : RepliesAlone (log_data told) old replies new

-- a message names a document that is not open: the log says so, and nothing changes
pub record IsNotOpen (told : List ℕ) (message : Data) (old : State) (replies : List Data) (new : State) : Type 0 where
  pub uri : List ℕ
  pub names : uri_in message ≡ Some uri
  pub closed : is_open uri old.documents ≡ false
  pub answered : RepliesAlone (log_data told) old replies new

-- an empty publication for a document, or nothing if the client pulls diagnostics
abbrev pub cleared : Bool → List ℕ → List Data
cleared pulls uri = if pulls then [] else publish_data uri None [] ∷ []

-- an open document is closed: it is removed, and an empty publication is sent
pub record IsClosed (message : Data) (old : State) (replies : List Data) (new : State) : Type 0 where
  pub uri : List ℕ
  pub names : uri_in message ≡ Some uri
  pub was_open : is_open uri old.documents ≡ true
  pub turn : IsTurn (cleared old.agreed.pulls uri)
      (with_documents (without_document uri old.documents) old) replies new

-- `didClose`: of an open document, of one that is not open, or of none
abbrev pub OnClose : Data → State → List Data → State → Type 0
OnClose message old replies new = IsClosed message old replies new
    ⊎ (IsNotOpen (codes "didClose names a document that is not open") message old replies new
    ⊎ IsUnnamed (codes "didClose names no document") message old replies new)

-- the identifier, if it may be one, otherwise null
abbrev pub identifier_or_null : Data → Data
identifier_or_null id = if is_identifier id then id else null

-- a message without a method: a reply from the client is ignored, and any other message gets an error
abbrev pub OnNoMethod : Option Data → Data → State → List Data → State → Type 0
OnNoMethod None message old replies new = RepliesAlone (refusal_of InvalidRequest null) old replies new
OnNoMethod (Some id) message old replies new = ((is_reply message ≡ true) × IsLetBe old replies new)
    ⊎ ((is_reply message ≡ false) × RepliesAlone (refusal_of InvalidRequest (identifier_or_null id)) old replies new)

-- one reply of this kind, and nothing changes
pub record RepliesWith (IsReply : Data → Type 0) (old : State) (replies : List Data) (new : State) : Type 0 where
  pub reply : Data
  pub is_reply : IsReply reply
  pub answered : RepliesAlone reply old replies new

-- a request before `initialize` gets an error; `initialize` begins the session
abbrev pub OnFresh : LspMethod → Data → Data → State → List Data → State → Type 0
OnFresh Initialize id message old replies new =
    IsTurn (result_data id (capabilities_data (agreed_in message).encoding) ∷ [])
    (record { stage = Running; agreed = agreed_in message; documents = old.documents }) replies new
OnFresh method id message old replies new = RepliesAlone (refusal_of ServerNotInitialized id) old replies new

-- the document that a message opens
abbrev pub opened_in : Data → List ℕ → OpenDocument
opened_in message uri = record {
  uri = uri;
  version = version_in message;
  python = is_python message;
  text = opened_text message;
}

-- an open document after the changes in a message
abbrev pub changed_in : Data → OpenDocument → OpenDocument
changed_in message document = record {
  uri = document.uri;
  version = version_in message;
  python = document.python;
  text = changed_text document.text message;
}

-- a message gives an older version than an open document has: the log says so, and nothing changes
pub record IsOutdated (message : Data) (old : State) (replies : List Data) (new : State) : Type 0 where
  pub document : OpenDocument
  pub named : named_document message old ≡ Some document
  pub older : is_older (version_in message) document.version ≡ true
  pub answered : RepliesAlone (log_data (codes "didChange gives an older version: it was let be")) old replies new

-- the reply to a request for symbols has those of the open document that the message names
pub record IsListedOf (message id : Data) (old : State) (reply : Data) : Type 0 where
  pub document : OpenDocument
  pub named : named_document message old ≡ Some document
  pub symbols : List Data
  pub are : AreSymbolsAs old.agreed.encoding document.python document.text symbols
  pub replied : reply ≡ result_data id (symbols_data symbols)

-- the reply to a request for symbols: those of the document, or an error where the message names none that is open
abbrev pub IsSymbolReply : Data → Data → State → Data → Type 0
IsSymbolReply message id old reply = IsListedOf message id old reply
    ⊎ ((named_document message old ≡ None) × (reply ≡ refusal_of InvalidParams id))

-- the reply to a request for definitions has those of the names at the position of the open document that the message
-- names
pub record IsLocatedOf (message id : Data) (old : State) (reply : Data) : Type 0 where
  pub document : OpenDocument
  pub named : named_document message old ≡ Some document
  pub position : Position
  pub placed : position_in message ≡ Some position
  pub definitions : List Data
  pub are : AreDefinitionsAs old.agreed.encoding document.python document.text document.uri position definitions
  pub replied : reply ≡ result_data id (definitions_data definitions)

-- the reply to a request for definitions: those of the names at the position, or an error where the message names no
-- open document or no position
abbrev pub IsLocated : Data → Data → State → Data → Type 0
IsLocated message id old reply = IsLocatedOf message id old reply
    ⊎ (((named_document message old ≡ None) ⊎ (position_in message ≡ None))
    × (reply ≡ refusal_of InvalidParams id))

module _ (answers : List ℕ → CheckerAnswer → Type 0) where
  -- this document is the open one of its address from now on, and its diagnostics are published; nothing else changes
  pub record IsKept (document : OpenDocument) (old : State) (replies : List Data) (new : State) : Type 0 where
    pub published : IsPublished answers old.agreed document replies
    pub new_is : new ≡ with_documents (with_document document old.documents) old

  -- a document is opened, with the text that the message gives
  pub record IsOpened (message : Data) (old : State) (replies : List Data) (new : State) : Type 0 where
    pub uri : List ℕ
    pub names : uri_in message ≡ Some uri
    pub kept : IsKept (opened_in message uri) old replies new

  -- an open document gets the text that the message makes of its text; the version that the message gives is not older
  pub record IsChanged (message : Data) (old : State) (replies : List Data) (new : State) : Type 0 where
    pub document : OpenDocument
    pub named : named_document message old ≡ Some document
    pub in_order : is_older (version_in message) document.version ≡ false
    pub kept : IsKept (changed_in message document) old replies new

  -- `didOpen`: of the document that the message names, or of none
  abbrev pub OnOpen : Data → State → List Data → State → Type 0
  OnOpen message old replies new = IsOpened message old replies new
      ⊎ IsUnnamed (codes "didOpen names no document") message old replies new

  -- `didChange` of an open document, also to an older version of it, of a document that is not open, or of none
  abbrev pub OnChange : Data → State → List Data → State → Type 0
  OnChange message old replies new = IsChanged message old replies new ⊎ (IsOutdated message old replies new
      ⊎ (IsNotOpen (codes "didChange names a document that is not open") message old replies new
      ⊎ IsUnnamed (codes "didChange names no document") message old replies new))

  -- the reply to a pull has the diagnostics of the open document that the message names
  pub record IsPulledOf (message id : Data) (old : State) (reply : Data) : Type 0 where
    pub document : OpenDocument
    pub named : named_document message old ≡ Some document
    pub diagnostics : List Data
    pub is_checked : IsCheckedAs answers old.agreed document.python document.text document.uri diagnostics
    pub replied : reply ≡ result_data id (full_data diagnostics)

  -- the reply to a pull: the diagnostics of the document, or an error where the message names none that is open
  abbrev pub IsPulled : Data → Data → State → Data → Type 0
  IsPulled message id old reply = IsPulledOf message id old reply
      ⊎ ((named_document message old ≡ None) × (reply ≡ refusal_of InvalidParams id))

  -- the reply to `hover` has the hover text at the position of the open document that the message names
  pub record IsHoveredOf (message id : Data) (old : State) (reply : Data) : Type 0 where
    pub document : OpenDocument
    pub named : named_document message old ≡ Some document
    pub position : Position
    pub placed : position_in message ≡ Some position
    pub told : List ℕ
    pub is_told : IsToldAs answers document.python document.text position old.agreed told
    pub replied : reply ≡ result_data id (hover_data told)

  -- the reply to `hover`: the hover text at the position, or an error if the message names no open document or no
  -- position
  abbrev pub IsHovered : Data → Data → State → Data → Type 0
  IsHovered message id old reply = IsHoveredOf message id old reply
      ⊎ (((named_document message old ≡ None) ⊎ (position_in message ≡ None))
      × (reply ≡ refusal_of InvalidParams id))

  -- a request of a session that runs, by its method
  abbrev pub OnRunning : LspMethod → Data → Data → State → List Data → State → Type 0
  OnRunning Shutdown id message old replies new =
      IsTurn (result_data id null ∷ []) (at_stage ShutDown old) replies new
  OnRunning Hover id message old replies new = RepliesWith (IsHovered message id old) old replies new
  OnRunning Diagnostic id message old replies new = RepliesWith (IsPulled message id old) old replies new
  OnRunning DocumentSymbol id message old replies new = RepliesWith (IsSymbolReply message id old) old replies new
  OnRunning Definition id message old replies new = RepliesWith (IsLocated message id old) old replies new
  OnRunning CodeAction id message old replies new = RepliesAlone (result_data id (array no_items)) old replies new
  OnRunning Initialize id message old replies new = RepliesAlone (refusal_of InvalidRequest id) old replies new
  OnRunning method id message old replies new = RepliesAlone (refusal_of MethodNotFound id) old replies new

  -- a request, by the stage of the session; after `shutdown` no request is valid
  abbrev pub OnRequest : Stage → LspMethod → Data → Data → State → List Data → State → Type 0
  OnRequest Fresh method id message old replies new = OnFresh method id message old replies new
  OnRequest Running method id message old replies new = OnRunning method id message old replies new
  OnRequest stage method id message old replies new = RepliesAlone (refusal_of InvalidRequest id) old replies new

  -- a notification in a session that runs, by its method; one with an unknown method is ignored
  abbrev pub OnNotice : LspMethod → Data → State → List Data → State → Type 0
  OnNotice DidOpen message old replies new = OnOpen message old replies new
  OnNotice DidChange message old replies new = OnChange message old replies new
  OnNotice DidClose message old replies new = OnClose message old replies new
  OnNotice method message old replies new = IsLetBe old replies new

  -- a notification other than `exit`, by the stage of the session: it is ignored unless the session runs
  abbrev pub OnStage : Stage → LspMethod → Data → State → List Data → State → Type 0
  OnStage Running method message old replies new = OnNotice method message old replies new
  OnStage stage method message old replies new = IsLetBe old replies new

  -- a notification: `exit` ends the session at any time
  abbrev pub OnNotification : LspMethod → Stage → Data → State → List Data → State → Type 0
  OnNotification Exit stage message old replies new = IsTurn [] (at_stage (Ended (exit_status stage)) old) replies new
  OnNotification method stage message old replies new = OnStage stage method message old replies new

  -- a message with a method: a request where it has an identifier, otherwise a notification
  abbrev pub OnMethod : LspMethod → Option Data → Data → State → List Data → State → Type 0
  OnMethod method None message old replies new = OnNotification method old.stage message old replies new
  OnMethod method (Some id) message old replies new =
      ((is_identifier id ≡ true) × OnRequest old.stage method id message old replies new)
      ⊎ ((is_identifier id ≡ false) × RepliesAlone (refusal_of InvalidRequest null) old replies new)

  -- a message that names a method
  pub record NamesMethod (message : Data) (old : State) (replies : List Data) (new : State) : Type 0 where
    pub method : LspMethod
    pub names : method_in message ≡ Some method
    pub answered : OnMethod method (get (codes "id") message) message old replies new

  -- a message that names no method
  pub record HasNoMethod (message : Data) (old : State) (replies : List Data) (new : State) : Type 0 where
    pub none : method_in message ≡ None
    pub answered : OnNoMethod (get (codes "id") message) message old replies new

  -- a message, by whether it names a method
  abbrev pub OnMessage : Data → State → List Data → State → Type 0
  OnMessage message old replies new = NamesMethod message old replies new ⊎ HasNoMethod message old replies new

  -- the bytes are a message in JSON, with these replies and this session after it
  pub record IsRead (bytes : List ℕ) (old : State) (replies : List Data) (new : State) : Type 0 where
    pub message : Data
    pub utf8 : IsUtf8 bytes
    pub spelled : read bytes ≡ Some message
    pub answered : OnMessage message old replies new

  -- bytes that are not JSON: the text of one document is no longer known, or no text is known
  abbrev pub OnSpoiled : Option OpenDocument → State → List Data → State → Type 0
  OnSpoiled None old replies new = IsUnreadable ParseError old replies new
  OnSpoiled (Some document) old replies new = IsKept document old replies new

  -- the bytes are not JSON, with these replies and this session after them
  pub record IsNotRead (bytes : List ℕ) (old : State) (replies : List Data) (new : State) : Type 0 where
    pub no_json : IsUtf8 bytes → read bytes ≡ None
    pub document : Option OpenDocument
    pub spoils : Spoils bytes old document
    pub spoiled : OnSpoiled document old replies new

  -- the replies to a message, and the session after it
  abbrev pub Step : State → List ℕ → List Data → State → Type 0
  Step old message replies new = IsRead message old replies new ⊎ IsNotRead message old replies new
