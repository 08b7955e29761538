-- Messages that are not JSON because of an escape for half a character. RFC 8259, 7 "Strings"; own rule of the server.
use Rattle.std.specs.Prelude.{◌≡◌, ℕ, ◌==◌, ◌||◌, List, [], ◌∷◌, Option, None, Some, codes, option_map, option_and_then}
use Rattle.std.specs.Prelude.{IsUtf8, if◌then◌else◌}
use Rattle.serde_json.specs.Data.{Data}
use Rattle.serde_json.specs.Find.{get}
use Rattle.serde_json.specs.Read.{read}
use Rattle.pc_documents.specs.Documents.{document_at, OpenDocument}
use Rattle.pc_session.specs.declared.messages.LspMethod.{LspMethod}
use Rattle.pc_session.specs.declared.messages.LspMethod.TheVariants.{DidOpen, DidChange}
use Rattle.pc_session.specs.declared.session.Stage.{Stage}
use Rattle.pc_session.specs.declared.session.Stage.TheVariants.{Running}
use Rattle.pc_session.specs.declared.spoiled.Escape.{Escape}
use Rattle.pc_session.specs.declared.spoiled.Escape.TheVariants.{Outside, Backslash, Unicode}
use Rattle.pc_session.specs.Messages.{method_in, uri_in, version_in, is_python}
use Rattle.pc_session.specs.States.{State}

-- the position of the byte after a byte, relative to an escape
abbrev pub escape_after : Escape → ℕ → Escape
escape_after Outside byte = if byte == 92 then Backslash else Outside
escape_after Backslash byte = if byte == 117 then Unicode else Outside
escape_after Unicode byte = Outside

-- a byte, mended: a first digit `d` of an escape becomes `e`, so that no escape denotes half a character
abbrev pub mended_byte : Escape → ℕ → ℕ
mended_byte Outside byte = byte
mended_byte Backslash byte = byte
mended_byte Unicode byte = if (byte == 100) || (byte == 68) then 101 else byte

-- the bytes from a place on, with the first digits of escapes mended
abbrev pub mended_from : Escape → List ℕ → List ℕ
mended_from place [] = []
mended_from place (byte ∷ bytes) = mended_byte place byte ∷ mended_from (escape_after place byte) bytes

-- the bytes, with the first digits of escapes mended
abbrev pub mended : List ℕ → List ℕ
mended bytes = mended_from Outside bytes

-- the document that a message opens, without its text
abbrev pub opened_part : Data → List ℕ → OpenDocument
opened_part message uri = record {
  uri = uri;
  version = version_in message;
  python = is_python message;
  text = None;
}

-- the document that a message changes, without its text
abbrev pub changed_part : Data → OpenDocument → OpenDocument
changed_part message document = record {
  uri = document.uri;
  version = version_in message;
  python = document.python;
  text = None;
}

-- the document that a notification opens or changes, without its text
abbrev pub spoiled_by : LspMethod → Data → State → Option OpenDocument
spoiled_by DidOpen message old = option_map (opened_part message) (uri_in message)
spoiled_by DidChange message old = option_map (changed_part message)
    (option_and_then (λ uri. document_at uri old.documents) (uri_in message))
spoiled_by method message old = None

-- the document that a message opens or changes, without its text; none if the message is a request
abbrev pub spoiled_as : Option Data → Data → State → Option OpenDocument
spoiled_as None message old = option_and_then (λ method. spoiled_by method message old) (method_in message)
spoiled_as (Some id) message old = None

-- the document that a message opens or changes in a session that runs, without its text; none at any other stage
abbrev pub spoiled_at : Stage → Data → State → Option OpenDocument
spoiled_at Running message old = spoiled_as (get (codes "id") message) message old
spoiled_at stage message old = None

-- the document whose text alone a message spoils, without that text
abbrev pub spoiled_in : Data → State → Option OpenDocument
spoiled_in message old = spoiled_at old.stage message old

-- the mended bytes are this message
abbrev pub IsMended : List ℕ → Data → Type 0
IsMended bytes message = IsUtf8 (mended bytes) × (read (mended bytes) ≡ Some message)

-- the bytes spoil the text of this document alone, or that of no document alone if there is none
abbrev pub Spoils : List ℕ → State → Option OpenDocument → Type 0
Spoils bytes old None = (message : Data) → IsMended bytes message → spoiled_in message old ≡ None
Spoils bytes old (Some document) = (message : Data) × IsMended bytes message × (spoiled_in message old ≡ Some document)
