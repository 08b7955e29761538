-- The open documents of a session. Own rule of the server.
use Rattle.std.specs.Prelude.{ℕ, ℤ, Bool, List, [], ◌∷◌, Option, None, bytes_eq, find, position, is_some, string_bytes}
use Rattle.std.specs.Prelude.{option_map, if◌then◌else◌}
use Rattle.pc_documents.specs.declared.documents.Document.{Document}

-- an open document: its URI, its version if it has one, whether it is Python, and its text if it is known
pub record OpenDocument : Type 0 where
  pub uri : List ℕ
  pub version : Option ℤ
  pub python : Bool
  pub text : Option (List ℕ)

-- a document as data
abbrev pub opened_of : Document → OpenDocument
opened_of document = record {
  uri = string_bytes document.uri;
  version = document.version;
  python = document.python;
  text = option_map string_bytes document.text;
}

-- the document has this URI
abbrev pub has_uri : List ℕ → OpenDocument → Bool
has_uri uri document = bytes_eq document.uri uri

-- the index of the document with this URI
abbrev pub index_of_document : List ℕ → List OpenDocument → Option ℕ
index_of_document uri documents = position (has_uri uri) documents

-- the open document with this URI
abbrev pub document_at : List ℕ → List OpenDocument → Option OpenDocument
document_at uri documents = find (has_uri uri) documents

-- a document with this URI is open
abbrev pub is_open : List ℕ → List OpenDocument → Bool
is_open uri documents = is_some (document_at uri documents)

-- the documents, with this one in place of the one with the same URI, or at the end if there is none
abbrev pub with_document : OpenDocument → List OpenDocument → List OpenDocument
with_document document [] = document ∷ []
with_document document (other ∷ others) =
    if has_uri document.uri other then document ∷ others else other ∷ with_document document others

-- the documents without the one with this URI
abbrev pub without_document : List ℕ → List OpenDocument → List OpenDocument
without_document uri [] = []
without_document uri (other ∷ others) = if has_uri uri other then others else other ∷ without_document uri others

-- the document, with its text no longer known
abbrev pub forgotten : OpenDocument → OpenDocument
forgotten document = record {
  uri = document.uri;
  version = document.version;
  python = document.python;
  text = None;
}
