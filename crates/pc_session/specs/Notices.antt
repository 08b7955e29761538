-- Notifications about a document. Language Server Protocol 3.17, "Notification Message".
use Rattle.std.specs.Prelude.{◌≡◌, ℕ, List, codes, None, Some, option_and_then, IsUtf8}
use Rattle.serde_json.specs.Data.{Data}
use Rattle.serde_json.specs.Find.{get, as_str}
use Rattle.serde_json.specs.Read.{read}
use Rattle.pc_session.specs.Messages.{uri_in}

-- the bytes are this message, a notification of this method about this document
pub record IsNoticeOf (method uri bytes : List ℕ) (message : Data) : Type 0 where
  pub utf8 : IsUtf8 bytes
  pub spelled : read bytes ≡ Some message
  pub named : option_and_then as_str (get (codes "method") message) ≡ Some method
  pub no_request : get (codes "id") message ≡ None
  pub of_document : uri_in message ≡ Some uri
