-- Replies and notifications as data. Language Server Protocol 3.17.
use Rattle.std.specs.Prelude.{ℕ, ℤ, negsuc, true, false, List, [], ◌∷◌, Option, None, Some, codes}
use Rattle.serde_json.specs.Data.{Data, null, boolean, number, string, array, object, unsigned, no_members, member}
use Rattle.serde_json.specs.Find.{of_integer}
use Rattle.serde_json.specs.View.{items_of}
use Rattle.pc_position.specs.declared.positions.Encoding.{Encoding}
use Rattle.pc_position.specs.declared.positions.Encoding.TheVariants.{Utf8, Utf16, Utf32}
use Rattle.pc_session.specs.declared.replies.ErrorCode.{ErrorCode}
use Rattle.pc_session.specs.declared.replies.ErrorCode.TheVariants.{ParseError, InvalidRequest, MethodNotFound}
use Rattle.pc_session.specs.declared.replies.ErrorCode.TheVariants.{InvalidParams, ServerNotInitialized, TooLong}

-- a notification
abbrev pub notification_data : List ℕ → Data → Data
notification_data method params =
    object (member (codes "jsonrpc") (string (codes "2.0"))
    (member (codes "method") (string method)
    (member (codes "params") params no_members)))

-- the parameters of a publication: the diagnostics of a document, with its version if it has one
abbrev pub published_data : List ℕ → Option ℤ → List Data → Data
published_data uri None diagnostics =
    object (member (codes "diagnostics") (array (items_of diagnostics))
    (member (codes "uri") (string uri) no_members))
published_data uri (Some version) diagnostics =
    object (member (codes "diagnostics") (array (items_of diagnostics))
    (member (codes "uri") (string uri)
    (member (codes "version") (number (of_integer version)) no_members)))

-- the notification of the diagnostics of a document
abbrev pub publish_data : List ℕ → Option ℤ → List Data → Data
publish_data uri version diagnostics =
    notification_data (codes "textDocument/publishDiagnostics") (published_data uri version diagnostics)

-- a warning for the client's log
abbrev pub log_data : List ℕ → Data
log_data text = notification_data (codes "window/logMessage")
    (object (member (codes "message") (string text) (member (codes "type") (number (unsigned 2)) no_members)))

-- the reply to the request with this identifier, with a result
abbrev pub result_data : Data → Data → Data
result_data id result =
    object (member (codes "id") id
    (member (codes "jsonrpc") (string (codes "2.0"))
    (member (codes "result") result no_members)))

-- the reply to the request with this identifier, with an error
abbrev pub error_data : Data → ℤ → List ℕ → Data
error_data id code text =
    object (member (codes "error")
    (object (member (codes "code") (number (of_integer code)) (member (codes "message") (string text) no_members)))
    (member (codes "id") id
    (member (codes "jsonrpc") (string (codes "2.0")) no_members)))

-- the result of a pull of diagnostics
abbrev pub full_data : List Data → Data
full_data diagnostics =
    object (member (codes "items") (array (items_of diagnostics))
    (member (codes "kind") (string (codes "full")) no_members))

-- the result of a request for symbols
abbrev pub symbols_data : List Data → Data
symbols_data symbols = array (items_of symbols)

-- the result of a request for definitions
abbrev pub definitions_data : List Data → Data
definitions_data definitions = array (items_of definitions)

-- the name of an encoding
abbrev pub encoding_name : Encoding → List ℕ
encoding_name Utf8 = codes "utf-8"
encoding_name Utf16 = codes "utf-16"
encoding_name Utf32 = codes "utf-32"

-- the capabilities of the server: it takes whole texts, counts characters in this encoding, and answers hover,
-- definitions, symbols and pulls
abbrev pub capabilities_data : Encoding → Data
capabilities_data encoding =
    object (member (codes "capabilities")
    (object (member (codes "definitionProvider") (boolean true)
    (member (codes "diagnosticProvider")
    (object (member (codes "interFileDependencies") (boolean false)
    (member (codes "workspaceDiagnostics") (boolean false) no_members)))
    (member (codes "documentSymbolProvider") (boolean true)
    (member (codes "hoverProvider") (boolean true)
    (member (codes "positionEncoding") (string (encoding_name encoding))
    (member (codes "textDocumentSync")
    (object (member (codes "change") (number (unsigned 1)) (member (codes "openClose") (boolean true) no_members)))
    no_members)))))))
    (member (codes "serverInfo")
    (object (member (codes "name") (string (codes "pycheck"))
    (member (codes "version") (string (codes "1.0.0")) no_members)))
    no_members))

-- the result of a hover request: a text in Markdown, or null if it is empty
abbrev pub hover_data : List ℕ → Data
hover_data [] = null
hover_data (byte ∷ bytes) =
    object (member (codes "contents")
    (object (member (codes "kind") (string (codes "markdown"))
    (member (codes "value") (string (byte ∷ bytes)) no_members)))
    no_members)

-- the number of an error of the protocol
abbrev pub number_of : ErrorCode → ℤ
number_of ParseError = negsuc 32699
number_of InvalidRequest = negsuc 32599
number_of MethodNotFound = negsuc 32600
number_of InvalidParams = negsuc 32601
number_of ServerNotInitialized = negsuc 32001
number_of TooLong = negsuc 32599

-- the text of an error of the protocol
abbrev pub error_text : ErrorCode → List ℕ
error_text ParseError = codes "the message is no JSON"
error_text InvalidRequest = codes "the message is no request"
error_text MethodNotFound = codes "the method is not known"
error_text InvalidParams = codes "the parameters do not fit the method"
error_text ServerNotInitialized = codes "the session has not begun"
error_text TooLong = codes "the message is longer than 16,777,216 bytes"

-- the reply to the request with this identifier, with an error of the protocol
abbrev pub refusal_of : ErrorCode → Data → Data
refusal_of code id = error_data id (number_of code) (error_text code)
