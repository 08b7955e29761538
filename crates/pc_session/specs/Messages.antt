-- Members of messages. Language Server Protocol 3.17.
use Rattle.std.specs.Prelude.{ℕ, ℤ, int_lt, Bool, true, false, ◌||◌, List, codes, Option, None, Some, bytes_eq}
use Rattle.std.specs.Prelude.{if◌then◌else◌, is_some, unwrap_or, option_map, option_and_then}
use Rattle.serde_json.specs.Data.{Data, Items, no_items, item}
use Rattle.serde_json.specs.Find.{get, as_str, as_bool, as_number, as_null, as_array, as_object, as_u64, as_i64}
use Rattle.pc_position.specs.declared.positions.Encoding.TheVariants.{Utf8, Utf16}
use Rattle.pc_position.specs.declared.positions.Position.{Position}
use Rattle.pc_documents.specs.Agreed.{Agreed}
use Rattle.pc_session.specs.declared.messages.LspMethod.{LspMethod}
use Rattle.pc_session.specs.declared.messages.LspMethod.TheVariants.{Initialize, Initialized, Shutdown, Exit, DidOpen}
use Rattle.pc_session.specs.declared.messages.LspMethod.TheVariants.{DidChange, DidSave, DidClose, Hover, Diagnostic}
use Rattle.pc_session.specs.declared.messages.LspMethod.TheVariants.{CodeAction, DocumentSymbol, Definition, Other}

-- the method of this name
abbrev pub method_named : List ℕ → LspMethod
method_named name =
    if bytes_eq name (codes "initialize") then Initialize else (
    if bytes_eq name (codes "initialized") then Initialized else (
    if bytes_eq name (codes "shutdown") then Shutdown else (
    if bytes_eq name (codes "exit") then Exit else (
    if bytes_eq name (codes "textDocument/didOpen") then DidOpen else (
    if bytes_eq name (codes "textDocument/didChange") then DidChange else (
    if bytes_eq name (codes "textDocument/didSave") then DidSave else (
    if bytes_eq name (codes "textDocument/didClose") then DidClose else (
    if bytes_eq name (codes "textDocument/hover") then Hover else (
    if bytes_eq name (codes "textDocument/diagnostic") then Diagnostic else (
    if bytes_eq name (codes "textDocument/codeAction") then CodeAction else (
    if bytes_eq name (codes "textDocument/documentSymbol") then DocumentSymbol else (
    if bytes_eq name (codes "textDocument/definition") then Definition else Other))))))))))))

-- the method that a message names
abbrev pub method_in : Data → Option LspMethod
method_in message = option_map method_named (option_and_then as_str (get (codes "method") message))

-- an identifier of a request: a text, a number or null
abbrev pub is_identifier : Data → Bool
is_identifier value = is_some (as_str value) || (is_some (as_number value) || is_some (as_null value))

-- a message without a method is a reply if it has a result or an error
abbrev pub is_reply : Data → Bool
is_reply message = is_some (get (codes "result") message) || is_some (get (codes "error") message)

-- the parameter of this name
abbrev pub parameter : List ℕ → Data → Option Data
parameter name message = option_and_then (get name) (get (codes "params") message)

-- the member of the second name in the parameter of the first
abbrev pub inside : List ℕ → List ℕ → Data → Option Data
inside name inner message = option_and_then (get inner) (parameter name message)

-- the URI of the document that a message names
abbrev pub uri_in : Data → Option (List ℕ)
uri_in message = option_and_then as_str (inside (codes "textDocument") (codes "uri") message)

-- the version of the document that a message gives: a whole number, which may be negative
abbrev pub version_in : Data → Option ℤ
version_in message =
    option_and_then as_i64 (option_and_then as_number (inside (codes "textDocument") (codes "version") message))

-- the first version is older than the second; false if either is unknown
abbrev pub is_older : Option ℤ → Option ℤ → Bool
is_older None known = false
is_older (Some version) None = false
is_older (Some version) (Some known) = int_lt version known

-- the text of the document that is opened
abbrev pub opened_text : Data → Option (List ℕ)
opened_text message = option_and_then as_str (inside (codes "textDocument") (codes "text") message)

-- the last item
abbrev pub last_item : Items → Option Data
last_item no_items = None
last_item (item value no_items) = Some value
last_item (item value (item next rest)) = last_item (item next rest)

-- the whole text that a change gives; none if it names a range
abbrev pub whole_text : Data → Option (List ℕ)
whole_text change =
    if is_some (get (codes "range") change) then None else option_and_then as_str (get (codes "text") change)

-- the text after changes: the whole text that the last of them gives, or the text before if there are none
abbrev pub text_after : Option (List ℕ) → Items → Option (List ℕ)
text_after before no_items = before
text_after before (item change changes) = option_and_then whole_text (last_item (item change changes))

-- the text after the changes in a message
abbrev pub changed_text : Option (List ℕ) → Data → Option (List ℕ)
changed_text before message =
    option_and_then (text_after before) (option_and_then as_array (parameter (codes "contentChanges") message))

-- the position of a line and a character, if both are given
abbrev pub position_from : Option ℕ → Option ℕ → Option Position
position_from None character = None
position_from (Some line) None = None
position_from (Some line) (Some character) = Some (record { line = line; character = character })

-- one number of the position that a message names
abbrev pub place_in : List ℕ → Data → Option ℕ
place_in name message = option_and_then as_u64 (option_and_then as_number (inside (codes "position") name message))

-- the position that a message names
abbrev pub position_in : Data → Option Position
position_in message = position_from (place_in (codes "line") message) (place_in (codes "character") message)

-- the value is this text
abbrev pub is_text : List ℕ → Data → Bool
is_text text value = unwrap_or (option_map (λ found. bytes_eq found text) (as_str value)) false

-- one of the items is this text
abbrev pub has_text : List ℕ → Items → Bool
has_text text no_items = false
has_text text (item value values) = is_text text value || has_text text values

-- the client offers this position encoding
abbrev pub offers : List ℕ → Data → Bool
offers name message = unwrap_or (option_map (has_text name) (option_and_then as_array (option_and_then
    (get (codes "positionEncodings")) (option_and_then (get (codes "general"))
    (parameter (codes "capabilities") message))))) false

-- the document that is opened is Python: its language is `python` or missing
abbrev pub is_python : Data → Bool
is_python message = unwrap_or (option_map (is_text (codes "python"))
    (inside (codes "textDocument") (codes "languageId") message)) true

-- the client can pull diagnostics
abbrev pub pulls_in : Data → Bool
pulls_in message = is_some (option_and_then as_object (option_and_then (get (codes "diagnostic"))
    (inside (codes "capabilities") (codes "textDocument") message)))

-- the client accepts related information: `relatedInformation` of its `publishDiagnostics` is true. Diagnostics that are
-- pulled have it by the same word: in Language Server Protocol 3.17 there is no other, `DiagnosticClientCapabilities` has
-- none.
abbrev pub accepts_related : Data → Bool
accepts_related message = unwrap_or (option_and_then as_bool (option_and_then (get (codes "relatedInformation"))
    (option_and_then (get (codes "publishDiagnostics"))
    (inside (codes "capabilities") (codes "textDocument") message)))) false

-- an option of the client
abbrev pub option_in : List ℕ → Data → Option Data
option_in name message = inside (codes "initializationOptions") name message

-- the settings that `initialize` agrees on: UTF-8 if the client offers it, otherwise UTF-16; dynamic places are
-- information if the client asks for it, otherwise warnings; the page that explains the codes; and whether the client
-- pulls diagnostics, and accepts related information
abbrev pub agreed_in : Data → Agreed
agreed_in message = record {
  encoding = if offers (codes "utf-8") message then Utf8 else Utf16;
  dynamic_severity = if unwrap_or (option_map (is_text (codes "information"))
      (option_in (codes "dynamicPlaces") message)) false then 3 else 2;
  codes_page = option_and_then as_str (option_in (codes "codesPage") message);
  pulls = pulls_in message;
  related = accepts_related message;
}
