-- Diagnostics as data. Language Server Protocol 3.17, "Diagnostic".
use Rattle.std.specs.List.{suffix_len}
use Rattle.std.specs.Prelude.{ℕ, ◌+◌, ◌-◌, ◌==◌, ◌&&◌, nat_le, nat_lt, Bool, List, [], ◌∷◌, ◌++◌, length, map, take}
use Rattle.std.specs.Prelude.{Option, None, Some, codes, decimal, not, string_bytes, slice_get, if◌then◌else◌}
use Rattle.serde_json.specs.Data.{Data, Members, number, string, array, object, unsigned, no_members, member}
use Rattle.serde_json.specs.View.{items_of}
use Rattle.pc_source.specs.declared.fault.Refusal.{Refusal}
use Rattle.pc_source.specs.declared.place.Place.{Place}
use Rattle.pc_source.specs.Refusals.{code_text}
use Rattle.pc_position.specs.declared.positions.Encoding.{Encoding}
use Rattle.pc_position.specs.declared.positions.Position.{Position}
use Rattle.pc_position.specs.Positions.{line_at, character_at}
use Rattle.pc_tree.specs.declared.code.Code.{Code}
use Rattle.pc_tree.specs.Code.{text_of, is_error}
use Rattle.pc_code_texts.specs.Findings.{meaning_of}
use Rattle.pc_code_texts.specs.Refusals.{refusal_meaning_of}
use Rattle.pc_documents.specs.declared.checker.CheckOutcome.{CheckOutcome}
use Rattle.pc_documents.specs.declared.checker.CheckOutcome.TheVariants.{Items, Refused}
use Rattle.pc_documents.specs.declared.checker.FlowTypes.{FlowTypes}
use Rattle.pc_documents.specs.declared.checker.ReportedFinding.{ReportedFinding}
use Rattle.pc_documents.specs.declared.checker.ToldDetail.{ToldDetail}
use Rattle.pc_documents.specs.Agreed.{Agreed}
use Rattle.pc_documents.specs.Anchors.{anchor_of, refusal_anchor_of, entry_at}

-- the position of a byte
abbrev pub position_at : Encoding → List ℕ → ℕ → Position
position_at encoding text byte = record { line = line_at text byte; character = character_at encoding text byte }

-- a position
abbrev pub position_data : Position → Data
position_data position =
    object (member (codes "character") (number (unsigned position.character))
    (member (codes "line") (number (unsigned position.line)) no_members))

-- from the position of a byte to that of another
abbrev pub range_data : Encoding → List ℕ → ℕ → ℕ → Data
range_data encoding text start end =
    object (member (codes "end") (position_data (position_at encoding text end))
    (member (codes "start") (position_data (position_at encoding text start)) no_members))

-- a range of the document with this address
abbrev pub location_of : List ℕ → Data → Data
location_of uri range = object (member (codes "range") range (member (codes "uri") (string uri) no_members))

-- the severity of a code: 1, an error, or what was agreed for dynamic places
abbrev pub severity_of : ℕ → Code → ℕ
severity_of dynamic code = if is_error code then 1 else dynamic

-- the meaning of a code, after the two types of its flow
abbrev pub meaning_with_types : Code → Option FlowTypes → List ℕ
meaning_with_types code None = meaning_of code
meaning_with_types code (Some flow) = string_bytes flow.from
    ++ (codes " -> " ++ (string_bytes flow.to ++ (codes ": " ++ meaning_of code)))

-- the message of a finding: the sentence of its detail; without one the meaning of its code, after the two types of its
-- flow
abbrev pub message_text : Code → Option FlowTypes → Option ToldDetail → List ℕ
message_text code flow None = meaning_with_types code flow
message_text code flow (Some detail) = string_bytes detail.sentence

-- an entry of related information: a location, and a word for the reader
abbrev pub related_entry : Data → Data
related_entry location =
    object (member (codes "location") location (member (codes "message") (string (codes "see here")) no_members))

-- the entry for another place in the document with this address
abbrev pub place_data : Encoding → List ℕ → List ℕ → Place → Data
place_data encoding text uri at = related_entry (location_of uri (range_data encoding text at.start at.end))

-- the related information for places: an entry for each, in order, if the client accepts it and there is such a place
abbrev pub related_to : Agreed → List ℕ → List ℕ → List Place → Option Data
related_to agreed text uri places = if agreed.related && not (length places == 0)
    then Some (array (items_of (map (place_data agreed.encoding text uri) places))) else None

-- the related information of a finding: the other places that its detail names
abbrev pub related_data : Agreed → List ℕ → List ℕ → Option ToldDetail → Option Data
related_data agreed text uri None = None
related_data agreed text uri (Some detail) = related_to agreed text uri detail.others.items

-- members, after a link to the entry of a code if the client named a page
abbrev pub with_link : Option (List ℕ) → Members → Members
with_link None members = members
with_link (Some entry) members =
    member (codes "codeDescription") (object (member (codes "href") (string entry) no_members)) members

-- members, after related information if there is any
abbrev pub with_related : Option Data → Members → Members
with_related None members = members
with_related (Some related) members = member (codes "relatedInformation") related members

-- a diagnostic, with a link to the entry of its code if the client named a page, and with related information if there
-- is any
abbrev pub diagnostic_data : Option (List ℕ) → Option Data → Data → ℕ → List ℕ → List ℕ → Data
diagnostic_data entry related range severity code message =
    object (member (codes "code") (string code)
    (with_link entry (member (codes "message") (string message)
    (member (codes "range") range
    (with_related related (member (codes "severity") (number (unsigned severity))
    (member (codes "source") (string (codes "pycheck")) no_members)))))))

-- the diagnostic of a finding in the text of the document with this address
abbrev pub item_data : Agreed → List ℕ → List ℕ → ReportedFinding → Data
item_data agreed text uri item = diagnostic_data (entry_at agreed.codes_page (anchor_of item.finding.code))
    (related_data agreed text uri item.detail)
    (range_data agreed.encoding text item.finding.place.start item.finding.place.end)
    (severity_of agreed.dynamic_severity item.finding.code)
    (text_of item.finding.code) (message_text item.finding.code item.flow item.detail)

-- the number of bytes of the character that begins with this byte; 2 for a carriage return with its line feed
abbrev pub width_of : ℕ → ℕ
width_of byte = if byte == 13 then 2 else (if nat_lt byte 192 then 1 else (if nat_lt byte 224 then 2 else (
    if nat_lt byte 240 then 3 else 4)))

-- a continuation byte of UTF-8
abbrev pub is_continuation : ℕ → Bool
is_continuation byte = nat_le 128 byte && nat_lt byte 192

-- the end of the character at a byte, given its first byte
abbrev pub end_after : ℕ → Option ℕ → ℕ
end_after byte None = byte
end_after byte (Some first) = byte + width_of first

-- the start of the character at a byte, or of the last character if the byte is past the end of the text
abbrev pub start_of : List ℕ → ℕ → ℕ
start_of text byte =
    if nat_lt byte (length text) then byte else length text - (1 + suffix_len is_continuation text)

-- the end of the character at a byte
abbrev pub end_of : List ℕ → ℕ → ℕ
end_of text byte = end_after (start_of text byte) (slice_get text (start_of text byte))

-- the diagnostic of a refusal, at the character of its byte
abbrev pub refusal_data : Agreed → List ℕ → Refusal → Data
refusal_data agreed text refusal = diagnostic_data (entry_at agreed.codes_page (refusal_anchor_of refusal.code)) None
    (range_data agreed.encoding text (start_of text refusal.byte) (end_of text refusal.byte))
    1 (code_text refusal.code) (refusal_meaning_of refusal.code)

-- a position in the first line
abbrev pub position_in_first_line : ℕ → Data
position_in_first_line character = position_data (record { line = 0; character = character })

-- a diagnostic without a code, about the whole text: a warning at its first character
abbrev pub note_data : List ℕ → Data
note_data message =
    object (member (codes "message") (string message)
    (member (codes "range")
    (object (member (codes "end") (position_in_first_line 1) (member (codes "start") (position_in_first_line 0) no_members)))
    (member (codes "severity") (number (unsigned 2))
    (member (codes "source") (string (codes "pycheck")) no_members))))

-- the only diagnostic of a document whose text is not known
abbrev pub unknown_data : Data
unknown_data = note_data (codes "not checked: the text of this document is not known until it changes")

-- the maximum number of diagnostics of a text
abbrev pub diagnostics_limit : ℕ
diagnostics_limit = 1000

-- the diagnostic that says how many findings are not shown
abbrev pub more_data : ℕ → Data
more_data left = note_data (decimal left ++ codes " more findings are not shown")

-- all diagnostics if they are within the limit; otherwise the first ones, and one that says how many are not shown
abbrev pub limited : List Data → List Data
limited all = if nat_le (length all) diagnostics_limit then all
    else take 999 all ++ more_data (length all - 999) ∷ []

-- the diagnostics of the text of the document with this address: one for each finding, in order and within the limit, or
-- exactly one for its refusal
abbrev pub found_data : Agreed → List ℕ → List ℕ → CheckOutcome → List Data
found_data agreed text uri (Items items) = limited (map (item_data agreed text uri) items.items)
found_data agreed text uri (Refused refusal) = refusal_data agreed text refusal ∷ []
