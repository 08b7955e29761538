-- The declaration of the name at a position of a text: the line on which the name is bound. Own rule of the server.
use Rattle.std.specs.Char.{is_ascii_whitespace}
use Rattle.std.specs.List.{find, prefix_len, suffix_len}
use Rattle.std.specs.Prelude.{◌≡◌, ◌⊎◌, ℕ, ◌+◌, ◌-◌, ◌==◌, Bool, not, nat_le, List, [], length, take, drop, slice_range}
use Rattle.std.specs.Prelude.{Option, None, option_map, option_and_then, if◌then◌else◌}
use Rattle.std.specs.Str.Lossy.{utf8_valid_len}
use Rattle.pc_source.specs.declared.fault.Refusal.{Refusal}
use Rattle.pc_tree.specs.Tree.{Name, Module}
use Rattle.pc_front.specs.Bytes.{IsModuleOf, IsRefusalOf}
use Rattle.pc_bindings.specs.Mentions.{Mention, mentions_in}
use Rattle.pc_bindings.specs.Bindings.{binding_of}
use Rattle.pc_position.specs.declared.positions.Encoding.{Encoding}
use Rattle.pc_position.specs.declared.positions.Position.{Position}
use Rattle.pc_documents.specs.Definitions.{is_at}

-- a byte of a line: any but a line feed
abbrev pub is_in_line : ℕ → Bool
is_in_line byte = not (byte == 10)

-- the start of the line of a byte: after the last line feed before the byte
abbrev pub line_begins : List ℕ → ℕ → ℕ
line_begins text byte = byte - suffix_len is_in_line (take byte text)

-- the end of the line of a byte: the first line feed from the byte on, or the end of the text
abbrev pub line_stops : List ℕ → ℕ → ℕ
line_stops text byte = byte + prefix_len is_in_line (drop byte text)

-- the line of a byte; empty if the byte is past the end of the text
abbrev pub line_around : List ℕ → ℕ → List ℕ
line_around text byte =
    if nat_le byte (length text) then slice_range text (line_begins text byte) (line_stops text byte) else []

-- a text without the white space at its start
abbrev pub without_indentation : List ℕ → List ℕ
without_indentation bytes = drop (prefix_len is_ascii_whitespace bytes) bytes

-- a text without the white space at its start and at its end
abbrev pub bare_line : List ℕ → List ℕ
bare_line bytes =
    take (length (without_indentation bytes) - suffix_len is_ascii_whitespace (without_indentation bytes))
    (without_indentation bytes)

-- the longest front of a text that is whole characters of UTF-8
abbrev pub whole_characters : List ℕ → List ℕ
whole_characters bytes = take (utf8_valid_len bytes) bytes

-- the greatest length of a declaration, in bytes
abbrev pub declaration_limit : ℕ
declaration_limit = 200

-- the declaration on the line of a byte: the line without the white space at its ends, as far as its whole characters
-- are within the limit
abbrev pub declaration_on : List ℕ → ℕ → List ℕ
declaration_on text byte = whole_characters (take declaration_limit (bare_line (line_around text byte)))

-- the first of these names that is at the position, if one is
abbrev pub mention_under : Encoding → List ℕ → Position → List Mention → Option Mention
mention_under encoding text position names = find (is_at encoding text position) names

-- the name that binds the name of the module at the position, if there is one
abbrev pub bound_at : Encoding → List ℕ → Position → Module → Option Name
bound_at encoding text position tree =
    option_and_then (binding_of tree) (mention_under encoding text position (mentions_in tree))

-- the declaration of the name of the module at the position: that on the line of the name that binds it
abbrev pub declaration_in : Encoding → List ℕ → Position → Module → Option (List ℕ)
declaration_in encoding text position tree =
    option_map (λ (n : Name). declaration_on text n.place.start) (bound_at encoding text position tree)

-- the declaration at the position of a text that spells this module
pub record IsDeclarationOfModule (encoding : Encoding) (text : List ℕ) (position : Position)
    (declaration : Option (List ℕ)) : Type 0 where
  pub tree : Module
  pub spelled : IsModuleOf text tree
  pub is : declaration ≡ declaration_in encoding text position tree

-- a text that is refused has no declaration
pub record IsRefusedWithoutDeclaration (text : List ℕ) (declaration : Option (List ℕ)) : Type 0 where
  pub refusal : Refusal
  pub refused : IsRefusalOf text refusal
  pub none : declaration ≡ None

-- the declaration at the position of a text, if a name there is bound; none if the text is refused
abbrev pub IsDeclarationAt : Encoding → List ℕ → Position → Option (List ℕ) → Type 0
IsDeclarationAt encoding text position declaration =
    IsDeclarationOfModule encoding text position declaration ⊎ IsRefusedWithoutDeclaration text declaration
