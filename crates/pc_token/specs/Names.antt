-- Names. Python Language Reference 3.12, 2.3 "Identifiers and keywords"; which names are refused is an own rule of the
-- profile.
use Rattle.std.specs.Prelude.{◌≡◌, ℕ, Bool, true, false, not, ◌&&◌, ◌||◌, ◌==◌, nat_eq, nat_lt, List, ◌∷◌, Option, Some}
use Rattle.std.specs.Prelude.{codes, chars, bytes_eq, encode_utf8_all, slice_get}
use Rattle.std.specs.List.{list_all, starts_with}
use Rattle.std.specs.Option.{option_map_or}
use Rattle.unicode_ident.specs.Ident.{is_xid_start, is_xid_continue}
use Rattle.unicode_normalization.specs.Forms.{nfkc}
use Rattle.pc_source.specs.ReservedNames.{is_reserved}
use Rattle.pc_token.specs.declared.token.Keyword.TheVariants as k
use Rattle.pc_token.specs.declared.token.TokenKind.{TokenKind}
use Rattle.pc_token.specs.declared.token.TokenKind.TheVariants as t
use Rattle.pc_token.specs.Keywords.{is_keyword}

-- the character may begin a name
abbrev pub begins_name : ℕ → Bool
begins_name c = is_xid_start c || c == 95

-- the text's first character may begin a name
abbrev pub begins_word : List ℕ → Bool
begins_word text = option_map_or begins_name (slice_get (chars text) 0) false

-- the text's first character may continue a name
abbrev pub continues_word : List ℕ → Bool
continues_word text = option_map_or is_xid_continue (slice_get (chars text) 0) false

-- a name: a character that may begin one, then characters that may continue one
abbrev pub IsName : List ℕ → Type 0
IsName bytes = (c : ℕ) × (cs : List ℕ) × (begins_name c ≡ true) × (list_all is_xid_continue cs ≡ true)
    × (bytes ≡ encode_utf8_all (c ∷ cs))

-- the name in normal form NFKC, by which names are compared
unfoldable pub name_form : List ℕ → List ℕ
name_form bytes = encode_utf8_all (nfkc (chars bytes))

-- all characters are ASCII
abbrev pub is_ascii : List ℕ → Bool
is_ascii bytes = list_all (λ b. nat_lt b 128) bytes

-- the last token is the keyword `from`
abbrev pub is_from : Option TokenKind → Bool
is_from (Some (t.Keyword k.From)) = true
is_from _ = false

-- a name whose form begins with two underscores, except `__future__` after `from`, or that is not ASCII and has the
-- form of a keyword or a reserved name
abbrev pub is_bad_name : Option TokenKind → List ℕ → Bool
is_bad_name last bytes =
    (starts_with nat_eq (name_form bytes) (codes "__") && not (is_from last && bytes_eq bytes (codes "__future__")))
    || (not (is_ascii bytes) && (is_keyword (name_form bytes) || is_reserved (name_form bytes)))
