-- A forest of suites written flat: a NEWLINE after each line, an INDENT before a deeper suite, a DEDENT after it, END
-- last. Python Language Reference 3.12, 2.1.1 "Logical lines", 2.1.8 "Indentation"; the places are own rules of the
-- profile.
use Rattle.std.specs.Prelude.{ℕ, ◌+◌, ◌-◌, ◌&&◌, ◌==◌, nat_lt, if◌then◌else◌, List, [], ◌∷◌, ◌++◌, drop, length}
use Rattle.std.specs.Prelude.{slice_index, slice_range, position}
use Rattle.std.specs.Option.{option_map_or}
use Rattle.pc_source.specs.declared.place.Place.{Place}
use Rattle.pc_token.specs.declared.token.TokenKind.{TokenKind}
use Rattle.pc_token.specs.declared.token.TokenKind.TheVariants.{Newline, Indent, Dedent, End}
use Rattle.pc_token.specs.Lexeme.{Lexeme, LogicalLine}
use Rattle.pc_layout.specs.Spelling.{first_byte, last_byte}
use Rattle.pc_layout.specs.Forest.{Suite, nothing, line, lines_of}

-- the first line feed at or after a byte, or the length of the text if there is none
abbrev pub line_feed_from : List ℕ → ℕ → ℕ
line_feed_from text from = option_map_or (λ n. from + n) (position (λ b. b == 10) (drop from text)) (length text)

-- the place of a line end: the line feed with a carriage return before it, if any; empty at the end of the text
abbrev pub line_end_at : List ℕ → ℕ → ℕ → Place
line_end_at text from feed = record {
  start = if nat_lt feed (length text) && (nat_lt from feed && slice_index text (feed - 1) == 13) then feed - 1
      else feed;
  end = if nat_lt feed (length text) then feed + 1 else feed;
}

-- the place of the first line end at or after this byte, or the empty place at the end of the text
abbrev pub line_end : List ℕ → ℕ → Place
line_end text from = line_end_at text from (line_feed_from text from)

-- a token of the layout with the text of its place
abbrev pub sign : TokenKind → List ℕ → Place → Lexeme
sign kind text place = record {
  kind = kind;
  place = place;
  text = slice_range text place.start place.end;
  form = slice_range text place.start place.end;
}

-- a token of the layout with no text
abbrev pub empty_token : TokenKind → ℕ → Lexeme
empty_token kind byte = record { kind = kind; place = record { start = byte; end = byte }; text = []; form = [] }

-- the NEWLINE after these tokens
abbrev pub newline : List ℕ → List Lexeme → Lexeme
newline text xs = sign Newline text (line_end text (last_byte (length text) xs))

-- the tokens of a line and its NEWLINE
abbrev pub written_line : List ℕ → List Lexeme → List Lexeme
written_line text xs = xs ++ newline text xs ∷ []

-- the byte at which the first of these lines begins, or this byte if there is no line
abbrev pub starts_at : List ℕ → ℕ → List LogicalLine → ℕ
starts_at text byte [] = byte
starts_at text byte (l ∷ ls) = first_byte (length text) l.lexemes

-- a deeper suite between its INDENT, at its first line, and its DEDENT, at the next line; nothing if it has no lines
abbrev pub indented_lexemes : List ℕ → List LogicalLine → ℕ → List Lexeme → List Lexeme
indented_lexemes text [] next flat_lexemes = []
indented_lexemes text (l ∷ ls) next flat_lexemes =
    empty_token Indent (first_byte (length text) l.lexemes) ∷ (flat_lexemes ++ empty_token Dedent next ∷ [])

-- a suite written flat, before a line that begins at this byte
abbrev pub flat_lexemes : List ℕ → Suite → ℕ → List Lexeme
flat_lexemes text nothing next = []
flat_lexemes text (line l deeper others) next =
    written_line text l.lexemes
    ++ (indented_lexemes text (lines_of deeper) (starts_at text next (lines_of others))
    (flat_lexemes text deeper (starts_at text next (lines_of others)))
    ++ flat_lexemes text others next)

-- the forest of the whole text written flat, and END
abbrev pub flat : List ℕ → Suite → List Lexeme
flat text forest = flat_lexemes text forest (length text) ++ empty_token End (length text) ∷ []
