-- The lexemes of a text: a split of the whole text into gaps, line ends and tokens. Python Language Reference 3.12,
-- 2.1.1 "Logical lines".
use Rattle.std.specs.Prelude.{◌≡◌, ℕ, ◌+◌, ◌-◌, ◌<◌, ◌≤◌, true, false, ◌==◌, List, [], ◌∷◌, ◌++◌, Some, None, Result}
use Rattle.std.specs.Prelude.{Ok, Err, length}
use Rattle.std.specs.List.{list_all}
use Rattle.pc_source.specs.declared.fault.Refusal.{Refusal}
use Rattle.pc_source.specs.declared.fault.RefusalCode.{RefusalCode}
use Rattle.pc_token.specs.declared.token.Operator.{Operator}
use Rattle.pc_token.specs.declared.token.TokenKind.{TokenKind}
use Rattle.pc_token.specs.declared.token.TokenKind.TheVariants as t
use Rattle.pc_token.specs.Context.{LexicalContext, line_start, touches_word, after_gap, after_line_end, after_token}
use Rattle.pc_token.specs.Faults.{IsFault, innermost, bracket_limit}
use Rattle.pc_token.specs.Gaps.{IsBlanks, IsComment, IsLineEnd, ends_line}
use Rattle.pc_token.specs.Lexeme.{Lexeme, LogicalLine}
use Rattle.pc_token.specs.Names.{is_bad_name}
use Rattle.pc_token.specs.Numbers.{is_bad_number, is_bad_point, digit_count, digit_limit}
use Rattle.pc_token.specs.declared.operators.Role.{Role}
use Rattle.pc_token.specs.declared.operators.Role.TheVariants.{Opens, Closes, Plain}
use Rattle.pc_token.specs.Operators.{role_of}
use Rattle.pc_token.specs.Spelling.{IsLongest}
use Rattle.pc_token.specs.Strings.{is_tripled}

-- the sort of a piece of the text
pub data Sort : Type 0 where
  Blanks : Sort
  Comment : Sort
  LineEnd : Sort
  Lexical : TokenKind → Sort

-- a piece of the text: its sort and its bytes
pub record Piece : Type 0 where
  pub sort : Sort
  pub bytes : List ℕ

-- an operator with this role is accepted when these brackets are open
abbrev pub MayOpenOrClose : Role → List Operator → Type 0
MayOpenOrClose Opens brackets = length brackets < bracket_limit
MayOpenOrClose (Closes opener) brackets = innermost brackets ≡ Some opener
MayOpenOrClose Plain brackets = Unit {0}

-- a token of this kind is not refused here
abbrev pub IsAllowed : LexicalContext → TokenKind → List ℕ → List ℕ → Type 0
IsAllowed c t.Name bytes rest = is_bad_name c.last bytes ≡ false
IsAllowed c t.Int bytes rest = (is_bad_number (bytes ++ rest) ≡ false) × (digit_count bytes ≤ digit_limit)
IsAllowed c t.Str bytes rest = (touches_word c ≡ false) × (is_tripled (bytes ++ rest) ≡ false)
IsAllowed c (t.Operator o) bytes rest = MayOpenOrClose (role_of o) c.brackets × (is_bad_point (bytes ++ rest) ≡ false)
IsAllowed c _ bytes rest = Unit {0}

-- the piece fits here, before this rest: spaces and tabs, without a tab in the indentation of a line that has tokens; a
-- comment; a line end; or a token, the longest here, that is not refused
abbrev pub FitsBySort : LexicalContext → Sort → List ℕ → List ℕ → Type 0
FitsBySort c Blanks bytes rest = IsBlanks bytes rest
    × (c.last ≡ None → ends_line rest ≡ false → list_all (λ b. b == 32) bytes ≡ true)
FitsBySort c Comment bytes rest = IsComment bytes rest
FitsBySort c LineEnd bytes rest = IsLineEnd bytes
FitsBySort c (Lexical kind) bytes rest = IsLongest kind bytes rest × IsAllowed c kind bytes rest

-- the piece fits here, before this rest
abbrev pub Fits : LexicalContext → Piece → List ℕ → Type 0
Fits c p rest = FitsBySort c p.sort p.bytes rest

-- the context after a piece of this sort
abbrev pub after_sort : LexicalContext → Sort → List ℕ → LexicalContext
after_sort c Blanks bytes = after_gap c bytes
after_sort c Comment bytes = after_gap c bytes
after_sort c LineEnd bytes = after_line_end c.brackets c bytes
after_sort c (Lexical kind) bytes = after_token c kind bytes

-- the context after a piece
abbrev pub after : LexicalContext → Piece → LexicalContext
after c p = after_sort c p.sort p.bytes

-- the end of a split: the end of the text, or a fault some bytes on
pub data SplitEnd : Type 0 where
  Whole : SplitEnd
  Faulty : RefusalCode → ℕ → SplitEnd

-- the text is these pieces in order, each fitting at its place, and then ends with no open bracket, or has this fault
abbrev pub Splits : LexicalContext → List Piece → List ℕ → SplitEnd → Type 0
Splits c [] text Whole = (text ≡ []) × (c.brackets ≡ [])
Splits c [] text (Faulty code k) = IsFault c text code k
Splits c (p ∷ ps) text ending = (rest : List ℕ) × (text ≡ p.bytes ++ rest) × Fits c p rest
    × Splits (after c p) ps rest ending

-- the logical line that ends here, if it has a token, before the other items
abbrev pub close_line : ℕ → List Lexeme → List (Result LogicalLine Refusal) → List (Result LogicalLine Refusal)
close_line start [] others = others
close_line start (x ∷ xs) others = Ok (record { column = x.place.start - start; lexemes = x ∷ xs }) ∷ others

-- the items from a line end on, which ends the logical line if no bracket is open
abbrev pub items_from_line_end : List Operator → LexicalContext → List (Result LogicalLine Refusal)
    → List (Result LogicalLine Refusal)
items_from_line_end [] c others = close_line c.start c.done others
items_from_line_end (_ ∷ _) c others = others

-- the logical line that ends at a piece of this sort, if one does, before the other items
abbrev pub at_sort : Sort → LexicalContext → List (Result LogicalLine Refusal) → List (Result LogicalLine Refusal)
at_sort LineEnd c others = items_from_line_end c.brackets c others
at_sort _ c others = others

-- the logical lines that end in these pieces, each with its column, the number of spaces before its first token; then
-- the refusal, if the split ends at a fault
abbrev pub items_of : LexicalContext → List Piece → SplitEnd → List (Result LogicalLine Refusal)
items_of c [] Whole = close_line c.start c.done []
items_of c [] (Faulty code k) = Err (record { code = code; byte = c.at + k }) ∷ []
items_of c (p ∷ ps) ending = at_sort p.sort c (items_of (after c p) ps ending)

-- the text from here gives these logical lines, up to the first fault
abbrev pub Continues : LexicalContext → List ℕ → List (Result LogicalLine Refusal) → Type 0
Continues c text items = (ps : List Piece) × (ending : SplitEnd) × Splits c ps text ending × (items_of c ps ending ≡ items)

-- the logical lines of a text, up to its first fault
abbrev pub HasLines : List ℕ → List (Result LogicalLine Refusal) → Type 0
HasLines text items = Continues (line_start 0) text items

-- these are the logical lines of the text, and no other list is
abbrev pub HasOnly : List ℕ → List (Result LogicalLine Refusal) → Type 0
HasOnly text items = HasLines text items
    × ((others : List (Result LogicalLine Refusal)) → HasLines text others → others ≡ items)
