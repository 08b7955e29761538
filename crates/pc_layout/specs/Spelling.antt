-- The first and last token of a logical line, its words, and the words and signs that the profile excludes. Python
-- Language Reference 3.12, 2.3.1 "Keywords", 2.5 "Operators", 2.6 "Delimiters"; the exclusions are own rules of the
-- profile.
use Rattle.std.specs.Prelude.{◌≡◌, ◌⊎◌, ℕ, ◌-◌, Bool, true, false, List, [], ◌∷◌, Option, Some, None, map, codes}
use Rattle.std.specs.Prelude.{length, option_map}
use Rattle.std.specs.List.{slice_get}
use Rattle.std.specs.Option.{option_map_or}
use Rattle.pc_token.specs.declared.token.Keyword.{Keyword}
use Rattle.pc_token.specs.declared.token.Keyword.TheVariants.{As, Async, Await, Del, Except, Finally, From, Global}
use Rattle.pc_token.specs.declared.token.Keyword.TheVariants.{Import, Lambda, Nonlocal, Raise, Try, With, Yield}
use Rattle.pc_token.specs.declared.token.Operator.{Operator}
use Rattle.pc_token.specs.declared.token.Operator.TheVariants as o
use Rattle.pc_token.specs.declared.token.TokenKind.{TokenKind}
use Rattle.pc_token.specs.declared.token.TokenKind.TheVariants as k
use Rattle.pc_token.specs.Lexeme.{Lexeme, LogicalLine}

-- the kind of the first token, if there is one
abbrev pub first_kind : List Lexeme → Option TokenKind
first_kind [] = None
first_kind (x ∷ xs) = Some x.kind

-- the last token, if there is one
abbrev pub last_lexeme : List Lexeme → Option Lexeme
last_lexeme xs = slice_get xs (length xs - 1)

-- the kind of the last token, if there is one
abbrev pub last_kind : List Lexeme → Option TokenKind
last_kind xs = option_map (λ x. x.kind) (last_lexeme xs)

-- the byte at which the first token begins, or the length of the text if there is none
abbrev pub first_byte : ℕ → List Lexeme → ℕ
first_byte len [] = len
first_byte len (x ∷ xs) = x.place.start

-- the byte at which the last token ends, or the length of the text if there is none
abbrev pub last_byte : ℕ → List Lexeme → ℕ
last_byte len xs = option_map_or (λ x. x.place.end) (last_lexeme xs) len

-- the line's first token is of this kind
abbrev pub BeginsWith : TokenKind → LogicalLine → Type 0
BeginsWith kind l = first_kind l.lexemes ≡ Some kind

-- the line's last token is `:`
abbrev pub EndsInColon : LogicalLine → Type 0
EndsInColon l = last_kind l.lexemes ≡ Some (k.Operator o.Colon)

-- the words of the tokens: the normal form of a name, the text of any other token
abbrev pub forms : List Lexeme → List (List ℕ)
forms xs = map (λ x. x.form) xs

-- the line is exactly these words
abbrev pub IsSpelled : List (List ℕ) → LogicalLine → Type 0
IsSpelled words l = forms l.lexemes ≡ words

-- the words of the first import header
abbrev pub future_header : List (List ℕ)
future_header = codes "from" ∷ codes "__future__" ∷ codes "import" ∷ codes "annotations" ∷ []

-- the words of the second import header
abbrev pub dataclass_header : List (List ℕ)
dataclass_header = codes "from" ∷ codes "dataclasses" ∷ codes "import" ∷ codes "dataclass" ∷ []

-- the words of the third import header
abbrev pub any_header : List (List ℕ)
any_header = codes "from" ∷ codes "typing" ∷ codes "import" ∷ codes "Any" ∷ []

-- the words of the only decorator
abbrev pub dataclass_decorator : List (List ℕ)
dataclass_decorator = codes "@" ∷ codes "dataclass" ∷ []

-- an import header: one of the three, at column 0
abbrev pub IsImportHeader : LogicalLine → Type 0
IsImportHeader l = (l.column ≡ 0) × (IsSpelled future_header l ⊎ (IsSpelled dataclass_header l ⊎ IsSpelled any_header l))

-- the keywords that the profile excludes (two of them are used in the import headers)
abbrev pub excludes_keyword : Keyword → Bool
excludes_keyword As = true
excludes_keyword Async = true
excludes_keyword Await = true
excludes_keyword Del = true
excludes_keyword Except = true
excludes_keyword Finally = true
excludes_keyword From = true
excludes_keyword Global = true
excludes_keyword Import = true
excludes_keyword Lambda = true
excludes_keyword Nonlocal = true
excludes_keyword Raise = true
excludes_keyword Try = true
excludes_keyword With = true
excludes_keyword Yield = true
excludes_keyword _ = false

-- the operators that the profile excludes
abbrev pub excludes_operator : Operator → Bool
excludes_operator o.Slash = true
excludes_operator o.DoubleStar = true
excludes_operator o.Ampersand = true
excludes_operator o.Circumflex = true
excludes_operator o.Tilde = true
excludes_operator o.LeftShift = true
excludes_operator o.RightShift = true
excludes_operator o.ColonEqual = true
excludes_operator o.PlusEqual = true
excludes_operator o.MinusEqual = true
excludes_operator o.StarEqual = true
excludes_operator o.SlashEqual = true
excludes_operator o.DoubleSlashEqual = true
excludes_operator o.PercentEqual = true
excludes_operator o.DoubleStarEqual = true
excludes_operator o.AmpersandEqual = true
excludes_operator o.BarEqual = true
excludes_operator o.CircumflexEqual = true
excludes_operator o.LeftShiftEqual = true
excludes_operator o.RightShiftEqual = true
excludes_operator o.AtEqual = true
excludes_operator o.Semicolon = true
excludes_operator o.Ellipsis = true
excludes_operator _ = false
