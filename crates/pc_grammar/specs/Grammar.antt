-- The terms of the grammar: the tokens that spell a thing, and its place. Python Language Reference 3.12, 1.2
-- "Notation" and 10 "Full Grammar specification".
pub mod Annotations
pub mod Expressions
pub mod Modules
pub mod Statements
use Rattle.std.specs.Prelude.{◌≡◌, ◌⊎◌, ℕ, ◌==◌, Bool, true, false, not, if◌then◌else◌, List, [], ◌∷◌, ◌++◌, filter}
use Rattle.std.specs.Prelude.{Option, Some, None}
use Rattle.pc_source.specs.declared.place.Place.{Place}
use Rattle.pc_token.specs.declared.token.TokenKind.{TokenKind}
use Rattle.pc_token.specs.declared.token.TokenKind.TheVariants as kind
use Rattle.pc_token.specs.declared.token.Keyword.{Keyword}
use Rattle.pc_token.specs.declared.token.Operator.{Operator}
use Rattle.pc_token.specs.declared.token.Operator.TheVariants as sign
use Rattle.pc_token.specs.Lexeme.{Lexeme}
use Rattle.pc_token.specs.Strings.{is_quote}
use Rattle.pc_tree.specs.Tree.{Name}

infixr 30 ◌⟫◌
-- a set of token lists: those that spell a part of the grammar
abbrev pub Spelling : Type 1
Spelling = List Lexeme → Type 0

-- ---- places

-- the empty place at byte 0, where there is no token
abbrev pub no_place : Place
no_place = record { start = 0; end = 0 }

-- the place of the first token
abbrev pub first_place : List Lexeme → Place
first_place [] = no_place
first_place (t ∷ ts) = t.place

-- the place of the last token
abbrev pub last_place : List Lexeme → Place
last_place [] = no_place
last_place (t ∷ []) = t.place
last_place (t ∷ u ∷ ts) = last_place (u ∷ ts)

-- the place from the first token to the last
abbrev pub span : List Lexeme → Place
span ts = record { start = (first_place ts).start; end = (last_place ts).end }

-- tokens of A, with the place from the first to the last
abbrev pub At : Place → Spelling → Spelling
At place A ts = (place ≡ span ts) × A ts

-- tokens of A, with the place of the first
abbrev pub Begins : Place → Spelling → Spelling
Begins place A ts = (place ≡ first_place ts) × A ts

-- ---- sequences and choices

-- tokens of A and then tokens of B
pub record Sequence (A B : Spelling) (ts : List Lexeme) : Type 0 where
  pub front : List Lexeme
  pub back : List Lexeme
  pub all : ts ≡ front ++ back
  pub left : A front
  pub right : B back

-- `A ⟫ B` is tokens of A, and then tokens of B
abbrev pub ◌⟫◌ : Spelling → Spelling → Spelling
◌⟫◌ A B ts = Sequence A B ts

-- no token
abbrev pub Nothing : Spelling
Nothing ts = ts ≡ []

-- the tokens of the thing if there is one, otherwise no token
abbrev pub Maybe : {X : Type 0} → (X → Spelling) → Option X → Spelling
Maybe A None ts = Nothing ts
Maybe A (Some x) ts = A x ts

-- tokens of A, or no token if nothing more may follow
abbrev pub Rest : Type 0 → Spelling → Spelling
Rest last A ts = A ts ⊎ (last × Nothing ts)

-- ---- tokens

-- one token of this kind
abbrev pub Just : TokenKind → Spelling
Just k ts = (t : Lexeme) × (t.kind ≡ k) × (ts ≡ t ∷ [])

-- one token, this operator
abbrev pub Sign : Operator → Spelling
Sign o = Just (kind.Operator o)

-- one token, this keyword
abbrev pub Word : Keyword → Spelling
Word w = Just (kind.Keyword w)

-- the name that the token is, in the form by which names are compared
abbrev pub name_of_token : Lexeme → Name
name_of_token t = record { place = t.place; text = t.form }

-- one token, this name at its place
abbrev pub IsName : Name → Spelling
IsName n ts = (t : Lexeme) × (t.kind ≡ kind.Name) × (n ≡ name_of_token t) × (ts ≡ t ∷ [])

-- the name of this form
abbrev pub Named : List ℕ → Spelling
Named form ts = (t : Lexeme) × (t.kind ≡ kind.Name) × (t.form ≡ form) × (ts ≡ t ∷ [])

-- the name of this form, at this place
abbrev pub NamedAt : List ℕ → Place → Spelling
NamedAt form place ts = (t : Lexeme) × (t.kind ≡ kind.Name) × (t.form ≡ form) × (place ≡ t.place) × (ts ≡ t ∷ [])

-- a comma and tokens of A, or no token if nothing more may follow
abbrev pub AfterComma : Type 0 → Spelling → Spelling
AfterComma last A = Rest last (Sign sign.Comma ⟫ A)

-- ---- literals, Language Reference 2.4

-- the digits of a number: its text without underscores
abbrev pub digits_of : List ℕ → List ℕ
digits_of text = filter (λ b. not (b == 95)) text

-- the character that a backslash and this character mean: the control character for n, t and r, otherwise the
-- character itself
abbrev pub escaped : ℕ → ℕ
escaped c = if c == 110 then 10 else (if c == 116 then 9 else (if c == 114 then 13 else c))

-- the characters between the quotes, decoded; the flag says whether a backslash is before them
abbrev pub decoded : Bool → List ℕ → List ℕ
decoded after_backslash [] = []
decoded true (c ∷ rest) = escaped c ∷ decoded false rest
decoded false (c ∷ rest) = (if c == 92 then [] else c ∷ []) ++ decoded (c == 92) rest

-- a text without the quote that it begins with
abbrev pub unopened : List ℕ → List ℕ
unopened [] = []
unopened (b ∷ text) = if is_quote b then text else b ∷ text

-- a text without the quote that it ends with
abbrev pub unclosed : List ℕ → List ℕ
unclosed [] = []
unclosed (b ∷ []) = if is_quote b then [] else b ∷ []
unclosed (b ∷ c ∷ text) = b ∷ unclosed (c ∷ text)

-- the characters of a string: its text without the quotes, with each escape replaced by the character that it means
abbrev pub characters_of : List ℕ → List ℕ
characters_of text = decoded false (unclosed (unopened text))

-- one token, the number with these digits
abbrev pub IsNumber : List ℕ → Spelling
IsNumber digits ts = (t : Lexeme) × (t.kind ≡ kind.Int) × (digits ≡ digits_of t.text) × (ts ≡ t ∷ [])

-- one token, the string with these characters
abbrev pub IsString : List ℕ → Spelling
IsString characters ts = (t : Lexeme) × (t.kind ≡ kind.Str) × (characters ≡ characters_of t.text) × (ts ≡ t ∷ [])
