-- The tokens before an operand.
use Rattle.std.specs.Prelude.{◌≡◌, ◌≤◌, ℕ, true, List}
use Rattle.pc_token.specs.declared.token.TokenKind.{TokenKind}
use Rattle.pc_token.specs.declared.token.TokenKind.TheVariants as kind
use Rattle.pc_token.specs.declared.token.Keyword.TheVariants as word
use Rattle.pc_token.specs.declared.token.Operator.TheVariants as sign
use Rattle.pc_token.specs.Lexeme.{Lexeme}
use Rattle.pc_tree.specs.Tree.{Expr, Exprs, no_exprs, more_exprs, Entries, no_entries, more_entries, Keywords}
use Rattle.pc_tree.specs.Tree.{no_keywords, more_keywords}
use Rattle.pc_grammar.specs.Grammar.{Spelling, ◌⟫◌, Just, Sign, Word, IsName, Nothing}
use Rattle.pc_grammar.specs.Grammar.Expressions.{own_level, sign_of, SpellsComparison, Operand, Spells, Expression}
use Rattle.pc_grammar.specs.Machine.Kinds.{Infix, arithmetic, comparison, both, either}
use Rattle.pc_grammar.specs.Machine.States.{Part, Prefix, minus, denial, BracketPurpose, in_tuple, in_list, in_call, Stack, whole}
use Rattle.pc_grammar.specs.Machine.States.{joining, applying, grouping, listing, indexing, naming, keying, valuing}
use Rattle.pc_grammar.specs.Machine.Expressions.{own_of, left_of, prefix_level, needed_level}
use Rattle.pc_grammar.specs.Fronts.Lines.{Kept, BeforeContext}

-- the tokens of an operator
abbrev pub SpellsInfix : Infix → Spelling
SpellsInfix (arithmetic o) = Sign (sign_of o)
SpellsInfix (comparison o) = SpellsComparison o
SpellsInfix both = Word word.And
SpellsInfix either = Word word.Or

-- the kind of the token of a prefix
abbrev pub prefix_kind : Prefix → TokenKind
prefix_kind minus = kind.Operator sign.Minus
prefix_kind denial = kind.Keyword word.Not

-- the tokens are those of the part, including parentheses around it, which is an operand of this level
pub record Holds (level : ℕ) (p : Part) (ts : List Lexeme) : Type 0 where
  pub tokens : p.tokens ≡ ts
  pub spelled : Operand level (own_level p.tree) (λ x. Spells p.tree x) ts
  pub plain : p.plain ≡ true → Spells p.tree ts

-- items, each followed by a comma
abbrev pub EachItem : Exprs → Spelling
EachItem no_exprs = Nothing
EachItem (more_exprs x xs) = Expression x ⟫ Sign sign.Comma ⟫ EachItem xs

-- arguments by name, each followed by a comma
abbrev pub EachKeyword : Keywords → Spelling
EachKeyword no_keywords = Nothing
EachKeyword (more_keywords n e ks) = IsName n ⟫ Sign sign.Equal ⟫ Expression e ⟫ Sign sign.Comma ⟫ EachKeyword ks

-- entries of a dict, each followed by a comma
abbrev pub EachEntry : Entries → Spelling
EachEntry no_entries = Nothing
EachEntry (more_entries x y es) = Expression x ⟫ Sign sign.Colon ⟫ Expression y ⟫ Sign sign.Comma ⟫ EachEntry es

-- a callee and the `(` of its call
abbrev pub Callee : Expr → Spelling
Callee e = Operand 7 (own_level e) (λ x. Spells e x) ⟫ Sign sign.LeftParenthesis

-- there is at least one expression
abbrev pub IsMoreExprs : Exprs → Type 0
IsMoreExprs no_exprs = ⊥
IsMoreExprs (more_exprs x xs) = Unit {0}

-- an open bracket, and the items so far; a tuple has at least one
abbrev pub ItemsBefore : BracketPurpose → Exprs → Spelling
ItemsBefore in_list xs = Sign sign.LeftBracket ⟫ EachItem xs
ItemsBefore in_tuple xs = λ ts. IsMoreExprs xs × (Sign sign.LeftParenthesis ⟫ EachItem xs) ts
ItemsBefore (in_call e) xs = Callee e ⟫ EachItem xs

-- a callee and its bracket, and its positional and named arguments so far, each followed by a comma
abbrev pub KeywordsBefore : Expr → Exprs → Keywords → Spelling
KeywordsBefore e xs ks = (Callee e ⟫ EachItem xs) ⟫ EachKeyword ks

-- the `{` of a dict, and its entries so far, each followed by a comma
abbrev pub EntriesBefore : Entries → Spelling
EntriesBefore es = Sign sign.LeftBrace ⟫ EachEntry es

-- the tokens before the operand on top of a stack
abbrev pub Before : Stack → Spelling
Before (whole c) = BeforeContext c
Before (joining op l us s) = λ ts. (needed_level s ≤ own_of op)
    × ((Before s ⟫ Holds (left_of op) l) ⟫ Kept us (SpellsInfix op)) ts
Before (applying x us s) = λ ts. (needed_level s ≤ prefix_level x) × (Before s ⟫ Kept us (Just (prefix_kind x))) ts
Before (grouping us s) = Before s ⟫ Kept us (Sign sign.LeftParenthesis)
Before (listing h xs us s) = Before s ⟫ Kept us (ItemsBefore h xs)
Before (indexing e us s) = Before s ⟫ Kept us (Operand 7 (own_level e) (λ x. Spells e x) ⟫ Sign sign.LeftBracket)
Before (naming e xs ks n us s) = Before s ⟫ Kept us (KeywordsBefore e xs ks ⟫ (IsName n ⟫ Sign sign.Equal))
Before (keying es us s) = Before s ⟫ Kept us (EntriesBefore es)
Before (valuing es key us s) = Before s ⟫ Kept us (EntriesBefore es ⟫ (Expression key ⟫ Sign sign.Colon))
