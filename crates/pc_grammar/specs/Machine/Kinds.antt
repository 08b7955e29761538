-- Tests of the kind of a token.
use Rattle.std.specs.Prelude.{ℕ, ◌==◌, ◌&&◌, Bool, true, false, List, [], ◌∷◌, bytes_eq}
use Rattle.pc_token.specs.declared.token.TokenKind.{TokenKind}
use Rattle.pc_token.specs.declared.token.TokenKind.TheVariants as kind
use Rattle.pc_token.specs.declared.token.Keyword.{Keyword}
use Rattle.pc_token.specs.declared.token.Keyword.TheVariants as word
use Rattle.pc_token.specs.declared.token.Operator.{Operator}
use Rattle.pc_token.specs.declared.token.Operator.TheVariants as sign
use Rattle.pc_token.specs.Lexeme.{Lexeme}
use Rattle.pc_tree.specs.declared.tree.BinaryOperator.{BinaryOperator}
use Rattle.pc_tree.specs.declared.tree.BinaryOperator.TheVariants.{Add, Sub, Mul, FloorDiv, Mod}
use Rattle.pc_tree.specs.declared.tree.ComparisonOperator.{ComparisonOperator}
use Rattle.pc_tree.specs.declared.tree.ComparisonOperator.TheVariants as cmp
use Rattle.pc_grammar.specs.Grammar.{Spelling, Nothing, Just, Named, ◌⟫◌}

-- ---- equality of kinds

-- a number for each keyword
abbrev pub keyword_number : Keyword → ℕ
keyword_number word.False = 0
keyword_number word.None = 1
keyword_number word.True = 2
keyword_number word.And = 3
keyword_number word.As = 4
keyword_number word.Assert = 5
keyword_number word.Async = 6
keyword_number word.Await = 7
keyword_number word.Break = 8
keyword_number word.Class = 9
keyword_number word.Continue = 10
keyword_number word.Def = 11
keyword_number word.Del = 12
keyword_number word.Elif = 13
keyword_number word.Else = 14
keyword_number word.Except = 15
keyword_number word.Finally = 16
keyword_number word.For = 17
keyword_number word.From = 18
keyword_number word.Global = 19
keyword_number word.If = 20
keyword_number word.Import = 21
keyword_number word.In = 22
keyword_number word.Is = 23
keyword_number word.Lambda = 24
keyword_number word.Nonlocal = 25
keyword_number word.Not = 26
keyword_number word.Or = 27
keyword_number word.Pass = 28
keyword_number word.Raise = 29
keyword_number word.Return = 30
keyword_number word.Try = 31
keyword_number word.While = 32
keyword_number word.With = 33
keyword_number word.Yield = 34

-- a number for each operator
abbrev pub operator_number : Operator → ℕ
operator_number sign.Plus = 100
operator_number sign.Minus = 101
operator_number sign.Star = 102
operator_number sign.DoubleSlash = 103
operator_number sign.Percent = 104
operator_number sign.EqualEqual = 105
operator_number sign.NotEqual = 106
operator_number sign.Less = 107
operator_number sign.LessEqual = 108
operator_number sign.Greater = 109
operator_number sign.GreaterEqual = 110
operator_number sign.Equal = 111
operator_number sign.LeftParenthesis = 112
operator_number sign.RightParenthesis = 113
operator_number sign.LeftBracket = 114
operator_number sign.RightBracket = 115
operator_number sign.LeftBrace = 116
operator_number sign.RightBrace = 117
operator_number sign.Comma = 118
operator_number sign.Colon = 119
operator_number sign.Dot = 120
operator_number sign.Bar = 121
operator_number sign.Arrow = 122
operator_number sign.At = 123
operator_number sign.Slash = 124
operator_number sign.DoubleStar = 125
operator_number sign.Ampersand = 126
operator_number sign.Circumflex = 127
operator_number sign.Tilde = 128
operator_number sign.LeftShift = 129
operator_number sign.RightShift = 130
operator_number sign.ColonEqual = 131
operator_number sign.PlusEqual = 132
operator_number sign.MinusEqual = 133
operator_number sign.StarEqual = 134
operator_number sign.SlashEqual = 135
operator_number sign.DoubleSlashEqual = 136
operator_number sign.PercentEqual = 137
operator_number sign.DoubleStarEqual = 138
operator_number sign.AmpersandEqual = 139
operator_number sign.BarEqual = 140
operator_number sign.CircumflexEqual = 141
operator_number sign.LeftShiftEqual = 142
operator_number sign.RightShiftEqual = 143
operator_number sign.AtEqual = 144
operator_number sign.Semicolon = 145
operator_number sign.Ellipsis = 146

-- a number for each kind
abbrev pub kind_number : TokenKind → ℕ
kind_number (kind.Keyword w) = keyword_number w
kind_number (kind.Operator o) = operator_number o
kind_number kind.Name = 200
kind_number kind.Int = 201
kind_number kind.Str = 202
kind_number kind.Newline = 203
kind_number kind.Indent = 204
kind_number kind.Dedent = 205
kind_number kind.End = 206

-- whether two kinds of tokens are the same
abbrev pub same_kind : TokenKind → TokenKind → Bool
same_kind a b = kind_number a == kind_number b

-- ---- fixed words

-- a token of a kind, or a name of a form
pub data Fixed : Type 0 where
  a_kind : (k : TokenKind) → Fixed
  a_form : (form : List ℕ) → Fixed

-- whether a token of this kind is the fixed word
abbrev pub is_fixed : Fixed → Lexeme → TokenKind → Bool
is_fixed (a_kind k) t is = same_kind is k
is_fixed (a_form form) t is = same_kind is kind.Name && bytes_eq t.form form

-- the tokens are this fixed word alone
abbrev pub SpellsFixed : Fixed → Spelling
SpellsFixed (a_kind k) = Just k
SpellsFixed (a_form form) = Named form

-- the tokens are these fixed words, one after the other
abbrev pub SpellsAllFixed : List Fixed → Spelling
SpellsAllFixed [] = Nothing
SpellsAllFixed (w ∷ ws) = SpellsFixed w ⟫ SpellsAllFixed ws

-- ---- tokens that begin an operand

-- the way in which a token begins an operand, if it does
pub data Start : Type 0 where
  a_name : Start
  a_number : Start
  a_string : Start
  a_truth : (value : Bool) → Start
  a_none : Start
  opens_parenthesis : Start
  opens_bracket : Start
  opens_brace : Start
  a_minus : Start
  a_not : Start
  no_start : Start

-- the way in which a token of this kind begins an operand, if it does
abbrev pub operand_start : TokenKind → Start
operand_start kind.Name = a_name
operand_start kind.Int = a_number
operand_start kind.Str = a_string
operand_start (kind.Keyword word.True) = a_truth true
operand_start (kind.Keyword word.False) = a_truth false
operand_start (kind.Keyword word.None) = a_none
operand_start (kind.Keyword word.Not) = a_not
operand_start (kind.Operator sign.LeftParenthesis) = opens_parenthesis
operand_start (kind.Operator sign.LeftBracket) = opens_bracket
operand_start (kind.Operator sign.LeftBrace) = opens_brace
operand_start (kind.Operator sign.Minus) = a_minus
operand_start _ = no_start

-- ---- tokens after an operand

-- an operator between two operands
pub data Infix : Type 0 where
  arithmetic : (operator : BinaryOperator) → Infix
  comparison : (operator : ComparisonOperator) → Infix
  both : Infix
  either : Infix

-- the beginning of an operator: the operator itself, the `not` of `not in`, or the `is` of `is None`
pub data Link : Type 0 where
  linking : (operator : Infix) → Link
  denying : Link
  identifying : Link

-- the end of a whole expression, or of a part of one in brackets
pub data Ending : Type 0 where
  a_comma : Ending
  a_colon : Ending
  an_equal : Ending
  closes_parenthesis : Ending
  closes_bracket : Ending
  closes_brace : Ending
  a_line_end : Ending
  no_ending : Ending

-- the effect of a token after an operand: it begins an operator, an attribute, a call or an index, or can only end the
-- expression
pub data Follow : Type 0 where
  link : (l : Link) → Follow
  a_dot : Follow
  calls : Follow
  indexes : Follow
  ends : (e : Ending) → Follow

-- the effect of a token of this kind after an operand
abbrev pub follow_of : TokenKind → Follow
follow_of (kind.Operator sign.Plus) = link (linking (arithmetic Add))
follow_of (kind.Operator sign.Minus) = link (linking (arithmetic Sub))
follow_of (kind.Operator sign.Star) = link (linking (arithmetic Mul))
follow_of (kind.Operator sign.DoubleSlash) = link (linking (arithmetic FloorDiv))
follow_of (kind.Operator sign.Percent) = link (linking (arithmetic Mod))
follow_of (kind.Operator sign.EqualEqual) = link (linking (comparison cmp.Equal))
follow_of (kind.Operator sign.NotEqual) = link (linking (comparison cmp.NotEqual))
follow_of (kind.Operator sign.Less) = link (linking (comparison cmp.Less))
follow_of (kind.Operator sign.LessEqual) = link (linking (comparison cmp.LessEqual))
follow_of (kind.Operator sign.Greater) = link (linking (comparison cmp.Greater))
follow_of (kind.Operator sign.GreaterEqual) = link (linking (comparison cmp.GreaterEqual))
follow_of (kind.Keyword word.In) = link (linking (comparison cmp.In))
follow_of (kind.Keyword word.And) = link (linking both)
follow_of (kind.Keyword word.Or) = link (linking either)
follow_of (kind.Keyword word.Not) = link denying
follow_of (kind.Keyword word.Is) = link identifying
follow_of (kind.Operator sign.Dot) = a_dot
follow_of (kind.Operator sign.LeftParenthesis) = calls
follow_of (kind.Operator sign.LeftBracket) = indexes
follow_of (kind.Operator sign.Comma) = ends a_comma
follow_of (kind.Operator sign.Colon) = ends a_colon
follow_of (kind.Operator sign.Equal) = ends an_equal
follow_of (kind.Operator sign.RightParenthesis) = ends closes_parenthesis
follow_of (kind.Operator sign.RightBracket) = ends closes_bracket
follow_of (kind.Operator sign.RightBrace) = ends closes_brace
follow_of kind.Newline = ends a_line_end
follow_of _ = ends no_ending

-- ---- tokens that begin a statement or end a suite

-- the way in which a token begins a statement, or ends the suite
pub data Lead : Type 0 where
  leads_pass : Lead
  leads_break : Lead
  leads_continue : Lead
  leads_return : Lead
  leads_assert : Lead
  leads_while : Lead
  leads_for : Lead
  leads_if : Lead
  leads_out : Lead
  leads_other : Lead

-- the way in which a token of this kind begins a statement or ends the suite
abbrev pub lead_of : TokenKind → Lead
lead_of (kind.Keyword word.Pass) = leads_pass
lead_of (kind.Keyword word.Break) = leads_break
lead_of (kind.Keyword word.Continue) = leads_continue
lead_of (kind.Keyword word.Return) = leads_return
lead_of (kind.Keyword word.Assert) = leads_assert
lead_of (kind.Keyword word.While) = leads_while
lead_of (kind.Keyword word.For) = leads_for
lead_of (kind.Keyword word.If) = leads_if
lead_of kind.Dedent = leads_out
lead_of _ = leads_other
