-- Operators and delimiters. Python Language Reference 3.12, 2.5 "Operators" and 2.6 "Delimiters".
use Rattle.std.specs.Prelude.{ℕ, List, [], ◌∷◌, codes}
use Rattle.pc_token.specs.declared.token.Operator.{Operator}
use Rattle.pc_token.specs.declared.token.Operator.TheVariants as o
use Rattle.pc_token.specs.declared.operators.Role.{Role}
use Rattle.pc_token.specs.declared.operators.Role.TheVariants.{Opens, Closes, Plain}

-- an operator as it is spelled
abbrev pub operator_text : Operator → List ℕ
operator_text o.Plus = codes "+"
operator_text o.Minus = codes "-"
operator_text o.Star = codes "*"
operator_text o.DoubleSlash = codes "//"
operator_text o.Percent = codes "%"
operator_text o.EqualEqual = codes "=="
operator_text o.NotEqual = codes "!="
operator_text o.Less = codes "<"
operator_text o.LessEqual = codes "<="
operator_text o.Greater = codes ">"
operator_text o.GreaterEqual = codes ">="
operator_text o.Equal = codes "="
operator_text o.LeftParenthesis = codes "("
operator_text o.RightParenthesis = codes ")"
operator_text o.LeftBracket = codes "["
operator_text o.RightBracket = codes "]"
operator_text o.LeftBrace = codes "{"
operator_text o.RightBrace = codes "}"
operator_text o.Comma = codes ","
operator_text o.Colon = codes ":"
operator_text o.Dot = codes "."
operator_text o.Bar = codes "|"
operator_text o.Arrow = codes "->"
operator_text o.At = codes "@"
operator_text o.Slash = codes "/"
operator_text o.DoubleStar = codes "**"
operator_text o.Ampersand = codes "&"
operator_text o.Circumflex = codes "^"
operator_text o.Tilde = codes "~"
operator_text o.LeftShift = codes "<<"
operator_text o.RightShift = codes ">>"
operator_text o.ColonEqual = codes ":="
operator_text o.PlusEqual = codes "+="
operator_text o.MinusEqual = codes "-="
operator_text o.StarEqual = codes "*="
operator_text o.SlashEqual = codes "/="
operator_text o.DoubleSlashEqual = codes "//="
operator_text o.PercentEqual = codes "%="
operator_text o.DoubleStarEqual = codes "**="
operator_text o.AmpersandEqual = codes "&="
operator_text o.BarEqual = codes "|="
operator_text o.CircumflexEqual = codes "^="
operator_text o.LeftShiftEqual = codes "<<="
operator_text o.RightShiftEqual = codes ">>="
operator_text o.AtEqual = codes "@="
operator_text o.Semicolon = codes ";"
operator_text o.Ellipsis = codes "..."

-- every operator, the longer before the shorter
abbrev pub operators : List Operator
operators = o.DoubleSlashEqual ∷ o.DoubleStarEqual ∷ o.LeftShiftEqual ∷ o.RightShiftEqual ∷ o.Ellipsis ∷ o.DoubleSlash
    ∷ o.EqualEqual ∷ o.NotEqual ∷ o.LessEqual ∷ o.GreaterEqual ∷ o.Arrow ∷ o.DoubleStar ∷ o.LeftShift ∷ o.RightShift
    ∷ o.ColonEqual ∷ o.PlusEqual ∷ o.MinusEqual ∷ o.StarEqual ∷ o.SlashEqual ∷ o.PercentEqual ∷ o.AmpersandEqual
    ∷ o.BarEqual ∷ o.CircumflexEqual ∷ o.AtEqual ∷ o.Plus ∷ o.Minus ∷ o.Star ∷ o.Percent ∷ o.Less ∷ o.Greater ∷ o.Equal
    ∷ o.LeftParenthesis ∷ o.RightParenthesis ∷ o.LeftBracket ∷ o.RightBracket ∷ o.LeftBrace ∷ o.RightBrace ∷ o.Comma
    ∷ o.Colon ∷ o.Dot ∷ o.Bar ∷ o.At ∷ o.Slash ∷ o.Ampersand ∷ o.Circumflex ∷ o.Tilde ∷ o.Semicolon ∷ []

-- the role of an operator as a bracket: it opens, it closes a given opener, or it is plain
abbrev pub role_of : Operator → Role
role_of o.LeftParenthesis = Opens
role_of o.LeftBracket = Opens
role_of o.LeftBrace = Opens
role_of o.RightParenthesis = Closes o.LeftParenthesis
role_of o.RightBracket = Closes o.LeftBracket
role_of o.RightBrace = Closes o.LeftBrace
role_of _ = Plain
