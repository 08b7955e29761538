-- Meaning of the tests of kinds.
use Rattle.std.proofs.Common.{◌≡◌, ℕ, ◌-◌, nat_lt, true, if◌then◌else◌, List, [], ◌∷◌, slice_index_or, refl, ap, sym}
use Rattle.std.proofs.Common.{◌∙◌, eqb-true}
use Rattle.pc_token.specs.declared.token.TokenKind.{TokenKind}
use Rattle.pc_token.specs.declared.token.TokenKind.TheVariants as kind
use Rattle.pc_token.specs.declared.token.Keyword.{Keyword}
use Rattle.pc_token.specs.declared.token.Keyword.TheVariants as word
use Rattle.pc_token.specs.declared.token.Operator.{Operator}
use Rattle.pc_token.specs.declared.token.Operator.TheVariants as sign
use Rattle.pc_grammar.specs.Machine.Kinds.{keyword_number, operator_number, kind_number, same_kind}

abbrev keywords : List TokenKind
keywords = kind.Keyword word.False ∷ kind.Keyword word.None ∷ kind.Keyword word.True ∷ kind.Keyword word.And
    ∷ kind.Keyword word.As ∷ kind.Keyword word.Assert ∷ kind.Keyword word.Async ∷ kind.Keyword word.Await ∷ kind.Keyword
    word.Break ∷ kind.Keyword word.Class ∷ kind.Keyword word.Continue ∷ kind.Keyword word.Def ∷ kind.Keyword word.Del
    ∷ kind.Keyword word.Elif ∷ kind.Keyword word.Else ∷ kind.Keyword word.Except ∷ kind.Keyword word.Finally
    ∷ kind.Keyword word.For ∷ kind.Keyword word.From ∷ kind.Keyword word.Global ∷ kind.Keyword word.If ∷ kind.Keyword
    word.Import ∷ kind.Keyword word.In ∷ kind.Keyword word.Is ∷ kind.Keyword word.Lambda ∷ kind.Keyword word.Nonlocal
    ∷ kind.Keyword word.Not ∷ kind.Keyword word.Or ∷ kind.Keyword word.Pass ∷ kind.Keyword word.Raise ∷ kind.Keyword
    word.Return ∷ kind.Keyword word.Try ∷ kind.Keyword word.While ∷ kind.Keyword word.With ∷ kind.Keyword word.Yield
    ∷ []

abbrev operators : List TokenKind
operators = kind.Operator sign.Plus ∷ kind.Operator sign.Minus ∷ kind.Operator sign.Star ∷ kind.Operator
    sign.DoubleSlash ∷ kind.Operator sign.Percent ∷ kind.Operator sign.EqualEqual ∷ kind.Operator sign.NotEqual
    ∷ kind.Operator sign.Less ∷ kind.Operator sign.LessEqual ∷ kind.Operator sign.Greater ∷ kind.Operator
    sign.GreaterEqual ∷ kind.Operator sign.Equal ∷ kind.Operator sign.LeftParenthesis ∷ kind.Operator
    sign.RightParenthesis ∷ kind.Operator sign.LeftBracket ∷ kind.Operator sign.RightBracket ∷ kind.Operator
    sign.LeftBrace ∷ kind.Operator sign.RightBrace ∷ kind.Operator sign.Comma ∷ kind.Operator sign.Colon ∷ kind.Operator
    sign.Dot ∷ kind.Operator sign.Bar ∷ kind.Operator sign.Arrow ∷ kind.Operator sign.At ∷ kind.Operator sign.Slash
    ∷ kind.Operator sign.DoubleStar ∷ kind.Operator sign.Ampersand ∷ kind.Operator sign.Circumflex ∷ kind.Operator
    sign.Tilde ∷ kind.Operator sign.LeftShift ∷ kind.Operator sign.RightShift ∷ kind.Operator sign.ColonEqual
    ∷ kind.Operator sign.PlusEqual ∷ kind.Operator sign.MinusEqual ∷ kind.Operator sign.StarEqual ∷ kind.Operator
    sign.SlashEqual ∷ kind.Operator sign.DoubleSlashEqual ∷ kind.Operator sign.PercentEqual ∷ kind.Operator
    sign.DoubleStarEqual ∷ kind.Operator sign.AmpersandEqual ∷ kind.Operator sign.BarEqual ∷ kind.Operator
    sign.CircumflexEqual ∷ kind.Operator sign.LeftShiftEqual ∷ kind.Operator sign.RightShiftEqual ∷ kind.Operator
    sign.AtEqual ∷ kind.Operator sign.Semicolon ∷ kind.Operator sign.Ellipsis ∷ []

abbrev others : List TokenKind
others = kind.Name ∷ kind.Int ∷ kind.Str ∷ kind.Newline ∷ kind.Indent ∷ kind.Dedent ∷ kind.End ∷ []

-- the kind of this number
abbrev kind_at : ℕ → TokenKind
kind_at n = if nat_lt n 100 then slice_index_or keywords n kind.Name else if nat_lt n 200 then slice_index_or operators
    (n - 100) kind.Name
    else slice_index_or others (n - 200) kind.Name

keyword_back : (w : Keyword) → kind_at (keyword_number w) ≡ kind.Keyword w
keyword_back word.False = refl
keyword_back word.None = refl
keyword_back word.True = refl
keyword_back word.And = refl
keyword_back word.As = refl
keyword_back word.Assert = refl
keyword_back word.Async = refl
keyword_back word.Await = refl
keyword_back word.Break = refl
keyword_back word.Class = refl
keyword_back word.Continue = refl
keyword_back word.Def = refl
keyword_back word.Del = refl
keyword_back word.Elif = refl
keyword_back word.Else = refl
keyword_back word.Except = refl
keyword_back word.Finally = refl
keyword_back word.For = refl
keyword_back word.From = refl
keyword_back word.Global = refl
keyword_back word.If = refl
keyword_back word.Import = refl
keyword_back word.In = refl
keyword_back word.Is = refl
keyword_back word.Lambda = refl
keyword_back word.Nonlocal = refl
keyword_back word.Not = refl
keyword_back word.Or = refl
keyword_back word.Pass = refl
keyword_back word.Raise = refl
keyword_back word.Return = refl
keyword_back word.Try = refl
keyword_back word.While = refl
keyword_back word.With = refl
keyword_back word.Yield = refl

operator_back : (o : Operator) → kind_at (operator_number o) ≡ kind.Operator o
operator_back sign.Plus = refl
operator_back sign.Minus = refl
operator_back sign.Star = refl
operator_back sign.DoubleSlash = refl
operator_back sign.Percent = refl
operator_back sign.EqualEqual = refl
operator_back sign.NotEqual = refl
operator_back sign.Less = refl
operator_back sign.LessEqual = refl
operator_back sign.Greater = refl
operator_back sign.GreaterEqual = refl
operator_back sign.Equal = refl
operator_back sign.LeftParenthesis = refl
operator_back sign.RightParenthesis = refl
operator_back sign.LeftBracket = refl
operator_back sign.RightBracket = refl
operator_back sign.LeftBrace = refl
operator_back sign.RightBrace = refl
operator_back sign.Comma = refl
operator_back sign.Colon = refl
operator_back sign.Dot = refl
operator_back sign.Bar = refl
operator_back sign.Arrow = refl
operator_back sign.At = refl
operator_back sign.Slash = refl
operator_back sign.DoubleStar = refl
operator_back sign.Ampersand = refl
operator_back sign.Circumflex = refl
operator_back sign.Tilde = refl
operator_back sign.LeftShift = refl
operator_back sign.RightShift = refl
operator_back sign.ColonEqual = refl
operator_back sign.PlusEqual = refl
operator_back sign.MinusEqual = refl
operator_back sign.StarEqual = refl
operator_back sign.SlashEqual = refl
operator_back sign.DoubleSlashEqual = refl
operator_back sign.PercentEqual = refl
operator_back sign.DoubleStarEqual = refl
operator_back sign.AmpersandEqual = refl
operator_back sign.BarEqual = refl
operator_back sign.CircumflexEqual = refl
operator_back sign.LeftShiftEqual = refl
operator_back sign.RightShiftEqual = refl
operator_back sign.AtEqual = refl
operator_back sign.Semicolon = refl
operator_back sign.Ellipsis = refl

kind_back : (k : TokenKind) → kind_at (kind_number k) ≡ k
kind_back (kind.Keyword w) = keyword_back w
kind_back (kind.Operator o) = operator_back o
kind_back kind.Name = refl
kind_back kind.Int = refl
kind_back kind.Str = refl
kind_back kind.Newline = refl
kind_back kind.Indent = refl
kind_back kind.Dedent = refl
kind_back kind.End = refl

pub same_kind_is : (a b : TokenKind) → same_kind a b ≡ true → a ≡ b
same_kind_is a b e = sym (kind_back a) ∙ ap kind_at (eqb-true (kind_number a) (kind_number b) e) ∙ kind_back b
