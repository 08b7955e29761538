-- Two kinds are the same where their numbers are, and that is where `==` holds of them.
use Rattle.std.proofs.Common.{◌≡◌, ℕ, ◌-◌, Bool, true, false, List, [], ◌∷◌, get_or, if◌then◌else◌}
use Rattle.std.proofs.Common.{refl, sym, ap, ◌∙◌, rules}
use Rattle.std.specs.Prelude.{nat_lt}
use Rattle.std.proofs.lemmas.Bool.{eqb-true, eq-eqb, false≢true}
use denote.Enum.Bare.{same_true}
use Rattle.pc_token.specs.contracts.token.TokenKindPartialEq.TheImpl as kinds
use Rattle.pc_token.specs.contracts.token.KeywordPartialEq.TheImpl as keywords
use Rattle.pc_token.specs.contracts.token.OperatorPartialEq.TheImpl as operators
use Rattle.pc_token.specs.contracts.token.Keyword.{the_type as word_type}
use Rattle.pc_token.specs.contracts.token.Operator.{the_type as sign_type}
use Rattle.pc_token.specs.declared.token.Keyword.{Keyword}
use Rattle.pc_token.specs.declared.token.Operator.{Operator}
use Rattle.pc_token.specs.declared.token.TokenKind.{TokenKind}
use Rattle.pc_token.specs.declared.token.TokenKind.TheVariants as kind
use Rattle.pc_token.specs.declared.token.Keyword.TheVariants as word
use Rattle.pc_token.specs.declared.token.Operator.TheVariants as sign
use Rattle.pc_grammar.specs.Machine.Kinds.{kind_number, same_kind}

-- the kinds in the order of their numbers
abbrev words : List TokenKind
words = kind.Keyword word.False ∷ kind.Keyword word.None ∷ kind.Keyword word.True ∷ kind.Keyword word.And ∷ kind.Keyword
    word.As ∷ kind.Keyword word.Assert ∷ kind.Keyword word.Async ∷ kind.Keyword word.Await ∷ kind.Keyword word.Break
    ∷ kind.Keyword word.Class ∷ kind.Keyword word.Continue ∷ kind.Keyword word.Def ∷ kind.Keyword word.Del
    ∷ kind.Keyword word.Elif ∷ kind.Keyword word.Else ∷ kind.Keyword word.Except ∷ kind.Keyword word.Finally
    ∷ kind.Keyword word.For ∷ kind.Keyword word.From ∷ kind.Keyword word.Global ∷ kind.Keyword word.If ∷ kind.Keyword
    word.Import ∷ kind.Keyword word.In ∷ kind.Keyword word.Is ∷ kind.Keyword word.Lambda ∷ kind.Keyword word.Nonlocal
    ∷ kind.Keyword word.Not ∷ kind.Keyword word.Or ∷ kind.Keyword word.Pass ∷ kind.Keyword word.Raise ∷ kind.Keyword
    word.Return ∷ kind.Keyword word.Try ∷ kind.Keyword word.While ∷ kind.Keyword word.With ∷ kind.Keyword word.Yield
    ∷ []

abbrev signs : List TokenKind
signs = kind.Operator sign.Plus ∷ kind.Operator sign.Minus ∷ kind.Operator sign.Star ∷ kind.Operator sign.DoubleSlash
    ∷ kind.Operator sign.Percent ∷ kind.Operator sign.EqualEqual ∷ kind.Operator sign.NotEqual ∷ kind.Operator sign.Less
    ∷ kind.Operator sign.LessEqual ∷ kind.Operator sign.Greater ∷ kind.Operator sign.GreaterEqual ∷ kind.Operator
    sign.Equal ∷ kind.Operator sign.LeftParenthesis ∷ kind.Operator sign.RightParenthesis ∷ kind.Operator
    sign.LeftBracket ∷ kind.Operator sign.RightBracket ∷ kind.Operator sign.LeftBrace ∷ kind.Operator sign.RightBrace
    ∷ kind.Operator sign.Comma ∷ kind.Operator sign.Colon ∷ kind.Operator sign.Dot ∷ kind.Operator sign.Bar
    ∷ kind.Operator sign.Arrow ∷ kind.Operator sign.At ∷ kind.Operator sign.Slash ∷ kind.Operator sign.DoubleStar
    ∷ kind.Operator sign.Ampersand ∷ kind.Operator sign.Circumflex ∷ kind.Operator sign.Tilde ∷ kind.Operator
    sign.LeftShift ∷ kind.Operator sign.RightShift ∷ kind.Operator sign.ColonEqual ∷ kind.Operator sign.PlusEqual
    ∷ kind.Operator sign.MinusEqual ∷ kind.Operator sign.StarEqual ∷ kind.Operator sign.SlashEqual ∷ kind.Operator
    sign.DoubleSlashEqual ∷ kind.Operator sign.PercentEqual ∷ kind.Operator sign.DoubleStarEqual ∷ kind.Operator
    sign.AmpersandEqual ∷ kind.Operator sign.BarEqual ∷ kind.Operator sign.CircumflexEqual ∷ kind.Operator
    sign.LeftShiftEqual ∷ kind.Operator sign.RightShiftEqual ∷ kind.Operator sign.AtEqual ∷ kind.Operator sign.Semicolon
    ∷ kind.Operator sign.Ellipsis ∷ []

abbrev others : List TokenKind
others = kind.Name ∷ kind.Int ∷ kind.Str ∷ kind.Newline ∷ kind.Indent ∷ kind.Dedent ∷ kind.End ∷ []

abbrev kind_at : ℕ → TokenKind
kind_at n = if nat_lt n 35 then get_or words n kind.Name else if nat_lt n 147 then get_or signs (n - 100) kind.Name
    else get_or others (n - 200) kind.Name

back : (k : TokenKind) → kind_at (kind_number k) ≡ k
back kind.Int = refl
back (kind.Keyword word.None) = refl
back (kind.Operator sign.Plus) = refl
back _ = refl

pub same_is : (a b : TokenKind) → same_kind a b ≡ true → a ≡ b
same_is a b e = sym (back a) ∙ ap kind_at (eqb-true (kind_number a) (kind_number b) e) ∙ back b

pub is_same : (a b : TokenKind) → a ≡ b → same_kind a b ≡ true
is_same a b e = eq-eqb (kind_number a) (kind_number b) (ap kind_number e)

pub not_same : (a b : TokenKind) → ¬ (a ≡ b) → same_kind a b ≡ false
not_same a b n = by_test (same_kind a b) refl
  where
    by_test : (v : Bool) → same_kind a b ≡ v → v ≡ false
    by_test true e = absurd (n (same_is a b e))
    by_test false e = refl

pub told : (v : Bool) (a b : TokenKind) → (v ≡ true → a ≡ b) → (a ≡ b → v ≡ true) → v ≡ same_kind a b
told true a b f g = sym (is_same a b (f refl))
told false a b f g = sym (not_same a b (λ e. cc (g e)))

equal_words : (a b : Keyword) → (keywords.ghosts).eq a b ≡ true → a ≡ b
equal_words a b h = same_true word_type (search rules) a b h

equal_signs : (a b : Operator) → (operators.ghosts).eq a b ≡ true → a ≡ b
equal_signs a b h = same_true sign_type (search rules) a b h

equal_kinds : (a b : TokenKind) → (kinds.ghosts).eq a b ≡ true → a ≡ b
equal_kinds (kind.Keyword v) (kind.Keyword w) h = ap (λ z. kind.Keyword z) (equal_words v w h)
equal_kinds (kind.Operator v) (kind.Operator w) h = ap (λ z. kind.Operator z) (equal_signs v w h)
equal_kinds kind.Name kind.Name h = refl
equal_kinds kind.Int kind.Int h = refl
equal_kinds kind.Str kind.Str h = refl
equal_kinds kind.Newline kind.Newline h = refl
equal_kinds kind.Indent kind.Indent h = refl
equal_kinds kind.Dedent kind.Dedent h = refl
equal_kinds kind.End kind.End h = refl
equal_kinds _ _ h = absurd (false≢true h)

own_kind : (a : TokenKind) → (kinds.ghosts).eq a a ≡ true
own_kind a = search rules

-- `==` of two kinds says whether they are the same
pub equal_is_same : (a b : TokenKind) → (kinds.ghosts).eq a b ≡ same_kind a b
equal_is_same a b = told ((kinds.ghosts).eq a b) a b (λ h. equal_kinds a b h)
    (λ e. ap ((kinds.ghosts).eq a) (sym e) ∙ own_kind a)
