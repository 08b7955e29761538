-- Keywords. Python Language Reference 3.12, 2.3.1 "Keywords".
use Rattle.std.specs.Prelude.{ℕ, Bool, List, [], ◌∷◌, codes, bytes_eq}
use Rattle.std.specs.List.{list_any}
use Rattle.pc_token.specs.declared.token.Keyword.{Keyword}
use Rattle.pc_token.specs.declared.token.Keyword.TheVariants as k

-- a keyword as it is spelled
abbrev pub keyword_text : Keyword → List ℕ
keyword_text k.False = codes "False"
keyword_text k.None = codes "None"
keyword_text k.True = codes "True"
keyword_text k.And = codes "and"
keyword_text k.As = codes "as"
keyword_text k.Assert = codes "assert"
keyword_text k.Async = codes "async"
keyword_text k.Await = codes "await"
keyword_text k.Break = codes "break"
keyword_text k.Class = codes "class"
keyword_text k.Continue = codes "continue"
keyword_text k.Def = codes "def"
keyword_text k.Del = codes "del"
keyword_text k.Elif = codes "elif"
keyword_text k.Else = codes "else"
keyword_text k.Except = codes "except"
keyword_text k.Finally = codes "finally"
keyword_text k.For = codes "for"
keyword_text k.From = codes "from"
keyword_text k.Global = codes "global"
keyword_text k.If = codes "if"
keyword_text k.Import = codes "import"
keyword_text k.In = codes "in"
keyword_text k.Is = codes "is"
keyword_text k.Lambda = codes "lambda"
keyword_text k.Nonlocal = codes "nonlocal"
keyword_text k.Not = codes "not"
keyword_text k.Or = codes "or"
keyword_text k.Pass = codes "pass"
keyword_text k.Raise = codes "raise"
keyword_text k.Return = codes "return"
keyword_text k.Try = codes "try"
keyword_text k.While = codes "while"
keyword_text k.With = codes "with"
keyword_text k.Yield = codes "yield"

-- every keyword
abbrev pub keywords : List Keyword
keywords = k.False ∷ k.None ∷ k.True ∷ k.And ∷ k.As ∷ k.Assert ∷ k.Async ∷ k.Await ∷ k.Break ∷ k.Class ∷ k.Continue
    ∷ k.Def ∷ k.Del ∷ k.Elif ∷ k.Else ∷ k.Except ∷ k.Finally ∷ k.For ∷ k.From ∷ k.Global ∷ k.If ∷ k.Import ∷ k.In ∷ k.Is
    ∷ k.Lambda ∷ k.Nonlocal ∷ k.Not ∷ k.Or ∷ k.Pass ∷ k.Raise ∷ k.Return ∷ k.Try ∷ k.While ∷ k.With ∷ k.Yield ∷ []

-- the text is a keyword
abbrev pub is_keyword : List ℕ → Bool
is_keyword text = list_any (λ k. bytes_eq (keyword_text k) text) keywords
