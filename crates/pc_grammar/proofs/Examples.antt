-- The machine on small lists of tokens.
use Rattle.std.proofs.Common.{◌≡◌, ℕ, ◌+◌, false, List, [], ◌∷◌, ◌++◌, Some, None, refl, codes}
use Rattle.pc_source.specs.declared.place.Place.{Place}
use Rattle.pc_token.specs.declared.token.TokenKind.{TokenKind}
use Rattle.pc_token.specs.declared.token.TokenKind.TheVariants as kind
use Rattle.pc_token.specs.declared.token.Keyword.{Keyword}
use Rattle.pc_token.specs.declared.token.Keyword.TheVariants as word
use Rattle.pc_token.specs.declared.token.Operator.{Operator}
use Rattle.pc_token.specs.declared.token.Operator.TheVariants as sign
use Rattle.pc_token.specs.Lexeme.{Lexeme}
use Rattle.pc_tree.specs.declared.tree.BinaryOperator.TheVariants.{Sub, Mul}
use Rattle.pc_tree.specs.Tree.{Name, name, binary, tuple, call, no_exprs, more_exprs, more_keywords, no_keywords, pass}
use Rattle.pc_tree.specs.Tree.{evaluates, annotated, named, applied, union, more_anns, no_anns, conditional, Stmts}
use Rattle.pc_tree.specs.Tree.{no_stmts, more_stmts, no_branches, more_branches, def_item, Module}
use Rattle.pc_grammar.specs.Machine.{reads, refuses, read_tokens, outcome_of}

-- tokens at the bytes 0, 1, 2, ..
abbrev token : TokenKind → List ℕ → ℕ → Lexeme
token k text byte = record { kind = k; place = record { start = byte; end = byte + 1 }; text = text; form = text }

abbrev laid : ℕ → List (ℕ → Lexeme) → List Lexeme
laid byte [] = []
laid byte (t ∷ ts) = t byte ∷ laid (byte + 1) ts

abbrev w : Keyword → ℕ → Lexeme
w k = token (kind.Keyword k) []

abbrev o : Operator → ℕ → Lexeme
o k = token (kind.Operator k) []

abbrev n : List ℕ → ℕ → Lexeme
n text = token kind.Name text

abbrev i : List ℕ → ℕ → Lexeme
i text = token kind.Int text

abbrev nl : ℕ → Lexeme
nl = token kind.Newline []

abbrev indent : ℕ → Lexeme
indent = token kind.Indent []

abbrev dedent : ℕ → Lexeme
dedent = token kind.Dedent []

abbrev before : List (ℕ → Lexeme)
before = w word.From ∷ n (codes "__future__") ∷ w word.Import ∷ n (codes "annotations") ∷ nl
    ∷ w word.Def ∷ n (codes "main") ∷ o sign.LeftParenthesis ∷ o sign.RightParenthesis ∷ o sign.Colon ∷ nl ∷ indent ∷ []

abbrev after : List (ℕ → Lexeme)
after = dedent ∷ n (codes "main") ∷ o sign.LeftParenthesis ∷ o sign.RightParenthesis ∷ nl ∷ token kind.End [] ∷ []

abbrev main_with : List (ℕ → Lexeme) → List Lexeme
main_with body = laid 0 (before ++ (body ++ after))

abbrev pl : ℕ → ℕ → Place
pl a b = record { start = a; end = b }

abbrev nm : ℕ → List ℕ → Name
nm a text = record { place = pl a (a + 1); text = text }

abbrev main_of : Stmts → ℕ → Module
main_of body main = record {
  imports_dataclass = false;
  imports_any = false;
  items = def_item (pl 5 6) (record { name = nm 6 (codes "main"); params = []; returns = None; body = body }) ∷ [];
  main = pl main (main + 1);
}

passes : outcome_of (main_with (w word.Pass ∷ nl ∷ [])) ≡ reads (main_of (more_stmts (pass (pl 12 13)) no_stmts) 15)
unfolding read_tokens
passes = refl

a : List ℕ
a = codes "a"

-- `a - a * a`
groups : outcome_of (main_with (n a ∷ o sign.Minus ∷ n a ∷ o sign.Star ∷ n a ∷ nl ∷ []))
    ≡ reads (main_of (more_stmts (evaluates (pl 12 13)
    (binary (pl 12 17) Sub (name (nm 12 a)) (binary (pl 14 17) Mul (name (nm 14 a)) (name (nm 16 a))))) no_stmts) 19)
unfolding read_tokens
groups = refl

-- `a - a - a`
groups_left : outcome_of (main_with (n a ∷ o sign.Minus ∷ n a ∷ o sign.Minus ∷ n a ∷ nl ∷ []))
    ≡ reads (main_of (more_stmts (evaluates (pl 12 13)
    (binary (pl 12 17) Sub (binary (pl 12 15) Sub (name (nm 12 a)) (name (nm 14 a))) (name (nm 16 a)))) no_stmts) 19)
unfolding read_tokens
groups_left = refl

-- `a(a, a = (a,))`
calls : outcome_of (main_with (n a ∷ o sign.LeftParenthesis ∷ n a ∷ o sign.Comma ∷ n a ∷ o sign.Equal
    ∷ o sign.LeftParenthesis ∷ n a ∷ o sign.Comma ∷ o sign.RightParenthesis ∷ o sign.RightParenthesis ∷ nl ∷ []))
    ≡ reads
    (main_of
    (more_stmts (evaluates (pl 12 13) (call (pl 12 23) (name (nm 12 a)) (more_exprs (name (nm 14 a)) no_exprs)
    (more_keywords (nm 16 a) (tuple (pl 18 22) (more_exprs (name (nm 19 a)) no_exprs)) no_keywords))) no_stmts) 25)
unfolding read_tokens
calls = refl

-- `a = a is not None < a`: a comparison after one
chained : outcome_of (main_with (n a ∷ o sign.Equal ∷ n a ∷ w word.Is ∷ w word.None ∷ o sign.Less ∷ n a ∷ nl ∷ []))
    ≡ refuses 17
unfolding read_tokens
chained = refl

-- `(a) = a`
in_parentheses : outcome_of (main_with (o sign.LeftParenthesis ∷ n a ∷ o sign.RightParenthesis ∷ o sign.Equal ∷ n a ∷ nl
    ∷ [])) ≡ refuses 15
unfolding read_tokens
in_parentheses = refl

-- `a: a[a] | a = a`
annotates : outcome_of (main_with (n a ∷ o sign.Colon ∷ n a ∷ o sign.LeftBracket ∷ n a ∷ o sign.RightBracket
    ∷ o sign.Bar ∷ n a ∷ o sign.Equal ∷ n a ∷ nl ∷ []))
    ≡ reads (main_of (more_stmts (annotated (pl 12 13) (nm 12 a)
    (union (pl 14 20) (more_anns (applied (pl 14 18) (nm 14 a) (more_anns (named (nm 16 a)) no_anns))
    (more_anns (named (nm 19 a)) no_anns)))
    (Some (name (nm 21 a)))) no_stmts) 24)
unfolding read_tokens
annotates = refl

-- `if a: pass elif a: pass else: pass`
branches : outcome_of (main_with (w word.If ∷ n a ∷ o sign.Colon ∷ nl ∷ indent ∷ w word.Pass ∷ nl ∷ dedent ∷ w word.Elif
    ∷ n a ∷ o sign.Colon ∷ nl ∷ indent ∷ w word.Pass ∷ nl ∷ dedent
    ∷ w word.Else ∷ o sign.Colon ∷ nl ∷ indent ∷ w word.Pass ∷ nl ∷ dedent ∷ []))
    ≡ reads
    (main_of
    (more_stmts (conditional (pl 12 13) (more_branches (name (nm 13 a)) (more_stmts (pass (pl 17 18)) no_stmts)
    (more_branches (name (nm 21 a)) (more_stmts (pass (pl 25 26)) no_stmts) no_branches))
    (more_stmts (pass (pl 32 33)) no_stmts)) no_stmts) 36)
unfolding read_tokens
branches = refl

-- ---- near misses, each at the first token after which no module can follow

-- a call of a comma: `a(,)`
call_of_comma : outcome_of (main_with (n a ∷ o sign.LeftParenthesis ∷ o sign.Comma ∷ o sign.RightParenthesis ∷ nl ∷ []))
    ≡ refuses 14
unfolding read_tokens
call_of_comma = refl

-- a keyword argument before one by position: `a(a=a, a)`
keyword_first : outcome_of (main_with (n a ∷ o sign.LeftParenthesis ∷ n a ∷ o sign.Equal ∷ n a ∷ o sign.Comma ∷ n a
    ∷ o sign.RightParenthesis ∷ nl ∷ [])) ≡ refuses 19
unfolding read_tokens
keyword_first = refl

-- `a(a.a=a)`
keyword_attribute : outcome_of (main_with (n a ∷ o sign.LeftParenthesis ∷ n a ∷ o sign.Dot ∷ n a ∷ o sign.Equal ∷ n a
    ∷ o sign.RightParenthesis ∷ nl ∷ [])) ≡ refuses 17
unfolding read_tokens
keyword_attribute = refl

-- `a((a)=a)`
keyword_in_parentheses : outcome_of (main_with (n a ∷ o sign.LeftParenthesis ∷ o sign.LeftParenthesis ∷ n a
    ∷ o sign.RightParenthesis ∷ o sign.Equal ∷ n a ∷ o sign.RightParenthesis ∷ nl ∷ [])) ≡ refuses 17
unfolding read_tokens
keyword_in_parentheses = refl

-- `[a=a]`
keyword_in_list : outcome_of (main_with (o sign.LeftBracket ∷ n a ∷ o sign.Equal ∷ n a ∷ o sign.RightBracket ∷ nl ∷ []))
    ≡ refuses 14
unfolding read_tokens
keyword_in_list = refl

-- two commas: `[a,,]`
two_commas : outcome_of (main_with (o sign.LeftBracket ∷ n a ∷ o sign.Comma ∷ o sign.Comma ∷ o sign.RightBracket ∷ nl
    ∷ [])) ≡ refuses 15
unfolding read_tokens
two_commas = refl

-- `(,)`
comma_alone : outcome_of (main_with (o sign.LeftParenthesis ∷ o sign.Comma ∷ o sign.RightParenthesis ∷ nl ∷ []))
    ≡ refuses 13
unfolding read_tokens
comma_alone = refl

-- a tuple without parentheses: `a = a, a`
bare_tuple : outcome_of (main_with (n a ∷ o sign.Equal ∷ n a ∷ o sign.Comma ∷ n a ∷ nl ∷ [])) ≡ refuses 15
unfolding read_tokens
bare_tuple = refl

-- `{a}`
set_display : outcome_of (main_with (o sign.LeftBrace ∷ n a ∷ o sign.RightBrace ∷ nl ∷ [])) ≡ refuses 14
unfolding read_tokens
set_display = refl

-- `{a: a, a}`
entry_without_value : outcome_of (main_with (o sign.LeftBrace ∷ n a ∷ o sign.Colon ∷ n a ∷ o sign.Comma ∷ n a
    ∷ o sign.RightBrace ∷ nl ∷ [])) ≡ refuses 18
unfolding read_tokens
entry_without_value = refl

-- `a[]`
empty_index : outcome_of (main_with (n a ∷ o sign.LeftBracket ∷ o sign.RightBracket ∷ nl ∷ [])) ≡ refuses 14
unfolding read_tokens
empty_index = refl

-- `a[a, a]`
index_of_two : outcome_of (main_with (n a ∷ o sign.LeftBracket ∷ n a ∷ o sign.Comma ∷ n a ∷ o sign.RightBracket ∷ nl
    ∷ [])) ≡ refuses 15
unfolding read_tokens
index_of_two = refl

-- `a + not a`
not_after_plus : outcome_of (main_with (n a ∷ o sign.Plus ∷ w word.Not ∷ n a ∷ nl ∷ [])) ≡ refuses 14
unfolding read_tokens
not_after_plus = refl

-- `- not a`
not_after_minus : outcome_of (main_with (o sign.Minus ∷ w word.Not ∷ n a ∷ nl ∷ [])) ≡ refuses 13
unfolding read_tokens
not_after_minus = refl

-- `a not a`
not_without_in : outcome_of (main_with (n a ∷ w word.Not ∷ n a ∷ nl ∷ [])) ≡ refuses 14
unfolding read_tokens
not_without_in = refl

-- `a is a`
is_without_none : outcome_of (main_with (n a ∷ w word.Is ∷ n a ∷ nl ∷ [])) ≡ refuses 14
unfolding read_tokens
is_without_none = refl

-- `a is None.a`
dot_after_none : outcome_of (main_with (n a ∷ w word.Is ∷ w word.None ∷ o sign.Dot ∷ n a ∷ nl ∷ [])) ≡ refuses 15
unfolding read_tokens
dot_after_none = refl

-- `a < a < a`
two_comparisons : outcome_of (main_with (n a ∷ o sign.Less ∷ n a ∷ o sign.Less ∷ n a ∷ nl ∷ [])) ≡ refuses 15
unfolding read_tokens
two_comparisons = refl

-- `a.`
dot_without_name : outcome_of (main_with (n a ∷ o sign.Dot ∷ nl ∷ [])) ≡ refuses 14
unfolding read_tokens
dot_without_name = refl

-- `a() = a`
call_as_target : outcome_of (main_with (n a ∷ o sign.LeftParenthesis ∷ o sign.RightParenthesis ∷ o sign.Equal ∷ n a ∷ nl
    ∷ [])) ≡ refuses 15
unfolding read_tokens
call_as_target = refl

-- `a = a = a`
chained_assignment : outcome_of (main_with (n a ∷ o sign.Equal ∷ n a ∷ o sign.Equal ∷ n a ∷ nl ∷ [])) ≡ refuses 15
unfolding read_tokens
chained_assignment = refl

-- `a.a: a`
annotated_attribute : outcome_of (main_with (n a ∷ o sign.Dot ∷ n a ∷ o sign.Colon ∷ n a ∷ nl ∷ [])) ≡ refuses 15
unfolding read_tokens
annotated_attribute = refl

-- a comma after the last annotation: `a: a[a,]`
annotation_comma : outcome_of (main_with (n a ∷ o sign.Colon ∷ n a ∷ o sign.LeftBracket ∷ n a ∷ o sign.Comma
    ∷ o sign.RightBracket ∷ nl ∷ [])) ≡ refuses 18
unfolding read_tokens
annotation_comma = refl

-- `a: a[]`
annotation_of_nothing : outcome_of (main_with (n a ∷ o sign.Colon ∷ n a ∷ o sign.LeftBracket ∷ o sign.RightBracket ∷ nl
    ∷ [])) ≡ refuses 16
unfolding read_tokens
annotation_of_nothing = refl

-- `a: (a)`
annotation_in_parentheses : outcome_of (main_with (n a ∷ o sign.Colon ∷ o sign.LeftParenthesis ∷ n a
    ∷ o sign.RightParenthesis ∷ nl ∷ [])) ≡ refuses 14
unfolding read_tokens
annotation_in_parentheses = refl

-- `a: a[a][a]`
annotation_twice : outcome_of (main_with (n a ∷ o sign.Colon ∷ n a ∷ o sign.LeftBracket ∷ n a ∷ o sign.RightBracket
    ∷ o sign.LeftBracket ∷ n a ∷ o sign.RightBracket ∷ nl ∷ [])) ≡ refuses 18
unfolding read_tokens
annotation_twice = refl

-- `a: a |`
union_without_part : outcome_of (main_with (n a ∷ o sign.Colon ∷ n a ∷ o sign.Bar ∷ nl ∷ [])) ≡ refuses 16
unfolding read_tokens
union_without_part = refl

-- `pass pass`
two_words : outcome_of (main_with (w word.Pass ∷ w word.Pass ∷ nl ∷ [])) ≡ refuses 13
unfolding read_tokens
two_words = refl

-- `assert`
assert_nothing : outcome_of (main_with (w word.Assert ∷ nl ∷ [])) ≡ refuses 13
unfolding read_tokens
assert_nothing = refl

-- `else` without `if`
else_alone : outcome_of (main_with (w word.Else ∷ o sign.Colon ∷ nl ∷ indent ∷ w word.Pass ∷ nl ∷ dedent ∷ []))
    ≡ refuses 12
unfolding read_tokens
else_alone = refl

-- `while a: pass else`
else_on_loop : outcome_of (main_with (w word.While ∷ n a ∷ o sign.Colon ∷ nl ∷ indent ∷ w word.Pass ∷ nl ∷ dedent
    ∷ w word.Else ∷ [])) ≡ refuses 20
unfolding read_tokens
else_on_loop = refl

-- `for a.a in a`
for_attribute : outcome_of (main_with (w word.For ∷ n a ∷ o sign.Dot ∷ n a ∷ w word.In ∷ n a ∷ o sign.Colon ∷ []))
    ≡ refuses 14
unfolding read_tokens
for_attribute = refl

-- a suite on its line: `if a: pass`
suite_on_line : outcome_of (main_with (w word.If ∷ n a ∷ o sign.Colon ∷ w word.Pass ∷ nl ∷ [])) ≡ refuses 15
unfolding read_tokens
suite_on_line = refl

-- a suite of no statement
empty_suite : outcome_of (main_with (w word.If ∷ n a ∷ o sign.Colon ∷ nl ∷ indent ∷ dedent ∷ [])) ≡ refuses 17
unfolding read_tokens
empty_suite = refl
