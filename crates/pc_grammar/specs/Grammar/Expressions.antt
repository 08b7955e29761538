-- Expressions, by levels of precedence. Python Language Reference 3.12, 6 "Expressions", 6.17 "Operator precedence".
-- That comparisons do not chain, and which forms are excluded, are own rules of the profile.
use Rattle.std.specs.Prelude.{◌≡◌, ◌⊎◌, ℕ, zero, suc, ◌+◌, ◌≤◌, ◌<◌, Bool, true, false, ⊤}
use Rattle.pc_token.specs.declared.token.Keyword.{Keyword}
use Rattle.pc_token.specs.declared.token.Keyword.TheVariants as word
use Rattle.pc_token.specs.declared.token.Operator.{Operator}
use Rattle.pc_token.specs.declared.token.Operator.TheVariants as sign
use Rattle.pc_tree.specs.declared.tree.BinaryOperator.{BinaryOperator}
use Rattle.pc_tree.specs.declared.tree.BinaryOperator.TheVariants.{Add, Sub, Mul, FloorDiv, Mod}
use Rattle.pc_tree.specs.declared.tree.ComparisonOperator.{ComparisonOperator}
use Rattle.pc_tree.specs.declared.tree.ComparisonOperator.TheVariants as comparison
use Rattle.pc_tree.specs.Tree.{Expr, name, number, text, truth, nothing, tuple, list, dict, negative, negation, binary}
use Rattle.pc_tree.specs.Tree.{compare, is_none, is_not_none, conjunction, disjunction, attribute, index, call, Exprs}
use Rattle.pc_tree.specs.Tree.{no_exprs, more_exprs, Entries, no_entries, more_entries, Keywords, no_keywords}
use Rattle.pc_tree.specs.Tree.{more_keywords, Target, to_name, to_attribute, to_index}
use Rattle.pc_grammar.specs.Grammar.{Spelling, At, ◌⟫◌, Nothing, Sign, Word, IsName, AfterComma, IsNumber, IsString}

-- the level of an arithmetic operator: sums, then products
abbrev pub level_of : BinaryOperator → ℕ
level_of Add = 4
level_of Sub = 4
level_of Mul = 5
level_of FloorDiv = 5
level_of Mod = 5

-- the level of a node without parentheses: `or`, 0, then `and`, `not`, comparisons, sums, products, unary minus,
-- primaries
abbrev pub own_level : Expr → ℕ
own_level (disjunction p l r) = 0
own_level (conjunction p l r) = 1
own_level (negation p e) = 2
own_level (compare p o l r) = 3
own_level (is_none p e) = 3
own_level (is_not_none p e) = 3
own_level (binary p o l r) = level_of o
own_level (negative p e) = 6
own_level _ = 7

-- the sign of an arithmetic operator
abbrev pub sign_of : BinaryOperator → Operator
sign_of Add = sign.Plus
sign_of Sub = sign.Minus
sign_of Mul = sign.Star
sign_of FloorDiv = sign.DoubleSlash
sign_of Mod = sign.Percent

-- the sign or the words of a comparison
abbrev pub SpellsComparison : ComparisonOperator → Spelling
SpellsComparison comparison.Equal = Sign sign.EqualEqual
SpellsComparison comparison.NotEqual = Sign sign.NotEqual
SpellsComparison comparison.Less = Sign sign.Less
SpellsComparison comparison.LessEqual = Sign sign.LessEqual
SpellsComparison comparison.Greater = Sign sign.Greater
SpellsComparison comparison.GreaterEqual = Sign sign.GreaterEqual
SpellsComparison comparison.In = Word word.In
SpellsComparison comparison.NotIn = Word word.Not ⟫ Word word.In

-- the keyword of a truth value
abbrev pub truth_word : Bool → Keyword
truth_word true = word.True
truth_word false = word.False

-- tokens of A in n pairs of parentheses, which make no node
abbrev pub Wrapped : ℕ → Spelling → Spelling
Wrapped zero A = A
Wrapped (suc n) A = Sign sign.LeftParenthesis ⟫ Wrapped n A ⟫ Sign sign.RightParenthesis

-- an operand of this level: a node of at least this level, or any node in parentheses
abbrev pub Operand : ℕ → ℕ → Spelling → Spelling
Operand level own A ts = (n : ℕ) × ((level ≤ own) ⊎ (0 < n)) × Wrapped n A ts

-- the tokens of expressions, and of the parts in their brackets
abbrev mutual
  -- the tokens of a node, without parentheses around it
  pub Spells : Expr → Spelling
  Spells (name n) = IsName n
  Spells (number p digits) = At p (IsNumber digits)
  Spells (text p characters) = At p (IsString characters)
  Spells (truth p b) = At p (Word (truth_word b))
  Spells (nothing p) = At p (Word word.None)
  Spells (tuple p no_exprs) = At p (Sign sign.LeftParenthesis ⟫ Sign sign.RightParenthesis)
  Spells (tuple p (more_exprs x xs)) =
      At p (Sign sign.LeftParenthesis ⟫ Operand 0 (own_level x) (λ ts. Spells x ts) ⟫ Sign sign.Comma
      ⟫ (λ ts. Items xs Nothing ⊤ ts) ⟫ Sign sign.RightParenthesis)
  Spells (list p xs) = At p (Sign sign.LeftBracket ⟫ (λ ts. Items xs Nothing ⊤ ts) ⟫ Sign sign.RightBracket)
  Spells (dict p es) = At p (Sign sign.LeftBrace ⟫ (λ ts. SpellsEntries es ts) ⟫ Sign sign.RightBrace)
  Spells (negative p e) = At p (Sign sign.Minus ⟫ Operand 6 (own_level e) (λ ts. Spells e ts))
  Spells (negation p e) = At p (Word word.Not ⟫ Operand 2 (own_level e) (λ ts. Spells e ts))
  Spells (binary p o l r) = At p (Operand (level_of o) (own_level l) (λ ts. Spells l ts) ⟫ Sign (sign_of o)
      ⟫ Operand (level_of o + 1) (own_level r) (λ ts. Spells r ts))
  Spells (compare p o l r) =
      At p (Operand 4 (own_level l) (λ ts. Spells l ts) ⟫ SpellsComparison o
      ⟫ Operand 4 (own_level r) (λ ts. Spells r ts))
  Spells (is_none p e) = At p (Operand 4 (own_level e) (λ ts. Spells e ts) ⟫ Word word.Is ⟫ Word word.None)
  Spells (is_not_none p e) =
      At p (Operand 4 (own_level e) (λ ts. Spells e ts) ⟫ Word word.Is ⟫ Word word.Not ⟫ Word word.None)
  Spells (conjunction p l r) =
      At p (Operand 1 (own_level l) (λ ts. Spells l ts) ⟫ Word word.And ⟫ Operand 2 (own_level r) (λ ts. Spells r ts))
  Spells (disjunction p l r) =
      At p (Operand 0 (own_level l) (λ ts. Spells l ts) ⟫ Word word.Or ⟫ Operand 1 (own_level r) (λ ts. Spells r ts))
  Spells (attribute p e f) = At p (Operand 7 (own_level e) (λ ts. Spells e ts) ⟫ Sign sign.Dot ⟫ IsName f)
  Spells (index p e i) = At p (Operand 7 (own_level e) (λ ts. Spells e ts) ⟫ Sign sign.LeftBracket
      ⟫ Operand 0 (own_level i) (λ ts. Spells i ts) ⟫ Sign sign.RightBracket)
  Spells (call p e xs ks) = At p (Operand 7 (own_level e) (λ ts. Spells e ts) ⟫ Sign sign.LeftParenthesis
      ⟫ (λ ts. Items xs (λ us. SpellsKeywords ks us) (ks ≡ no_keywords) ts) ⟫ Sign sign.RightParenthesis)

  -- expressions, each followed by a comma, and then other tokens; the last comma may be omitted if nothing else
  -- follows
  pub Items : Exprs → Spelling → Type 0 → Spelling
  Items no_exprs Others alone = Others
  Items (more_exprs x xs) Others alone = Operand 0 (own_level x) (λ ts. Spells x ts)
      ⟫ AfterComma ((xs ≡ no_exprs) × alone) (λ ts. Items xs Others alone ts)

  -- the entries of a dict display, optionally with a comma after the last
  pub SpellsEntries : Entries → Spelling
  SpellsEntries no_entries = Nothing
  SpellsEntries (more_entries x y es) = Operand 0 (own_level x) (λ ts. Spells x ts) ⟫ Sign sign.Colon
      ⟫ Operand 0 (own_level y) (λ ts. Spells y ts)
      ⟫ AfterComma (es ≡ no_entries) (λ ts. SpellsEntries es ts)

  -- arguments by name, optionally with a comma after the last
  pub SpellsKeywords : Keywords → Spelling
  SpellsKeywords no_keywords = Nothing
  SpellsKeywords (more_keywords n e ks) = IsName n ⟫ Sign sign.Equal ⟫ Operand 0 (own_level e) (λ ts. Spells e ts)
      ⟫ AfterComma (ks ≡ no_keywords) (λ ts. SpellsKeywords ks ts)

-- a whole expression, including parentheses around it
abbrev pub Expression : Expr → Spelling
Expression e = Operand 0 (own_level e) (λ ts. Spells e ts)

-- a target of an assignment, without parentheses around it
abbrev pub SpellsTarget : Target → Spelling
SpellsTarget (to_name n) = Spells (name n)
SpellsTarget (to_attribute p e f) = Spells (attribute p e f)
SpellsTarget (to_index p e i) = Spells (index p e i)
