-- Statements. Python Language Reference 3.12, 7 "Simple statements" and 8 "Compound statements"; which forms are
-- excluded is an own rule of the profile.
use Rattle.std.specs.Prelude.{◌≡◌}
use Rattle.pc_token.specs.declared.token.TokenKind.TheVariants as kind
use Rattle.pc_token.specs.declared.token.Keyword.TheVariants as word
use Rattle.pc_token.specs.declared.token.Operator.TheVariants as sign
use Rattle.pc_tree.specs.Tree.{Stmt, pass, breaks, continues, returns, asserts, annotated, assigns, evaluates}
use Rattle.pc_tree.specs.Tree.{while_loop, for_loop, conditional, Stmts, no_stmts, more_stmts, Branches, no_branches}
use Rattle.pc_tree.specs.Tree.{more_branches}
use Rattle.pc_grammar.specs.Grammar.{Spelling, Begins, ◌⟫◌, Nothing, Maybe, Rest, Just, Sign, Word, IsName}
use Rattle.pc_grammar.specs.Grammar.Expressions.{Expression, SpellsTarget}
use Rattle.pc_grammar.specs.Grammar.Annotations.{Annotation}

-- a suite: statements on lines of their own, deeper than the line that begins it
abbrev pub Suite : Spelling → Spelling
Suite A = Sign sign.Colon ⟫ Just kind.Newline ⟫ Just kind.Indent ⟫ A ⟫ Just kind.Dedent

-- the tokens of statements, suites and branches
abbrev mutual
  -- a statement, with the end of its line or its suites
  pub SpellsStmt : Stmt → Spelling
  SpellsStmt (pass p) = Begins p (Word word.Pass ⟫ Just kind.Newline)
  SpellsStmt (breaks p) = Begins p (Word word.Break ⟫ Just kind.Newline)
  SpellsStmt (continues p) = Begins p (Word word.Continue ⟫ Just kind.Newline)
  SpellsStmt (returns p value) = Begins p (Word word.Return ⟫ Maybe Expression value ⟫ Just kind.Newline)
  SpellsStmt (asserts p condition message) =
      Begins p (Word word.Assert ⟫ Expression condition ⟫ Maybe (λ e. Sign sign.Comma ⟫ Expression e) message
      ⟫ Just kind.Newline)
  SpellsStmt (annotated p n a value) =
      Begins p (IsName n ⟫ Sign sign.Colon ⟫ Annotation a ⟫ Maybe (λ e. Sign sign.Equal ⟫ Expression e) value
      ⟫ Just kind.Newline)
  SpellsStmt (assigns p target value) =
      Begins p (SpellsTarget target ⟫ Sign sign.Equal ⟫ Expression value ⟫ Just kind.Newline)
  SpellsStmt (evaluates p value) = Begins p (Expression value ⟫ Just kind.Newline)
  SpellsStmt (while_loop p condition body) =
      Begins p (Word word.While ⟫ Expression condition ⟫ Suite (λ ts. SpellsStmts body ts))
  SpellsStmt (for_loop p target iterable body) =
      Begins p (Word word.For ⟫ IsName target ⟫ Word word.In ⟫ Expression iterable ⟫ Suite (λ ts. SpellsStmts body ts))
  SpellsStmt (conditional p no_branches otherwise) = λ ts. ⊥
  SpellsStmt (conditional p (more_branches condition body branches) otherwise) =
      Begins p (Word word.If ⟫ Expression condition ⟫ Suite (λ ts. SpellsStmts body ts)
      ⟫ (λ ts. SpellsBranches branches ts)
      ⟫ Rest (otherwise ≡ no_stmts) (Word word.Else ⟫ Suite (λ ts. SpellsStmts otherwise ts)))

  -- one or more statements
  pub SpellsStmts : Stmts → Spelling
  SpellsStmts no_stmts = λ ts. ⊥
  SpellsStmts (more_stmts s rest) = (λ ts. SpellsStmt s ts) ⟫ Rest (rest ≡ no_stmts) (λ ts. SpellsStmts rest ts)

  -- the `elif` branches
  pub SpellsBranches : Branches → Spelling
  SpellsBranches no_branches = Nothing
  SpellsBranches (more_branches condition body rest) = Word word.Elif ⟫ Expression condition
      ⟫ Suite (λ ts. SpellsStmts body ts) ⟫ (λ ts. SpellsBranches rest ts)
