-- Results of the functions that read statements and suites.
use Rattle.std.specs.declared.convert.AsStr.{Ghosts as TextOf}
use Rattle.std.specs.declared.iter.Iterator.{Ghosts as TokensOf}
use Rattle.std.specs.Prelude.{ℕ, ◌≡◌, ◌<◌, ◌≤◌, ◌⊎◌, false, List, [], ◌∷◌, Some, None, Result, MatchResult, Vec}
use Rattle.std.specs.declared.alloc.Global.{Global}
use Rattle.pc_source.specs.declared.fault.Fault.{Fault}
use Rattle.pc_source.specs.declared.place.Place.{Place}
use Rattle.pc_token.specs.declared.token.Token.{Token}
use Rattle.pc_token.specs.declared.token.TokenKind.TheVariants as kind
use Rattle.pc_token.specs.declared.token.Keyword.TheVariants as word
use Rattle.pc_tree.specs.declared.tree.Expr.{Expr as RustExpr}
use Rattle.pc_tree.specs.declared.tree.Name.{Name as RustName}
use Rattle.pc_tree.specs.declared.tree.Stmt.{Stmt as RustStmt}
use Rattle.pc_tree.specs.declared.tree.StmtKind.{StmtKind}
use Rattle.pc_tree.specs.declared.tree.StmtKind.TheVariants as statement
use Rattle.pc_tree.specs.declared.tree.Branch.{Branch as RustBranch}
use Rattle.pc_tree.specs.Tree.{Expr, no_anns, Stmt, conditional, Stmts, no_stmts, Branches, name_of, expr_of, stmt_of}
use Rattle.pc_tree.specs.Tree.{stmt_of_kind, stmts_of_list}
use Rattle.pc_tree.specs.Depth.{whole_expr, wholes_of_stmt, wholes_of_stmts, wholes_of_branches}
use Rattle.pc_tree.specs.Lists.{branches_of_list}
use Rattle.pc_grammar.specs.Machine.{at, transition, stop_at, short}
use Rattle.pc_grammar.specs.Machine.Kinds.{Lead as Joint, leads_pass, leads_break, leads_continue, leads_return}
use Rattle.pc_grammar.specs.Machine.Kinds.{leads_assert, leads_while, leads_for, leads_if, leads_out, leads_other}
use Rattle.pc_grammar.specs.Machine.Kinds.{lead_of}
use Rattle.pc_grammar.specs.Machine.Kinds.{same_kind, Ending}
use Rattle.pc_grammar.specs.Machine.States.{Part, Nest, Block, Site, Begun, branching, in_statement, of_local, whole}
use Rattle.pc_grammar.specs.Machine.States.{ann_whole, State, stmts, after_branch, part_due, operand, stuck, go, on}
use Rattle.pc_grammar.specs.Machine.Finishing.{add_stmt, suite_of, after_suite, after_stmt, nested_in, at_colon}
use Rattle.pc_grammar.specs.Machine.Finishing.{finish_stmt}
use Rattle.pc_grammar.specs.Machine.Lines.{line_ends, lead_turn}
use Rattle.pc_reader.specs.Reading.{Blames, Came, Onward, IsReady, IsAhead, lexeme, left_in}
use Rattle.pc_parse.specs.declared.parser.Parser.{Parser}
use Rattle.pc_parse.specs.declared.statement.Lead.{Lead}
use Rattle.pc_parse.specs.declared.statement.Lead.TheVariants as rust
use Rattle.pc_parse.specs.declared.statement.OneWordStatement.{OneWordStatement}
use Rattle.pc_parse.specs.declared.statement.OneWordStatement.TheVariants as alone
use Rattle.pc_parse.specs.Internal.WholeTrees.{KeepsTree, deep_after}

-- the beginning of a statement, as the machine names it
abbrev pub lead_view : Lead → Joint
lead_view rust.Pass = leads_pass
lead_view rust.Break = leads_break
lead_view rust.Continue = leads_continue
lead_view rust.Return = leads_return
lead_view rust.Assert = leads_assert
lead_view rust.While = leads_while
lead_view rust.For = leads_for
lead_view rust.If = leads_if
lead_view rust.Dedent = leads_out
lead_view rust.Other = leads_other

-- the site of a statement that begins with a token at this place
abbrev pub site_at : Place → Stmts → Block → Site
site_at first done block = record { first = first; done = done; block = block }

-- after the expression of this begun statement, a `:` begins this suite
abbrev pub Heads : Begun → (Expr → Nest) → Type 0
Heads begun nest = (p : Part) (site : Site) (e : Ending)
    → finish_stmt begun p site e ≡ at_colon (suite_of (nested_in site (nest p.tree))) e

-- the statement that is this word
abbrev pub kind_of_word : OneWordStatement → StmtKind
kind_of_word alone.Pass = statement.Pass
kind_of_word alone.Break = statement.Break
kind_of_word alone.Continue = statement.Continue

-- the token ahead, if any, begins a statement in this way
abbrev pub HasLead : {X I : Type 0} → Joint → Parser X I → Type 0
HasLead {X} l a = (t : Token X) → a.reader.ahead ≡ Some t → lead_of t.kind ≡ l

-- the suite has no statement yet, or no end of it is ahead
abbrev pub MayGoOn : {X I : Type 0} → Stmts → Parser X I → Type 0
MayGoOn done a = (done ≡ no_stmts) ⊎ (IsAhead kind.Dedent a.reader.ahead ≡ false)

module _ {X I : Type 0} (text : X → List ℕ) where
  -- the token ahead, if any, is all of this statement
  abbrev pub HasWord : StmtKind → Parser X I → Type 0
  HasWord k a = (t : Token X) (site : Site) → a.reader.ahead ≡ Some t
      → lead_turn site (lexeme text t) t.kind (lead_of t.kind)
      ≡ go (line_ends (after_stmt site (stmt_of_kind site.first k)))

  -- a line end leads from one state to the other, and no other token fits
  pub record LineEnds (a : Parser X I) (st next : State) : Type 0 where
    pub unfinished : stop_at st ≡ short
    pub turns : (t : Token X) → a.reader.ahead ≡ Some t
        → transition st (lexeme text t) t.kind ≡ on (same_kind t.kind kind.Newline) next stuck

module _ {X I : Type 0} (texts : TextOf X) (source : TokensOf I (Result (Token X) Fault)) where
  -- a line end was read
  pub record EndsLine (a b : Parser X I) : Type 0 where
    pub deep : b.deep ≡ a.deep
    pub ready : IsReady source.can_next source.remaining b.reader
    pub later : left_in source.remaining b.reader < left_in source.remaining a.reader
    pub leads : (st next : State) → LineEnds texts.text a st next → Onward texts.text source.next_gives a.reader
        b.reader (at st) (at next)

  -- a line end was read, and the value passed in is returned, or the refusal is the machine's
  abbrev pub ReadsLineEnd : {T : Type 0} → Parser X I → Parser X I → T → Result T Fault → Type 0
  ReadsLineEnd a b s r = MatchResult r (λ s'. (s' ≡ s) × EndsLine a b)
      (λ e. Blames e (λ o. (st next : State) → LineEnds texts.text a st next
      → Came texts.text source.next_gives a.reader (at st) o))

  -- a statement was read, from a state after other statements that fit
  pub record GivesStmt (start : Stmts → Block → State) (fits : Stmts → Type 0) (a b : Parser X I)
      (s : RustStmt) : Type 0 where
    pub statement : Stmt
    pub keeps : KeepsTree stmt_of wholes_of_stmt a.deep b.deep s statement
    pub ready : IsReady source.can_next source.remaining b.reader
    pub later : left_in source.remaining b.reader < left_in source.remaining a.reader
    pub leads : (done : Stmts) (block : Block) → fits done
        → Onward texts.text source.next_gives a.reader b.reader (at (start done block))
        (at (stmts (add_stmt done statement) block))

  -- a statement was read, from a state after other statements that fit, or the refusal is the machine's
  abbrev pub ReadsFrom : (Stmts → Block → State) → (Stmts → Type 0) → Parser X I → Parser X I → Result RustStmt Fault
      → Type 0
  ReadsFrom start fits a b r =
      MatchResult r (λ s. GivesStmt start fits a b s)
      (λ e. Blames e (λ o. (done : Stmts) (block : Block) → fits done
      → Came texts.text source.next_gives a.reader (at (start done block)) o))

  -- a whole statement was read, or the refusal is the machine's
  abbrev pub ReadsStmt : (Stmts → Type 0) → Parser X I → Parser X I → Result RustStmt Fault → Type 0
  ReadsStmt fits a b r = ReadsFrom (λ done block. stmts done block) fits a b r

  -- the rest of an annotated local after its `:` was read, in a statement that begins at this place, or the refusal is
  -- the machine's
  abbrev pub ReadsLocal : Place → RustName → Parser X I → Parser X I → Result RustStmt Fault → Type 0
  ReadsLocal first n a b r =
      ReadsFrom (λ done block. part_due no_anns [] (ann_whole (of_local (name_of n) (site_at first done block))))
      (λ _. Unit {0}) a b r

  -- the statements of a suite were read, from after its `:` to its end
  pub record GivesSuite (a b : Parser X I) (v : Vec RustStmt Global) : Type 0 where
    pub statements : Stmts
    pub keeps : KeepsTree (λ (w : Vec RustStmt Global). stmts_of_list w.items)
        wholes_of_stmts a.deep b.deep v statements
    pub ready : IsReady source.can_next source.remaining b.reader
    pub later : left_in source.remaining b.reader < left_in source.remaining a.reader
    pub leads : (block : Block)
        → Onward texts.text source.next_gives a.reader b.reader (at (suite_of block))
        (at (after_suite block statements))

  -- the statements of a suite and its end were read, or the refusal is the machine's
  abbrev pub ReadsSuite : Parser X I → Parser X I → Result (Vec RustStmt Global) Fault → Type 0
  ReadsSuite a b r = MatchResult r (λ v. GivesSuite a b v)
      (λ e. Blames e (λ o. (block : Block) → Came texts.text source.next_gives a.reader (at (suite_of block)) o))

  -- an expression and a suite after it were read
  pub record GivesHeaded (a b : Parser X I) (value : RustExpr) (v : List RustStmt) : Type 0 where
    pub head : Expr
    pub body : Stmts
    pub deep : b.deep ≡ deep_after a.deep (whole_expr head ∷ wholes_of_stmts body)
    pub kept_head : b.deep ≡ None → expr_of value ≡ head
    pub kept_body : b.deep ≡ None → stmts_of_list v ≡ body
    pub ready : IsReady source.can_next source.remaining b.reader
    pub later : left_in source.remaining b.reader < left_in source.remaining a.reader
    pub leads : (begun : Begun) (nest : Expr → Nest) (site : Site) → Heads begun nest
        → Onward texts.text source.next_gives a.reader b.reader (at (operand (whole (in_statement begun site))))
        (at (after_suite (nested_in site (nest head)) body))

  -- an expression and a suite after it were read, or the refusal is the machine's
  abbrev pub ReadsHeaded : Parser X I → Parser X I → Result ((e : RustExpr) × Vec RustStmt Global) Fault → Type 0
  ReadsHeaded a b r = MatchResult r (λ h. GivesHeaded a b h.0 h.1.items)
      (λ e. Blames e (λ o. (begun : Begun) (nest : Expr → Nest) (site : Site) → Heads begun nest
      → Came texts.text source.next_gives a.reader (at (operand (whole (in_statement begun site)))) o))

  -- the suite of `else` was read, if there is one
  pub record GivesElse (a b : Parser X I) (v : List RustStmt) : Type 0 where
    pub statements : Stmts
    pub keeps : KeepsTree stmts_of_list wholes_of_stmts a.deep b.deep v statements
    pub ready : IsReady source.can_next source.remaining b.reader
    pub later : left_in source.remaining b.reader ≤ left_in source.remaining a.reader
    pub leads : (branches : Branches) (site : Site) → IsAhead (kind.Keyword word.Elif) a.reader.ahead ≡ false
        → Onward texts.text source.next_gives a.reader b.reader (at (after_branch branches site))
        (at (after_stmt site (conditional site.first branches statements)))

  -- the suite of `else` was read, if there is one, or the refusal is the machine's where no `elif` is ahead
  abbrev pub ReadsElse : Parser X I → Parser X I → Result (Vec RustStmt Global) Fault → Type 0
  ReadsElse a b r = MatchResult r (λ v. GivesElse a b v.items)
      (λ e. Blames e (λ o. (branches : Branches) (site : Site) → IsAhead (kind.Keyword word.Elif) a.reader.ahead ≡ false
      → Came texts.text source.next_gives a.reader (at (after_branch branches site)) o))

  -- ---- loops

  -- the statements of a suite were read so far
  pub record StmtsSoFar (a b : Parser X I) (v : List RustStmt) : Type 0 where
    pub statements : Stmts
    pub keeps : KeepsTree stmts_of_list wholes_of_stmts a.deep b.deep v statements
    pub ready : IsReady source.can_next source.remaining b.reader
    pub later : left_in source.remaining b.reader < left_in source.remaining a.reader
    pub stands : MayGoOn statements b
    pub leads : (block : Block)
        → Onward texts.text source.next_gives a.reader b.reader (at (suite_of block)) (at (stmts statements block))

  -- the branches of an `if` were read so far, up to the next condition
  pub record BranchesSoFar (first : Place) (a b : Parser X I) (v : List RustBranch) : Type 0 where
    pub branches : Branches
    pub keeps : KeepsTree branches_of_list wholes_of_branches a.deep b.deep v branches
    pub ready : IsReady source.can_next source.remaining b.reader
    pub later : left_in source.remaining b.reader < left_in source.remaining a.reader
    pub leads : (done : Stmts) (block : Block) → HasLead leads_if a
        → Onward texts.text source.next_gives a.reader b.reader (at (stmts done block))
        (at (operand (whole (in_statement (branching branches) (site_at first done block)))))
