-- The statements that can complete.
-- Own rule of the profile.
use Rattle.std.specs.Prelude.{Bool, true, false, ◌&&◌, ◌||◌}
use Rattle.pc_tree.specs.Tree.{Stmt, Stmts, Branches, pass, breaks, continues, returns, asserts, annotated, assigns}
use Rattle.pc_tree.specs.Tree.{evaluates, while_loop, for_loop, conditional, no_stmts, more_stmts, no_branches}
use Rattle.pc_tree.specs.Tree.{more_branches}

-- the suite has no statement, like that of a missing `else`
abbrev pub is_empty : Stmts → Bool
is_empty no_stmts = true
is_empty (more_stmts s rest) = false

-- every statement can complete but `return`, `break`, `continue`, and an `if` with `else` none of whose suites can
-- complete
abbrev mutual
  pub completes : Stmt → Bool
  completes (pass p) = true
  completes (breaks p) = false
  completes (continues p) = false
  completes (returns p value) = false
  completes (asserts p condition message) = true
  completes (annotated p n annotation value) = true
  completes (assigns p target value) = true
  completes (evaluates p value) = true
  completes (while_loop p condition body) = true
  completes (for_loop p n iterable body) = true
  completes (conditional p branches otherwise) = is_empty otherwise
      || (some_completes branches || completes_all otherwise)

  pub completes_all : Stmts → Bool
  completes_all no_stmts = true
  completes_all (more_stmts s rest) = completes s && completes_all rest

  pub some_completes : Branches → Bool
  some_completes no_branches = false
  some_completes (more_branches condition body rest) = completes_all body || some_completes rest
