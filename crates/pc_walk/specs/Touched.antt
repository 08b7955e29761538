-- The locals that statements touch: those that they bind, and those tested by conditions in them. Own rule of the
-- profile.
use Rattle.std.specs.Prelude.{ℕ, List, [], ◌∷◌, ◌++◌, filter_map}
use Rattle.pc_tree.specs.Tree.{Name, Expr, Stmt, Stmts, Branches, asserts, while_loop, for_loop, conditional, no_stmts}
use Rattle.pc_tree.specs.Tree.{more_stmts, no_branches, more_branches}
use Rattle.pc_tree.specs.Stopping.{bound_by, bound_by_stmt, bound_by_branches}
use Rattle.pc_scope.specs.declared.resolution.NameMeaning.{NameMeaning}
use Rattle.pc_flow.specs.Narrowing.{as_local}
use Rattle.pc_flow.specs.Narrowing.{tested_locals}

-- the numbers of the locals that names mean
abbrev pub numbers_of : (List ℕ → NameMeaning) → List Name → List ℕ
numbers_of resolve names = filter_map (λ n. as_local (resolve n.text)) names

module _ (resolve : List ℕ → NameMeaning) where
  abbrev mutual
    -- the locals tested by conditions in a statement, at any depth, in text order
    pub tested_in_stmt : Stmt → List ℕ
    tested_in_stmt (asserts p condition message) = tested_locals resolve condition
    tested_in_stmt (while_loop p condition body) = tested_locals resolve condition ++ tested_in body
    tested_in_stmt (for_loop p target iterable body) = tested_in body
    tested_in_stmt (conditional p branches otherwise) = tested_in_branches branches ++ tested_in otherwise
    tested_in_stmt _ = []

    -- the locals tested by conditions in the statements of a suite
    pub tested_in : Stmts → List ℕ
    tested_in no_stmts = []
    tested_in (more_stmts s rest) = tested_in_stmt s ++ tested_in rest

    -- the locals tested by the conditions of an `if`, and by conditions in their suites
    pub tested_in_branches : Branches → List ℕ
    tested_in_branches no_branches = []
    tested_in_branches (more_branches condition body rest) =
        tested_locals resolve condition ++ (tested_in body ++ tested_in_branches rest)

  -- the locals that a statement touches: those that it binds, at any depth, and those tested by conditions in it
  abbrev pub touched_by_stmt : Stmt → List ℕ
  touched_by_stmt s = numbers_of resolve (bound_by_stmt s) ++ tested_in_stmt s

  -- the locals that a suite touches: those that it binds, at any depth, and those tested by conditions in it
  abbrev pub touched_by : Stmts → List ℕ
  touched_by body = numbers_of resolve (bound_by body) ++ tested_in body

  -- the locals that conditions and their suites touch
  abbrev pub touched_by_branches : Branches → List ℕ
  touched_by_branches branches = numbers_of resolve (bound_by_branches branches) ++ tested_in_branches branches

  -- the locals that an `if` touches, with its suite of `else`
  abbrev pub touched_by_if : Branches → (otherwise : Stmts) → List ℕ
  touched_by_if branches otherwise = touched_by_branches branches ++ touched_by otherwise

  -- the locals that a `while` touches
  abbrev pub touched_by_while : (condition : Expr) → Stmts → List ℕ
  touched_by_while condition body =
      numbers_of resolve (bound_by body) ++ (tested_locals resolve condition ++ tested_in body)

  -- the locals that a `for` touches, with its target
  abbrev pub touched_by_for : (target : Name) → Stmts → List ℕ
  touched_by_for target body = numbers_of resolve (target ∷ bound_by body) ++ tested_in body
