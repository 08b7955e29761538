-- The name that a statement binds by itself, and its suites.
use Rattle.std.specs.Prelude.{List, [], ◌∷◌}
use Rattle.pc_tree.specs.Tree.{Name, Stmt, annotated, assigns}
use Rattle.pc_tree.specs.Tree.{while_loop, for_loop, conditional, Stmts, no_stmts, Branches, no_branches}
use Rattle.pc_tree.specs.Stopping.{name_of_target}

-- the name that the statement binds by itself, if any; its suites may bind more
abbrev pub own_names : Stmt → List Name
own_names (annotated p n a value) = n ∷ []
own_names (assigns p target value) = name_of_target target
own_names (for_loop p target iterable body) = target ∷ []
own_names _ = []

-- the branches of a statement: conditions, each with its suite
abbrev pub branches_of_stmt : Stmt → Branches
branches_of_stmt (conditional p bs otherwise) = bs
branches_of_stmt _ = no_branches

-- the suite of a statement that has no condition of its own: the body of a loop, or the suite of `else`
abbrev pub last_suite : Stmt → Stmts
last_suite (while_loop p condition body) = body
last_suite (for_loop p target iterable body) = body
last_suite (conditional p bs otherwise) = otherwise
last_suite _ = no_stmts
