-- Expressions that are just a name.
use Rattle.std.specs.Prelude.{Option, Some, None}
use Rattle.pc_tree.specs.Tree.{Name, Expr, name}

-- the name that the expression is, if it is one
abbrev pub name_of_tree : Expr → Option Name
name_of_tree (name n) = Some n
name_of_tree _ = None
