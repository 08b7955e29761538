-- Trees of the program's lists, and the trees of names that it borrows.
use Rattle.std.specs.Prelude.{List, [], ◌∷◌}
use Rattle.std.specs.Borrow.{Bor}
use Rattle.pc_tree.specs.declared.tree.Name.{Name as RustName}
use Rattle.pc_tree.specs.declared.tree.Expr.{Expr as RustExpr}
use Rattle.pc_tree.specs.declared.tree.Entry.{Entry as RustEntry}
use Rattle.pc_tree.specs.declared.tree.KeywordArgument.{KeywordArgument as RustKeyword}
use Rattle.pc_tree.specs.declared.tree.Branch.{Branch as RustBranch, Branch'}
use Rattle.pc_tree.specs.Tree.{Name, Exprs, no_exprs, more_exprs, Entries, no_entries, more_entries, Keywords}
use Rattle.pc_tree.specs.Tree.{no_keywords, more_keywords, Branches, no_branches, more_branches, expr_of, name_of}
use Rattle.pc_tree.specs.Tree.{stmts_of}

-- the trees of a list of expressions
abbrev pub exprs_of_list : List RustExpr → Exprs
exprs_of_list [] = no_exprs
exprs_of_list (e ∷ rest) = more_exprs (expr_of e) (exprs_of_list rest)

-- the trees of a list of keys and values
abbrev pub entries_of_list : List RustEntry → Entries
entries_of_list [] = no_entries
entries_of_list (e ∷ rest) = more_entries (expr_of e.key) (expr_of e.value) (entries_of_list rest)

-- the trees of a list of arguments by name
abbrev pub keywords_of_list : List RustKeyword → Keywords
keywords_of_list [] = no_keywords
keywords_of_list (a ∷ rest) = more_keywords (name_of a.name) (expr_of a.value) (keywords_of_list rest)

-- the tree of a branch, before the trees of others
abbrev pub with_branch : RustBranch → Branches → Branches
with_branch (Branch' condition shape body) rest = more_branches (expr_of condition) (stmts_of body) rest

-- the trees of a list of branches
abbrev pub branches_of_list : List RustBranch → Branches
branches_of_list [] = no_branches
branches_of_list (b ∷ rest) = with_branch b (branches_of_list rest)

-- the tree of a borrowed name
abbrev pub name_seen : Bor RustName → Name
name_seen n = name_of n.now
