-- Lists of statements, as the tree holds them.
use Rattle.std.proofs.Common.{◌≡◌, List, [], ◌∷◌, ◌++◌, refl, ap, ◌∙◌}
use Rattle.std.specs.Prelude.{Vec, Box}
use Rattle.std.specs.declared.alloc.Global.{Global}
use Rattle.pc_source.specs.declared.place.Place.{Place}
use Rattle.pc_tree.specs.declared.tree.Expr.{Expr as RustExpr}
use Rattle.pc_tree.specs.declared.tree.Name.{Name as RustName}
use Rattle.pc_tree.specs.declared.tree.Stmt.{Stmt as RustStmt}
use Rattle.pc_tree.specs.declared.tree.Branch.{Branch as RustBranch, Branch', roll-Branch}
use Rattle.pc_tree.specs.declared.tree.Branch as made
use Rattle.pc_tree.specs.declared.tree.StmtKind.{Row_of-Stmt, end_of-Stmt, more_of-Stmt, items-the_row-Stmt}
use Rattle.pc_tree.specs.declared.tree.StmtKind.{items_hidden-the_row-Stmt-0, Row_of-Branch, end_of-Branch}
use Rattle.pc_tree.specs.declared.tree.StmtKind.{more_of-Branch, items-the_row-Branch, items_hidden-the_row-Branch-1}
use Rattle.pc_tree.specs.declared.tree.StmtKind.TheVariants as rust
use Rattle.pc_tree.specs.declared.tree.StmtKind.TheBlock as Block
use Rattle.pc_tree.specs.Tree.{more_stmts, no_branches, more_branches, while_loop, for_loop, conditional, expr_of}
use Rattle.pc_tree.specs.Tree.{name_of, stmt_of, stmt_of_kind, stmts_of, stmts_of_list, branches_of}
use Rattle.pc_tree.specs.Lists.{branches_of_list}
use Rattle.pc_grammar.specs.Machine.Finishing.{add_stmt, add_branch}

pub stmt_rows : {n : _} (k : Row_of-Stmt n) → stmts_of k ≡ stmts_of_list (items-the_row-Stmt n k)
stmt_rows end_of-Stmt = refl
stmt_rows (more_of-Stmt first kind rest) = ap (λ z. more_stmts (stmt_of_kind first kind) z) (stmt_rows rest)

pub stmts_in : (v : Vec RustStmt Global) → stmts_of (Block.hidden-the_row-Stmt-0 v) ≡ stmts_of_list v.items
stmts_in v = stmt_rows (Block.hidden-the_row-Stmt-0 v) ∙ ap stmts_of_list (items_hidden-the_row-Stmt-0 v)

branch_rows : {n : _} (k : Row_of-Branch n) → branches_of k ≡ branches_of_list (items-the_row-Branch n k)
branch_rows end_of-Branch = refl
branch_rows (more_of-Branch (Branch' condition shape body) rest) =
    ap (λ z. more_branches (expr_of condition) (stmts_of body) z) (branch_rows rest)

pub while_is : (p : Place) (e : Box RustExpr Global) (v : Vec RustStmt Global) → stmt_of_kind p (rust.While e v)
    ≡ while_loop p (expr_of e.value) (stmts_of_list v.items)
while_is p e v = ap (λ z. while_loop p (expr_of e.value) z) (stmts_in v)

pub for_is : (p : Place) (n : RustName) (e : Box RustExpr Global) (v : Vec RustStmt Global)
    → stmt_of_kind p (rust.For n e v) ≡ for_loop p (name_of n) (expr_of e.value) (stmts_of_list v.items)
for_is p n e v = ap (λ z. for_loop p (name_of n) (expr_of e.value) z) (stmts_in v)

pub if_is : (p : Place) (v : Vec RustBranch Global) (w : Vec RustStmt Global) → stmt_of_kind p (rust.If v w)
    ≡ conditional p (branches_of_list v.items) (stmts_of_list w.items)
if_is p v w = ap (λ z. conditional p z (stmts_of (Block.hidden-the_row-Stmt-0 w)))
    (branch_rows (Block.hidden-the_row-Branch-1 v) ∙ ap branches_of_list (items_hidden-the_row-Branch-1 v))
    ∙ ap (λ z. conditional p (branches_of_list v.items) z) (stmts_in w)

pub push_stmts : (xs : List RustStmt) (s : RustStmt) → stmts_of_list (xs ++ (s ∷ [])) ≡ add_stmt (stmts_of_list xs)
    (stmt_of s)
push_stmts [] s = refl
push_stmts (x ∷ xs) s = ap (λ z. more_stmts (stmt_of x) z) (push_stmts xs s)

pub push_branches : (xs : List RustBranch) (e : RustExpr) (v : Vec RustStmt Global) (b : RustBranch)
    → branches_of_list (b ∷ []) ≡ more_branches (expr_of e) (stmts_of_list v.items) no_branches
    → branches_of_list (xs ++ (b ∷ [])) ≡ add_branch (branches_of_list xs) (expr_of e) (stmts_of_list v.items)
push_branches [] e v b h = h
push_branches (Branch' condition shape body ∷ xs) e v b h = ap (λ z. more_branches (expr_of condition) (stmts_of body)
    z) (push_branches xs e v b h)

-- a branch that was made of its parts
pub branch_is : (e : RustExpr) (v : Vec RustStmt Global) → branches_of_list
    (roll-Branch (record { condition = e; body = v }) ∷ []) ≡ more_branches (expr_of e) (stmts_of_list v.items)
    no_branches
unfolding made.roll-Branch denote.Hole.Carrier.roll
branch_is e v = ap (λ z. more_branches (expr_of e) z no_branches) (stmts_in v)
