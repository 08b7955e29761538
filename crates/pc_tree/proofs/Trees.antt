-- Trees of the program through the lists that they hold.
use Rattle.std.proofs.Common.{◌≡◌, ◌<◌, ℕ, zero, suc, ◌+◌, List, drop, sym, [], ◌∷◌, length, get_or, refl, ap, ◌∙◌}
use Rattle.std.proofs.Common.{arith}
use Rattle.std.specs.Prelude.{Vec, Box}
use Rattle.std.specs.Global.{Global}
use Rattle.pc_source.specs.declared.place.Place.{Place}
use Rattle.pc_tree.specs.Tree.{more_exprs, more_keywords, more_entries, name_of, tuple, list, dict, call, expr_of}
use Rattle.pc_tree.specs.Tree.{exprs_of, entries_of, keywords_of, more_stmts, Branches, more_branches, stmts_of}
use Rattle.pc_tree.specs.Tree.{stmts_of_list, branches_of, stmt_of_kind, stmt_of, while_loop, for_loop, conditional}
use Rattle.pc_tree.specs.declared.tree.Name.{Name as RustName}
use Rattle.pc_tree.specs.declared.tree.Expr.{Expr as RustExpr, Row_of-Expr, end_of-Expr, more_of-Expr, Row_of-Entry}
use Rattle.pc_tree.specs.declared.tree.Expr.{end_of-Entry, more_of-Entry, Row_of-KeywordArgument}
use Rattle.pc_tree.specs.declared.tree.Expr.{end_of-KeywordArgument, more_of-KeywordArgument, items-the_row-Expr}
use Rattle.pc_tree.specs.declared.tree.Expr.{items_hidden-the_row-Expr-0, items-the_row-Entry}
use Rattle.pc_tree.specs.declared.tree.Expr.{items_hidden-the_row-Entry-1, items-the_row-KeywordArgument}
use Rattle.pc_tree.specs.declared.tree.Expr.{items_hidden-the_row-KeywordArgument-2}
use Rattle.pc_tree.specs.declared.tree.Entry.{Entry as RustEntry}
use Rattle.pc_tree.specs.declared.tree.KeywordArgument.{KeywordArgument as RustKeyword}
use Rattle.pc_tree.specs.declared.tree.Expr.TheViews as View
use Rattle.pc_tree.specs.declared.tree.Expr.TheBlock as Block
use Rattle.pc_tree.specs.declared.tree.StmtKind.{Row_of-Stmt, end_of-Stmt, more_of-Stmt, Row_of-Branch, end_of-Branch}
use Rattle.pc_tree.specs.declared.tree.StmtKind.{more_of-Branch, items-the_row-Stmt, items_hidden-the_row-Stmt-0}
use Rattle.pc_tree.specs.declared.tree.StmtKind.{items-the_row-Branch, items_hidden-the_row-Branch-1}
use Rattle.pc_tree.specs.declared.tree.StmtKind.TheViews as StmtView
use Rattle.pc_tree.specs.declared.tree.StmtKind.TheBlock as StmtBlock
use Rattle.pc_tree.specs.declared.tree.Stmt.{Stmt as RustStmt}
use Rattle.pc_tree.specs.declared.tree.Branch.{Branch as RustBranch, Branch', out-Branch, roll-out-Branch}
use denote.Hole.Carrier as Carrier
use Rattle.pc_tree.specs.Lists.{exprs_of_list, entries_of_list, keywords_of_list, branches_of_list, with_branch}

exprs : {n : _} (k : Row_of-Expr n) → exprs_of k ≡ exprs_of_list (items-the_row-Expr n k)
exprs end_of-Expr = refl
exprs (more_of-Expr e rest) = ap (λ es. more_exprs (expr_of e) es) (exprs rest)

entries : {n : _} (k : Row_of-Entry n) → entries_of k ≡ entries_of_list (items-the_row-Entry n k)
entries end_of-Entry = refl
entries (more_of-Entry key v rest) = ap (λ es. more_entries (expr_of key) (expr_of v) es) (entries rest)

keywords : {n : _} (k : Row_of-KeywordArgument n) → keywords_of k ≡ keywords_of_list (items-the_row-KeywordArgument n k)
keywords end_of-KeywordArgument = refl
keywords (more_of-KeywordArgument m v rest) = ap (λ ks. more_keywords (name_of m) (expr_of v) ks) (keywords rest)

exprs_in : (v : Vec RustExpr Global) → exprs_of (Block.hidden-the_row-Expr-0 v) ≡ exprs_of_list v.items
exprs_in v = exprs (Block.hidden-the_row-Expr-0 v) ∙ ap exprs_of_list (items_hidden-the_row-Expr-0 v)

keywords_in : (v : Vec RustKeyword Global) → keywords_of (Block.hidden-the_row-KeywordArgument-2 v) ≡ keywords_of_list
    v.items
keywords_in v = keywords (Block.hidden-the_row-KeywordArgument-2 v)
    ∙ ap keywords_of_list (items_hidden-the_row-KeywordArgument-2 v)

pub tuple_tree : (p : Place) (v : Vec RustExpr Global) → expr_of (View.Tuple p v) ≡ tuple p (exprs_of_list v.items)
tuple_tree p v = ap (λ es. tuple p es) (exprs_in v)

pub list_tree : (p : Place) (v : Vec RustExpr Global) → expr_of (View.List p v) ≡ list p (exprs_of_list v.items)
list_tree p v = ap (λ es. list p es) (exprs_in v)

pub dict_tree : (p : Place) (v : Vec RustEntry Global) → expr_of (View.Dict p v) ≡ dict p (entries_of_list v.items)
dict_tree p v = ap (λ es. dict p es) (entries (Block.hidden-the_row-Entry-1 v)
    ∙ ap entries_of_list (items_hidden-the_row-Entry-1 v))

pub call_tree : (p : Place) (callee : _) (v : Vec RustExpr Global) (ks : Vec RustKeyword Global)
    → expr_of (View.Call p callee v ks) ≡ call p (expr_of callee.value) (exprs_of_list v.items)
    (keywords_of_list ks.items)
call_tree p callee v ks = ap (λ es. call p (expr_of callee.value) es
    (keywords_of (Block.hidden-the_row-KeywordArgument-2 ks))) (exprs_in v)
    ∙ ap (λ k. call p (expr_of callee.value) (exprs_of_list v.items) k) (keywords_in ks)

-- ---- statements

stmts : {n : _} (k : Row_of-Stmt n) → stmts_of k ≡ stmts_of_list (items-the_row-Stmt n k)
stmts end_of-Stmt = refl
stmts (more_of-Stmt first kind rest) = ap (λ ss. more_stmts (stmt_of_kind first kind) ss) (stmts rest)

branches : {n : _} (k : Row_of-Branch n) → branches_of k ≡ branches_of_list (items-the_row-Branch n k)
branches end_of-Branch = refl
branches (more_of-Branch (Branch' condition shape body) rest) =
    ap (λ bs. more_branches (expr_of condition) (stmts_of body) bs) (branches rest)

pub stmts_in : (v : Vec RustStmt Global) → stmts_of (StmtBlock.hidden-the_row-Stmt-0 v) ≡ stmts_of_list v.items
stmts_in v = stmts (StmtBlock.hidden-the_row-Stmt-0 v) ∙ ap stmts_of_list (items_hidden-the_row-Stmt-0 v)

branches_in : (v : Vec RustBranch Global) → branches_of (StmtBlock.hidden-the_row-Branch-1 v) ≡ branches_of_list v.items
branches_in v = branches (StmtBlock.hidden-the_row-Branch-1 v) ∙ ap branches_of_list (items_hidden-the_row-Branch-1 v)

pub while_tree : (p : Place) (e : Box RustExpr Global) (v : Vec RustStmt Global) → stmt_of_kind p (StmtView.While e v)
    ≡ while_loop p (expr_of e.value) (stmts_of_list v.items)
while_tree p e v = ap (λ ss. while_loop p (expr_of e.value) ss) (stmts_in v)

pub for_tree : (p : Place) (n : RustName) (e : Box RustExpr Global) (v : Vec RustStmt Global)
    → stmt_of_kind p (StmtView.For n e v) ≡ for_loop p (name_of n) (expr_of e.value) (stmts_of_list v.items)
for_tree p n e v = ap (λ ss. for_loop p (name_of n) (expr_of e.value) ss) (stmts_in v)

pub if_tree : (p : Place) (b : Vec RustBranch Global) (v : Vec RustStmt Global) → stmt_of_kind p (StmtView.If b v)
    ≡ conditional p (branches_of_list b.items) (stmts_of_list v.items)
if_tree p b v = ap (λ bs. conditional p bs (stmts_of (StmtBlock.hidden-the_row-Stmt-0 v))) (branches_in b)
    ∙ ap (λ ss. conditional p (branches_of_list b.items) ss) (stmts_in v)

-- a condition with its suite
pub branch_tree : (b : RustBranch) (rest : Branches) → with_branch b rest ≡ more_branches
    (expr_of (out-Branch b).condition) (stmts_of_list (out-Branch b).body.items) rest
unfolding StmtView.roll-Branch Carrier.roll
branch_tree b rest = ap (λ x. with_branch x rest) (sym (roll-out-Branch b))
    ∙ ap (λ ss. more_branches (expr_of (out-Branch b).condition) ss rest) (stmts_in (out-Branch b).body)

branches_at : (bs : List RustBranch) (i : ℕ) (b : RustBranch) → i < length bs → b ≡ get_or bs i b
    → branches_of_list (drop i bs) ≡ more_branches (expr_of (out-Branch b).condition)
    (stmts_of_list (out-Branch b).body.items) (branches_of_list (drop (suc i) bs))
branches_at [] i b lt e = absurd (omega arith)
branches_at (a ∷ rest) zero b lt e = ap (λ x. with_branch x (branches_of_list rest)) (sym e)
    ∙ branch_tree b (branches_of_list rest)
branches_at (a ∷ rest) (suc i) b lt e = branches_at rest i b (omega arith) e

-- the next condition
pub branches_next : (bs : List RustBranch) (i : ℕ) (b : RustBranch) → i < length bs → b ≡ get_or bs i b
    → branches_of_list (drop i bs) ≡ more_branches (expr_of (out-Branch b).condition)
    (stmts_of_list (out-Branch b).body.items) (branches_of_list (drop (i + 1) bs))
branches_next bs i b lt e = let h : suc i ≡ i + 1 = omega arith in branches_at bs i b lt e
    ∙ ap (λ k. more_branches (expr_of (out-Branch b).condition) (stmts_of_list (out-Branch b).body.items)
    (branches_of_list (drop k bs))) h

-- ---- the next statement

stmts_at : (body : List RustStmt) (i : ℕ) (s : RustStmt) → i < length body → s ≡ get_or body i s
    → stmts_of_list (drop i body) ≡ more_stmts (stmt_of s) (stmts_of_list (drop (suc i) body))
stmts_at [] i s lt e = absurd (omega arith)
stmts_at (a ∷ rest) zero s lt e = ap (λ b. more_stmts (stmt_of b) (stmts_of_list rest)) (sym e)
stmts_at (a ∷ rest) (suc i) s lt e = stmts_at rest i s (omega arith) e

pub stmts_next : (body : List RustStmt) (i : ℕ) (s : RustStmt) → i < length body → s ≡ get_or body i s
    → stmts_of_list (drop i body) ≡ more_stmts (stmt_of s) (stmts_of_list (drop (i + 1) body))
stmts_next body i s lt e = let h : suc i ≡ i + 1 = omega arith in stmts_at body i s lt e
    ∙ ap (λ k. more_stmts (stmt_of s) (stmts_of_list (drop k body))) h
