-- Values of statements, which keep the machine's trees unless something in them is too deep.
use Rattle.std.proofs.Common.{◌≡◌, ℕ, List, [], ◌∷◌, ◌++◌, Option, Some, None, ap, sym, ◌∙◌}
use Rattle.std.specs.Prelude.{Vec, Box}
use Rattle.std.specs.declared.alloc.Global.{Global}
use Rattle.pc_source.specs.declared.place.Place.{Place}
use Rattle.pc_tree.specs.declared.tree.Ann.{Ann as RustAnn}
use Rattle.pc_tree.specs.declared.tree.Expr.{Expr as RustExpr}
use Rattle.pc_tree.specs.declared.tree.Stmt.{Stmt as RustStmt}
use Rattle.pc_tree.specs.declared.tree.Branch.{Branch as RustBranch}
use Rattle.pc_tree.specs.declared.tree.Target.{Target as RustTarget}
use Rattle.pc_tree.specs.declared.tree.Name.{Name as RustName}
use Rattle.pc_tree.specs.declared.tree.StmtKind.TheVariants as rust
use Rattle.pc_tree.specs.Tree.{Name, Expr, Ann, Stmt, annotated, assigns, while_loop, for_loop, conditional, Stmts}
use Rattle.pc_tree.specs.Tree.{Branches, no_branches, more_branches, name_of, expr_of, ann_of, target_of, stmt_of}
use Rattle.pc_tree.specs.Tree.{stmts_of_list}
use Rattle.pc_tree.specs.Depth.{Whole, whole_expr, whole_ann, wholes_of_stmt, wholes_of_stmts, wholes_of_branches}
use Rattle.pc_tree.specs.Lists.{branches_of_list}
use Rattle.pc_grammar.specs.Machine.States.{Part}
use Rattle.pc_grammar.specs.Machine.Finishing.{add_stmt, add_branch, if_plain, target_of_tree}
use Rattle.pc_reader.specs.declared.operand.Operand.{Operand}
use Rattle.pc_reader.specs.Internal.Operands.{KeepsPart}
use Rattle.pc_parse.specs.Internal.WholeTrees.{deep_after, KeepsTree}
use Rattle.pc_parse.proofs.Depths.{noted_more, none_before, kept_tree, wholes_add, wholes_branch}
use Rattle.pc_parse.proofs.StatementRows.{while_is, for_is, push_stmts, push_branches}
use Rattle.pc_parse.proofs.Targets.{IsTarget, same_target}

pub noted_then : (d : Option ℕ) {e f : Option ℕ} (ws us : List Whole) → e ≡ deep_after d ws → f ≡ deep_after e us
    → f ≡ deep_after d (ws ++ us)
noted_then d ws us h g = g ∙ ap (λ z. deep_after z us) h ∙ noted_more d ws us

pub none_then : {e f : Option ℕ} (us : List Whole) → f ≡ deep_after e us → f ≡ None → e ≡ None
none_then {e = e} us g h = none_before e us (sym g ∙ h)

-- a statement with one expression
pub keep_one : {before after : Option ℕ} {o : Operand} {p : Part} (s : RustStmt) (make : Expr → Stmt)
    → ((x : Expr) → wholes_of_stmt (make x) ≡ whole_expr x ∷ []) → stmt_of s ≡ make (expr_of o.expr)
    → KeepsPart o p → after ≡ deep_after before (whole_expr p.tree ∷ []) → KeepsTree stmt_of wholes_of_stmt before after
    s (make p.tree)
keep_one {before = before} {o = o} {p = p} s make w i k d = record {
  deep = d ∙ ap (deep_after before) (sym (w p.tree));
  kept = λ e. i ∙ ap make (kept_tree o p before k (sym d ∙ e));
}

-- a statement with two
pub keep_two : {before between after : Option ℕ} {o o' : Operand} {p p' : Part} (s : RustStmt)
    (make : Expr → Expr → Stmt) → ((x y : Expr) → wholes_of_stmt (make x y) ≡ whole_expr x ∷ whole_expr y ∷ [])
    → stmt_of s ≡ make (expr_of o.expr) (expr_of o'.expr) → KeepsPart o p → KeepsPart o' p'
    → between ≡ deep_after before (whole_expr p.tree ∷ []) → after ≡ deep_after between (whole_expr p'.tree ∷ [])
    → KeepsTree stmt_of wholes_of_stmt before after s (make p.tree p'.tree)
keep_two {before = before} {between = between} {o = o} {o' = o'} {p = p} {p' = p'} s make w i k k' d d' = record {
  deep = noted_then before (whole_expr p.tree ∷ []) (whole_expr p'.tree ∷ []) d d'
      ∙ ap (deep_after before) (sym (w p.tree p'.tree));
  kept = λ e. i ∙ ap (λ z. make z (expr_of o'.expr)) (kept_tree o p before k
      (sym d ∙ none_then (whole_expr p'.tree ∷ []) d' e)) ∙ ap (make p.tree) (kept_tree o' p' between k' (sym d' ∙ e));
}

-- an assignment
pub keep_assign : {before between after : Option ℕ} {o o' : Operand} {p p' : Part} (first : Place) (s : RustStmt)
    (t : RustTarget) (i : IsTarget p.tree p.plain) → stmt_of s ≡ assigns first (target_of t) (expr_of o'.expr)
    → if_plain o.plain (target_of_tree (expr_of o.expr)) ≡ Some (target_of t) → KeepsPart o p → KeepsPart o' p'
    → between ≡ deep_after before (whole_expr p.tree ∷ []) → after ≡ deep_after between (whole_expr p'.tree ∷ [])
    → KeepsTree stmt_of wholes_of_stmt before after s (assigns first i.tree p'.tree)
keep_assign {before = before} {between = between} {o = o} {o' = o'} {p = p} {p' = p'} first s t i h g k k' d d' =
    record {
      deep = noted_then before (whole_expr p.tree ∷ []) (whole_expr p'.tree ∷ []) d d'
          ∙ ap (λ z. deep_after before (z ∷ whole_expr p'.tree ∷ [])) (sym i.whole_is);
      kept = λ e. h ∙ ap (λ z. assigns first z (expr_of o'.expr)) (same_target o p (target_of t) i k g
          (kept_tree o p before k (sym d ∙ none_then (whole_expr p'.tree ∷ []) d' e)))
          ∙ ap (assigns first i.tree) (kept_tree o' p' between k' (sym d' ∙ e));
    }

-- a local with its annotation, and with a value
pub keep_annotated : {before after : Option ℕ} (s : RustStmt) (first : Place) (n : Name) (a : RustAnn) (tree : Ann)
    → stmt_of s ≡ annotated first n (ann_of a) None
    → KeepsTree ann_of (λ x. whole_ann x ∷ []) before after a tree → KeepsTree stmt_of wholes_of_stmt before after s
    (annotated first n tree None)
keep_annotated s first n a tree i k = record {
  deep = k.deep;
  kept = λ e. i
      ∙ ap (λ z. annotated first n z None) (k.kept e);
}

pub keep_valued : {before between after : Option ℕ} {o : Operand} {p : Part} (s : RustStmt) (first : Place) (n : Name)
    (a : RustAnn) (tree : Ann) → stmt_of s ≡ annotated first n (ann_of a) (Some (expr_of o.expr))
    → KeepsTree ann_of (λ x. whole_ann x ∷ []) before between a tree → KeepsPart o p
    → after ≡ deep_after between (whole_expr p.tree ∷ []) → KeepsTree stmt_of wholes_of_stmt before after s
    (annotated first n tree (Some p.tree))
keep_valued {before = before} {between = between} {o = o} {p = p} s first n a tree i k ko d = record {
  deep = noted_then before (whole_ann tree ∷ []) (whole_expr p.tree ∷ []) k.deep d;
  kept = λ e. i ∙ ap (λ z. annotated first n z (Some (expr_of o.expr)))
      (k.kept (none_then (whole_expr p.tree ∷ []) d e)) ∙ ap (λ z. annotated first n tree (Some z))
      (kept_tree o p between ko (sym d ∙ e));
}

-- a statement after others
pub keep_more : {before between after : Option ℕ} {v w : List RustStmt} {s : RustStmt} {ss : Stmts} {t : Stmt}
    → w ≡ v ++ (s ∷ []) → KeepsTree stmts_of_list wholes_of_stmts before between v ss
    → KeepsTree stmt_of wholes_of_stmt between after s t → KeepsTree stmts_of_list wholes_of_stmts before after w
    (add_stmt ss t)
keep_more {before = before} {v = v} {s = s} {ss = ss} {t = t} i k l = record {
  deep = noted_then before (wholes_of_stmts ss) (wholes_of_stmt t) k.deep l.deep
      ∙ ap (deep_after before) (sym (wholes_add ss t));
  kept = λ e. ap stmts_of_list i ∙ push_stmts v s ∙ ap (λ z. add_stmt z (stmt_of s))
      (k.kept (none_then (wholes_of_stmt t) l.deep e)) ∙ ap (add_stmt ss) (l.kept e);
}

-- a branch after others
pub keep_branch : {before between after : Option ℕ} {v w : List RustBranch} {bs : Branches} {c : Expr} {ss : Stmts}
    (b : RustBranch) (e : RustExpr) (body : Vec RustStmt Global) → w ≡ v ++ (b ∷ [])
    → branches_of_list (b ∷ []) ≡ more_branches (expr_of e) (stmts_of_list body.items) no_branches
    → KeepsTree branches_of_list wholes_of_branches before between v bs
    → after ≡ deep_after between (whole_expr c ∷ wholes_of_stmts ss) → (after ≡ None → expr_of e ≡ c)
    → (after ≡ None → stmts_of_list body.items ≡ ss)
    → KeepsTree branches_of_list wholes_of_branches before after w (add_branch bs c ss)
keep_branch {before = before} {v = v} {bs = bs} {c = c} {ss = ss} b e body i j k d f g = record {
  deep = noted_then before (wholes_of_branches bs) (whole_expr c ∷ wholes_of_stmts ss) k.deep d
      ∙ ap (deep_after before) (sym (wholes_branch bs c ss));
  kept = λ n. ap branches_of_list i ∙ push_branches v e body b j
      ∙ ap (λ z. add_branch z (expr_of e) (stmts_of_list body.items))
      (k.kept (none_then (whole_expr c ∷ wholes_of_stmts ss) d n))
      ∙ ap (λ z. add_branch bs z (stmts_of_list body.items)) (f n) ∙ ap (add_branch bs c) (g n);
}

-- an `if` of these branches
pub keep_if : {before between after : Option ℕ} {v : List RustBranch} {w : List RustStmt} {bs : Branches} {ss : Stmts}
    (s : RustStmt) (first : Place) → stmt_of s ≡ conditional first (branches_of_list v) (stmts_of_list w)
    → KeepsTree branches_of_list wholes_of_branches before between v bs → KeepsTree stmts_of_list wholes_of_stmts
    between after w ss → KeepsTree stmt_of wholes_of_stmt before after s (conditional first bs ss)
keep_if {before = before} {w = w} {bs = bs} {ss = ss} s first i k l = record {
  deep = noted_then before (wholes_of_branches bs) (wholes_of_stmts ss) k.deep l.deep;
  kept = λ e. i ∙ ap (λ z. conditional first z (stmts_of_list w)) (k.kept (none_then (wholes_of_stmts ss) l.deep e))
      ∙ ap (conditional first bs) (l.kept e);
}

-- loops with their bodies
pub keep_while : {before after : Option ℕ} {head : Expr} {body : Stmts} (p : Place) (b : Box RustExpr Global)
    (e : RustExpr) → b.value ≡ e → (v : Vec RustStmt Global) → after ≡ deep_after before
    (whole_expr head ∷ wholes_of_stmts body)
    → (after ≡ None → expr_of e ≡ head) → (after ≡ None → stmts_of_list v.items ≡ body)
    → KeepsTree stmt_of wholes_of_stmt before after (record { first = p; kind = rust.While b v })
    (while_loop p head body)
keep_while {head = head} p b e i v d f g = record {
  deep = d;
  kept = λ n. while_is p b v
      ∙ ap (λ z. while_loop p z (stmts_of_list v.items)) (ap expr_of i ∙ f n) ∙ ap (while_loop p head) (g n);
}

pub keep_for : {before after : Option ℕ} {head : Expr} {body : Stmts} (p : Place) (t : RustName)
    (b : Box RustExpr Global) (e : RustExpr) → b.value ≡ e → (v : Vec RustStmt Global)
    → after ≡ deep_after before (whole_expr head ∷ wholes_of_stmts body)
    → (after ≡ None → expr_of e ≡ head) → (after ≡ None → stmts_of_list v.items ≡ body)
    → KeepsTree stmt_of wholes_of_stmt before after (record { first = p; kind = rust.For t b v })
    (for_loop p (name_of t) head body)
keep_for {head = head} p t b e i v d f g = record {
  deep = d;
  kept = λ n. for_is p t b v
      ∙ ap (λ z. for_loop p (name_of t) z (stmts_of_list v.items)) (ap expr_of i ∙ f n)
      ∙ ap (for_loop p (name_of t) head) (g n);
}
