use Rattle.std.proofs.Common.{◌≡◌, ◌∙◌, sym, ap, true, ⊎_elim}
use Rattle.pc_tree.specs.declared.tree.Expr.{Expr as RustExpr}
use Rattle.pc_tree.specs.Tree.{expr_of}
use Rattle.pc_tree.proofs.Trees.{tuple_tree, list_tree, dict_tree, call_tree}
use Rattle.pc_rules.specs.Computed.Findings.{shows}
use Rattle.pc_expr.proofs.call_labels.shows.Goals as goal

pub returns-in-Int : goal.returns-in-Int
returns-in-Int c =
    let other : shows (expr_of c.args.callee.now) ≡ true =
    (⊎_elim (λ t. ap (λ (x : RustExpr). shows (expr_of x)) t.2)
    (⊎_elim (λ t. ap (λ (x : RustExpr). shows (expr_of x)) t.2)
    (⊎_elim (λ t. ap (λ (x : RustExpr). shows (expr_of x)) t.1)
    (⊎_elim (λ t. ap (λ (x : RustExpr). shows (expr_of x)) t.1)
    (⊎_elim (λ t. ap (λ (x : RustExpr). shows (expr_of x)) t.1)
    (⊎_elim (λ t. ap (λ (x : RustExpr). shows (expr_of x)) t.2 ∙ ap shows (tuple_tree t.0 t.1))
    (⊎_elim (λ t. ap (λ (x : RustExpr). shows (expr_of x)) t.2 ∙ ap shows (list_tree t.0 t.1))
    (⊎_elim (λ t. ap (λ (x : RustExpr). shows (expr_of x)) t.2 ∙ ap shows (dict_tree t.0 t.1))
    (⊎_elim (λ t. ap (λ (x : RustExpr). shows (expr_of x)) t.2)
    (⊎_elim (λ t. ap (λ (x : RustExpr). shows (expr_of x)) t.2)
    (⊎_elim (λ t. ap (λ (x : RustExpr). shows (expr_of x)) t.4)
    (⊎_elim (λ t. ap (λ (x : RustExpr). shows (expr_of x)) t.4)
    (⊎_elim (λ t. ap (λ (x : RustExpr). shows (expr_of x)) t.2)
    (⊎_elim (λ t. ap (λ (x : RustExpr). shows (expr_of x)) t.2)
    (⊎_elim (λ t. ap (λ (x : RustExpr). shows (expr_of x)) t.3)
    (⊎_elim (λ t. ap (λ (x : RustExpr). shows (expr_of x)) t.3)
    (⊎_elim (λ t. ap (λ (x : RustExpr). shows (expr_of x)) t.3)
    (λ t. ap (λ (x : RustExpr). shows (expr_of x)) t.4 ∙ ap shows (call_tree t.0 t.1 t.2 t.3)))))))))))))))))))
    c.in-Int.is in
    sym other
