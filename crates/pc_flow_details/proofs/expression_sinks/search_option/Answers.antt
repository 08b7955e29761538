use Rattle.std.proofs.Common.{◌∙◌, Option, ap}
use Rattle.std.specs.Prelude.{false}
use Rattle.std.specs.Global.{Box}
use Rattle.pc_tree.specs.Tree.{expr_of, option_expr_of}
use Rattle.pc_tree.specs.declared.tree.Expr.{Expr as RustExpr}
use Rattle.pc_scope.specs.Expressions.{option_exprs, parts_in}
use Rattle.pc_flow_details.specs.Kept.{flows_kept, taken_below, taken_in}
use Rattle.pc_flow_details.proofs.Kept.{alone_below}
use Rattle.pc_flow_details.proofs.SearchedSinks.{nothing_below, on_same}
use Rattle.pc_flow_details.proofs.expression_sinks.search_option.Goals as goal

pub returns-in-Some : goal.returns-in-Some
returns-in-Some c =
    let f = c.args.facts.now in
    let o = c.args.owner in
    let e = expr_of c.in-Some.value.value in
    on_same f c.search.result (flows_kept c.args.sinks.now) (flows_kept c.search.new.sinks)
    (taken_in f o (parts_in false e)) (taken_below f o (option_exprs (option_expr_of c.args.value.now)))
    (ap (λ (x : Option (Box RustExpr)). taken_below f o (option_exprs (option_expr_of x))) c.in-Some.is
    ∙ alone_below f o e)
    (rw c.deref.ensures at c.search.ensures)

pub returns-in-None : goal.returns-in-None
returns-in-None c = nothing_below c.args.facts.now c.args.owner (flows_kept c.args.sinks.now)
    (option_exprs (option_expr_of c.args.value.now))
    (ap (λ (x : Option (Box RustExpr)). option_exprs (option_expr_of x)) c.in-None.is)
