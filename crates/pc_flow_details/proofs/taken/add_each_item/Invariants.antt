use Rattle.std.proofs.Common.{List}
use Rattle.pc_types.specs.Tree.{ListOf}
use Rattle.pc_tree.specs.declared.tree.Expr.{Expr as RustExpr}
use Rattle.pc_tree.specs.Lists.{exprs_of_list}
use Rattle.pc_detail_rules.specs.Sinks.{item_sinks}
use Rattle.pc_types.specs.Boxed.{tree_of}
use Rattle.pc_flow_details.proofs.Kept.{LeftOf}
use Rattle.pc_flow_details.proofs.taken.add_each_item.Given as goal

abbrev pub invariant-loop-e : goal.invariant-loop-e
invariant-loop-e l =
    LeftOf l.facts (λ (xs : List (RustExpr)).
    item_sinks (ListOf (tree_of l.item)) (exprs_of_list xs)) l.items l.e-index l.sinks l.fn.sinks
