use Rattle.std.proofs.Common.{◌≡◌, map, take, false}
use Rattle.std.specs.Prelude.{flat_map}
use Rattle.pc_scope.specs.Expressions.{parts_in}
use Rattle.pc_detail_nodes.specs.NodesHeld.{expr_lent}
use Rattle.pc_detail_nodes.proofs.exprs.parts_of.Given as goal

abbrev pub invariant-loop-expr : goal.invariant-loop-expr
invariant-loop-expr l = map expr_lent l.parts.items
    ≡ flat_map (parts_in false) (map expr_lent (take l.expr-index l.exprs))
