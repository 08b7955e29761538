use Rattle.std.proofs.Common.{◌≡◌, ◌++◌, map, take}
use Rattle.pc_detail_facts.specs.Held.{owned_of}
use Rattle.pc_detail_rules.specs.Nodes.{owned}
use Rattle.pc_detail_nodes.specs.NodesHeld.{expr_lent}
use Rattle.pc_detail_nodes.proofs.exprs.add_owned.Given as goal

abbrev pub invariant-loop-expr : goal.invariant-loop-expr
invariant-loop-expr l = map owned_of l.all.items
    ≡ map owned_of l.fn.all.items ++ map (owned l.owner) (map expr_lent (take l.expr-index l.exprs))
