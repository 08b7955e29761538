use Rattle.std.proofs.Common.{◌≡◌, ◌++◌, map, take}
use Rattle.std.specs.Prelude.{flat_map}
use Rattle.pc_detail_rules.specs.Nodes.{ann_of_stmt}
use Rattle.pc_detail_nodes.specs.NodesHeld.{ann_lent}
use Rattle.pc_detail_facts.specs.Held.{stmt_lent}
use Rattle.pc_detail_nodes.proofs.annotations_at.add_of_stmts.Given as goal

abbrev pub invariant-loop-statement : goal.invariant-loop-statement
invariant-loop-statement l = map ann_lent l.anns.items ≡ map ann_lent l.fn.anns.items
    ++ flat_map ann_of_stmt (map stmt_lent (take l.statement-index l.stmts))
