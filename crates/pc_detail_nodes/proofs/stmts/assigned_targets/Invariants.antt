use Rattle.std.proofs.Common.{◌≡◌, map, take}
use Rattle.std.specs.Prelude.{flat_map}
use Rattle.pc_detail_rules.specs.Nodes.{targets_of}
use Rattle.pc_detail_nodes.specs.NodesHeld.{target_lent}
use Rattle.pc_detail_facts.specs.Held.{stmt_lent}
use Rattle.pc_detail_nodes.proofs.stmts.assigned_targets.Given as goal

abbrev pub invariant-loop-statement : goal.invariant-loop-statement
invariant-loop-statement l = map target_lent l.targets.items
    ≡ flat_map targets_of (map stmt_lent (take l.statement-index l.stmts))
