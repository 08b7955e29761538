use Rattle.std.proofs.Common.{◌≡◌, map, take}
use Rattle.pc_detail_facts.specs.Held.{body_of}
use Rattle.pc_detail_nodes.specs.NodesHeld.{stmts_of_all}
use Rattle.pc_detail_facts.specs.Held.{stmt_lent}
use Rattle.pc_detail_nodes.proofs.stmts.all_stmts.Given as goal

abbrev pub invariant-loop-body : goal.invariant-loop-body
invariant-loop-body l = map stmt_lent l.stmts.items ≡ stmts_of_all (map body_of (take l.body-index l.bodies))
