use Rattle.std.proofs.Common.{◌≡◌, map, take}
use Rattle.pc_detail_facts.specs.Held.{body_of, constant_lent, owned_of}
use Rattle.pc_detail_nodes.specs.NodesHeld.{exprs_of_all}
use Rattle.pc_detail_nodes.proofs.exprs.all_exprs.Given as goal

abbrev pub invariant-loop-body : goal.invariant-loop-body
invariant-loop-body l = map owned_of l.all.items
    ≡ exprs_of_all (map constant_lent l.constants) (map body_of (take l.body-index l.bodies))
