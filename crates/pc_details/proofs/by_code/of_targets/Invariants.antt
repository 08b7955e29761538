use Rattle.std.proofs.Common.{◌≡◌, map, drop}
use Rattle.pc_details.specs.ByCode.{target_rule}
use Rattle.pc_detail_facts.specs.Held.{known_held, module_held}
use Rattle.pc_detail_rules.specs.Names.{first_of_all}
use Rattle.pc_detail_nodes.specs.NodesHeld.{target_lent}
use Rattle.pc_details.proofs.by_code.of_targets.Given as goal

abbrev pub invariant-loop-target : goal.invariant-loop-target
invariant-loop-target l = first_of_all (target_rule (module_held l.facts) (known_held l.facts) l.code)
    (map target_lent (drop l.target-index l.target-items))
    ≡ first_of_all (target_rule (module_held l.facts) (known_held l.facts) l.code) (map target_lent l.target-items)
