use Rattle.std.proofs.Common.{◌≡◌, map, drop}
use Rattle.pc_details.specs.ByCode.{ann_rule}
use Rattle.pc_detail_facts.specs.Held.{module_held}
use Rattle.pc_detail_rules.specs.Names.{first_of_all}
use Rattle.pc_detail_nodes.specs.NodesHeld.{ann_lent}
use Rattle.pc_details.proofs.by_code.of_anns.Given as goal

abbrev pub invariant-loop-ann : goal.invariant-loop-ann
invariant-loop-ann l = first_of_all (ann_rule (module_held l.facts) l.code) (map ann_lent (drop l.ann-index l.ann-items))
    ≡ first_of_all (ann_rule (module_held l.facts) l.code) (map ann_lent l.ann-items)
