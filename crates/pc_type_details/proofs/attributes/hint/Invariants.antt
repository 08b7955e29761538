use Rattle.std.proofs.Common.{◌≡◌, drop}
use Rattle.pc_detail_facts.specs.Held.{module_held, trees_lent}
use Rattle.pc_detail_rules.specs.Operations.{hint_of}
use Rattle.pc_type_details.proofs.attributes.hint.Given as goal

abbrev pub invariant-loop-member : goal.invariant-loop-member
invariant-loop-member l = hint_of (module_held l.facts) l.name (trees_lent (drop l.member-index l.lacking))
    ≡ hint_of (module_held l.facts) l.name (trees_lent l.lacking)
