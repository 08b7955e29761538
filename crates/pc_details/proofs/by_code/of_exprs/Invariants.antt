use Rattle.std.proofs.Common.{◌≡◌, map, drop}
use Rattle.pc_details.specs.ByCode.{expr_rule}
use Rattle.pc_detail_facts.specs.Held.{known_held, module_held, owned_of}
use Rattle.pc_detail_rules.specs.Names.{first_of_all}
use Rattle.pc_details.proofs.by_code.of_exprs.Given as goal

abbrev pub invariant-loop-owned : goal.invariant-loop-owned
invariant-loop-owned l = first_of_all (expr_rule (module_held l.facts) (known_held l.facts) l.is_callee l.code)
    (map owned_of (drop l.owned-index l.exprs))
    ≡ first_of_all (expr_rule (module_held l.facts) (known_held l.facts) l.is_callee l.code) (map owned_of l.exprs)
