use Rattle.std.proofs.Common.{◌≡◌, map, take}
use Rattle.pc_detail_facts.specs.Held.{constant_lent}
use Rattle.pc_detail_nodes.specs.NodesHeld.{expr_lent}
use Rattle.pc_detail_nodes.proofs.exprs.initializers.Given as goal

abbrev pub invariant-loop-constant : goal.invariant-loop-constant
invariant-loop-constant l = map expr_lent l.values.items
    ≡ map (λ c. c.value) (map constant_lent (take l.constant-index l.constants))
