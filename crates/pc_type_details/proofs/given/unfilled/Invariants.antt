use Rattle.std.proofs.Common.{◌≡◌, ◌++◌, drop, map, take}
use Rattle.pc_rules.specs.Calls.{parameter_names}
use Rattle.pc_calls.specs.JudgedCalls.{names_in}
use Rattle.pc_detail_facts.specs.Callees.{parameters_called}
use Rattle.pc_detail_rules.specs.Calls.{unfilled}
use Rattle.pc_type_details.proofs.given.unfilled.Given as goal

abbrev pub invariant-loop-position : goal.invariant-loop-position
invariant-loop-position l =
    map (λ w. w.now) l.names.items ++ unfilled (names_in l.given.named)
    (parameter_names (take l.position (parameters_called l.facts l.called)))
    (drop l.position (parameters_called l.facts l.called))
    ≡ unfilled (names_in l.given.named)
    (parameter_names (take l.given.positional (parameters_called l.facts l.called)))
    (drop l.given.positional (parameters_called l.facts l.called))
