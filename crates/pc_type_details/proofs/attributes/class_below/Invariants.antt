use Rattle.std.proofs.Common.{◌≡◌, drop}
use Rattle.pc_scope.specs.Bindings.{classes_in}
use Rattle.pc_detail_facts.specs.Held.{module_held}
use Rattle.pc_detail_rules.specs.Operations.{class_below, numbers_from}
use Rattle.pc_type_details.proofs.attributes.class_below.Given as goal

abbrev pub invariant-loop-class : goal.invariant-loop-class
invariant-loop-class l =
    class_below (module_held l.facts) l.name l.above (numbers_from l.class (drop l.class (classes_in (module_held l.facts).items)))
    ≡ class_below (module_held l.facts) l.name l.above (numbers_from 0 (classes_in (module_held l.facts).items))
