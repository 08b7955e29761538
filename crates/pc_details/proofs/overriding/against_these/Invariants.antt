use Rattle.std.proofs.Common.{◌≡◌, drop, map}
use Rattle.pc_types.specs.Boxed.{tree_of}
use Rattle.pc_class.specs.Tables.{method_with}
use Rattle.pc_detail_facts.specs.Held.{module_held}
use Rattle.pc_details.specs.OverridesHeld.{first_over}
use Rattle.pc_details.proofs.overriding.against_these.Given as goal

abbrev pub invariant-loop-method : goal.invariant-loop-method
invariant-loop-method l =
    first_over (module_held l.facts) l.code (method_with tree_of l.here) (map (method_with tree_of) (drop l.method-index l.above))
    ≡ first_over (module_held l.facts) l.code (method_with tree_of l.here) (map (method_with tree_of) l.above)
