use Rattle.std.proofs.Common.{◌≡◌}
use Rattle.pc_types.specs.Boxed.{tree_of}
use Rattle.pc_class.specs.Facts.{base_facts, classes_of}
use Rattle.pc_class.specs.Tables.{method_with}
use Rattle.pc_detail_facts.specs.Held.{module_held}
use Rattle.pc_details.specs.OverridesHeld.{first_over}
use Rattle.pc_details.proofs.OverrideChain.{classes_left}
use Rattle.pc_details.proofs.overriding.against_each.Given as goal

abbrev pub invariant-up : goal.invariant-up
invariant-up l =
    first_over (module_held l.facts) l.code (method_with tree_of l.here)
    (base_facts (classes_of (module_held l.facts)) l.next).methods
    ≡ first_over (module_held l.facts) l.code (method_with tree_of l.here)
    (base_facts (classes_of (module_held l.facts)) l.fn.class).methods

abbrev pub decreases-up : goal.decreases-up
decreases-up l = classes_left l.next
