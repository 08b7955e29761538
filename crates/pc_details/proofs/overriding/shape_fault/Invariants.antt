use Rattle.std.proofs.Common.{◌≡◌, ◌+◌, drop}
use Rattle.pc_types.specs.Boxed.{tree_of}
use Rattle.pc_class.specs.Tables.{parameters_with}
use Rattle.pc_detail_rules.specs.Overrides.{shape_fault}
use Rattle.pc_details.proofs.overriding.shape_fault.Given as goal

abbrev pub invariant-loop-position : goal.invariant-loop-position
invariant-loop-position l =
    shape_fault (l.position + 1) (parameters_with tree_of (drop l.position l.above))
    (parameters_with tree_of (drop l.position l.here))
    ≡ shape_fault 1 (parameters_with tree_of l.above) (parameters_with tree_of l.here)
