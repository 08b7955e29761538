use Rattle.std.proofs.Common.{◌≡◌, drop}
use Rattle.pc_types.specs.Boxed.{tree_of}
use Rattle.pc_annotations.specs.Bases.{bases_of}
use Rattle.pc_class.specs.Tables.{parameters_with}
use Rattle.pc_detail_facts.specs.Held.{module_held}
use Rattle.pc_detail_rules.specs.Overrides.{fits_for, parameter_fault}
use Rattle.pc_details.proofs.overriding.parameter_fault.Given as goal

abbrev pub invariant-loop-position : goal.invariant-loop-position
invariant-loop-position l =
    parameter_fault (fits_for (bases_of (module_held l.facts)) l.code) (parameters_with tree_of (drop l.position l.above))
    (parameters_with tree_of (drop l.position l.here))
    ≡ parameter_fault (fits_for (bases_of (module_held l.facts)) l.code) (parameters_with tree_of l.above)
    (parameters_with tree_of l.here)
