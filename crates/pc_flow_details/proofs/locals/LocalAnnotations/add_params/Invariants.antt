use Rattle.std.proofs.Common.{◌++◌, List, drop, map}
use Rattle.std.specs.Prelude.{flat_map}
use Rattle.pc_tree.specs.Tree.{param_of}
use Rattle.pc_flow_details.specs.Locals.{AreLocals}
use Rattle.pc_detail_rules.specs.Written.{Annotated, annotated_param}
use Rattle.pc_flow_details.proofs.LocalsHeld.{AreLeft}
use Rattle.pc_flow_details.proofs.locals.LocalAnnotations.add_params.Given as goal

abbrev pub invariant-loop-param : goal.invariant-loop-param
invariant-loop-param l = (before : List Annotated) → AreLocals l.fn.self before
    → AreLeft l.self (flat_map annotated_param (map param_of (drop l.param-index l.params)))
    (before ++ flat_map annotated_param (map param_of l.params))
