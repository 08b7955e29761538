use Rattle.std.proofs.Common.{◌≡◌, All, map, take}
use Rattle.pc_tree.specs.Tree.{param_of}
use Rattle.pc_types.specs.Boxed.{tree_of, IsGiven}
use Rattle.pc_class.specs.Facts.{parameters_of}
use Rattle.pc_class.specs.Tables.{HasParameter, parameters_with}
use Rattle.pc_detail_facts.specs.Held.{module_held}
use Rattle.pc_details.proofs.overriding.params_read.Given as goal

abbrev pub invariant-loop-param : goal.invariant-loop-param
invariant-loop-param l = record {
  means : parameters_with tree_of l.read.items
      ≡ parameters_of (module_held l.facts) (map param_of (take l.param-index l.params));
  given : All (HasParameter IsGiven) l.read.items;
}
