use Rattle.std.proofs.Common.{◌≡◌, map, take}
use Rattle.pc_tree.specs.Tree.{item_of}
use Rattle.pc_scope.specs.Bindings.{constants_in, functions_in, classes_in}
use Rattle.pc_detail_facts.specs.Held.{constant_lent, function_lent, class_lent}
use Rattle.pc_detail_facts.proofs.definitions.Definitions.of.Given as goal

abbrev pub invariant-loop-item : goal.invariant-loop-item
invariant-loop-item l = record {
  constants : map constant_lent l.definitions.constants.items
      ≡ constants_in (map item_of (take l.item-index l.item-items));
  functions : map function_lent l.definitions.functions.items
      ≡ functions_in (map item_of (take l.item-index l.item-items));
  classes : map class_lent l.definitions.classes.items ≡ classes_in (map item_of (take l.item-index l.item-items));
}
