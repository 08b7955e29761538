use Rattle.std.proofs.Common.{◌≡◌, ◌++◌, map, drop}
use Rattle.pc_scope.specs.Bindings.{function_bodies, class_bodies}
use Rattle.pc_detail_facts.specs.Held.{body_of, function_lent, class_lent}
use Rattle.pc_detail_facts.proofs.definitions.Definitions.bodies.Given as goal

abbrev pub invariant-loop-function : goal.invariant-loop-function
invariant-loop-function l = record {
  bodies : map body_of l.bodies.items
      ++ function_bodies l.number (map function_lent (drop l.function-index l.function-items))
      ≡ function_bodies 0 (map function_lent l.function-items);
  count : l.number ≡ l.function-index;
}

abbrev pub invariant-loop-def : goal.invariant-loop-def
invariant-loop-def l = record {
  bodies : map body_of l.bodies.items ++ class_bodies l.class (map class_lent (drop l.def-index l.def-items))
      ≡ function_bodies 0 (map function_lent l.self.functions.items) ++ class_bodies 0 (map class_lent l.def-items);
  count : l.class ≡ l.def-index;
}
