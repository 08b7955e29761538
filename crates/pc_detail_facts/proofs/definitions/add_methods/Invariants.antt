use Rattle.std.proofs.Common.{◌≡◌, ◌≤◌, ◌++◌, map, drop}
use Rattle.pc_tree.specs.Tree.{member_of}
use Rattle.pc_scope.specs.Bindings.{method_bodies, methods_in}
use Rattle.pc_detail_facts.specs.Held.{body_of}
use Rattle.pc_detail_facts.proofs.definitions.add_methods.Given as goal

abbrev pub invariant-loop-member : goal.invariant-loop-member
invariant-loop-member l = record {
  bodies : map body_of l.bodies.items
      ++ method_bodies l.class l.number (methods_in (map member_of (drop l.member-index l.member-items)))
      ≡ map body_of l.initial.bodies.items ++ method_bodies l.class 0 (methods_in (map member_of l.member-items));
  count : l.number ≤ l.member-index;
}
