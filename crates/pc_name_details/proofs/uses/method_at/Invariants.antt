use Rattle.std.proofs.Common.{◌≡◌, ◌-◌, ◌≤◌, drop, map}
use Rattle.std.specs.Prelude.{slice_get}
use Rattle.pc_tree.specs.Tree.{member_of}
use Rattle.pc_scope.specs.Bindings.{methods_in}
use Rattle.pc_name_details.proofs.uses.method_at.Given as goal

abbrev pub invariant-loop-member : goal.invariant-loop-member
invariant-loop-member l = record {
  count : l.before ≤ l.number;
  left : slice_get (methods_in (map member_of (drop l.member-index l.members))) (l.number - l.before)
      ≡ slice_get (methods_in (map member_of l.members)) l.number;
}
