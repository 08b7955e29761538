use Rattle.std.proofs.Common.{◌≡◌, ◌++◌, map, drop}
use Rattle.pc_tree.specs.Tree.{member_of}
use Rattle.pc_scope.specs.Bindings.{methods_in}
use Rattle.pc_detail_facts.specs.Held.{function_lent}
use Rattle.pc_detail_facts.proofs.annotations.methods_of.Given as goal

abbrev pub invariant-loop-member : goal.invariant-loop-member
invariant-loop-member l = map function_lent l.methods.items
    ++ methods_in (map member_of (drop l.member-index l.member-items)) ≡ methods_in (map member_of l.member-items)
