use Rattle.std.proofs.Common.{◌≡◌, ◌++◌, map, drop, true}
use Rattle.pc_tree.specs.Tree.{member_of}
use Rattle.pc_scope.specs.Bindings.{methods_in}
use Rattle.pc_scope.specs.Tables.{locals_by}
use Rattle.pc_scope.specs.Internal.WalkViews.{locals_in}
use Rattle.pc_scope.proofs.locals.locals_of_methods.Given as goal

abbrev pub invariant-loop-member : goal.invariant-loop-member
invariant-loop-member l = map locals_in l.all.items ++ map (locals_by true)
    (methods_in (map member_of (drop l.member-index l.members))) ≡ map (locals_by true)
    (methods_in (map member_of l.members))
