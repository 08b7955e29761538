use Rattle.pc_flow.specs.Naming.{meanings}
use Rattle.std.proofs.Common.{◌≡◌, drop, ◌++◌}
use Rattle.pc_tree.specs.Tree.{stmts_of_list}
use Rattle.pc_tree.specs.Lists.{branches_of_list}
use Rattle.pc_walk.specs.Touched.{tested_in, tested_in_branches}
use Rattle.pc_walk.proofs.touched.+tested.Given as goal

abbrev pub invariant-add_tested_in-loop-statement : goal.invariant-add_tested_in-loop-statement
invariant-add_tested_in-loop-statement l = l.tested.items ++ tested_in (meanings l.names)
    (stmts_of_list (drop l.statement-index l.body)) ≡ l.fn.tested.items ++ tested_in (meanings l.names)
    (stmts_of_list l.body)

abbrev pub invariant-add_tested_in_branches-loop-branch : goal.invariant-add_tested_in_branches-loop-branch
invariant-add_tested_in_branches-loop-branch l = l.tested.items ++ tested_in_branches (meanings l.names)
    (branches_of_list (drop l.branch-index l.branches)) ≡ l.fn.tested.items ++ tested_in_branches (meanings l.names)
    (branches_of_list l.branches)
