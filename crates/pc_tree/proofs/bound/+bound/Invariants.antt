use Rattle.std.proofs.Common.{◌≡◌, map, drop, ◌++◌}
use Rattle.pc_tree.specs.Tree.{stmts_of_list}
use Rattle.pc_tree.specs.Lists.{branches_of_list}
use Rattle.pc_tree.specs.Stopping.{bound_by, bound_by_branches}
use Rattle.pc_tree.specs.Lists.{name_seen}
use Rattle.pc_tree.proofs.bound.+bound.Given as goal

abbrev pub invariant-add_bound-loop-statement : goal.invariant-add_bound-loop-statement
invariant-add_bound-loop-statement l = map name_seen l.names.items
    ++ bound_by (stmts_of_list (drop l.statement-index l.body)) ≡ map name_seen l.fn.names.items
    ++ bound_by (stmts_of_list l.body)

abbrev pub invariant-add_bound_in-loop-branch : goal.invariant-add_bound_in-loop-branch
invariant-add_bound_in-loop-branch l = map name_seen l.names.items ++ bound_by_branches
    (branches_of_list (drop l.branch-index l.branches)) ≡ map name_seen l.fn.names.items ++ bound_by_branches
    (branches_of_list l.branches)
