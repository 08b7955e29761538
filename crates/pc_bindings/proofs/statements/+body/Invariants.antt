use Rattle.std.proofs.Common.{◌≡◌, ◌++◌, map, drop}
use Rattle.pc_tree.specs.Tree.{stmts_of_list}
use Rattle.pc_tree.specs.Lists.{branches_of_list}
use Rattle.pc_bindings.specs.Mentions.{in_stmts, in_branches}
use Rattle.pc_bindings.specs.Written.{scope_of, mention_of}
use Rattle.pc_bindings.proofs.statements.+body.Given as goal

abbrev pub invariant-add_in_body-loop-statement : goal.invariant-add_in_body-loop-statement
invariant-add_in_body-loop-statement l = map mention_of l.mentions.items
    ++ in_stmts (scope_of l.scope) (stmts_of_list (drop l.statement-index l.body)) ≡ map mention_of l.fn.mentions.items
    ++ in_stmts (scope_of l.scope) (stmts_of_list l.body)

abbrev pub invariant-add_in_branches-loop-branch : goal.invariant-add_in_branches-loop-branch
invariant-add_in_branches-loop-branch l = map mention_of l.mentions.items
    ++ in_branches (scope_of l.scope) (branches_of_list (drop l.branch-index l.branches))
    ≡ map mention_of l.fn.mentions.items ++ in_branches (scope_of l.scope) (branches_of_list l.branches)
