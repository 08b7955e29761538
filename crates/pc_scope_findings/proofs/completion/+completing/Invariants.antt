use Rattle.std.proofs.Common.{◌≡◌, drop}
use Rattle.pc_tree.specs.Tree.{stmts_of_list}
use Rattle.pc_tree.specs.Lists.{branches_of_list}
use Rattle.pc_scope.specs.Reach.{completes_all, some_completes}
use Rattle.pc_scope_findings.proofs.completion.+completing.Given as goal

abbrev pub invariant-completes_all-loop-statement : goal.invariant-completes_all-loop-statement
invariant-completes_all-loop-statement l = completes_all (stmts_of_list (drop l.statement-index l.body)) ≡ completes_all
    (stmts_of_list l.body)

abbrev pub invariant-some_completes-loop-branch : goal.invariant-some_completes-loop-branch
invariant-some_completes-loop-branch l = some_completes (branches_of_list (drop l.branch-index l.branches))
    ≡ some_completes (branches_of_list l.branches)
