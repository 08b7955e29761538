use Rattle.std.proofs.Common.{◌≡◌, drop, ◌++◌, true}
use Rattle.pc_tree.specs.declared.code.Code.TheVariants.{E02}
use Rattle.pc_tree.specs.Tree.{stmts_of_list}
use Rattle.pc_tree.specs.Lists.{branches_of_list}
use Rattle.pc_scope.specs.Expressions.{exprs_in_all, exprs_in_branches}
use Rattle.pc_tree.specs.Code.{at_code}
use Rattle.pc_scope_findings.specs.Internal.FindingLists.{unknown_in}
use Rattle.pc_scope.specs.Tables.{meaning_by_tables}
use Rattle.pc_scope_findings.proofs.unknown.+unknown_in_body.Given as goal

abbrev pub invariant-find_unknown_in_body-loop-statement : goal.invariant-find_unknown_in_body-loop-statement
invariant-find_unknown_in_body-loop-statement l = l.found.items ++ at_code E02
    (unknown_in (meaning_by_tables l.scopes.tables l.owner) (exprs_in_all true
    (stmts_of_list (drop l.statement-index l.body)))) ≡ l.fn.found.items ++ at_code E02
    (unknown_in (meaning_by_tables l.scopes.tables l.owner) (exprs_in_all true (stmts_of_list l.body)))

abbrev pub invariant-find_unknown_in_branches-loop-branch : goal.invariant-find_unknown_in_branches-loop-branch
invariant-find_unknown_in_branches-loop-branch l = l.found.items ++ at_code E02
    (unknown_in (meaning_by_tables l.scopes.tables l.owner) (exprs_in_branches true
    (branches_of_list (drop l.branch-index l.branches)))) ≡ l.fn.found.items ++ at_code E02
    (unknown_in (meaning_by_tables l.scopes.tables l.owner) (exprs_in_branches true (branches_of_list l.branches)))
