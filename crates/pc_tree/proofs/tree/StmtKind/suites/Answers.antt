use Rattle.std.proofs.Common.{sym, ap}
use Rattle.pc_tree.specs.Suites.{branches_of_stmt, last_suite}
use Rattle.pc_tree.proofs.Trees.{while_tree, for_tree, if_tree}
use Rattle.pc_tree.proofs.tree.StmtKind.suites.Goals as goal

pub returns-in-While-clause-last : goal.returns-in-While-clause-last
returns-in-While-clause-last c p = rw c.in-While.is (rw c.deref.ensures.value
    (sym (ap last_suite (while_tree p c.in-While.field-0 c.in-While.body))))

pub returns-in-For-clause-last : goal.returns-in-For-clause-last
returns-in-For-clause-last c p = rw c.in-For.is (rw c.deref-in-For.ensures.value
    (sym (ap last_suite (for_tree p c.in-For.target c.in-For.iterable c.in-For.body))))

pub returns-in-If-clause-branches : goal.returns-in-If-clause-branches
returns-in-If-clause-branches c p = rw c.in-If.is (rw c.deref-in-If.ensures.value
    (sym (ap branches_of_stmt (if_tree p c.in-If.branches c.in-If.otherwise))))

pub returns-in-If-clause-last : goal.returns-in-If-clause-last
returns-in-If-clause-last c p = rw c.in-If.is (rw c.deref-in-If-2.ensures.value
    (sym (ap last_suite (if_tree p c.in-If.branches c.in-If.otherwise))))
