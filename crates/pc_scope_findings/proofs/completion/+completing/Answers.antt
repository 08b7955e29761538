use Rattle.std.proofs.Common.{◌∙◌, sym, ap}
use Rattle.pc_tree.proofs.Trees.{if_tree, branches_next}
use Rattle.pc_scope_findings.proofs.Disjunctions.{or_yes, or_no}
use Rattle.pc_scope.specs.Reach.{completes, some_completes}
use Rattle.pc_scope_findings.proofs.Suites.{no_statement}
use Rattle.pc_scope_findings.proofs.completion.+completing.Goals as goal

pub completes-returns-then-is_empty : goal.completes-returns-then-is_empty
completes-returns-then-is_empty t c first =
    rw c.in-If.is (sym (ap completes (if_tree first c.in-If.branches c.in-If.otherwise)
    ∙ or_yes _ _ (no_statement c.in-If.otherwise ∙ sym c.is_empty.ensures ∙ c.if-is_empty.true)))

pub completes-returns-then-some_completes : goal.completes-returns-then-some_completes
completes-returns-then-some_completes t c first = rw c.in-If.is
    (sym (ap completes (if_tree first c.in-If.branches c.in-If.otherwise)
    ∙ or_no _ _ (no_statement c.in-If.otherwise ∙ sym c.is_empty.ensures ∙ c.if-is_empty.false)
    ∙ or_yes _ _ (sym (rw c.deref.ensures.value at c.some_completes.ensures) ∙ c.if-some_completes.true)
    ∙ sym c.if-some_completes.true))

pub completes-returns-else-some_completes : goal.completes-returns-else-some_completes
completes-returns-else-some_completes t c first = rw c.in-If.is
    (sym (ap completes (if_tree first c.in-If.branches c.in-If.otherwise)
    ∙ or_no _ _ (no_statement c.in-If.otherwise ∙ sym c.is_empty.ensures ∙ c.if-is_empty.false)
    ∙ or_no _ _ (sym (rw c.deref.ensures.value at c.some_completes.ensures) ∙ c.if-some_completes.false)
    ∙ sym (rw c.deref-else-some_completes.ensures.value at c.completes_all.ensures)))

pub some_completes-returns-then-completes_all : goal.some_completes-returns-then-completes_all
some_completes-returns-then-completes_all t c = sym (sym c.loop-branch.invariant
    ∙ ap some_completes (branches_next c.args.branches.now c.loop-branch.branch-index c.branch-item.result
    c.loop-branch-test.true c.branch-item.is) ∙ or_yes _ _ (sym (rw c.deref.ensures.value at c.completes_all.ensures)
    ∙ c.if-completes_all.true))

pub some_completes-loop-branch-preserved : goal.some_completes-loop-branch-preserved
some_completes-loop-branch-preserved t c =
    sym (ap some_completes (branches_next c.args.branches.now c.loop-branch.branch-index c.branch-item.result
    c.loop-branch-test.true c.branch-item.is) ∙ or_no _ _ (sym (rw c.deref.ensures.value at c.completes_all.ensures)
    ∙ c.if-completes_all.false)) ∙ c.loop-branch.invariant
