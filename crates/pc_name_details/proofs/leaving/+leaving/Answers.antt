use Rattle.std.proofs.Common.{◌∙◌, ◌+◌, Some, None, ap, ap₂, arith, drop, sym}
use Rattle.std.proofs.lemmas.List.{drop_all}
use Rattle.std.specs.Option.{option_map}
use Rattle.pc_tree.specs.declared.tree.Branch.{out-Branch}
use Rattle.pc_tree.specs.Lists.{branches_of_list}
use Rattle.pc_tree.specs.Tree.{Branches, Stmts, stmt_of, stmts_of_list}
use Rattle.pc_tree.proofs.Trees.{branches_next, stmts_next}
use Rattle.pc_name_details.specs.Naming.{below_rule, branches_rule, statement_rule, suite_rule}
use Rattle.pc_detail_facts.specs.Held.{stmt_lent}
use Rattle.pc_detail_rules.specs.Overrides.{detail_or}
use Rattle.pc_name_details.proofs.LeavingSteps.{below_parts, no_branches_added, no_suite_added}
use Rattle.pc_name_details.proofs.Offered.{added_as, added_both}
use Rattle.pc_detail_facts.proofs.Results.{on_ok}
use Rattle.pc_name_details.proofs.leaving.+leaving.Goals as goal

pub add_suite-loop-statement-init : goal.add_suite-loop-statement-init
add_suite-loop-statement-init t c = λ last h. h

pub add_suite-loop-statement-preserved : goal.add_suite-loop-statement-preserved
add_suite-loop-statement-preserved t c = λ last h.
    let facts = c.args.facts.now in
    let suite = c.args.suite.now in
    let i = c.loop-statement.statement-index in
    let before = option_map stmt_lent c.loop-statement.before in
    let s = stmt_of c.statement-item.result in
    let rest = stmts_of_list (drop (i + 1) suite) in
    c.loop-statement.invariant last (added_as facts
    (λ f. detail_or (detail_or (statement_rule before s f) (below_rule s f)) (suite_rule (Some s) rest f))
    (suite_rule before (stmts_of_list (drop i suite))) c.loop-statement.offers last
    (λ f. ap (λ (ss : Stmts). suite_rule before ss f)
    (sym (stmts_next suite i c.statement-item.result c.loop-statement-test.true c.statement-item.is)))
    (added_both facts (λ f. detail_or (statement_rule before s f) (below_rule s f)) (suite_rule (Some s) rest)
    c.loop-statement.offers c.add_below.new.offers last
    (added_both facts (statement_rule before s) (below_rule s) c.loop-statement.offers c.add_statement.new.offers
    c.add_below.new.offers c.in_ok-add_statement.ensures c.in_ok-add_below.ensures) h))

pub add_suite-returns : goal.add_suite-returns
add_suite-returns t c = c.loop-statement.invariant c.loop-statement.offers
    (no_suite_added c.args.facts.now _ (drop c.loop-statement.statement-index c.args.suite.now)
    (drop_all c.loop-statement.statement-index c.args.suite.now (omega arith)) c.loop-statement.offers)

pub add_below-returns : goal.add_below-returns
add_below-returns t c =
    let facts = c.args.facts.now in
    let s = stmt_of c.args.statement.now in
    let p = c.args.statement.now.first in
    let branches = branches_of_list c.suites.result.0.now in
    let rest = stmts_of_list c.suites.result.1.now in
    on_ok c.add_suite.result (λ k. added_as facts (λ f. detail_or (branches_rule branches f) (suite_rule None rest f))
    (below_rule s) c.args.offers.now c.add_suite.new.offers
    (λ f. ap₂ (λ (bs : Branches) (ss : Stmts). detail_or (branches_rule bs f) (suite_rule None ss f))
    (c.suites.ensures.branches p) (c.suites.ensures.last p) ∙ below_parts s f)
    (added_both facts (branches_rule branches) (suite_rule None rest) c.args.offers.now c.add_branches.new.offers
    c.add_suite.new.offers c.in_ok-add_branches.ensures k)) c.add_suite.ensures

pub add_branches-loop-branch-init : goal.add_branches-loop-branch-init
add_branches-loop-branch-init t c = λ last h. h

pub add_branches-loop-branch-preserved : goal.add_branches-loop-branch-preserved
add_branches-loop-branch-preserved t c = λ last h.
    let facts = c.args.facts.now in
    let branches = c.args.branches.now in
    let i = c.loop-branch.branch-index in
    let body = stmts_of_list (out-Branch c.branch-item.result).body.items in
    let rest = branches_of_list (drop (i + 1) branches) in
    c.loop-branch.invariant last (added_as facts (λ f. detail_or (suite_rule None body f) (branches_rule rest f))
    (branches_rule (branches_of_list (drop i branches))) c.loop-branch.offers last
    (λ f. ap (λ (bs : Branches). branches_rule bs f)
    (sym (branches_next branches i c.branch-item.result (omega arith) c.branch-item.is)))
    (added_both facts (suite_rule None body) (branches_rule rest) c.loop-branch.offers c.add_suite.new.offers last
    (rw c.deref.ensures.value at c.in_ok-add_suite.ensures) h))

pub add_branches-returns : goal.add_branches-returns
add_branches-returns t c = c.loop-branch.invariant c.loop-branch.offers
    (no_branches_added c.args.facts.now (drop c.loop-branch.branch-index c.args.branches.now)
    (drop_all c.loop-branch.branch-index c.args.branches.now (omega arith)) c.loop-branch.offers)
