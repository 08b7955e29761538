use Rattle.std.proofs.Common.{◌≡◌, ◌++◌, ◌∙◌, sym, ap, List, append_assoc, drop, ◌+◌, refl, subst}
use Rattle.std.proofs.lemmas.Grind.{flat_map-append}
use Rattle.std.specs.Prelude.{OnOk, flat_map}
use Rattle.pc_tree.specs.Tree.{Branches, Stmts, stmt_of, stmts_of_list}
use Rattle.pc_tree.specs.Lists.{branches_of_list}
use Rattle.pc_tree.specs.Suites.{branches_of_stmt, last_suite}
use Rattle.pc_tree.specs.declared.tree.Branch.{Branch as RustBranch, out-Branch}
use Rattle.pc_tree.specs.declared.tree.Stmt.{Stmt as RustStmt}
use Rattle.pc_tree.proofs.Trees.{branch_tree}
use Rattle.pc_detail_facts.specs.Held.{body_of, known_held, module_held}
use Rattle.pc_flow_details.specs.Kept.{first_of_both, flows_to_sinks, flows_kept}
use Rattle.pc_detail_rules.specs.Nodes.{stmts_in, stmts_in_branches, stmts_in_suite}
use Rattle.pc_detail_rules.specs.Sinks.{SinkAt, sinks_of_stmt}
use Rattle.pc_flow_details.proofs.Kept.{by_two, end_of, next_of, on_whole}
use Rattle.pc_flow_details.proofs.OwnFirst.{nested}
use Rattle.pc_flow_details.proofs.sinks.+statements.Goals as goal

pub add_suite-loop-statement-preserved : goal.add_suite-loop-statement-preserved
add_suite-loop-statement-preserved t c =
    let f = c.args.facts.now in
    let sinks = sinks_of_stmt (module_held f) (known_held f) (body_of c.args.body) in
    let s = c.statement-item.result in
    let rest = stmts_in_suite (stmts_of_list (drop (c.loop-statement.statement-index + 1) c.args.suite.now)) in
    next_of f (λ (xs : List RustStmt). flat_map sinks (stmts_in_suite (stmts_of_list xs))) _ _
    c.loop-statement.statement-index s _ _ _ (flat_map-append sinks (stmts_in (stmt_of s)) rest)
    c.loop-statement-test.true c.statement-item.is c.loop-statement.invariant c.in_ok-add_nested.ensures

pub add_suite-returns : goal.add_suite-returns
add_suite-returns t c =
    let f = c.args.facts.now in
    let sinks = sinks_of_stmt (module_held f) (known_held f) (body_of c.args.body) in
    end_of f (λ (xs : List RustStmt). flat_map sinks (stmts_in_suite (stmts_of_list xs))) _
    c.loop-statement.statement-index _ _ refl c.loop-statement-test.false c.loop-statement.invariant

pub add_branches-loop-branch-preserved : goal.add_branches-loop-branch-preserved
add_branches-loop-branch-preserved t c =
    let f = c.args.facts.now in
    let sinks = sinks_of_stmt (module_held f) (known_held f) (body_of c.args.body) in
    let b = c.branch-item.result in
    let rest = branches_of_list (drop (c.loop-branch.branch-index + 1) c.args.branches.now) in
    let own = stmts_in_suite (stmts_of_list (out-Branch b).body.items) in
    next_of f (λ (xs : List RustBranch). flat_map sinks (stmts_in_branches (branches_of_list xs)))
    (flat_map sinks own) _ c.loop-branch.branch-index b _ _ _
    (ap (λ (x : Branches). flat_map sinks (stmts_in_branches x)) (branch_tree b rest)
    ∙ flat_map-append sinks own (stmts_in_branches rest))
    c.loop-branch-test.true c.branch-item.is c.loop-branch.invariant
    (rw c.deref.ensures.value at c.in_ok-add_suite.ensures)

pub add_branches-returns : goal.add_branches-returns
add_branches-returns t c =
    let f = c.args.facts.now in
    let sinks = sinks_of_stmt (module_held f) (known_held f) (body_of c.args.body) in
    end_of f (λ (xs : List RustBranch). flat_map sinks (stmts_in_branches (branches_of_list xs))) _
    c.loop-branch.branch-index _ _ refl c.loop-branch-test.false c.loop-branch.invariant

pub add_nested-returns : goal.add_nested-returns
add_nested-returns t c =
    let f = c.args.facts.now in
    let sinks = sinks_of_stmt (module_held f) (known_held f) (body_of c.args.body) in
    let p = c.args.statement.now.first in
    let s = stmt_of c.args.statement.now in
    let branches = stmts_in_branches (branches_of_stmt s) in
    let last = stmts_in_suite (last_suite s) in
    let old = flows_kept c.add_statement.new.sinks in
    let mid = flows_kept c.add_branches.new.sinks in
    on_whole f _ _ _ _ (sinks s ++ flat_map sinks branches) (flat_map sinks last) (flat_map sinks (stmts_in s))
    (ap (flat_map sinks) (nested s)
    ∙ ap (λ (l : List SinkAt). sinks s ++ l) (flat_map-append sinks branches last)
    ∙ sym (append_assoc (sinks s) (flat_map sinks branches) (flat_map sinks last)))
    (by_two f _ _ _ (sinks s) (flat_map sinks branches) c.in_ok-add_statement.ensures
    (subst (λ (x : Branches). mid ≡ first_of_both old (flows_to_sinks f (flat_map sinks (stmts_in_branches x))))
    (c.suites.ensures.branches p) c.in_ok-add_branches.ensures))
    (subst (λ (x : Stmts). OnOk c.add_suite.result (flows_kept c.add_suite.new.sinks
    ≡ first_of_both mid (flows_to_sinks f (flat_map sinks (stmts_in_suite x))))) (c.suites.ensures.last p)
    c.add_suite.ensures)
