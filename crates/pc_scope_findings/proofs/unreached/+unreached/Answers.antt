use Rattle.std.proofs.Common.{◌≡◌, ◌++◌, ◌∷◌, [], ap, ◌∙◌, sym, subst, drop, List, ◌+◌, Bool}
use Rattle.std.specs.Prelude.{OnOk}
use Rattle.pc_source.specs.declared.place.Place.{Place}
use Rattle.pc_tree.specs.declared.code.Code.TheVariants.{E30}
use Rattle.pc_tree.specs.declared.code.Finding.{Finding}
use Rattle.pc_tree.specs.declared.tree.Branch.{out-Branch}
use Rattle.pc_tree.specs.Tree.{stmts_of_list, stmt_of, stmt_of_kind, Stmts, Branches}
use Rattle.pc_tree.specs.Lists.{branches_of_list}
use Rattle.pc_tree.specs.Suites.{branches_of_stmt, last_suite}
use Rattle.pc_tree.proofs.Trees.{branches_next, stmts_next}
use Rattle.pc_tree.specs.Code.{at_code}
use Rattle.pc_scope.specs.Reach.{completes}
use Rattle.pc_scope_findings.specs.Unreached.{first_places, unreached_places, unreached_in, unreached_in_branches}
use Rattle.pc_tree.proofs.Joints.{joined}
use Rattle.pc_scope_findings.proofs.Reached.{behind, first_is, unreached_parts}
use Rattle.pc_scope_findings.proofs.unreached.+unreached.Goals as goal

pub find_unreached-loop-statement-preserved : goal.find_unreached-loop-statement-preserved
find_unreached-loop-statement-preserved t c =
    let s = c.statement-item.result in
    let i = c.loop-statement.statement-index in
    let rest = stmts_of_list (drop (i + 1) c.args.body.now) in
    let front = c.loop-statement.found.items in
    ap (λ (r : Bool). c.find_unreached_in.new.found.items ++ at_code E30 (behind r rest))
    (c.completes-reached.ensures s.first)
    ∙ ap (λ (fs : List Finding). fs ++ at_code E30 (behind (completes (stmt_of s)) rest))
    (c.in_ok-find_unreached_in.ensures s.first)
    ∙ joined E30 front (unreached_in (stmt_of s)) (behind (completes (stmt_of s)) rest)
    ∙ ap (λ (b : Stmts). front ++ at_code E30 (unreached_places b))
    (sym (stmts_next c.args.body.now i s c.loop-statement-test.true c.statement-item.is))
    ∙ ap (λ (r : Bool). front ++ at_code E30 (behind r (stmts_of_list (drop i c.args.body.now))))
    (sym c.if-not-reached.false)
    ∙ c.loop-statement.invariant

pub find_unreached-returns-then-not-reached : goal.find_unreached-returns-then-not-reached
find_unreached-returns-then-not-reached t c =
    let s = c.statement-item.result in
    let i = c.loop-statement.statement-index in
    let front = c.loop-statement.found.items in
    let e = ap (λ (p : Place). front ++ at_code E30 (p ∷ [])) (sym (first_is s.first s.kind))
    ∙ ap (λ (b : Stmts). front ++ at_code E30 (first_places b))
    (sym (stmts_next c.args.body.now i s c.loop-statement-test.true c.statement-item.is))
    ∙ ap (λ (r : Bool). front ++ at_code E30 (behind r (stmts_of_list (drop i c.args.body.now))))
    (sym c.if-not-reached.true)
    ∙ c.loop-statement.invariant in
    subst (λ (fs : List Finding). OnOk c.find.result (c.find.new.found.items ≡ fs)) e c.find.ensures

pub find_unreached_in-returns : goal.find_unreached_in-returns
find_unreached_in-returns t c p =
    let s = stmt_of_kind p c.args.kind.now in
    let front = c.args.found.now.items in
    let second = c.find_unreached_among.new.found.items in
    let e = ap (λ (b : Stmts). second ++ at_code E30 (unreached_places b)) (c.suites.ensures.last p)
    ∙ ap (λ (fs : List Finding). fs ++ at_code E30 (unreached_places (last_suite s)))
    (c.in_ok-find_unreached_among.ensures
    ∙ ap (λ (b : Branches). front ++ at_code E30 (unreached_in_branches b)) (c.suites.ensures.branches p))
    ∙ joined E30 front (unreached_in_branches (branches_of_stmt s)) (unreached_places (last_suite s))
    ∙ ap (λ (ps : List Place). front ++ at_code E30 ps) (sym (unreached_parts s)) in
    subst (λ (fs : List Finding). OnOk c.find_unreached.result (c.find_unreached.new.found.items ≡ fs)) e
    c.find_unreached.ensures

pub find_unreached_among-loop-branch-preserved : goal.find_unreached_among-loop-branch-preserved
find_unreached_among-loop-branch-preserved t c =
    let body = unreached_places (stmts_of_list (out-Branch c.branch-item.result).body.items) in
    let rest = unreached_in_branches (branches_of_list (drop (c.loop-branch.branch-index + 1) c.args.branches.now)) in
    let front = c.loop-branch.found.items in
    ap (λ (fs : List Finding). fs ++ at_code E30 rest) (rw c.deref.ensures.value at c.in_ok-find_unreached.ensures)
    ∙ joined E30 front body rest ∙ ap (λ (b : Branches). front ++ at_code E30 (unreached_in_branches b))
    (sym (branches_next c.args.branches.now c.loop-branch.branch-index c.branch-item.result c.loop-branch-test.true
    c.branch-item.is)) ∙ c.loop-branch.invariant
