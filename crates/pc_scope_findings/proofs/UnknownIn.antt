-- The names that mean nothing in the expressions of statements, one list of expressions after another.
use Rattle.std.proofs.Common.{◌≡◌, ◌<◌, ℕ, ◌+◌, List, [], ◌∷◌, ◌++◌, length, get_or, drop, ap, ◌∙◌, sym, append_assoc}
use Rattle.std.proofs.Common.{Bool, true}
use Rattle.std.specs.Prelude.{if◌then◌else◌}
use Rattle.pc_tree.specs.declared.code.Code.TheVariants.{E02}
use Rattle.pc_tree.specs.declared.code.Finding.{Finding}
use Rattle.pc_tree.specs.declared.tree.Stmt.{Stmt as RustStmt}
use Rattle.pc_tree.specs.declared.tree.Branch.{Branch as RustBranch, out-Branch}
use Rattle.pc_tree.specs.Tree.{Expr, Stmts, Branches, expr_of, stmt_of, stmts_of_list}
use Rattle.pc_tree.specs.Lists.{branches_of_list}
use Rattle.pc_tree.proofs.Trees.{stmts_next, branches_next}
use Rattle.pc_scope.specs.declared.resolution.NameMeaning.{NameMeaning}
use Rattle.pc_scope.specs.Expressions.{parts_in, exprs_in, exprs_in_all, exprs_in_branches}
use Rattle.pc_scope.specs.Reach.{completes}
use Rattle.pc_tree.specs.Code.{at_code}
use Rattle.pc_scope_findings.specs.Internal.FindingLists.{unknown_among, unknown_in}
use Rattle.pc_tree.proofs.Finds.{at_both}
use Rattle.pc_scope_findings.proofs.Seeking.{unknown_both}

module _ (r : List ℕ → NameMeaning) where
  abbrev here : List Expr → List Finding
  here es = at_code E02 (unknown_in r es)

  found_both : (a b : List Expr) → here (a ++ b) ≡ here a ++ here b
  found_both a b = ap (at_code E02) (unknown_both r a b) ∙ at_both E02 (unknown_in r a) (unknown_in r b)

  module _ (old mid : List Finding) where
    pub then_exprs : (a b : List Expr) → mid ≡ old ++ here a → mid ++ here b ≡ old ++ here (a ++ b)
    then_exprs a b h = ap (λ (fs : List Finding). fs ++ here b) h ∙ append_assoc old (here a) (here b)
        ∙ ap (λ (fs : List Finding). old ++ fs) (sym (found_both a b))

    pub then_in : (e : Expr) (b : List Expr) → mid ≡ old ++ at_code E02 (unknown_among r (parts_in true e))
        → mid ++ here b ≡ old ++ here (e ∷ b)
    then_in e b h = ap (λ (fs : List Finding). fs ++ here b) h ∙ append_assoc old
        (at_code E02 (unknown_among r (parts_in true e))) (here b)
        ∙ ap (λ (fs : List Finding). old ++ fs) (sym (at_both E02 (unknown_among r (parts_in true e)) (unknown_in r b)))

  module _ (front all mid : List Finding) where
    -- one more statement that can complete
    pub stmt_more : (body : List RustStmt) (i : ℕ) (s : RustStmt) → i < length body → s ≡ get_or body i s
        → completes (stmt_of s) ≡ true → front ++ here (exprs_in_all true (stmts_of_list (drop i body))) ≡ all
        → mid ≡ front ++ here (exprs_in true (stmt_of s)) → mid ++ here
        (exprs_in_all true (stmts_of_list (drop (i + 1) body))) ≡ all
    stmt_more body i s lt is done inv h =
        let rest = exprs_in_all true (stmts_of_list (drop (i + 1) body)) in
        then_exprs front mid (exprs_in true (stmt_of s)) rest h
        ∙ ap (λ (es : List Expr). front ++ here es)
        (sym (ap (λ (ss : Stmts). exprs_in_all true ss) (stmts_next body i s lt is)
        ∙ ap (λ (b : Bool). exprs_in true (stmt_of s) ++ (if b then rest else [])) done))
        ∙ inv

    -- one more condition with its suite
    pub branch_more : (new : List Finding) (bs : List RustBranch) (i : ℕ) (b : RustBranch) → i < length bs
        → b ≡ get_or bs i b → front ++ here (exprs_in_branches true (branches_of_list (drop i bs))) ≡ all
        → mid ≡ front ++ at_code E02 (unknown_among r (parts_in true (expr_of (out-Branch b).condition)))
        → new ≡ mid ++ here (exprs_in_all true (stmts_of_list (out-Branch b).body.items))
        → new ++ here (exprs_in_branches true (branches_of_list (drop (i + 1) bs))) ≡ all
    branch_more new bs i b lt is inv h k =
        let suite = exprs_in_all true (stmts_of_list (out-Branch b).body.items) in
        let rest = exprs_in_branches true (branches_of_list (drop (i + 1) bs)) in
        then_exprs mid new suite rest k
        ∙ then_in front mid (expr_of (out-Branch b).condition) (suite ++ rest) h
        ∙ ap (λ (x : Branches). front ++ here (exprs_in_branches true x)) (sym (branches_next bs i b lt is))
        ∙ inv
