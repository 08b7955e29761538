-- The details of statements, one suite after another.
use Rattle.std.proofs.Common.{◌≡◌, List, [], ◌∷◌, Option, None, refl}
use Rattle.pc_tree.specs.declared.tree.Branch.{Branch as RustBranch}
use Rattle.pc_tree.specs.declared.tree.Stmt.{Stmt as RustStmt}
use Rattle.pc_tree.specs.declared.code.Finding.{Finding}
use Rattle.pc_tree.specs.Lists.{branches_of_list}
use Rattle.pc_tree.specs.Suites.{branches_of_stmt, last_suite}
use Rattle.pc_tree.specs.Tree.{Stmt, pass, breaks, continues, returns, asserts, annotated, assigns, evaluates, while_loop}
use Rattle.pc_tree.specs.Tree.{for_loop, conditional, stmts_of_list}
use Rattle.pc_detail_facts.specs.declared.facts.Facts.{Facts}
use Rattle.pc_name_details.specs.declared.offers.Offers.{Offers}
use Rattle.pc_name_details.specs.Naming.{below_rule, branches_rule, suite_rule}
use Rattle.pc_name_details.specs.Offered.{AddsDetails}
use Rattle.pc_detail_rules.specs.Overrides.{detail_or}
use Rattle.pc_name_details.proofs.Offered.{none_added}

-- the suites of a statement are its branches and its last suite
pub below_parts : (s : Stmt) (f : Finding)
    → detail_or (branches_rule (branches_of_stmt s) f) (suite_rule None (last_suite s) f) ≡ below_rule s f
below_parts (pass p) f = refl
below_parts (breaks p) f = refl
below_parts (continues p) f = refl
below_parts (returns p e) f = refl
below_parts (asserts p e m) f = refl
below_parts (annotated p n a e) f = refl
below_parts (assigns p t e) f = refl
below_parts (evaluates p e) f = refl
below_parts (while_loop p e b) f = refl
below_parts (for_loop p n e b) f = refl
below_parts (conditional p bs o) f = refl

-- a suite without statements adds nothing
pub no_suite_added : (facts : Facts) (before : Option Stmt) (left : List RustStmt) → left ≡ [] → (o : Offers)
    → AddsDetails facts (suite_rule before (stmts_of_list left)) o o
no_suite_added facts before [] e o = none_added facts (suite_rule before (stmts_of_list [])) o (λ f. refl)
no_suite_added facts before (s ∷ rest) e o = let never : ⊥ = cc in absurd never

-- no branches add nothing
pub no_branches_added : (facts : Facts) (left : List RustBranch) → left ≡ [] → (o : Offers)
    → AddsDetails facts (branches_rule (branches_of_list left)) o o
no_branches_added facts [] e o = none_added facts (branches_rule (branches_of_list [])) o (λ f. refl)
no_branches_added facts (b ∷ rest) e o = let never : ⊥ = cc in absurd never
