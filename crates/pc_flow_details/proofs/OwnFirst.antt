-- An expression before its parts, and a statement before those in its suites.
use Rattle.std.proofs.Common.{◌≡◌, ◌++◌, ◌∷◌, refl}
use Rattle.std.specs.Prelude.{false}
use Rattle.pc_tree.specs.Tree.{Expr, name, number, text, truth, nothing, tuple, list, dict, negative, negation, binary}
use Rattle.pc_tree.specs.Tree.{compare, is_none, is_not_none, conjunction, disjunction, attribute, index, call}
use Rattle.pc_tree.specs.Tree.{Stmt, pass, breaks, continues, returns, asserts, annotated, assigns, evaluates}
use Rattle.pc_tree.specs.Tree.{while_loop, for_loop, conditional}
use Rattle.pc_tree.specs.Suites.{branches_of_stmt, last_suite}
use Rattle.pc_scope.specs.Expressions.{parts_in}
use Rattle.pc_scope_findings.specs.Internal.SoughtParts.{inner_parts}
use Rattle.pc_detail_rules.specs.Nodes.{stmts_in, stmts_in_branches, stmts_in_suite}

-- the parts of an expression begin with itself
pub own_first : (e : Expr) → parts_in false e ≡ e ∷ inner_parts false e
own_first (name n) = refl
own_first (number p digits) = refl
own_first (text p characters) = refl
own_first (truth p value) = refl
own_first (nothing p) = refl
own_first (tuple p items) = refl
own_first (list p items) = refl
own_first (dict p entries) = refl
own_first (negative p e) = refl
own_first (negation p e) = refl
own_first (binary p operator l r) = refl
own_first (compare p operator l r) = refl
own_first (is_none p e) = refl
own_first (is_not_none p e) = refl
own_first (conjunction p l r) = refl
own_first (disjunction p l r) = refl
own_first (attribute p e field) = refl
own_first (index p e i) = refl
own_first (call p callee arguments keywords) = refl

-- the statements in a statement are itself, and those of its suites
pub nested : (s : Stmt)
    → stmts_in s ≡ s ∷ (stmts_in_branches (branches_of_stmt s) ++ stmts_in_suite (last_suite s))
nested (pass p) = refl
nested (breaks p) = refl
nested (continues p) = refl
nested (returns p e) = refl
nested (asserts p c e) = refl
nested (annotated p n a e) = refl
nested (assigns p t e) = refl
nested (evaluates p e) = refl
nested (while_loop p c b) = refl
nested (for_loop p n e b) = refl
nested (conditional p bs o) = refl
