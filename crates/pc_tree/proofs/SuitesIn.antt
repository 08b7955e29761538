-- Facts about a statement, by the name that it binds itself and its suites.
use Rattle.std.proofs.Common.{◌≡◌, ◌++◌, List, refl, ap, ◌∙◌, append_assoc}
use Rattle.pc_tree.specs.Tree.{Stmt, pass, breaks, continues, returns, asserts, annotated, assigns, evaluates}
use Rattle.pc_tree.specs.Tree.{while_loop, for_loop, conditional, to_name, to_attribute, to_index}
use Rattle.pc_tree.specs.Stopping.{bound_by, bound_by_stmt, bound_by_branches}
use Rattle.pc_tree.specs.Suites.{own_names, branches_of_stmt, last_suite}

-- the names that a statement binds: its own, then those of its suites
pub bound_parts : (s : Stmt) → bound_by_stmt s ≡ own_names s ++ (bound_by_branches (branches_of_stmt s)
    ++ bound_by (last_suite s))
bound_parts (pass p) = refl
bound_parts (breaks p) = refl
bound_parts (continues p) = refl
bound_parts (returns p value) = refl
bound_parts (asserts p condition message) = refl
bound_parts (annotated p n a value) = refl
bound_parts (assigns p (to_name n) value) = refl
bound_parts (assigns p (to_attribute q e f) value) = refl
bound_parts (assigns p (to_index q e i) value) = refl
bound_parts (evaluates p value) = refl
bound_parts (while_loop p condition body) = refl
bound_parts (for_loop p target iterable body) = refl
bound_parts (conditional p bs otherwise) = refl

-- the gathered list of a statement: its own part, then its branches', then its last suite's
pub gathered : {X : Type 0} (before own branches last first second : List X) → first ≡ before ++ own
    → second ≡ first ++ branches → second ++ last ≡ before ++ (own ++ (branches ++ last))
gathered before own branches last first second h g = ap (λ xs. xs ++ last) g ∙ append_assoc first branches last
    ∙ ap (λ xs. xs ++ (branches ++ last)) h ∙ append_assoc before own (branches ++ last)
