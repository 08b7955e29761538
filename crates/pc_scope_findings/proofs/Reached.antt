-- The statements of a suite after one that can complete, or that cannot.
use Rattle.std.proofs.Common.{◌≡◌, ◌++◌, Bool, List, refl}
use Rattle.std.specs.Prelude.{if◌then◌else◌}
use Rattle.pc_source.specs.declared.place.Place.{Place}
use Rattle.pc_tree.specs.declared.tree.StmtKind.{StmtKind}
use Rattle.pc_tree.specs.declared.tree.StmtKind.TheVariants as rust_stmt
use Rattle.pc_tree.specs.Suites.{branches_of_stmt, last_suite}
use Rattle.pc_tree.specs.Tree.{Stmt, Stmts, stmt_of_kind, pass, breaks, continues, returns, asserts, annotated, assigns}
use Rattle.pc_tree.specs.Tree.{evaluates, while_loop, for_loop, conditional}
use Rattle.pc_scope_findings.specs.Unreached.{first_token_place, first_places, unreached_places, unreached_in}
use Rattle.pc_scope_findings.specs.Unreached.{unreached_in_branches}

-- the unreachable places among the statements after one, given whether it can complete
abbrev pub behind : Bool → Stmts → List Place
behind reached rest = if reached then unreached_places rest else first_places rest

-- a statement's first token is at the place that stands beside its kind
pub first_is : (p : Place) (k : StmtKind) → first_token_place (stmt_of_kind p k) ≡ p
first_is p rust_stmt.Pass = refl
first_is p rust_stmt.Break = refl
first_is p rust_stmt.Continue = refl
first_is p (rust_stmt.Return value) = refl
first_is p (rust_stmt.Assert condition message) = refl
first_is p (rust_stmt.Annotated target annotation value) = refl
first_is p (rust_stmt.Assign target value) = refl
first_is p (rust_stmt.Expr value) = refl
first_is p (rust_stmt.While' condition shape body) = refl
first_is p (rust_stmt.For' target iterable shape body) = refl
first_is p (rust_stmt.If' shape branches shape' otherwise) = refl

-- the unreachable places in a statement are those in its branches, and then those in its last suite
pub unreached_parts : (s : Stmt) → unreached_in s ≡ unreached_in_branches (branches_of_stmt s)
    ++ unreached_places (last_suite s)
unreached_parts (pass p) = refl
unreached_parts (breaks p) = refl
unreached_parts (continues p) = refl
unreached_parts (returns p value) = refl
unreached_parts (asserts p condition message) = refl
unreached_parts (annotated p n annotation value) = refl
unreached_parts (assigns p target value) = refl
unreached_parts (evaluates p value) = refl
unreached_parts (while_loop p condition body) = refl
unreached_parts (for_loop p n iterable body) = refl
unreached_parts (conditional p bs otherwise) = refl
