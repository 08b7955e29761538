-- The types under the labels of statements, one after another. Own rule of the profile.
use Rattle.std.specs.Prelude.{List, [], ◌++◌, Bool as Test, false, if◌then◌else◌, Option, Some, None, codes}
use Rattle.pc_tree.specs.Tree.{Expr, call, Target, to_name, to_attribute, to_index, Stmt, Stmts, Branches, pass}
use Rattle.pc_tree.specs.Tree.{breaks, continues, returns, asserts, annotated, assigns, evaluates, while_loop, for_loop}
use Rattle.pc_tree.specs.Tree.{conditional, no_stmts, more_stmts, no_branches, more_branches}
use Rattle.pc_scope.specs.Expressions.{is_named}
use Rattle.pc_scope.specs.Reach.{completes}
use Rattle.pc_rules.specs.Labels.{Labels}
use Rattle.pc_module_rules.specs.StatementLabels.{OptionLabels, TargetLabels, StmtLabels, SuiteLabels, BranchesLabels}
use Rattle.pc_module_rules.specs.StatementLabels.{behind_list}
use Rattle.pc_module_rules.specs.TypesOfExpressions.{TypeAt, types_in, types_of_arguments}

-- a call of the name `range`
abbrev pub is_range_call : Expr → Test
is_range_call (call p callee arguments by_name) = is_named (codes "range") callee
is_range_call _ = false

module _ (every : Test) where
  -- the types in an expression that may be missing
  abbrev pub types_in_option : (e : Option Expr) → OptionLabels e → List TypeAt
  types_in_option None labels = []
  types_in_option (Some e) labels = types_in every e labels

  -- the types in a target: in its object and in its index; an assigned name has no type of its own here
  abbrev pub types_in_target : (t : Target) → TargetLabels t → List TypeAt
  types_in_target (to_name n) labels = []
  types_in_target (to_attribute p o field) labels = types_in every o labels.object
  types_in_target (to_index p o i) labels = types_in every o labels.object ++ types_in every i labels.key

  -- the types in the iterable of a `for`; of a call of `range` only those in its arguments, since the call makes no
  -- value, and no function is looked up
  abbrev pub types_in_iterable : (e : Expr) → Labels e → List TypeAt
  types_in_iterable e labels = if is_range_call e then types_of_arguments every e labels else types_in every e labels

  -- the types under the labels of statements, suites and branches
  abbrev mutual
    -- the types in a statement: in its expressions, in text order; of an assignment in the target before the value
    pub types_in_stmt : (s : Stmt) → StmtLabels s → List TypeAt
    types_in_stmt (pass p) labels = []
    types_in_stmt (breaks p) labels = []
    types_in_stmt (continues p) labels = []
    types_in_stmt (returns p e) labels = types_in_option e labels.value
    types_in_stmt (asserts p c e) labels = types_in every c labels.condition ++ types_in_option e labels.message
    types_in_stmt (annotated p n a e) labels = types_in_option e labels.value
    types_in_stmt (assigns p t e) labels = types_in_target t labels.target ++ types_in every e labels.value
    types_in_stmt (evaluates p e) labels = types_in every e labels
    types_in_stmt (while_loop p c b) labels = types_in every c labels.condition ++ types_in_suite b labels.body
    types_in_stmt (for_loop p n e b) labels = types_in_iterable e labels.iterable ++ types_in_suite b labels.body
    types_in_stmt (conditional p bs o) labels = types_in_branches bs labels.branches
        ++ types_in_suite o labels.otherwise

    -- the types in a suite; none after a statement that cannot complete
    pub types_in_suite : (b : Stmts) → SuiteLabels b → List TypeAt
    types_in_suite no_stmts labels = []
    types_in_suite (more_stmts s rest) labels = types_in_stmt s labels.first
        ++ behind_list (completes s) labels.behind (λ r. types_in_suite rest r.rest)

    -- the types in the conditions and the suites of branches
    pub types_in_branches : (bs : Branches) → BranchesLabels bs → List TypeAt
    types_in_branches no_branches labels = []
    types_in_branches (more_branches c b rest) labels = types_in every c labels.condition
        ++ (types_in_suite b labels.body ++ types_in_branches rest labels.rest)
