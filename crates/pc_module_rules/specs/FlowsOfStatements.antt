-- The flows with a code under the labels of statements, one after another.
-- Own rule of the profile.
use Rattle.std.specs.Prelude.{List, [], ◌++◌, Option, Some, None}
use Rattle.pc_source.specs.declared.place.Place.{Place}
use Rattle.pc_tree.specs.declared.code.Code.{Code}
use Rattle.pc_tree.specs.Depth.{place_of}
use Rattle.pc_tree.specs.Tree.{Expr, Target, to_name, to_attribute, to_index, Stmt, Stmts, Branches, pass, breaks}
use Rattle.pc_tree.specs.Tree.{continues, returns, asserts, annotated, assigns, evaluates, while_loop, for_loop}
use Rattle.pc_tree.specs.Tree.{conditional, no_stmts, more_stmts, no_branches, more_branches}
use Rattle.pc_scope.specs.Reach.{completes}
use Rattle.pc_rules.specs.Labels.{FlowLabels}
use Rattle.pc_module_rules.specs.StatementLabels.{OptionLabels, TargetLabels, StmtLabels, SuiteLabels, BranchesLabels}
use Rattle.pc_module_rules.specs.StatementLabels.{behind_list}
use Rattle.pc_module_rules.specs.FlowsOfExpressions.{CodedFlow, coded_at, coded_in}

module _ (code : Code) where
  -- the flows with this code in an expression that may be missing
  abbrev pub coded_in_option : (e : Option Expr) → OptionLabels e → List CodedFlow
  coded_in_option None labels = []
  coded_in_option (Some e) labels = coded_in code e labels

  -- the flows with this code in a value, and then its own; without a value those of None at this place
  abbrev pub coded_in_value : Place → (e : Option Expr) → OptionLabels e → FlowLabels → List CodedFlow
  coded_in_value p None labels flows = coded_at code p flows
  coded_in_value p (Some e) labels flows = coded_in code e labels ++ coded_at code (place_of e) flows

  -- the flows with this code in a target: in its object, in its index, and of its index
  abbrev pub coded_in_target : (t : Target) → TargetLabels t → List CodedFlow
  coded_in_target (to_name n) labels = []
  coded_in_target (to_attribute p o field) labels = coded_in code o labels.object
  coded_in_target (to_index p o i) labels = coded_in code o labels.object
      ++ (coded_in code i labels.key ++ coded_at code (place_of i) labels.key_flows)

  -- the flows with this code under the labels of statements, suites and branches
  abbrev mutual
    -- the flows with this code in a statement: in its expressions, and of the value that it returns, binds or stores,
    -- or of the item of a `for`
    pub coded_in_stmt : (s : Stmt) → StmtLabels s → List CodedFlow
    coded_in_stmt (pass p) labels = []
    coded_in_stmt (breaks p) labels = []
    coded_in_stmt (continues p) labels = []
    coded_in_stmt (returns p e) labels = coded_in_value p e labels.value labels.flows
    coded_in_stmt (asserts p c e) labels = coded_in code c labels.condition ++ coded_in_option e labels.message
    coded_in_stmt (annotated p n a e) labels = coded_in_value p e labels.value labels.flows
    coded_in_stmt (assigns p t e) labels = coded_in_target t labels.target
        ++ (coded_in code e labels.value ++ coded_at code (place_of e) labels.flows)
    coded_in_stmt (evaluates p e) labels = coded_in code e labels
    coded_in_stmt (while_loop p c b) labels = coded_in code c labels.condition ++ coded_in_suite b labels.body
    coded_in_stmt (for_loop p n e b) labels = coded_in code e labels.iterable
        ++ (coded_at code (place_of e) labels.flows ++ coded_in_suite b labels.body)
    coded_in_stmt (conditional p bs o) labels = coded_in_branches bs labels.branches
        ++ coded_in_suite o labels.otherwise

    -- the flows with this code in a suite; none after a statement that cannot complete
    pub coded_in_suite : (b : Stmts) → SuiteLabels b → List CodedFlow
    coded_in_suite no_stmts labels = []
    coded_in_suite (more_stmts s rest) labels = coded_in_stmt s labels.first
        ++ behind_list (completes s) labels.behind (λ r. coded_in_suite rest r.rest)

    -- the flows with this code in the conditions and the suites of branches
    pub coded_in_branches : (bs : Branches) → BranchesLabels bs → List CodedFlow
    coded_in_branches no_branches labels = []
    coded_in_branches (more_branches c b rest) labels = coded_in code c labels.condition
        ++ (coded_in_suite b labels.body ++ coded_in_branches rest labels.rest)
