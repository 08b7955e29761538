-- The names that are bound under the labels of statements, each at its place, one after another. Own rule of the
-- profile.
use Rattle.std.specs.Prelude.{ℕ, List, [], ◌∷◌, ◌++◌, Option, Some, None}
use Rattle.pc_source.specs.declared.place.Place.{Place}
use Rattle.pc_tree.specs.Tree.{Name, Expr, Target, to_name, to_attribute, to_index, Stmt, Stmts, Branches, pass, breaks}
use Rattle.pc_tree.specs.Tree.{continues, returns, asserts, annotated, assigns, evaluates, while_loop, for_loop}
use Rattle.pc_tree.specs.Tree.{conditional, no_stmts, more_stmts, no_branches, more_branches}
use Rattle.pc_scope.specs.Reach.{completes}
use Rattle.pc_scope.specs.declared.resolution.NameMeaning.{NameMeaning}
use Rattle.pc_scope.specs.declared.resolution.NameMeaning.TheVariants as meaning
use Rattle.pc_types.specs.Tree.{Tree}
use Rattle.pc_flow.specs.Environment.{declared_type, assigned_type}
use Rattle.pc_rules.specs.Labels.{FlowLabels, type_of}
use Rattle.pc_module_rules.specs.StatementLabels.{OptionLabels, StmtLabels, SuiteLabels, BranchesLabels, behind_list}
use Rattle.pc_module_rules.specs.Statements.{only_code}

-- a bound name: its place, its declared type, and its current type after the binding, if it has a value then
pub record NameAt : Type 0 where
  pub place : Place
  pub declared : Tree
  pub current : Option Tree

module _ (resolve : List ℕ → NameMeaning) (declared : List Tree) where
  -- a name bound to a value of this type, which flows into the declared type; only a local is bound
  abbrev pub name_bound : Name → NameMeaning → (from : Tree) → FlowLabels → List NameAt
  name_bound n (meaning.Local x) from flows =
      let d = declared_type declared x in
      record { place = n.place; declared = d; current = Some (assigned_type d from (only_code flows)) } ∷ []
  name_bound n _ from flows = []

  -- a name annotated without a value: it has a declared type, and no current one
  abbrev pub name_declared : Name → NameMeaning → List NameAt
  name_declared n (meaning.Local x) = record {
    place = n.place;
    declared = declared_type declared x;
    current = None;
  } ∷ []
  name_declared n _ = []

  -- a name annotated with or without a value
  abbrev pub name_annotated : Name → (e : Option Expr) → OptionLabels e → FlowLabels → List NameAt
  name_annotated n None labels flows = name_declared n (resolve n.text)
  name_annotated n (Some e) labels flows = name_bound n (resolve n.text) (type_of e labels) flows

  -- a target, if it is a name, that a value of this type is assigned to
  abbrev pub name_in_target : Target → (from : Tree) → FlowLabels → List NameAt
  name_in_target (to_name n) from flows = name_bound n (resolve n.text) from flows
  name_in_target (to_attribute p o field) from flows = []
  name_in_target (to_index p o i) from flows = []

  -- the names that are bound under the labels of statements, suites and branches
  abbrev mutual
    -- the names bound in a statement: the name that it annotates or assigns, or the target of a `for`, and those in its
    -- suites
    pub names_in_stmt : (s : Stmt) → StmtLabels s → List NameAt
    names_in_stmt (pass p) labels = []
    names_in_stmt (breaks p) labels = []
    names_in_stmt (continues p) labels = []
    names_in_stmt (returns p e) labels = []
    names_in_stmt (asserts p c e) labels = []
    names_in_stmt (annotated p n a e) labels = name_annotated n e labels.value labels.flows
    names_in_stmt (assigns p t e) labels = name_in_target t (type_of e labels.value) labels.flows
    names_in_stmt (evaluates p e) labels = []
    names_in_stmt (while_loop p c b) labels = names_in_suite b labels.body
    names_in_stmt (for_loop p n e b) labels = name_bound n (resolve n.text) labels.item.type labels.flows
        ++ names_in_suite b labels.body
    names_in_stmt (conditional p bs o) labels = names_in_branches bs labels.branches
        ++ names_in_suite o labels.otherwise

    -- the names bound in a suite; none after a statement that cannot complete
    pub names_in_suite : (b : Stmts) → SuiteLabels b → List NameAt
    names_in_suite no_stmts labels = []
    names_in_suite (more_stmts s rest) labels = names_in_stmt s labels.first
        ++ behind_list (completes s) labels.behind (λ r. names_in_suite rest r.rest)

    -- the names bound in the suites of branches
    pub names_in_branches : (bs : Branches) → BranchesLabels bs → List NameAt
    names_in_branches no_branches labels = []
    names_in_branches (more_branches c b rest) labels = names_in_suite b labels.body
        ++ names_in_branches rest labels.rest
