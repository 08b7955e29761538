-- The labels of statements: those of their expressions, and the environments between statements, at heads of loops and
-- at `break`. Own rule of the profile.
use Rattle.std.specs.Prelude.{List, [], ◌∷◌, ◌++◌, Bool as Test, true, false, Option, Some, None, option_to_list}
use Rattle.pc_tree.specs.declared.code.Code.{Code}
use Rattle.pc_tree.specs.Tree.{Expr, Target, to_name, to_attribute, to_index, Stmt, Stmts, Branches, pass, breaks}
use Rattle.pc_tree.specs.Tree.{continues, returns, asserts, annotated, assigns, evaluates, while_loop, for_loop}
use Rattle.pc_tree.specs.Tree.{conditional, no_stmts, more_stmts, no_branches, more_branches}
use Rattle.pc_scope.specs.Reach.{completes}
use Rattle.pc_flow.specs.Environment.{Env}
use Rattle.pc_rules.specs.Labels.{FlowLabels, Labels}
use Rattle.pc_rules.specs.Operations.{Label}

-- the labels of an expression that may be missing
abbrev pub OptionLabels : Option Expr → Type 0
OptionLabels None = Unit {0}
OptionLabels (Some e) = Labels e

-- the labels of a target: the codes found at it, its object, and its index with its flows
abbrev pub TargetLabels : Target → Type 0
TargetLabels (to_name n) = Unit {0}
TargetLabels (to_attribute p e field) = record { codes : List Code; object : Labels e }
TargetLabels (to_index p e i) = record { codes : List Code; object : Labels e; key : Labels i; key_flows : FlowLabels }

-- the labels after a statement that can complete; there are none after one that cannot
abbrev pub Behind : (completes : Test) → Type 0 → Type 0
Behind true A = A
Behind false A = Unit {0}

-- after a statement that can complete: the environment there, and the labels of the remaining statements
abbrev pub Following : (others : Type 0) → Type 0
Following Others = record { env : Env; rest : Others }

-- the labels of statements, suites and branches
abbrev mutual
  -- the labels of a statement: its expressions, its flows, and the environments at `break`, loop heads, `else` and
  -- suite ends
  pub StmtLabels : Stmt → Type 0
  StmtLabels (pass p) = Unit {0}
  StmtLabels (breaks p) = Env
  StmtLabels (continues p) = Unit {0}
  StmtLabels (returns p value) = record { value : OptionLabels value; flows : FlowLabels }
  StmtLabels (asserts p condition message) = record { condition : Labels condition; message : OptionLabels message }
  StmtLabels (annotated p n annotation value) = record { value : OptionLabels value; flows : FlowLabels }
  StmtLabels (assigns p target value) = record {
    value : Labels value;
    target : TargetLabels target;
    flows : FlowLabels;
  }
  StmtLabels (evaluates p value) = Labels value
  StmtLabels (while_loop p c b) = record { head : Env; condition : Labels c; body : SuiteLabels b; out : Option Env }
  StmtLabels (for_loop p n e b) = record {
    iterable : Labels e;
    item : Label;
    flows : FlowLabels;
    head : Env;
    body : SuiteLabels b;
    out : Option Env;
  }
  StmtLabels (conditional p bs o) = record {
    branches : BranchesLabels bs;
    last : Env;
    otherwise : SuiteLabels o;
    out : Option Env;
  }

  -- the labels of a suite: those of its first statement, and those after it
  pub SuiteLabels : Stmts → Type 0
  SuiteLabels no_stmts = Unit {0}
  SuiteLabels (more_stmts s rest) = record {
    first : StmtLabels s;
    behind : Behind (completes s) (Following (SuiteLabels rest));
  }

  -- the labels of branches: each condition, each body, and the environment at the end of the body, if it can complete
  pub BranchesLabels : Branches → Type 0
  BranchesLabels no_branches = Unit {0}
  BranchesLabels (more_branches c b rest) = record {
    condition : Labels c;
    body : SuiteLabels b;
    out : Option Env;
    rest : BranchesLabels rest;
  }

-- a rule on the labels after a statement that can complete, or another rule if it cannot
abbrev pub BehindRule : {A : Type 0} (completes : Test) → Behind completes A → (A → Type 0) → Type 0 → Type 0
BehindRule true m P N = P m
BehindRule false m P N = N

-- a list made of the labels after a statement, empty if the statement cannot complete
abbrev pub behind_list : {A B : Type 0} (completes : Test) → Behind completes A → (A → List B) → List B
behind_list true m f = f m
behind_list false m f = []

-- the environments at the `break` statements of the innermost loop, in text order
abbrev mutual
  pub breaks_in : (s : Stmt) → StmtLabels s → List Env
  breaks_in (breaks p) m = m ∷ []
  breaks_in (conditional p bs o) m = breaks_in_branches bs m.branches ++ breaks_in_suite o m.otherwise
  breaks_in _ m = []

  pub breaks_in_suite : (b : Stmts) → SuiteLabels b → List Env
  breaks_in_suite no_stmts m = []
  breaks_in_suite (more_stmts s rest) m = breaks_in s m.first
      ++ behind_list (completes s) m.behind (λ r. breaks_in_suite rest r.rest)

  pub breaks_in_branches : (bs : Branches) → BranchesLabels bs → List Env
  breaks_in_branches no_branches m = []
  breaks_in_branches (more_branches c b rest) m = breaks_in_suite b m.body ++ breaks_in_branches rest m.rest

-- the environments at the ends of the branches that can complete, in text order
abbrev pub ways_in : (bs : Branches) → BranchesLabels bs → List Env
ways_in no_branches m = []
ways_in (more_branches c b rest) m = option_to_list m.out ++ ways_in rest m.rest
