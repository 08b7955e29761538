-- The labels of the expressions of statements and of initializers have types whose dicts have int or str as key and
-- whose classes are as asked, and so have the items of a `for`.
use Rattle.std.specs.Prelude.{◌≡◌, List, [], ◌∷◌, Option, Some, None, Contains}
use Rattle.pc_tree.specs.declared.code.Code.TheVariants.{E12}
use Rattle.pc_tree.specs.Tree.{Expr, Target, to_name, to_attribute, to_index, Stmt, pass, breaks, continues, returns}
use Rattle.pc_tree.specs.Tree.{asserts, annotated, assigns, evaluates, while_loop, for_loop, conditional, Stmts}
use Rattle.pc_tree.specs.Tree.{no_stmts, more_stmts, Branches, no_branches, more_branches, Item, constant_item}
use Rattle.pc_tree.specs.Tree.{class_item, def_item}
use Rattle.pc_scope.specs.Reach.{completes}
use Rattle.pc_rules.specs.Operations.{FlowLabel}
use Rattle.pc_rules.specs.Labels.{FlowLabels}
use Rattle.pc_module_rules.specs.StatementLabels.{OptionLabels, TargetLabels, StmtLabels, SuiteLabels, BranchesLabels}
use Rattle.pc_module_rules.specs.StatementLabels.{BehindRule}
use Rattle.pc_module_rules.specs.Modules.{ModuleItemsLabels}
use Rattle.pc_sound.proofs.Regular.RegularParts.{Asked, TestsAsked, IsRegular, Regular}

module _ (asked : Asked) where
  abbrev pub OptionalRegular : (e : Option Expr) → OptionLabels e → Type 0
  OptionalRegular None m = Unit {0}
  OptionalRegular (Some e) m = Regular asked e m

  abbrev pub TargetRegular : (t : Target) → TargetLabels t → Type 0
  TargetRegular (to_name n) m = Unit {0}
  TargetRegular (to_attribute p e field) m = Regular asked e m.object
  TargetRegular (to_index p e i) m = Regular asked e m.object × Regular asked i m.key

  -- a `return` without a value has no E12, where the soundness law asks
  abbrev pub IsQuietReturn : FlowLabels → Type 0
  IsQuietReturn flows = TestsAsked asked ((x : FlowLabel) → Contains flows x → x.code ≡ Some E12 → ⊥)

  -- no `return` without a value in statements has E12, where the soundness law asks
  abbrev mutual
    pub StmtQuiet : (s : Stmt) → StmtLabels s → Type 0
    StmtQuiet (returns p None) m = IsQuietReturn m.flows
    StmtQuiet (while_loop p c b) m = SuiteQuiet b m.body
    StmtQuiet (for_loop p n e b) m = SuiteQuiet b m.body
    StmtQuiet (conditional p bs o) m = BranchesQuiet bs m.branches × SuiteQuiet o m.otherwise
    StmtQuiet _ m = Unit {0}

    pub SuiteQuiet : (b : Stmts) → SuiteLabels b → Type 0
    SuiteQuiet no_stmts m = Unit {0}
    SuiteQuiet (more_stmts s rest) m = StmtQuiet s m.first × BehindRule (completes s) m.behind
        (λ r. SuiteQuiet rest r.rest) (Unit {0})

    pub BranchesQuiet : (bs : Branches) → BranchesLabels bs → Type 0
    BranchesQuiet no_branches m = Unit {0}
    BranchesQuiet (more_branches c b rest) m = SuiteQuiet b m.body × BranchesQuiet rest m.rest

  abbrev mutual
    pub StmtRegular : (s : Stmt) → StmtLabels s → Type 0
    StmtRegular (pass p) m = Unit {0}
    StmtRegular (breaks p) m = Unit {0}
    StmtRegular (continues p) m = Unit {0}
    StmtRegular (returns p None) m = IsQuietReturn m.flows
    StmtRegular (returns p (Some e)) m = Regular asked e m.value
    StmtRegular (asserts p c e) m = Regular asked c m.condition × OptionalRegular e m.message
    StmtRegular (annotated p n a e) m = OptionalRegular e m.value
    StmtRegular (assigns p t e) m = Regular asked e m.value × TargetRegular t m.target
    StmtRegular (evaluates p e) m = Regular asked e m
    StmtRegular (while_loop p c b) m = Regular asked c m.condition × SuiteRegular b m.body
    StmtRegular (for_loop p n e b) m = (Regular asked e m.iterable × IsRegular asked m.item.type)
        × SuiteRegular b m.body
    StmtRegular (conditional p bs o) m = BranchesRegular bs m.branches × SuiteRegular o m.otherwise

    pub SuiteRegular : (b : Stmts) → SuiteLabels b → Type 0
    SuiteRegular no_stmts m = Unit {0}
    SuiteRegular (more_stmts s rest) m = StmtRegular s m.first × BehindRule (completes s) m.behind
        (λ r. SuiteRegular rest r.rest) (Unit {0})

    pub BranchesRegular : (bs : Branches) → BranchesLabels bs → Type 0
    BranchesRegular no_branches m = Unit {0}
    BranchesRegular (more_branches c b rest) m = Regular asked c m.condition
        × (SuiteRegular b m.body × BranchesRegular rest m.rest)

  abbrev pub InitializersRegular : (items : List Item) → ModuleItemsLabels items → Type 0
  InitializersRegular [] labels = Unit {0}
  InitializersRegular (constant_item p c ∷ rest) labels = Regular asked c.value labels.first.value
      × InitializersRegular rest labels.rest
  InitializersRegular (class_item p c ∷ rest) labels = InitializersRegular rest labels.rest
  InitializersRegular (def_item p f ∷ rest) labels = InitializersRegular rest labels.rest
