-- The condition of the soundness law on labels: each dict in a type has int or str as its key, and each test of an
-- instance is timely.
use Rattle.std.specs.Prelude.{List, Option}
use Rattle.pc_tree.specs.Tree.{Expr, Exprs, Entries, Keywords, Target, Stmt, Stmts, Branches, Item}
use Rattle.pc_types.specs.Tree.{Tree}
use Rattle.pc_types.specs.Shape.{members}
use Rattle.pc_rules.specs.Labels.{Labels, ItemsLabels, EntriesLabels, KeywordsLabels, type_of}
use Rattle.pc_module_rules.specs.StatementLabels.{OptionLabels, TargetLabels, StmtLabels, SuiteLabels, BranchesLabels}
use Rattle.pc_module_rules.specs.Modules as modules
use Rattle.pc_sound.proofs.Values.UnionMembers.{AllOf}
use Rattle.pc_sound.proofs.Regular.RegularParts.{tests_in_time, IsRegular, Regular, ItemsRegular, EntriesRegular}
use Rattle.pc_sound.proofs.Regular.RegularParts.{KeywordsRegular, regular_type, regular_members}
use Rattle.pc_sound.proofs.Regular.RegularStatements.{OptionalRegular, TargetRegular, StmtRegular, SuiteRegular}
use Rattle.pc_sound.proofs.Regular.RegularStatements.{BranchesRegular, InitializersRegular}

-- each dict, anywhere in a type, has int or str as its key
abbrev pub IsKeyed : Tree → Type 0
IsKeyed = IsRegular tests_in_time

abbrev pub Keyed : (e : Expr) → Labels e → Type 0
Keyed = Regular tests_in_time

abbrev pub ItemsKeyed : (es : Exprs) → ItemsLabels es → Type 0
ItemsKeyed = ItemsRegular tests_in_time

abbrev pub EntriesKeyed : (es : Entries) → EntriesLabels es → Type 0
EntriesKeyed = EntriesRegular tests_in_time

abbrev pub KeywordsKeyed : (es : Keywords) → KeywordsLabels es → Type 0
KeywordsKeyed = KeywordsRegular tests_in_time

abbrev pub OptionKeyed : (e : Option Expr) → OptionLabels e → Type 0
OptionKeyed = OptionalRegular tests_in_time

abbrev pub TargetKeyed : (t : Target) → TargetLabels t → Type 0
TargetKeyed = TargetRegular tests_in_time

abbrev pub StmtKeyed : (s : Stmt) → StmtLabels s → Type 0
StmtKeyed = StmtRegular tests_in_time

abbrev pub SuiteKeyed : (b : Stmts) → SuiteLabels b → Type 0
SuiteKeyed = SuiteRegular tests_in_time

abbrev pub BranchesKeyed : (bs : Branches) → BranchesLabels bs → Type 0
BranchesKeyed = BranchesRegular tests_in_time

abbrev pub InitializersKeyed : (items : List Item) → modules.ModuleItemsLabels items → Type 0
InitializersKeyed = InitializersRegular tests_in_time

-- the type of an expression
pub keyed_type : (e : Expr) (m : Labels e) → Keyed e m → IsKeyed (type_of e m)
keyed_type e m h = regular_type tests_in_time e m h

-- the members of a type
pub keyed_members : (t : Tree) → IsKeyed t → AllOf IsKeyed (members t)
keyed_members t h = regular_members tests_in_time t h
