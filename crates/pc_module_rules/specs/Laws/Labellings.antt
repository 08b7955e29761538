-- Statements, suites and functions with lawful labels, and the law that each has them. Labels are made in text order,
-- while some declared types are still unknown: so a table of declared types grows with the names that are bound, and
-- labels are lawful with every table that agrees with it on the names bound by then. Own rule of the profile.
use Rattle.std.specs.Prelude.{◌≡◌, ◌<◌, ℕ, List, [], ◌∷◌, ◌++◌, length, Bool as Test, true, false, Option, Some, None}
use Rattle.std.specs.Prelude.{is_some}
use Rattle.pc_tree.specs.Tree.{Stmt, Stmts, Branches, FuncDef, Member, Module}
use Rattle.pc_tree.specs.Stopping.{bound_by, bound_by_stmt, bound_by_branches}
use Rattle.pc_scope.specs.Bindings.{texts}
use Rattle.pc_scope.specs.Reach.{completes, completes_all, some_completes}
use Rattle.pc_scope.specs.Resolution.{is_one_of}
use Rattle.pc_scope.specs.declared.resolution.Owner.{Owner}
use Rattle.pc_scope.specs.declared.resolution.NameMeaning.TheVariants as meaning
use Rattle.pc_types.specs.Tree.{Tree}
use Rattle.pc_types.specs.WellFormed.{IsWellFormed}
use Rattle.pc_class.specs.Bases.{bases_of}
use Rattle.pc_class.specs.Facts.{ClassFacts}
use Rattle.pc_flow.specs.Environment.{Env, declared_type}
use Rattle.pc_flow.specs.Agreement.{SameWhere}
use Rattle.pc_flow.specs.WellFormed.{IsWellFormedEnv, AreWellFormed}
use Rattle.pc_rules.specs.Context.{Context}
use Rattle.pc_rules.specs.Laws.WellFormed.{ContextWellFormed}
use Rattle.pc_module_rules.specs.StatementLabels.{StmtLabels, SuiteLabels, BranchesLabels, breaks_in, breaks_in_suite}
use Rattle.pc_module_rules.specs.StatementLabels.{breaks_in_branches, ways_in}
use Rattle.pc_module_rules.specs.Statements.{NamesBound, LawfulStmt, LawfulSuite, LawfulBranches}
use Rattle.pc_module_rules.specs.Modules.{FunctionLabels, LawfulFunction, MembersLabels, LawfulMembers}

-- names mean locals with numbers below a count, and no two names mean the same one
pub record NumberedLocals (ctx : Context) (count : ℕ) : Type 0 where
  pub below : (word : List ℕ) (x : ℕ) → ctx.resolve word ≡ meaning.Local x → x < count
  pub apart : (a b : List ℕ) (x : ℕ) → ctx.resolve a ≡ meaning.Local x → ctx.resolve b ≡ meaning.Local x → a ≡ b

-- the surroundings of statements: a module, a context with well-formed types, and the number of locals
pub record Surroundings : Type 0 where
  pub whole : Module
  pub context : Context
  pub context_well_formed : ContextWellFormed context
  pub count : ℕ
  pub locals : NumberedLocals context count

-- a table with a well-formed declared type for each local
pub record IsDeclaredTable (around : Surroundings) (declared : List Tree) : Type 0 where
  pub long : length declared ≡ around.count
  pub well_formed : AreWellFormed around.context.bases declared

-- two tables agree on some names: the locals that they mean have the same declared types
abbrev pub Agree : Context → (declared others : List Tree) → NamesBound → Type 0
Agree ctx declared others seen = (word : List ℕ) (x : ℕ) → is_one_of word seen ≡ true → ctx.resolve word ≡ meaning.Local x
    → declared_type declared x ≡ declared_type others x

-- an environment depends only on the names bound so far: its types are well-formed, and it assigns only locals whose
-- declared types are fixed by those names
pub record GoesByNames (around : Surroundings) (declared : List Tree) (seen : NamesBound) (env : Env) : Type 0 where
  pub well_formed : IsWellFormedEnv around.context.bases env
  pub same : (others : List Tree) → IsDeclaredTable around others → Agree around.context declared others seen
      → SameWhere declared others env

-- each of several environments depends only on the names bound so far
abbrev pub AllGoByNames : Surroundings → List Tree → NamesBound → List Env → Type 0
AllGoByNames around declared seen [] = Unit {0}
AllGoByNames around declared seen (e ∷ es) = GoesByNames around declared seen e × AllGoByNames around declared seen es

-- an environment, if there is one, depends only on the names bound so far
abbrev pub OutGoesByNames : Surroundings → List Tree → NamesBound → Option Env → Type 0
OutGoesByNames around declared seen None = Unit {0}
OutGoesByNames around declared seen (Some env) = GoesByNames around declared seen env

-- whether some branch can complete
abbrev pub any_way : List Env → Test
any_way [] = false
any_way (e ∷ es) = true

-- a statement is labelled, from a table, the names bound so far and an environment: there are a table that agrees on
-- those names, labels, and the environment after it, which depend only on the names bound by then; the environment
-- after it exists exactly if the statement can complete; and the labels are lawful with every table that agrees on the
-- names bound by then
pub record StmtLabelled (around : Surroundings) (returned : Tree) (declared : List Tree) (seen : NamesBound)
    (env : Env) (s : Stmt) : Type 0 where
  pub table : List Tree
  pub is_table : IsDeclaredTable around table
  pub same : Agree around.context declared table seen
  pub labels : StmtLabels s
  pub out : Option Env
  pub ends : OutGoesByNames around table (texts (bound_by_stmt s) ++ seen) out
  pub at_breaks : AllGoByNames around table (texts (bound_by_stmt s) ++ seen) (breaks_in s labels)
  pub reaches : is_some out ≡ completes s
  pub lawful : (others : List Tree) → IsDeclaredTable around others
      → Agree around.context table others (texts (bound_by_stmt s) ++ seen)
      → LawfulStmt around.whole around.context others returned seen env s labels out

-- a suite is labelled, as a statement is
pub record SuiteLabelled (around : Surroundings) (returned : Tree) (declared : List Tree) (seen : NamesBound)
    (env : Env) (b : Stmts) : Type 0 where
  pub table : List Tree
  pub is_table : IsDeclaredTable around table
  pub same : Agree around.context declared table seen
  pub labels : SuiteLabels b
  pub out : Option Env
  pub ends : OutGoesByNames around table (texts (bound_by b) ++ seen) out
  pub at_breaks : AllGoByNames around table (texts (bound_by b) ++ seen) (breaks_in_suite b labels)
  pub reaches : is_some out ≡ completes_all b
  pub lawful : (others : List Tree) → IsDeclaredTable around others
      → Agree around.context table others (texts (bound_by b) ++ seen)
      → LawfulSuite around.whole around.context others returned seen env b labels out

-- the branches of an `if` are labelled, with the environments at their ends and the one after all conditions are false
pub record BranchesLabelled (around : Surroundings) (returned : Tree) (declared : List Tree) (seen : NamesBound)
    (env : Env) (bs : Branches) : Type 0 where
  pub table : List Tree
  pub is_table : IsDeclaredTable around table
  pub same : Agree around.context declared table seen
  pub labels : BranchesLabels bs
  pub last : Env
  pub ends : GoesByNames around table (texts (bound_by_branches bs) ++ seen) last
  pub at_breaks : AllGoByNames around table (texts (bound_by_branches bs) ++ seen) (breaks_in_branches bs labels)
  pub ways : AllGoByNames around table (texts (bound_by_branches bs) ++ seen) (ways_in bs labels)
  pub reaches : any_way (ways_in bs labels) ≡ some_completes bs
  pub lawful : (others : List Tree) → IsDeclaredTable around others
      → Agree around.context table others (texts (bound_by_branches bs) ++ seen)
      → LawfulBranches around.whole around.context others returned seen env bs labels last

-- the law that each statement is labelled, from a table and an environment that depend only on the names bound so far,
-- in a function that returns a well-formed type
abbrev pub StatementsAreLabelled : Type 0
StatementsAreLabelled =
    (around : Surroundings) (returned : Tree) → IsWellFormed around.context.bases returned
    → (declared : List Tree) (seen : NamesBound) (env : Env) → IsDeclaredTable around declared
    → GoesByNames around declared seen env → (s : Stmt) → StmtLabelled around returned declared seen env s

-- the law that each suite is labelled, from such a table and environment, in a function that returns a well-formed type
abbrev pub SuitesAreLabelled : Type 0
SuitesAreLabelled =
    (around : Surroundings) (returned : Tree) → IsWellFormed around.context.bases returned
    → (declared : List Tree) (seen : NamesBound) (env : Env) → IsDeclaredTable around declared
    → GoesByNames around declared seen env → (b : Stmts) → SuiteLabelled around returned declared seen env b

-- a function has lawful labels, with these types of constants
pub record FunctionLabelled (m : Module) (constants : List Tree) (owner : Owner) (f : FuncDef) : Type 0 where
  pub labels : FunctionLabels f
  pub lawful : LawfulFunction m constants owner f labels

-- members of a class with this base have lawful labels, after members of these names and this number of methods
pub record MembersLabelled (m : Module) (constants : List Tree) (base : ClassFacts) (c number : ℕ)
    (before : List (List ℕ)) (ms : List Member) : Type 0 where
  pub labels : MembersLabels ms
  pub lawful : LawfulMembers m constants base c number before ms labels

-- the law that each function has lawful labels, if the types of the constants are well-formed
abbrev pub FunctionsAreLabelled : Type 0
FunctionsAreLabelled = (m : Module) (constants : List Tree) → AreWellFormed (bases_of m) constants
    → (owner : Owner) (f : FuncDef) → FunctionLabelled m constants owner f

-- the law that the members of each class have lawful labels, if the types of the constants are well-formed
abbrev pub ClassesAreLabelled : Type 0
ClassesAreLabelled = (m : Module) (constants : List Tree) → AreWellFormed (bases_of m) constants
    → (base : ClassFacts) (c number : ℕ) (before : List (List ℕ)) (ms : List Member)
    → MembersLabelled m constants base c number before ms
