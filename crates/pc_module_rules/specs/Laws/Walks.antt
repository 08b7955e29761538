-- The law that a walk over statements agrees with their lawful labels: the computed twin of the rules of statements has
-- the environments of the labels, and finds exactly what is under them, except E02 and E03, which scope analysis
-- reports. Own rule of the profile.
use Rattle.std.specs.Prelude.{◌≡◌, ◌⊎◌, ◌↔◌, ℕ, List, [], ◌++◌, length, true, false, Option, Some, None, Contains}
use Rattle.pc_tree.specs.declared.code.Finding.{Finding}
use Rattle.pc_tree.specs.Tree.{Stmt, Stmts, FuncDef, Module}
use Rattle.pc_tree.specs.Stopping.{bound_by, bound_by_stmt}
use Rattle.pc_scope.specs.declared.resolution.Owner.{Owner}
use Rattle.pc_scope.specs.declared.resolution.NameMeaning.TheVariants as meaning
use Rattle.pc_scope.specs.Bindings.{texts}
use Rattle.pc_scope.specs.Resolution.{is_one_of, locals}
use Rattle.pc_types.specs.Tree.{Tree}
use Rattle.pc_types.specs.Below.{Bases}
use Rattle.pc_types.specs.WellFormed.{IsWellFormed}
use Rattle.pc_class.specs.Bases.{bases_of}
use Rattle.pc_flow.specs.Agreement.{SameWhere}
use Rattle.pc_flow.specs.Environment.{Env, declared_type, join_envs_onto}
use Rattle.pc_flow.specs.WellFormed.{AreWellFormed, IsWellFormedEnv}
use Rattle.pc_notes.specs.Notes.{Note, findings_of}
use Rattle.pc_rules.specs.Labels.{is_of_scopes, IsCodeAt}
use Rattle.pc_rules.specs.Signatures.{body_context}
use Rattle.pc_module_rules.specs.StatementLabels.{StmtLabels, SuiteLabels, breaks_in, breaks_in_suite}
use Rattle.pc_module_rules.specs.Statements.{NamesBound, LawfulStmt, LawfulSuite, StmtFinds, SuiteFinds}
use Rattle.pc_module_rules.specs.Modules.{FunctionLabels, LawfulFunction, entry_parameters, names_entered}
use Rattle.pc_module_rules.specs.Laws.Labellings.{Surroundings}
use Rattle.pc_module_rules.specs.Computed.Statements.{DeclaredTypes, type_table, bound_type, BodyContext, Walk, step}
use Rattle.pc_module_rules.specs.Computed.Statements.{walk_suite}
use Rattle.pc_module_rules.specs.Computed.Statements.{function_finds}

-- the body context of a function that returns this type
abbrev pub body_context_in : Surroundings → (returned : Tree) → BodyContext
body_context_in around returned = record {
  whole = around.whole;
  context = around.context;
  returned = returned;
  keeps = false;
}

-- the table of a walk fits declared types, after the names bound so far: each local that one of them means has its
-- declared type there, and no other local has one
pub record TableFits (around : Surroundings) (declared : List Tree) (seen : NamesBound) (table : DeclaredTypes) : Type 0 where
  pub long : length table ≡ around.count
  pub well_formed : IsWellFormedEnv around.context.bases table
  pub bound : (word : List ℕ) (x : ℕ) → is_one_of word seen ≡ true → around.context.resolve word ≡ meaning.Local x
      → bound_type table x ≡ Some (declared_type declared x)
  pub unbound : (word : List ℕ) (x : ℕ) → is_one_of word seen ≡ false → around.context.resolve word ≡ meaning.Local x
      → bound_type table x ≡ None

-- an environment fits the table of a walk and declared types: they agree on each local that it assigns, and its types
-- are well-formed
pub record EnvFits (around : Surroundings) (declared : List Tree) (table : DeclaredTypes) (env : Env) : Type 0 where
  pub same : SameWhere declared (type_table table) env
  pub well_formed : IsWellFormedEnv around.context.bases env

-- an environment, if there is one, fits the table of a walk and declared types
abbrev pub OutFits : Surroundings → List Tree → DeclaredTypes → Option Env → Type 0
OutFits around declared table None = Unit {0}
OutFits around declared table (Some env) = EnvFits around declared table env

-- the exit environment of a loop, if there is a loop, joined with the environments at several `break`s
abbrev pub with_breaks : Bases → (declared : List Tree) → (exit_env : Option Env) → List Env → Option Env
with_breaks bases declared None envs = None
with_breaks bases declared (Some way) envs = Some (join_envs_onto bases declared way envs)

-- exactly these findings were added, except those of scope analysis
abbrev pub Adds : (before after : List Note) → (Says : Finding → Type 0) → Type 0
Adds before after Says = (f : Finding)
    → Contains (findings_of after) f ↔ (Contains (findings_of before) f ⊎ (Says f × (is_of_scopes f.code ≡ false)))

-- a list holds exactly these findings, except those of scope analysis
abbrev pub Lists : List Note → (Says : Finding → Type 0) → Type 0
Lists notes Says = (f : Finding) → Contains (findings_of notes) f ↔ (Says f × (is_of_scopes f.code ≡ false))

-- a walk agrees with labels: its table fits after these names, its environment is this one, these `break`s are joined,
-- and exactly these findings were added; and what fitted the table before fits the one after
pub record WalkSays (around : Surroundings) (declared : List Tree) (seen : NamesBound) (table : DeclaredTypes)
    (exit_env : Option Env) (found : List Note) (w : Walk) (out : Option Env) (breaks : List Env)
    (Says : Finding → Type 0) : Type 0 where
  pub fits : TableFits around declared seen w.table
  pub grows : (env : Env) → EnvFits around declared table env → EnvFits around declared w.table env
  pub env_is : w.env ≡ out
  pub env_fits : OutFits around declared w.table out
  pub exit_env_is : w.exit_env ≡ with_breaks around.context.bases declared exit_env breaks
  pub exit_env_fits : OutFits around declared w.table w.exit_env
  pub found_is : Adds found w.found Says

-- the law that a walk over a statement agrees with any lawful labels of it
abbrev pub WalksOfStatementsSayWhatLabelsSay : Type 0
WalksOfStatementsSayWhatLabelsSay =
    (around : Surroundings) (returned : Tree) → IsWellFormed around.context.bases returned →
    (declared : List Tree) (seen : NamesBound) (table : DeclaredTypes) (env : Env) (exit_env : Option Env)
    (found : List Note) →
    TableFits around declared seen table → EnvFits around declared table env → OutFits around declared table exit_env →
    (s : Stmt) (labels : StmtLabels s) (out : Option Env)
    → LawfulStmt around.whole around.context declared returned seen env s labels out →
    WalkSays around declared (texts (bound_by_stmt s) ++ seen) table exit_env found
    (step (body_context_in around returned) table (Some env) exit_env found s) out (breaks_in s labels)
    (StmtFinds around.whole around.context seen s labels)

-- the law that a walk over a suite agrees with any lawful labels of it
abbrev pub WalksOfSuitesSayWhatLabelsSay : Type 0
WalksOfSuitesSayWhatLabelsSay =
    (around : Surroundings) (returned : Tree) → IsWellFormed around.context.bases returned →
    (declared : List Tree) (seen : NamesBound) (table : DeclaredTypes) (env : Env) (exit_env : Option Env)
    (found : List Note) →
    TableFits around declared seen table → EnvFits around declared table env → OutFits around declared table exit_env →
    (b : Stmts) (labels : SuiteLabels b) (out : Option Env)
    → LawfulSuite around.whole around.context declared returned seen env b labels out →
    WalkSays around declared (texts (bound_by b) ++ seen) table exit_env found
    (walk_suite (body_context_in around returned)
    (record { table = table; env = Some env; exit_env = exit_env; found = found }) b) out (breaks_in_suite b labels)
    (SuiteFinds around.whole around.context seen b labels)

-- the findings under labels in the body of a function and at its name
abbrev pub BodySays : Module → (constants : List Tree) → Owner → (f : FuncDef) → FunctionLabels f → Finding → Type 0
BodySays m constants owner f labels g =
    IsCodeAt f.name.place labels.completing g
    ⊎ SuiteFinds m (body_context m constants (locals owner f))
    (names_entered [] (entry_parameters m owner f)) f.body labels.body g

-- the law that the walk over the body of a function finds exactly what is under any lawful labels of the function in
-- its body and at its name, except those of scope analysis
abbrev pub BodiesFindWhatLabelsSay : Type 0
BodiesFindWhatLabelsSay =
    (m : Module) (constants : List Tree) → AreWellFormed (bases_of m) constants
    → (owner : Owner) (f : FuncDef) (labels : FunctionLabels f) → LawfulFunction m constants owner f labels →
    (found : List Note) → Adds found (function_finds false m constants owner f found)
    (BodySays m constants owner f labels)
