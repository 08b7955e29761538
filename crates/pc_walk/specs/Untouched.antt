-- A walk over statements leaves each local that they do not touch unchanged, both after them and in the exit
-- environment of a loop. So where paths join, after a branch of an `if` and at a `break`, only those locals have to be
-- joined that were touched since the last join, and those that it left unsettled. Own rule of the profile.
use Rattle.std.specs.Prelude.{◌≡◌, ℕ, List, [], ◌∷◌, ◌++◌, length, true, Option, Some, None}
use Rattle.pc_tree.specs.Tree.{Stmts}
use Rattle.pc_types.specs.Below.{Bases}
use Rattle.pc_flow.specs.Environment.{Env}
use Rattle.pc_flow.specs.WellFormed.{IsWellFormedEnv}
use Rattle.pc_notes.specs.Notes.{Note}
use Rattle.pc_module_rules.specs.Computed.Statements.{BodyContext, DeclaredTypes, Walk, walk_suite}
use Rattle.pc_flow.specs.Agreement.{is_among, AgreeOutside, TakesInOutside}
use Rattle.pc_walk.specs.Touched.{touched_by}

-- ---- agreement of environments

-- two environments, if there are both, agree at each local that is not among these
abbrev pub WaysAgree : (locals : List ℕ) → (ways out : Option Env) → Type 0
WaysAgree locals None out = Unit {0}
WaysAgree locals (Some way) None = Unit {0}
WaysAgree locals (Some way) (Some out) = AgreeOutside locals way out

-- an environment, if there is one, agrees with a base at each local that is not among these
abbrev pub AgreesIfAny : (locals : List ℕ) → (base : Env) → (out : Option Env) → Type 0
AgreesIfAny locals base None = Unit {0}
AgreesIfAny locals base (Some out) = AgreeOutside locals out base

-- an environment, if there is one, subsumes a base at each local that is not among these: their join there is the
-- environment
abbrev pub TakesInIfAny : Bases → (locals : List ℕ) → (way : Option Env) → (base : Env) → Type 0
TakesInIfAny bases locals None base = Unit {0}
TakesInIfAny bases locals (Some way) base = TakesInOutside bases locals way base

-- the first of two environments, if there are both, subsumes the second at each local that is not among these
abbrev pub WayTakesIn : Bases → (locals : List ℕ) → (ways out : Option Env) → Type 0
WayTakesIn bases locals ways None = Unit {0}
WayTakesIn bases locals ways (Some out) = TakesInIfAny bases locals ways out

-- inside a loop, the touched locals are appended to those before
abbrev pub AreNoted : {A : Type 0} → (way : Option A) → (before touched after : List ℕ) → Type 0
AreNoted None before touched after = Unit {0}
AreNoted (Some way) before touched after = after ≡ before ++ touched

-- ---- the law

-- each of some locals is among these locals
abbrev pub AreAmong : (locals : List ℕ) → List ℕ → Type 0
AreAmong locals [] = Unit {0}
AreAmong locals (x ∷ xs) = (is_among locals x ≡ true) × AreAmong locals xs

-- an environment has as many locals as a base, and agrees with it at each local that is not among these
pub record IsAsOutside (locals : List ℕ) (base env : Env) : Type 0 where
  pub long : length env ≡ length base
  pub same : AgreeOutside locals env base

-- an environment, if there is one, has as many locals as a base, and agrees with it at each local that is not among
-- these
abbrev pub IsAsOutsideIfAny : (locals : List ℕ) → Env → Option Env → Type 0
IsAsOutsideIfAny locals base None = Unit {0}
IsAsOutsideIfAny locals base (Some env) = IsAsOutside locals base env

-- a walk from an environment reaches a table of as many locals, and an environment that agrees with it at each local
-- that is not among these; so does the exit environment of the enclosing loop, if it did before
pub record KeepsOutside (locals : List ℕ) (table : DeclaredTypes) (env : Env) (exit_env : Option Env) (w : Walk) : Type 0 where
  pub long : length w.table ≡ length table
  pub behind : IsAsOutsideIfAny locals env w.env
  pub out_of_loop : IsAsOutsideIfAny locals env exit_env → IsAsOutsideIfAny locals env w.exit_env

-- the law that a walk over a suite, from an environment of well-formed types with as many locals as the table, leaves
-- each local that the suite does not touch unchanged
abbrev pub SuitesKeepUntouchedLocals : Type 0
SuitesKeepUntouchedLocals =
    (context : BodyContext) (table : DeclaredTypes) (env : Env) (exit_env : Option Env) (found : List Note) (b : Stmts)
    (locals : List ℕ)
    → length table ≡ length env
    → IsWellFormedEnv context.context.bases env
    → AreAmong locals (touched_by context.context.resolve b)
    → KeepsOutside locals table env exit_env
    (walk_suite context (record { table = table; env = Some env; exit_env = exit_env; found = found }) b)
