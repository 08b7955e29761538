-- A walk over the statements of a function, as the program holds it, and its steps, in terms of the definitions. Own
-- rule of the profile.
use Rattle.std.specs.Prelude.{◌≡◌, ◌++◌, List, Option}
use Rattle.pc_types.specs.Tree.{Tree}
use Rattle.pc_types.specs.Store.{KeepsTypes}
use Rattle.pc_types.specs.declared.store.TypeStore.{Ghosts as StoreOf}
use Rattle.pc_flow.specs.Environment.{Env}
use Rattle.pc_flow.specs.Stored.{env_of}
use Rattle.pc_notes.specs.Notes.{Note, notes_of}
use Rattle.pc_rules.specs.Operations.{Label}
use Rattle.pc_rules.specs.Computed.Standing.{Standing}
use Rattle.pc_rules.specs.declared.label.Label.{Label as RustLabel}
use Rattle.pc_rules.specs.Computed.ModuleParents.{class_parents}
use Rattle.pc_module_rules.specs.Computed.Statements.{BodyContext, BindingResult, DeclaredTypes, standing_here}
use Rattle.pc_walk.specs.StatementsHeld.{body_context_with, HoldsContext, HoldsType, HoldsTypeIfAny, HoldsTypes}
use Rattle.pc_walk.specs.StatementsHeld.{HoldsTypesIfAny, GivesLabel, GivesTypes, GivesTypesIfAny, bound_with}
use Rattle.pc_walk.specs.declared.walk.Walk.{Walk}

module _ {Store Ty : Type 0} (S : StoreOf Store Ty) where
  -- a type of the walk: it is of the store and well-formed
  abbrev pub HoldsOne : Walk Store Ty → Ty → Type 0
  HoldsOne w ty = HoldsType (S.has w.store.now) S.tree (class_parents w.context.globals.now) ty

  -- a type of the walk, if there is one: it is of the store and well-formed
  abbrev pub HoldsWant : Walk Store Ty → Option Ty → Type 0
  HoldsWant w ty = HoldsTypeIfAny (S.has w.store.now) S.tree (class_parents w.context.globals.now) ty

  -- an environment of the walk, or its declared types: all types are of the store and well-formed
  abbrev pub HoldsEnv : Walk Store Ty → List (Option Ty) → Type 0
  HoldsEnv w env = HoldsTypes (S.has w.store.now) S.tree (class_parents w.context.globals.now) env

  -- an environment of the walk, if there is one: all types are of the store and well-formed
  abbrev pub HoldsWay : Walk Store Ty → Option (List (Option Ty)) → Type 0
  HoldsWay w way = HoldsTypesIfAny (S.has w.store.now) S.tree (class_parents w.context.globals.now) way

  -- a label of the walk means this label
  abbrev pub IsLabel : Walk Store Ty → RustLabel Ty → Label → Type 0
  IsLabel w l m = GivesLabel S.has S.tree (class_parents w.context.globals.now) w.store.now l m

  -- a type of the walk means this type
  abbrev pub IsType : Walk Store Ty → Ty → Tree → Type 0
  IsType w ty t = HoldsOne w ty × (S.tree ty ≡ t)

  -- an environment of the walk means this environment
  abbrev pub IsEnv : Walk Store Ty → List (Option Ty) → Env → Type 0
  IsEnv w types env = GivesTypes S.has S.tree (class_parents w.context.globals.now) w.store.now types env

  -- an environment of the walk, if there is one, means this environment, if there is one
  abbrev pub IsWay : Walk Store Ty → Option (List (Option Ty)) → Option Env → Type 0
  IsWay w types way = GivesTypesIfAny S.has S.tree (class_parents w.context.globals.now) w.store.now types way

  -- a step of the walk: types of its store are kept, and the context and everything lent to it are the same
  pub record WalkKept (old new : Walk Store Ty) : Type 0 where
    pub kept : KeepsTypes S.has old.store.now new.store.now
    pub context : new.context ≡ old.context
    pub same_store : new.store.ghost_name ≡ old.store.ghost_name
    pub same_declared : new.declared.ghost_name ≡ old.declared.ghost_name
    pub same_notes : new.found.ghost_name ≡ old.found.ghost_name

  -- a step of the walk declared nothing and found nothing
  pub record IsQuiet (old new : Walk Store Ty) : Type 0 where
    pub declared : new.declared.now ≡ old.declared.now
    pub found : notes_of new.found.now ≡ notes_of old.found.now

module _ {Store Ty : Type 0} (S : StoreOf Store Ty) where
  -- the body context of the walk
  abbrev pub body_context_in : Walk Store Ty → BodyContext
  body_context_in w = body_context_with S.tree w.context

  -- the standing of an expression in this environment of the walk
  abbrev pub standing_in : Walk Store Ty → List (Option Ty) → Standing
  standing_in w env = standing_here (body_context_in w) (env_of S.tree w.declared.now) (env_of S.tree env)

  -- the walk is valid in this environment: the store gave all types, all are well-formed, and names mean what the
  -- scopes say
  pub record IsValidIn (w : Walk Store Ty) (env : List (Option Ty)) : Type 0 where
    pub context : HoldsContext (S.has w.store.now) S.tree w.context
    pub declared : HoldsTypes (S.has w.store.now) S.tree (class_parents w.context.globals.now) w.declared.now
    pub current : HoldsTypes (S.has w.store.now) S.tree (class_parents w.context.globals.now) env

  -- in this environment a step of the walk appended these notes, and declared nothing
  pub record Found (old : Walk Store Ty) (env : List (Option Ty)) (new : Walk Store Ty)
      (finds : BodyContext → Standing → List Note) : Type 0 where
    pub pushed : notes_of new.found.now ≡ notes_of old.found.now ++ finds (body_context_in old) (standing_in old env)
    pub declared : new.declared.now ≡ old.declared.now
    pub stands : IsValidIn new env

  -- in this environment a step of the walk bound a name, with this result
  pub record BindsName (old : Walk Store Ty) (env : List (Option Ty)) (new : Walk Store Ty)
      (behind : List (Option Ty)) (binds : BodyContext → DeclaredTypes → Env → List Note → BindingResult) : Type 0 where
    pub is : bound_with S.tree new.declared.now behind (notes_of new.found.now)
        ≡ binds (body_context_in old) (env_of S.tree old.declared.now) (env_of S.tree env) (notes_of old.found.now)
    pub stands : IsValidIn new behind
