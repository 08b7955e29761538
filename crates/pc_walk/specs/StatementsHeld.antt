-- The context of statements as the program holds it, and the program's results for expressions, environments and
-- bindings, in terms of the definitions. Own rule of the profile.
use Rattle.std.specs.Prelude.{◌≡◌, List, All, map, true, Option, Some, None}
use Rattle.std.specs.Option.{option_map}
use Rattle.pc_tree.specs.Tree.{module_of}
use Rattle.pc_scope.specs.ModuleScopes.{AreScopes}
use Rattle.pc_types.specs.Tree.{Tree}
use Rattle.pc_types.specs.Below.{Bases}
use Rattle.pc_types.specs.WellFormed.{IsWellFormed}
use Rattle.pc_class.specs.Tables.{HasEntries, classes_with}
use Rattle.pc_flow.specs.Naming.{meanings}
use Rattle.pc_flow.specs.WellFormed.{IsWellFormedEnv}
use Rattle.pc_flow.specs.Stored.{HasEach, env_of}
use Rattle.pc_notes.specs.Notes.{Note}
use Rattle.pc_rules.specs.Operations.{Label}
use Rattle.pc_rules.specs.Context.{Context}
use Rattle.pc_rules.specs.Computed.Standing.{HasSignature, MeansLabel, signature_with}
use Rattle.pc_rules.specs.Laws.WellFormed.{ContextWellFormed}
use Rattle.pc_rules.specs.declared.label.Label.{Label as RustLabel}
use Rattle.pc_rules.specs.Computed.ModuleParents.{class_parents}
use Rattle.pc_module_rules.specs.Computed.Statements.{BodyContext, BindingResult}
use Rattle.pc_walk.specs.declared.context.BodyContext.{BodyContext as RustBodyContext}

module _ {Ty : Type 0} (tree : Ty → Tree) where
  -- the context of expressions that a program's body context means
  abbrev pub context_in : RustBodyContext Ty → Context
  context_in f = record {
    bases = class_parents f.globals.now;
    classes = classes_with tree f.globals.now.classes.now;
    functions = map (signature_with tree) f.globals.now.functions.now;
    constants = map tree f.globals.now.constants.now;
    known = f.globals.now.known;
    in_body = true;
    resolve = meanings f.names.now;
  }

  -- the body context that a program's body context means
  abbrev pub body_context_with : RustBodyContext Ty → BodyContext
  body_context_with f = record {
    whole = module_of f.globals.now.outline.now.tree.now;
    context = context_in f;
    returned = tree f.returned.now;
    keeps = f.globals.now.keeps;
  }

-- a type is of the store and well-formed
pub record HoldsType {Ty : Type 0} (has : Ty → Type 0) (tree : Ty → Tree) (bases : Bases) (ty : Ty) : Type 0 where
  pub given : has ty
  pub well_formed : IsWellFormed bases (tree ty)

-- a type, if there is one, is of the store and well-formed
abbrev pub HoldsTypeIfAny : {Ty : Type 0} (has : Ty → Type 0) (tree : Ty → Tree) (bases : Bases) → Option Ty → Type 0
HoldsTypeIfAny has tree bases None = Unit {0}
HoldsTypeIfAny has tree bases (Some ty) = HoldsType has tree bases ty

-- the types of locals, declared or current, are of the store and well-formed
pub record HoldsTypes {Ty : Type 0} (has : Ty → Type 0) (tree : Ty → Tree) (bases : Bases)
    (types : List (Option Ty)) : Type 0 where
  pub given : HasEach has types
  pub well_formed : IsWellFormedEnv bases (env_of tree types)

-- the types of an environment, if there is one, are of the store and well-formed
abbrev pub HoldsTypesIfAny : {Ty : Type 0} (has : Ty → Type 0) (tree : Ty → Tree) (bases : Bases)
    → Option (List (Option Ty)) → Type 0
HoldsTypesIfAny has tree bases None = Unit {0}
HoldsTypesIfAny has tree bases (Some types) = HoldsTypes has tree bases types

-- the store gave all types of a body context, all of them are well-formed, and names mean what the module's scopes say
pub record HoldsContext {Ty : Type 0} (has : Ty → Type 0) (tree : Ty → Tree) (f : RustBodyContext Ty) : Type 0 where
  pub classes : HasEntries has f.globals.now.classes.now
  pub functions : All (HasSignature has) f.globals.now.functions.now
  pub constants : All has f.globals.now.constants.now
  pub returned : HoldsType has tree (class_parents f.globals.now) f.returned.now
  pub context : ContextWellFormed (context_in tree f)
  pub scopes : AreScopes (module_of f.globals.now.outline.now.tree.now) f.globals.now.outline.now.scopes.now

module _ {Ty : Type 0} (tree : Ty → Tree) where
  -- the result of a binding that the program's values mean
  abbrev pub bound_with : (declared env : List (Option Ty)) → List Note → BindingResult
  bound_with declared env found = record { table = env_of tree declared; env = env_of tree env; found = found }

module _ {Store Ty : Type 0} (has : Store → Ty → Type 0) (tree : Ty → Tree) (bases : Bases) where
  -- a label with a well-formed type of the store means this label, with each code once
  pub record GivesLabel (store : Store) (l : RustLabel Ty) (m : Label) : Type 0 where
    pub label : MeansLabel has tree store l m
    pub well_formed : IsWellFormed bases (tree l.ty)

  -- the types of locals are well-formed types of the store and mean this environment
  pub record GivesTypes (store : Store) (types : List (Option Ty)) (env : List (Option Tree)) : Type 0 where
    pub holds : HoldsTypes (has store) tree bases types
    pub is : env_of tree types ≡ env

  -- the program's declared types, environment and notes are well-formed and mean this result of a binding
  pub record GivesBound (store : Store) (declared env : List (Option Ty)) (found : List Note)
      (b : BindingResult) : Type 0 where
    pub declared_holds : HoldsTypes (has store) tree bases declared
    pub env_holds : HoldsTypes (has store) tree bases env
    pub is : bound_with tree declared env found ≡ b

  -- the types of locals, if there are any, are well-formed types of the store and mean this environment, if there is
  -- one
  pub record GivesTypesIfAny (store : Store) (types : Option (List (Option Ty)))
      (env : Option (List (Option Tree))) : Type 0 where
    pub holds : HoldsTypesIfAny (has store) tree bases types
    pub is : option_map (env_of tree) types ≡ env
