-- The meaning of stored types in environments and among declared types.
-- Own rule of the profile.
use Rattle.std.specs.Prelude.{◌≡◌, List, Option, Some, None, All, map, unwrap_or}
use Rattle.std.specs.Option.{option_map}
use Rattle.pc_types.specs.Tree.{Tree, Any}
use Rattle.pc_flow.specs.Environment.{Env}

-- the type of a local is one that the store gave, if the local has a type
abbrev pub HasOne : {Ty : Type 0} → (has : Ty → Type 0) → Option Ty → Type 0
HasOne has None = Unit {0}
HasOne has (Some ty) = has ty

-- the type of each local that has one is one that the store gave
abbrev pub HasEach : {Ty : Type 0} → (has : Ty → Type 0) → List (Option Ty) → Type 0
HasEach has types = All (HasOne has) types

module _ {Ty : Type 0} (tree : Ty → Tree) where
  -- the environment that these current types mean
  abbrev pub env_of : List (Option Ty) → Env
  env_of types = map (option_map tree) types

  -- a declared type; an unknown one counts as Any
  abbrev pub declared_one : Option Ty → Tree
  declared_one ty = unwrap_or (option_map tree ty) Any

  -- the declared types that these stored types mean
  abbrev pub declared_of : List (Option Ty) → List Tree
  declared_of types = map declared_one types

module _ {Store Ty : Type 0} (has : Store → Ty → Type 0) (tree : Ty → Tree) where
  -- a stored type that means this type, or none if there is no type
  pub record GivesOne (store : Store) (ty : Option Ty) (t : Option Tree) : Type 0 where
    pub given : HasOne (has store) ty
    pub is : option_map tree ty ≡ t

  -- stored current types that mean this environment
  pub record GivesEnv (store : Store) (types : List (Option Ty)) (env : Env) : Type 0 where
    pub given : HasEach (has store) types
    pub is : env_of tree types ≡ env
