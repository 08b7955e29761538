-- Environments: the assigned locals and their current types, by number; assignment, joins, loop heads. Own rules of the
-- profile; typing specification, "Type narrowing".
use Rattle.std.specs.Prelude.{ℕ, zero, suc, List, [], ◌∷◌, replicate, Bool, if◌then◌else◌, Option, Some, None}
use Rattle.std.specs.Prelude.{unwrap_or, slice_set, slice_index_or}
use Rattle.pc_tree.specs.declared.code.Code.{Code}
use Rattle.pc_types.specs.Tree.{Tree, Any, Object, Never, Union}
use Rattle.pc_types.specs.Below.{Bases}
use Rattle.pc_types.specs.Join.{join}

-- for each local its current type, or none if it is not assigned
abbrev pub Env : Type 0
Env = List (Option Tree)

-- the current type of a local, if it is assigned
abbrev pub current : Env → ℕ → Option Tree
current env x = slice_index_or env x None

-- the declared type of a local
abbrev pub declared_type : List Tree → ℕ → Tree
declared_type declared x = slice_index_or declared x Any

-- a local assigned, with a current type
abbrev pub assign : Env → ℕ → Tree → Env
assign env x t = slice_set env x (Some t)

-- the current type after an assignment of a value of type `from`: that type if the declared type is a union and the
-- flow has no finding, else the declared type
abbrev pub assigned_type : (declared from : Tree) → (found : Option Code) → Tree
assigned_type (Union a b) from None = from
assigned_type declared from found = declared

-- the join of two types in an expression, or object if there is none
abbrev pub join_or_object : Bases → Tree → Tree → Tree
join_or_object bases s t = unwrap_or (join bases s t) Object

-- the join of a type with several others in turn
abbrev pub join_onto : Bases → Tree → List Tree → Tree
join_onto bases s [] = s
join_onto bases s (t ∷ ts) = join_onto bases (join_or_object bases s t) ts

-- the join of several types from the left; Never for no types
abbrev pub join_all : Bases → List Tree → Tree
join_all bases ts = join_onto bases Never ts

-- a local where two paths join: assigned if both assign it, with the join of its types, or its declared type if there
-- is no join
abbrev pub join_local : Bases → Tree → Option Tree → Option Tree → Option Tree
join_local bases d None t = None
join_local bases d (Some s) None = None
join_local bases d (Some s) (Some t) = Some (unwrap_or (join bases s t) d)

-- two environments joined local by local
abbrev pub join_env : Bases → List Tree → Env → Env → Env
join_env bases (d ∷ ds) (s ∷ ss) (t ∷ ts) = join_local bases d s t ∷ join_env bases ds ss ts
join_env bases _ _ _ = []

-- several environments joined from the left
abbrev pub join_envs_onto : Bases → List Tree → Env → List Env → Env
join_envs_onto bases ds env [] = env
join_envs_onto bases ds env (e ∷ es) = join_envs_onto bases ds (join_env bases ds env e) es

-- the join of the paths that can complete, or none if no path can
abbrev pub join_ways : Bases → List Tree → List Env → Option Env
join_ways bases ds [] = None
join_ways bases ds (e ∷ es) = Some (join_envs_onto bases ds e es)

-- a local at a loop head: if it is assigned, its declared type if the loop binds it, else its current type
abbrev pub head_local : Bool → Tree → Option Tree → Option Tree
head_local bound d None = None
head_local bound d (Some t) = Some (if bound then d else t)

-- the environment at a loop head, given the one before the loop and the locals that the loop binds
abbrev pub loop_head : (bound : ℕ → Bool) → List Tree → Env → Env
loop_head bound (d ∷ ds) (s ∷ ss) = head_local (bound zero) d s ∷ loop_head (λ x. bound (suc x)) ds ss
loop_head bound _ _ = []

-- no local is assigned
abbrev pub none_assigned : ℕ → Env
none_assigned n = replicate n None
