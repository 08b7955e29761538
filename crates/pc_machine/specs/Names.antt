-- Names at run time: the names a function binds, the module's bindings, the reserved names.
-- Language Reference 4.2 "Naming and binding"; the reserved names: own rule of the profile.
use Rattle.std.specs.Prelude.{ℕ, Bool, true, false, List, [], ◌∷◌, ◌++◌, map, if◌then◌else◌, Option, Some, None}
use Rattle.pc_source.specs.ReservedNames.{is_reserved}
use Rattle.pc_tree.specs.Tree.{Stmts, no_stmts, more_stmts, Stmt, pass, breaks, continues, returns, asserts, annotated}
use Rattle.pc_tree.specs.Tree.{assigns, evaluates, while_loop, for_loop, conditional, Branches, no_branches}
use Rattle.pc_tree.specs.Tree.{more_branches, Target, to_name, to_attribute, to_index}
use Rattle.pc_value.specs.Value.{Value}
use Rattle.pc_value.specs.Texts.{same_text}
use Rattle.pc_machine.specs.State.{Local, Frame, Function, Globals, GlobalBinding, a_value, a_function, a_class, State}

-- the names that a target binds
abbrev pub target_names : Target → List (List ℕ)
target_names (to_name n) = n.text ∷ []
target_names (to_attribute p e f) = []
target_names (to_index p e i) = []

-- the names that statements bind: by an assignment, an annotation, or as the target of a `for`
abbrev mutual
  pub names_bound : Stmts → List (List ℕ)
  names_bound no_stmts = []
  names_bound (more_stmts s rest) = names_bound_by s ++ names_bound rest

  -- the names that one statement binds, with those of its suites
  pub names_bound_by : Stmt → List (List ℕ)
  names_bound_by (pass p) = []
  names_bound_by (breaks p) = []
  names_bound_by (continues p) = []
  names_bound_by (returns p e) = []
  names_bound_by (asserts p e m) = []
  names_bound_by (annotated p n a e) = n.text ∷ []
  names_bound_by (assigns p t e) = target_names t
  names_bound_by (evaluates p e) = []
  names_bound_by (while_loop p e body) = names_bound body
  names_bound_by (for_loop p n e body) = n.text ∷ names_bound body
  names_bound_by (conditional p branches otherwise) = names_bound_in branches ++ names_bound otherwise

  -- the names that the suites after `if` and `elif` bind
  pub names_bound_in : Branches → List (List ℕ)
  names_bound_in no_branches = []
  names_bound_in (more_branches e body rest) = names_bound body ++ names_bound_in rest

-- a local that is not bound yet
abbrev pub unbound : List ℕ → Local
unbound name = record { name = name; value = None }

-- the frame of a call: the parameters with their values, then the other names that the function binds
abbrev pub frame_of : Function → List Local → Frame
frame_of f arguments = arguments ++ map unbound (names_bound f.body)

-- the local of a name, if the frame has one, with its value if it is bound
abbrev pub local_by_name : List ℕ → Frame → Option (Option Value)
local_by_name name [] = None
local_by_name name (l ∷ rest) = if same_text l.name name then Some l.value else local_by_name name rest

-- the frame after a local is bound
abbrev pub with_local : List ℕ → Value → Frame → Frame
with_local name v [] = []
with_local name v (l ∷ rest) = if same_text l.name name then record { name = l.name; value = Some v } ∷ rest
    else l ∷ with_local name v rest

-- the module's binding of a name so far
abbrev pub global_by_name : List ℕ → Globals → Option GlobalBinding
global_by_name name [] = None
global_by_name name (g ∷ rest) = if same_text g.name name then Some g.is else global_by_name name rest

-- the meaning of a name where it is read: a value, an unbound local, a function, a class, a reserved name, or nothing
pub data Meaning : Type 0 where
  means_value : (value : Value) → Meaning
  means_unbound : Meaning
  means_function : (function : Function) → Meaning
  means_class : (class : ℕ) → Meaning
  means_reserved : Meaning
  means_nothing : Meaning

-- the meaning of a binding of the module
abbrev pub meaning_of_bound : GlobalBinding → Meaning
meaning_of_bound (a_value v) = means_value v
meaning_of_bound (a_function f) = means_function f
meaning_of_bound (a_class c) = means_class c

-- the meaning of a name outside functions: the module's binding, else reserved or nothing
abbrev pub meaning_of_global : Bool → Option GlobalBinding → Meaning
meaning_of_global reserved (Some g) = meaning_of_bound g
meaning_of_global true None = means_reserved
meaning_of_global false None = means_nothing

-- the meaning of a name, given its local, bound or not; without a local, its meaning outside the function
abbrev pub meaning_of_local : Meaning → Option (Option Value) → Meaning
meaning_of_local outer None = outer
meaning_of_local outer (Some None) = means_unbound
meaning_of_local outer (Some (Some v)) = means_value v

-- the meaning of a name: local in all of a function that binds it, else the module's, else reserved
abbrev pub meaning_in_run : List ℕ → State → Meaning
meaning_in_run name s = meaning_of_local (meaning_of_global (is_reserved name) (global_by_name name s.globals))
    (local_by_name name s.frame)
