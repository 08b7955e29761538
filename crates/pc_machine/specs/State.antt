-- The state of a run: the classes made so far, the module's bindings, the frame of the running function, and the heap.
-- Language Reference 4.1 "Structure of a program", 4.2 "Naming and binding".
use Rattle.std.specs.Prelude.{ℕ, List, [], Option}
use Rattle.pc_tree.specs.Tree.{Name, Stmts}
use Rattle.pc_value.specs.Value.{Value, Heap}

-- a parameter, or a field of a class, with its default if it has one
pub record FormalParameter : Type 0 where
  pub name : List ℕ
  pub default : Option Value

-- a function or method as its def made it; `self` is not among the parameters
pub record Function : Type 0 where
  pub name : Name
  pub parameters : List FormalParameter
  pub body : Stmts

-- a class: the numbers of itself and its ancestors, its fields with inherited ones first, and its methods with the
-- nearest first
pub record Class : Type 0 where
  pub ancestors : List ℕ
  pub fields : List FormalParameter
  pub methods : List Function

-- the meaning of a name that the module binds: a constant's value, a function, or the number of a class
pub data GlobalBinding : Type 0 where
  a_value : (value : Value) → GlobalBinding
  a_function : (function : Function) → GlobalBinding
  a_class : (class : ℕ) → GlobalBinding

-- a name that the module has bound, with its meaning
pub record Global : Type 0 where
  pub name : List ℕ
  pub is : GlobalBinding

-- the module's bindings so far, in order
abbrev pub Globals : Type 0
Globals = List Global

-- a local with its value if it is bound
pub record Local : Type 0 where
  pub name : List ℕ
  pub value : Option Value

-- the locals of the running function
abbrev pub Frame : Type 0
Frame = List Local

-- the state of a run: the classes made so far, the module's bindings, the frame and the heap
pub record State : Type 0 where
  pub classes : List Class
  pub globals : Globals
  pub frame : Frame
  pub heap : Heap

-- the state before the first item, with nothing bound
abbrev pub nothing_bound : State
nothing_bound = record { classes = []; globals = []; frame = []; heap = [] }
