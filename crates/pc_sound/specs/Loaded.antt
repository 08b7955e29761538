-- A module is loaded: each of its names is bound to its meaning, and each class is made according to its facts.
-- Own rule of the profile.
use Rattle.std.specs.Prelude.{◌≡◌, ℕ, List, [], ◌∷◌, Bool as Test, true, false, Option, Some, None, slice_get}
use Rattle.pc_tree.specs.Tree.{FuncDef, ClassDef, Module}
use Rattle.pc_scope.specs.declared.resolution.Builtin.{Builtin}
use Rattle.pc_scope.specs.declared.resolution.Owner.TheVariants as owners
use Rattle.pc_scope.specs.declared.resolution.NameMeaning.TheVariants as meaning
use Rattle.pc_scope.specs.Reserved.{builtin_of}
use Rattle.pc_scope.specs.Bindings.{functions_in, classes_in}
use Rattle.pc_scope.specs.Resolution.{function_of, resolve_in_module}
use Rattle.pc_types.specs.Tree.{Tree}
use Rattle.pc_types.specs.Tree as tree
use Rattle.pc_types.specs.Below.{Bases, Below}
use Rattle.pc_class.specs.Bases.{bases_of}
use Rattle.pc_class.specs.Facts.{TypedParameter, Method, parameters_of, return_type, classes_of, class_facts_at}
use Rattle.pc_value.specs.Value.{Value, whole, boolean, string, none}
use Rattle.pc_machine.specs.State as state
use Rattle.pc_machine.specs.State.{Function, Class, Globals, a_value, a_function, a_class}
use Rattle.pc_machine.specs.Names.{global_by_name}
use Rattle.pc_machine.specs.Calls.{is_ancestor}
use Rattle.pc_sound.specs.Values.{HeapTyping, HasType}

-- the ancestors of a class that was made are the classes above it
pub record AncestorsAre (bases : Bases) (c : ℕ) (ancestors : List ℕ) : Type 0 where
  pub below : (e : ℕ) → is_ancestor e ancestors ≡ true → Below bases (tree.Class c) (tree.Class e)
  pub reached : (e : ℕ) → Below bases (tree.Class c) (tree.Class e) → is_ancestor e ancestors ≡ true

-- a value that is not in the heap, such as that of a literal
abbrev pub IsOutsideHeap : Value → Type 0
IsOutsideHeap (whole n) = Unit {0}
IsOutsideHeap (boolean b) = Unit {0}
IsOutsideHeap (string cs) = Unit {0}
IsOutsideHeap none = Unit {0}
IsOutsideHeap _ = ⊥

-- a default is present exactly if the facts say so, and then it is plain and of its type
abbrev pub DefaultHas : Bases → HeapTyping → Tree → Test → Option Value → Type 0
DefaultHas bases k t true (Some v) = IsOutsideHeap v × HasType bases k t v
DefaultHas bases k t false None = Unit {0}
DefaultHas bases k t has v = ⊥

-- the defaults of all parameters agree with the facts, in order and under their names
abbrev pub DefaultsHave : Bases → HeapTyping → List state.FormalParameter → List TypedParameter → Type 0
DefaultsHave bases k [] [] = Unit {0}
DefaultsHave bases k (p ∷ ps) (q ∷ qs) = (p.name ≡ q.name) × (DefaultHas bases k q.type q.has_default p.default
    × DefaultsHave bases k ps qs)
DefaultsHave bases k _ _ = ⊥

-- a function is made by its def
pub record MadeOf (m : Module) (k : HeapTyping) (f : Function) (d : FuncDef) : Type 0 where
  pub name : f.name ≡ d.name
  pub body : f.body ≡ d.body
  pub parameters : DefaultsHave (bases_of m) k f.parameters (parameters_of m d.params)

-- a method is made by its def in a class
pub record MethodIs (m : Module) (k : HeapTyping) (f : Function) (q : Method) : Type 0 where
  pub def : FuncDef
  pub at : function_of m (owners.Method q.owner q.number) ≡ Some def
  pub made : MadeOf m k f def
  pub name : q.name ≡ def.name.text
  pub place : q.place ≡ def.name.place
  pub parameters : q.parameters ≡ parameters_of m def.params
  pub returns : q.returns ≡ return_type m def

-- all methods of a class are made by their defs, in order
abbrev pub MethodsAre : Module → HeapTyping → List Function → List Method → Type 0
MethodsAre m k [] [] = Unit {0}
MethodsAre m k (f ∷ fs) (q ∷ qs) = MethodIs m k f q × MethodsAre m k fs qs
MethodsAre m k _ _ = ⊥

-- a class is made according to its facts
pub record ClassIs (m : Module) (k : HeapTyping) (made : List Class) (c : ℕ) : Type 0 where
  pub class : Class
  pub is : slice_get made c ≡ Some class
  pub fields : DefaultsHave (bases_of m) k class.fields (class_facts_at (classes_of m) c).fields
  pub methods : MethodsAre m k class.methods (class_facts_at (classes_of m) c).methods
  pub ancestors : AncestorsAre (bases_of m) c class.ancestors

-- a name is bound to a value of the type
pub record ConstantIs (m : Module) (k : HeapTyping) (globals : Globals) (word : List ℕ) (t : Tree) : Type 0 where
  pub value : Value
  pub is : global_by_name word globals ≡ Some (a_value value)
  pub has : HasType (bases_of m) k t value

-- a name is bound to the function that its def made
pub record FunctionIs (m : Module) (k : HeapTyping) (globals : Globals) (word : List ℕ) (d : FuncDef) : Type 0 where
  pub function : Function
  pub is : global_by_name word globals ≡ Some (a_function function)
  pub made : MadeOf m k function d

-- the module is loaded, with constants of these types: each name is bound to its meaning, no reserved name is bound,
-- and exactly the classes of the module are made
pub record IsLoaded (m : Module) (constants : List Tree) (k : HeapTyping) (made : List Class)
    (globals : Globals) : Type 0 where
  pub constant : (word : List ℕ) (i : ℕ) (t : Tree) → resolve_in_module m word ≡ meaning.Const i
      → slice_get constants i ≡ Some t → ConstantIs m k globals word t
  pub function : (word : List ℕ) (i : ℕ) (d : FuncDef) → resolve_in_module m word ≡ meaning.Func i
      → slice_get (functions_in m.items) i ≡ Some d → FunctionIs m k globals word d
  pub class : (word : List ℕ) (c : ℕ) → resolve_in_module m word ≡ meaning.Class c → global_by_name word globals
      ≡ Some (a_class c)
  pub classes : (c : ℕ) (t : ClassDef) → slice_get (classes_in m.items) c ≡ Some t → ClassIs m k made c
  pub reserved : (word : List ℕ) (b : Builtin) → builtin_of word ≡ Some b → global_by_name word globals ≡ None
  pub no_more : (c : ℕ) → slice_get (classes_in m.items) c ≡ None → slice_get made c ≡ None
