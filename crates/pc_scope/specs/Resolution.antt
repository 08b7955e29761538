-- The meaning of a name: a local, the first binding of the module, a built-in, or nothing.
-- Language Reference 3.12, 4.2.2 "Resolution of names".
use Rattle.std.specs.Prelude.{ℕ, suc, List, [], ◌∷◌, ◌++◌, Bool, ◌||◌, if◌then◌else◌, Option, Some, None, codes}
use Rattle.std.specs.Prelude.{bytes_eq, slice_get}
use Rattle.std.specs.List.{list_any}
use Rattle.std.specs.Option.{option_map}
use Rattle.pc_tree.specs.Tree.{FuncDef, ClassDef, Item, constant_item, class_item, def_item, Module}
use Rattle.pc_scope.specs.declared.resolution.Builtin.{Builtin}
use Rattle.pc_scope.specs.declared.resolution.Owner.{Owner}
use Rattle.pc_scope.specs.declared.resolution.Owner.TheVariants as owners
use Rattle.pc_scope.specs.declared.resolution.NameMeaning.{NameMeaning}
use Rattle.pc_scope.specs.declared.resolution.NameMeaning.TheVariants as meaning
use Rattle.pc_scope.specs.Reserved.{builtin_of, is_builtin_name}
use Rattle.pc_tree.specs.Stopping.{bound_by}
use Rattle.pc_scope.specs.Bindings.{texts, param_names, classes_in, functions_in, methods_in}

-- the position of a text in a list
abbrev pub index_of : List ℕ → List (List ℕ) → Option ℕ
index_of text [] = None
index_of text (t ∷ ts) = if bytes_eq text t then Some 0 else option_map suc (index_of text ts)

-- the text is one of these
abbrev pub is_one_of : List ℕ → List (List ℕ) → Bool
is_one_of text names = list_any (bytes_eq text) names

-- each text once, in the order of first occurrence, without reserved names and the texts before
abbrev pub first_of_each : List (List ℕ) → List (List ℕ) → List (List ℕ)
first_of_each before [] = []
first_of_each before (t ∷ ts) = if is_builtin_name t || is_one_of t before then first_of_each before ts
    else t ∷ first_of_each (t ∷ before) ts

-- the name that a method binds before its parameters: `self`
abbrev pub receiver : Owner → List (List ℕ)
receiver owners.Module = []
receiver (owners.Func i) = []
receiver (owners.Method c i) = codes "self" ∷ []

-- the names that a call binds: `self` in a method, then the parameters
abbrev pub entry_texts : Owner → FuncDef → List (List ℕ)
entry_texts owner f = receiver owner ++ texts (param_names f.params)

-- the locals of a function, numbered from 0: the names at its binding positions without reserved ones
abbrev pub locals : Owner → FuncDef → List (List ℕ)
locals owner f = first_of_each [] (entry_texts owner f ++ texts (bound_by f.body))

-- the method with this number in a class, if the class and the method exist
abbrev pub method_at : Option ClassDef → ℕ → Option FuncDef
method_at None i = None
method_at (Some c) i = slice_get (methods_in c.members) i

-- the function or method that an owner is, none for the module itself
abbrev pub function_of : Module → Owner → Option FuncDef
function_of m owners.Module = None
function_of m (owners.Func i) = slice_get (functions_in m.items) i
function_of m (owners.Method c i) = method_at (slice_get (classes_in m.items) c) i

-- the locals of an owner's function, none if there is no function
abbrev pub locals_of_function : Owner → Option FuncDef → List (List ℕ)
locals_of_function owner None = []
locals_of_function owner (Some f) = locals owner f

-- the locals of an owner, none for the module itself
abbrev pub locals_of : Module → Owner → List (List ℕ)
locals_of m owner = locals_of_function owner (function_of m owner)

-- the first binding of a name by items, given how many constants, functions and classes come before
abbrev pub bound_first : (constants functions classes : ℕ) → List Item → List ℕ → Option NameMeaning
bound_first k f c [] text = None
bound_first k f c (constant_item p i ∷ rest) text = if bytes_eq i.name.text text then Some (meaning.Const k)
    else bound_first (suc k) f c rest text
bound_first k f c (def_item p i ∷ rest) text = if bytes_eq i.name.text text then Some (meaning.Func f)
    else bound_first k (suc f) c rest text
bound_first k f c (class_item p i ∷ rest) text = if bytes_eq i.name.text text then Some (meaning.Class c)
    else bound_first k f (suc c) rest text

-- a first answer, or else the next
abbrev pub or_meaning : Option NameMeaning → NameMeaning → NameMeaning
or_meaning None next = next
or_meaning (Some r) next = r

-- a local as the meaning of a name, if there is one
abbrev pub local_meaning : Option ℕ → Option NameMeaning
local_meaning None = None
local_meaning (Some n) = Some (meaning.Local n)

-- a built-in as the meaning of a name, if there is one
abbrev pub builtin_meaning : Option Builtin → Option NameMeaning
builtin_meaning None = None
builtin_meaning (Some b) = Some (meaning.Builtin b)

-- the meaning of a name at module level, or in a function that does not have it as a local
abbrev pub resolve_in_module : Module → List ℕ → NameMeaning
resolve_in_module m text =
    or_meaning (builtin_meaning (builtin_of text)) (or_meaning (bound_first 0 0 0 m.items text) meaning.None)

-- the meaning of a name where these are the locals
abbrev pub resolve_among : Module → (names : List (List ℕ)) → List ℕ → NameMeaning
resolve_among m names text = or_meaning (local_meaning (index_of text names)) (resolve_in_module m text)

-- the meaning of a name to its owner
abbrev pub resolve : Module → Owner → List ℕ → NameMeaning
resolve m owner text = resolve_among m (locals_of m owner) text
