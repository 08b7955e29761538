-- The name that binds each name of a module. Language Reference 3.12, 4.2.1 "Binding of names", 4.2.2 "Resolution of
-- names".
use Rattle.std.specs.Prelude.{ℕ, Bool, false, ◌||◌, List, [], ◌∷◌, ◌++◌, map, Option, None, Some, codes, bytes_eq}
use Rattle.std.specs.Prelude.{if◌then◌else◌}
use Rattle.pc_source.specs.ReservedNames.{is_reserved}
use Rattle.pc_tree.specs.Tree.{Name, FuncDef, Module}
use Rattle.pc_tree.specs.Stopping.{name_of_item, name_of_member, name_of_param, bound_by}
use Rattle.pc_bindings.specs.Mentions.{Scope, in_module, in_function, in_method, of_class, Mention}

-- the names that a function binds: its parameters, then those that its body binds, in text order
abbrev pub bound_in_function : FuncDef → List Name
bound_in_function f = map name_of_param f.params ++ bound_by f.body

-- the names that can bind a name in this scope, the nearest scope first, each scope in text order
abbrev pub names_around : Module → Scope → List Name
names_around m in_module = map name_of_item m.items
names_around m (in_function f) = bound_in_function f ++ map name_of_item m.items
names_around m (in_method c f) = bound_in_function f ++ map name_of_item m.items
names_around m (of_class c) = map name_of_member c.members

-- the first of these names with this text
abbrev pub first_named : List ℕ → List Name → Option Name
first_named text [] = None
first_named text (n ∷ ns) = if bytes_eq text n.text then Some n else first_named text ns

-- the text is that of a method's `self`
abbrev pub is_receiver : Scope → List ℕ → Bool
is_receiver in_module text = false
is_receiver (in_function f) text = false
is_receiver (in_method c f) text = bytes_eq text (codes "self")
is_receiver (of_class c) text = false

-- nothing in the tree binds the name: it is reserved, or the `self` of a method
abbrev pub is_unbound : Mention → Bool
is_unbound it = is_reserved it.name.text || is_receiver it.scope it.name.text

-- the name that binds a name of the module: the first of its text in the nearest scope that binds it, if any does
abbrev pub binding_of : Module → Mention → Option Name
binding_of m it = if is_unbound it then None else first_named it.name.text (names_around m it.scope)
