-- The binding positions of a module, a function and a class.
-- Language Reference 3.12, 4.2.1 "Binding of names".
use Rattle.std.specs.Prelude.{ℕ, suc, List, [], ◌∷◌, ◌++◌, map, Option, Some, None, filter_map}
use Rattle.pc_tree.specs.Tree.{Name, Param, FuncDef, Member, field_member, method_member, ClassDef, Constant, Item}
use Rattle.pc_tree.specs.Tree.{constant_item, class_item, def_item, Module}
use Rattle.pc_scope.specs.declared.resolution.Owner.{Owner}
use Rattle.pc_scope.specs.declared.resolution.Owner.TheVariants as owners

-- the texts of names
abbrev pub texts : List Name → List (List ℕ)
texts names = map (λ n. n.text) names

-- the names of parameters
abbrev pub param_names : List Param → List Name
param_names params = map (λ p. p.name) params

-- ---- the constants, classes and functions of a module, and the fields and methods of a class

-- the constant that an item is, if it is one
abbrev pub as_constant : Item → Option Constant
as_constant (constant_item p c) = Some c
as_constant (class_item p c) = None
as_constant (def_item p f) = None

-- the class that an item is, if it is one
abbrev pub as_class : Item → Option ClassDef
as_class (constant_item p c) = None
as_class (class_item p c) = Some c
as_class (def_item p f) = None

-- the function that an item is, if it is one
abbrev pub as_function : Item → Option FuncDef
as_function (constant_item p c) = None
as_function (class_item p c) = None
as_function (def_item p f) = Some f

-- the method that a member is, if it is one
abbrev pub as_method : Member → Option FuncDef
as_method (field_member f) = None
as_method (method_member f) = Some f

-- the constants among items, in text order
abbrev pub constants_in : List Item → List Constant
constants_in items = filter_map as_constant items

-- the classes among items, in text order
abbrev pub classes_in : List Item → List ClassDef
classes_in items = filter_map as_class items

-- the functions among items, in text order
abbrev pub functions_in : List Item → List FuncDef
functions_in items = filter_map as_function items

-- the methods among members, in text order
abbrev pub methods_in : List Member → List FuncDef
methods_in members = filter_map as_method members

-- a function of the module or a method of a class, with its owner
pub record Body : Type 0 where
  pub owner : Owner
  pub function : FuncDef

-- functions of the module as bodies, given the number of the first
abbrev pub function_bodies : ℕ → List FuncDef → List Body
function_bodies i [] = []
function_bodies i (f ∷ rest) = record { owner = owners.Func i; function = f } ∷ function_bodies (suc i) rest

-- methods of a class as bodies, given the number of the class and that of the first method
abbrev pub method_bodies : ℕ → ℕ → List FuncDef → List Body
method_bodies c i [] = []
method_bodies c i (f ∷ rest) = record { owner = owners.Method c i; function = f } ∷ method_bodies c (suc i) rest

-- the methods of classes as bodies, given the number of the first class
abbrev pub class_bodies : ℕ → List ClassDef → List Body
class_bodies c [] = []
class_bodies c (class ∷ rest) = method_bodies c 0 (methods_in class.members) ++ class_bodies (suc c) rest

-- the functions and methods of a module
abbrev pub bodies : Module → List Body
bodies m = function_bodies 0 (functions_in m.items) ++ class_bodies 0 (classes_in m.items)
