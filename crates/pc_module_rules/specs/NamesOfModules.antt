-- The names bound under the labelling of a module, each at its place, one after another: first those with types by
-- annotations alone, of functions, parameters and fields; then constants; and then the locals of bodies, in text order.
-- Own rule of the profile.
use Rattle.std.specs.Prelude.{ℕ, suc, List, [], ◌∷◌, ◌++◌, map, flat_map, Some, None}
use Rattle.pc_tree.specs.Tree.{Param, FuncDef, Field, Member, field_member, method_member, Item, constant_item}
use Rattle.pc_tree.specs.Tree.{class_item, def_item, Module}
use Rattle.pc_scope.specs.declared.resolution.Owner.{Owner}
use Rattle.pc_scope.specs.declared.resolution.Owner.TheVariants as owners
use Rattle.pc_scope.specs.Resolution.{locals, resolve_among}
use Rattle.pc_annotations.specs.Annotations.{read_ann}
use Rattle.pc_class.specs.Bases.{bases_of}
use Rattle.pc_class.specs.Facts.{typed_parameter, return_type}
use Rattle.pc_rules.specs.Labels.{type_of}
use Rattle.pc_rules.specs.Signatures.{constant_type}
use Rattle.pc_module_rules.specs.Modules.{FunctionLabels, MembersLabels, ItemLabels, ModuleItemsLabels, Labelling}
use Rattle.pc_module_rules.specs.NamesOfStatements.{NameAt, names_in_suite}

module _ (m : Module) where
  -- ---- names with types by annotations alone

  -- the name of a parameter, whose current type is its declared type
  abbrev pub parameter_name : Param → NameAt
  parameter_name p =
      let t = (typed_parameter m p).type in
      record { place = p.name.place; declared = t; current = Some t }

  -- the name of a field, with the type of its annotation
  abbrev pub field_name : Field → NameAt
  field_name d = record {
    place = d.name.place;
    declared = read_ann m (bases_of m) d.annotation;
    current = None;
  }

  -- the name of a function, with its return type
  abbrev pub function_name : FuncDef → NameAt
  function_name f = record { place = f.name.place; declared = return_type m f; current = None }

  -- the names in the head of a function: its own and its parameters'
  abbrev pub names_in_head : FuncDef → List NameAt
  names_in_head f = function_name f ∷ map parameter_name f.params

  -- the names of a member: a field's, or a method's with its parameters'
  abbrev pub names_in_member : Member → List NameAt
  names_in_member (field_member d) = field_name d ∷ []
  names_in_member (method_member f) = names_in_head f

  -- the names of an item: a function's with its parameters', those of a class's fields and methods; none of a constant
  abbrev pub names_declared : Item → List NameAt
  names_declared (constant_item p c) = []
  names_declared (class_item p c) = flat_map names_in_member c.members
  names_declared (def_item p f) = names_in_head f

  -- ---- names with types by labels

  -- the name of an item that is a constant, with the type of its annotation, or else of its value
  abbrev pub names_in_item : (i : Item) → ItemLabels i → List NameAt
  names_in_item (constant_item p c) labels = record {
    place = c.name.place;
    declared = constant_type m c.annotation (type_of c.value labels.value);
    current = None;
  } ∷ []
  names_in_item (class_item p c) labels = []
  names_in_item (def_item p f) labels = []

  -- the names of the constants among items
  abbrev pub names_of_constants : (items : List Item) → ModuleItemsLabels items → List NameAt
  names_of_constants [] labels = []
  names_of_constants (i ∷ rest) labels = names_in_item i labels.first ++ names_of_constants rest labels.rest

  -- the names of the locals that the body of a function binds
  abbrev pub names_in_body : Owner → (f : FuncDef) → FunctionLabels f → List NameAt
  names_in_body owner f labels =
      names_in_suite (resolve_among m (locals owner f)) labels.declared f.body labels.body

  -- the names bound in the methods of the class of this number, after this number of methods
  abbrev pub names_in_methods : (class number : ℕ) → (ms : List Member) → MembersLabels ms → List NameAt
  names_in_methods class number [] labels = []
  names_in_methods class number (field_member d ∷ rest) labels = names_in_methods class number rest labels.rest
  names_in_methods class number (method_member f ∷ rest) labels =
      names_in_body (owners.Method class number) f labels.method
      ++ names_in_methods class (suc number) rest labels.rest

  -- the names bound in the bodies of items, after these numbers of classes and functions
  abbrev pub names_in_bodies : (classes functions : ℕ) → (items : List Item) → ModuleItemsLabels items → List NameAt
  names_in_bodies classes functions [] labels = []
  names_in_bodies classes functions (constant_item p c ∷ rest) labels =
      names_in_bodies classes functions rest labels.rest
  names_in_bodies classes functions (class_item p c ∷ rest) labels =
      names_in_methods classes 0 c.members labels.first ++ names_in_bodies (suc classes) functions rest labels.rest
  names_in_bodies classes functions (def_item p f ∷ rest) labels =
      names_in_body (owners.Func functions) f labels.first
      ++ names_in_bodies classes (suc functions) rest labels.rest

-- the names bound under a labelling of a module
abbrev pub names_under : (m : Module) → Labelling m → List NameAt
names_under m labels =
    flat_map (names_declared m) m.items
    ++ (names_of_constants m m.items labels ++ names_in_bodies m 0 0 m.items labels)
