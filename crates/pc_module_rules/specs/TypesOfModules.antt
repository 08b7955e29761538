-- The types under the labelling of a module, each at its place, one after another: in the initializers of constants,
-- and then in the bodies of functions and methods, in text order. Literals of defaults have none. Own rule of the
-- profile.
use Rattle.std.specs.Prelude.{List, [], ◌∷◌, ◌++◌, Bool as Test, false}
use Rattle.pc_source.specs.declared.place.Place.{Place}
use Rattle.pc_tree.specs.Tree.{Member, field_member, method_member, Item, constant_item, class_item, def_item, Module}
use Rattle.pc_types.specs.Tree.{Tree}
use Rattle.pc_module_rules.specs.Modules.{MembersLabels, ItemLabels, ModuleItemsLabels, Labelling}
use Rattle.pc_module_rules.specs.TypesOfExpressions.{TypeAt, types_in}
use Rattle.pc_module_rules.specs.TypesOfStatements.{types_in_suite}

-- the types in each item, one after another
abbrev pub types_in_each : ((i : Item) → ItemLabels i → List TypeAt) → (items : List Item) → ModuleItemsLabels items
    → List TypeAt
types_in_each types [] labels = []
types_in_each types (i ∷ rest) labels = types i labels.first ++ types_in_each types rest labels.rest

module _ (every : Test) where
  -- the types in the initializer of a constant, none if the item is a class or a function
  abbrev pub types_in_item : (i : Item) → ItemLabels i → List TypeAt
  types_in_item (constant_item p c) labels = types_in every c.value labels.value
  types_in_item (class_item p c) labels = []
  types_in_item (def_item p f) labels = []

  -- the types in the bodies of methods
  abbrev pub types_in_methods : (ms : List Member) → MembersLabels ms → List TypeAt
  types_in_methods [] labels = []
  types_in_methods (field_member x ∷ rest) labels = types_in_methods rest labels.rest
  types_in_methods (method_member f ∷ rest) labels = types_in_suite every f.body labels.method.body
      ++ types_in_methods rest labels.rest

  -- the types in the body of a function, or in the bodies of a class's methods
  abbrev pub types_in_body : (i : Item) → ItemLabels i → List TypeAt
  types_in_body (constant_item p c) labels = []
  types_in_body (class_item p c) labels = types_in_methods c.members labels
  types_in_body (def_item p f) labels = types_in_suite every f.body labels.body

  -- the types of a module under a labelling: without those of callees that are names or attributes, or every one
  abbrev pub labelled_types : (m : Module) → Labelling m → List TypeAt
  labelled_types m labels = types_in_each types_in_item m.items labels ++ types_in_each types_in_body m.items labels

-- the types of a module under a labelling, without those of callees that are names or attributes
abbrev pub types_under : (m : Module) → Labelling m → List TypeAt
types_under m labels = labelled_types false m labels

-- a type at a place, as the pair that notes have for it
abbrev pub as_pair : TypeAt → Place × Tree
as_pair t = (t.place, t.type)
