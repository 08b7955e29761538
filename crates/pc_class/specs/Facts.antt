-- The facts of a class: the fields of its base, then its own; and for each name the method of the nearest class on the
-- path to the root. Language Reference 3.12, 8.8 "Class definitions"; library reference, `dataclasses`; typing
-- specification, "Dataclasses".
use Rattle.std.specs.Prelude.{ℕ, suc, List, [], ◌∷◌, ◌++◌, map, Bool, ◌&&◌, ◌||◌, not, if◌then◌else◌, Option, Some}
use Rattle.std.specs.Prelude.{None, is_some, slice_get, find, codes, bytes_eq}
use Rattle.pc_source.specs.declared.place.Place.{Place}
use Rattle.pc_tree.specs.Tree.{Param, FuncDef, Member, field_member, method_member, ClassDef, Module}
use Rattle.pc_scope.specs.Reserved.{is_builtin_name}
use Rattle.pc_scope.specs.Bindings.{classes_in}
use Rattle.pc_scope.specs.Resolution.{is_one_of}
use Rattle.pc_types.specs.Tree.{Tree}
use Rattle.pc_annotations.specs.Annotations.{read_ann, read_option}
use Rattle.pc_class.specs.Bases.{bases_of, base_named}

-- a parameter of a function, or a field as a parameter of its class
pub record TypedParameter : Type 0 where
  pub name : List ℕ
  pub type : Tree
  pub has_default : Bool

-- a method: its class, its number there, the place of its name, its parameters without `self`, its return type
pub record Method : Type 0 where
  pub name : List ℕ
  pub owner : ℕ
  pub number : ℕ
  pub place : Place
  pub parameters : List TypedParameter
  pub returns : Tree

-- a class: its base, its fields after those of its base, and its methods before those of its base
pub record ClassFacts : Type 0 where
  pub base : Option ℕ
  pub fields : List TypedParameter
  pub methods : List Method

-- a class without base, fields and methods
abbrev pub empty_class : ClassFacts
empty_class = record { base = None; fields = []; methods = [] }

-- the first field with a name
abbrev pub field_by_name : List TypedParameter → List ℕ → Option TypedParameter
field_by_name fields name = find (λ f. bytes_eq name f.name) fields

-- the nearest method with a name, which comes first
abbrev pub method_by_name : List Method → List ℕ → Option Method
method_by_name methods name = find (λ f. bytes_eq name f.name) methods

-- a class that was found, or an empty one
abbrev pub class_in : Option ClassFacts → ClassFacts
class_in None = empty_class
class_in (Some c) = c

-- the class with this number among classes, an empty one if there is none
abbrev pub class_facts_at : List ClassFacts → ℕ → ClassFacts
class_facts_at classes c = class_in (slice_get classes c)

-- the class that is inherited: the base among the earlier classes, or an empty class if there is no base
abbrev pub base_facts : List ClassFacts → Option ℕ → ClassFacts
base_facts earlier None = empty_class
base_facts earlier (Some b) = class_facts_at earlier b

-- a field binds its name: it is not reserved, not `mro`, not an earlier member's, and not a field's or method's of an
-- ancestor
abbrev pub binds_field : ClassFacts → List (List ℕ) → List ℕ → Bool
binds_field base before name =
    not (is_builtin_name name || bytes_eq name (codes "mro"))
    && (not (is_one_of name before)
    && not (is_some (field_by_name base.fields name) || is_some (method_by_name base.methods name)))

-- a method binds its name: it is not reserved, not an earlier member's, and not a field's of an ancestor
abbrev pub binds_method : ClassFacts → List (List ℕ) → List ℕ → Bool
binds_method base before name = not (is_builtin_name name)
    && (not (is_one_of name before) && not (is_some (field_by_name base.fields name)))

-- a parameter with the type of its annotation, Any if it has none
abbrev pub typed_parameter : Module → Param → TypedParameter
typed_parameter m p = record {
  name = p.name.text;
  type = read_option m (bases_of m) p.annotation;
  has_default = is_some p.default;
}

-- parameters with the types of their annotations
abbrev pub parameters_of : Module → List Param → List TypedParameter
parameters_of m params = map (typed_parameter m) params

-- the return type of a function, Any if it has no annotation
abbrev pub return_type : Module → FuncDef → Tree
return_type m f = read_option m (bases_of m) f.returns

-- a method of a class, with its number there, its parameters and its return type
abbrev pub method_made : Module → ℕ → ℕ → FuncDef → Method
method_made m c number f = record {
  name = f.name.text;
  owner = c;
  number = number;
  place = f.name.place;
  parameters = parameters_of m f.params;
  returns = return_type m f;
}

module _ (m : Module) (base : ClassFacts) where
  -- the fields that members bind, given the names of the members before
  abbrev pub own_fields : List (List ℕ) → List Member → List TypedParameter
  own_fields before [] = []
  own_fields before (field_member f ∷ rest) =
      (if binds_field base before f.name.text then record {
        name = f.name.text;
        type = read_ann m (bases_of m) f.annotation;
        has_default = is_some f.default;
      } ∷ [] else [])
      ++ own_fields (f.name.text ∷ before) rest
  own_fields before (method_member f ∷ rest) = own_fields (f.name.text ∷ before) rest

  -- the methods that members of a class bind, given the number of methods and the names of members before
  abbrev pub own_methods : ℕ → ℕ → List (List ℕ) → List Member → List Method
  own_methods c number before [] = []
  own_methods c number before (field_member f ∷ rest) = own_methods c number (f.name.text ∷ before) rest
  own_methods c number before (method_member f ∷ rest) =
      (if binds_method base before f.name.text then method_made m c number f ∷ [] else [])
      ++ own_methods c (suc number) (f.name.text ∷ before) rest

-- the facts of the class with this number, given those of the earlier classes
abbrev pub class_facts_behind : Module → List ClassFacts → ℕ → ClassDef → ClassFacts
class_facts_behind m earlier c class =
    let base = base_facts earlier (base_named m c class.base) in
    record {
      base = base_named m c class.base;
      fields = base.fields ++ own_fields m base [] class.members;
      methods = own_methods m base c 0 [] class.members ++ base.methods;
    }

-- the facts of the earlier classes and of these, each built on those before it, given the number of the first
abbrev pub classes_behind : Module → List ClassFacts → ℕ → List ClassDef → List ClassFacts
classes_behind m earlier c [] = earlier
classes_behind m earlier c (class ∷ rest) =
    classes_behind m (earlier ++ class_facts_behind m earlier c class ∷ []) (suc c) rest

-- the facts of the classes of a module
unfoldable pub classes_of : Module → List ClassFacts
classes_of m = classes_behind m [] 0 (classes_in m.items)
