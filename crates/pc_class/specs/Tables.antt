-- The contents of a class table: for each class its base, its fields and its methods, with stored types; and the
-- classes that it means. Own rule of the profile.
use Rattle.std.specs.Prelude.{ℕ, List, [], map, Option, Some, None, All, Contains, slice_index_or, string_bytes}
use Rattle.std.specs.Borrow.{Bor}
use Rattle.pc_types.specs.Tree.{Tree}
use Rattle.pc_class.specs.Facts.{TypedParameter, Method, ClassFacts}
use Rattle.pc_class.specs.declared.table.Parameter.{Parameter as RustParameter}
use Rattle.pc_class.specs.declared.table.Method.{Method as RustMethod}

-- a class of a table: its base, its fields after those of its base, and its methods before those of its base
pub record ClassEntry (Ty : Type 0) : Type 0 where
  pub base : Option ℕ
  pub fields : List (RustParameter Ty)
  pub methods : List (RustMethod Ty)

-- a class without base, fields and methods
abbrev pub empty_entry : {Ty : Type 0} → ClassEntry Ty
empty_entry = record { base = None; fields = []; methods = [] }

-- the class that is inherited: the base among the classes before, or an empty one if there is no base
abbrev pub inherited_entry : {Ty : Type 0} → List (ClassEntry Ty) → Option ℕ → ClassEntry Ty
inherited_entry earlier None = empty_entry
inherited_entry earlier (Some b) = slice_index_or earlier b empty_entry

module _ {Ty : Type 0} (tree : Ty → Tree) where
  -- a parameter with the meaning of its stored type
  abbrev pub parameter_with : RustParameter Ty → TypedParameter
  parameter_with p = record { name = string_bytes p.name; type = tree p.ty; has_default = p.has_default }

  -- parameters with the meanings of their stored types
  abbrev pub parameters_with : List (RustParameter Ty) → List TypedParameter
  parameters_with ps = map parameter_with ps

  -- a method with the meanings of its stored types
  abbrev pub method_with : RustMethod Ty → Method
  method_with x = record {
    name = string_bytes x.name;
    owner = x.owner;
    number = x.number;
    place = x.place;
    parameters = parameters_with x.params;
    returns = tree x.ret;
  }

  -- a class with the meanings of its stored types
  abbrev pub class_with : ClassEntry Ty → ClassFacts
  class_with c = record { base = c.base; fields = parameters_with c.fields; methods = map method_with c.methods }

  -- the classes that a table means
  abbrev pub classes_with : List (ClassEntry Ty) → List ClassFacts
  classes_with cs = map class_with cs

  -- a borrowed parameter with the meaning of its stored type
  abbrev pub parameter_lent : Bor (RustParameter Ty) → TypedParameter
  parameter_lent p = parameter_with p.now

  -- a borrowed method with the meanings of its stored types
  abbrev pub method_lent : Bor (RustMethod Ty) → Method
  method_lent x = method_with x.now

module _ {Ty : Type 0} (has : Ty → Type 0) where
  -- the store gave the type of a parameter
  abbrev pub HasParameter : RustParameter Ty → Type 0
  HasParameter p = has p.ty

  -- the store gave the types of a method's parameters and its return type
  pub record HasMethod (x : RustMethod Ty) : Type 0 where
    pub params : All HasParameter x.params
    pub ret : has x.ret

  -- the store gave the types of a class
  pub record HasEntry (c : ClassEntry Ty) : Type 0 where
    pub fields : All HasParameter c.fields
    pub methods : All HasMethod c.methods

  -- the store gave the types of a table
  abbrev pub HasEntries : List (ClassEntry Ty) → Type 0
  HasEntries cs = All HasEntry cs

module _ {Ty : Type 0} (cs : List (ClassEntry Ty)) where
  -- a field of one of the classes of a table
  pub record IsField (p : RustParameter Ty) : Type 0 where
    pub class : ClassEntry Ty
    pub listed : Contains cs class
    pub among : Contains class.fields p

  -- a method of one of the classes of a table
  pub record IsMethod (x : RustMethod Ty) : Type 0 where
    pub class : ClassEntry Ty
    pub listed : Contains cs class
    pub among : Contains class.methods x

  -- a borrowed field, if there is one, is one of the table's
  abbrev pub IsFieldIfAny : Option (Bor (RustParameter Ty)) → Type 0
  IsFieldIfAny None = Unit {0}
  IsFieldIfAny (Some p) = IsField p.now

  -- a borrowed method, if there is one, is one of the table's
  abbrev pub IsMethodIfAny : Option (Bor (RustMethod Ty)) → Type 0
  IsMethodIfAny None = Unit {0}
  IsMethodIfAny (Some x) = IsMethod x.now
