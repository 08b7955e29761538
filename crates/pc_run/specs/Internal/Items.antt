-- The items of a module in a plain run, as the tracer's functions run them.
-- Own rule of the profile.
use Rattle.std.specs.Prelude.{ℕ, Bool, true, List, [], ◌∷◌, Option, Some, None, is_some}
use Rattle.std.specs.List.{list_all}
use Rattle.pc_tree.specs.Tree.{Literal, Param, FuncDef, Member, field_member, method_member, ClassDef, Item}
use Rattle.pc_machine.specs.Plain.{Step, plain}
use Rattle.pc_machine.specs.Runs.{plain_parts}
use Rattle.pc_machine.specs.Evaluation as text
use Rattle.pc_machine.specs.Evaluation.{Members}
use Rattle.pc_machine.specs.Machine.{literal_value, default_value, function_of}

-- the items of a module in a plain run, in the order of the text
abbrev pub module_items_in : ℕ → (imports_dataclass : Bool) → List Item → Step (Unit {0})
module_items_in n imports_dataclass items = text.exec_items Step plain (plain_parts n) imports_dataclass items

-- a constant, a class or a def in a plain run
abbrev pub item_in : ℕ → (imports_dataclass : Bool) → Item → Step (Unit {0})
item_in n imports_dataclass item = text.exec_item Step plain (plain_parts n) imports_dataclass item

-- the making of a class in a plain run
abbrev pub class_made : (imports_dataclass : Bool) → ClassDef → Step (Unit {0})
class_made imports_dataclass c = text.make_class Step plain imports_dataclass c

-- whether a default has a value or is absent
abbrev pub has_value : Option Literal → Bool
has_value None = true
has_value (Some l) = is_some (literal_value l)

-- whether the default of a parameter has a value or is absent
abbrev pub param_has_value : Param → Bool
param_has_value p = has_value p.default

-- whether each default of a def has a value
abbrev pub have_values : List Param → Bool
have_values ps = list_all param_has_value ps

-- whether each default of a member has a value
abbrev pub member_has_values : Member → Bool
member_has_values (field_member f) = has_value f.default
member_has_values (method_member f) = have_values f.params

-- whether each default in a class has a value
abbrev pub members_have_values : List Member → Bool
members_have_values ms = list_all member_has_values ms

-- the members of a class with a field, and the value of its default, before the others
abbrev pub with_field_member : List ℕ → Option Literal → Members → Members
with_field_member n default others =
    record { fields = record { name = n; default = default_value default } ∷ others.fields; methods = others.methods }

-- the members of a class with the method of a def before the others
abbrev pub with_method : FuncDef → Members → Members
with_method f others = record { fields = others.fields; methods = function_of f ∷ others.methods }

-- the fields and methods that a class defines itself, each in the order of the text
abbrev pub members_made : List Member → Members
members_made [] = record { fields = []; methods = [] }
members_made (field_member f ∷ rest) = with_field_member f.name.text f.default (members_made rest)
members_made (method_member f ∷ rest) = with_method f (members_made rest)

-- the number of a base, unchanged
abbrev pub base_seen : Option ℕ → Option ℕ
base_seen base = base
