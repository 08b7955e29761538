-- The contents of a class table, and the classes that it means by them: all fields and all methods that the classes
-- bind, one after another, and for each class the ranges that it binds itself. Own rule of the profile.
pub use Rattle.pc_class.specs.Listed.{parameter_name}
use Rattle.std.specs.Prelude.{◌≡◌, ◌<◌, ◌≤◌, ◌-◌, ℕ, List, [], ◌∷◌, ◌++◌, take, drop, length, map, false, Option, Some}
use Rattle.std.specs.Prelude.{None, All, slice_get, slice_index_or, string_bytes}
use Rattle.std.specs.Borrow.{Bor}
use Rattle.std.specs.List.{list_any}
use Rattle.pc_class.specs.declared.table.Parameter.{Parameter as RustParameter}
use Rattle.pc_class.specs.declared.table.Method.{Method as RustMethod}
use Rattle.pc_class.specs.declared.parts.Span.{Span}
use Rattle.pc_class.specs.declared.parts.ClassNode.{ClassNode}
use Rattle.pc_class.specs.declared.parts.ClassArena.{ClassArena}
use Rattle.pc_shared_maps.specs.NameMaps.{NameMaps}
use Rattle.pc_class.specs.Outlines.{IsMapOf}
use Rattle.pc_class.specs.Tables.{ClassEntry, inherited_entry, HasParameter, HasMethod}

-- the items of a list in a range: from its start to before its end
abbrev pub items_in_span : {X : Type 0} → List X → Span → List X
items_in_span xs s = take (s.end - s.start) (drop s.start xs)

-- a range is within a list of this length
pub record IsSpan (n : ℕ) (s : Span) : Type 0 where
  pub order : s.start ≤ s.end
  pub within : s.end ≤ n

-- a node of an empty class, as the base of classes without a base
abbrev pub empty_class_node : ClassNode
empty_class_node = record {
  base = None;
  held = record { fields = 0; methods = 0 };
  defaulted = false;
  fields = record { start = 0; end = 0 };
  methods = record { start = 0; end = 0 };
}

-- the base among the classes before, or an empty class if there is no base
abbrev pub inherited_node : List ClassNode → Option ℕ → ClassNode
inherited_node classes None = empty_class_node
inherited_node classes (Some b) = slice_index_or classes b empty_class_node

module _ {Ty : Type 0} where
  -- a borrowed parameter
  abbrev pub lent_parameter : Bor (RustParameter Ty) → RustParameter Ty
  lent_parameter p = p.now

  -- the name of a method of the program
  abbrev pub stored_method_name : RustMethod Ty → List ℕ
  stored_method_name x = string_bytes x.name

  module _ (fields : List (RustParameter Ty)) (methods : List (RustMethod Ty)) where
    -- a class over its base among the classes before it
    abbrev pub entry_over : List (ClassEntry Ty) → ClassNode → ClassEntry Ty
    entry_over earlier n = record {
      base = n.base;
      fields = (inherited_entry earlier n.base).fields ++ items_in_span fields n.fields;
      methods = items_in_span methods n.methods ++ (inherited_entry earlier n.base).methods;
    }

    -- the earlier classes and these, each over its base
    abbrev pub entries_behind : List (ClassEntry Ty) → List ClassNode → List (ClassEntry Ty)
    entries_behind earlier [] = earlier
    entries_behind earlier (n ∷ ns) = entries_behind (earlier ++ entry_over earlier n ∷ []) ns

  -- the classes of a table
  unfoldable pub classes_of_table : ClassArena Ty → List (ClassEntry Ty)
  classes_of_table p = entries_behind p.fields.items p.methods.items [] p.classes.items

  -- the base of each class, if it has one
  abbrev pub bases_in : List (ClassEntry Ty) → List (Option ℕ)
  bases_in es = map (λ (e : ClassEntry Ty). e.base) es

  -- a class of a table has its base before it, and its maps have exactly its fields and methods by name
  pub record IsClassNode (d : NameMaps) (fields : List (RustParameter Ty)) (methods : List (RustMethod Ty))
      (es : List (ClassEntry Ty)) (c : ℕ) (n : ClassNode) : Type 0 where
    pub before : (b : ℕ) → n.base ≡ Some b → b < c
    pub own_fields : IsSpan (length fields) n.fields
    pub own_methods : IsSpan (length methods) n.methods
    pub is : slice_get es c ≡ Some (entry_over fields methods es n)
    pub fields_held : IsMapOf parameter_name d fields n.held.fields (entry_over fields methods es n).fields
    pub methods_held : IsMapOf stored_method_name d methods n.held.methods (entry_over fields methods es n).methods
    pub defaulted : n.defaulted
        ≡ list_any (λ (p : RustParameter Ty). p.has_default) (entry_over fields methods es n).fields

  -- each class of a table has its base before it and its names in its maps, and map 0 is empty
  pub record AreNodes (d : NameMaps) (fields : List (RustParameter Ty)) (methods : List (RustMethod Ty))
      (ns : List ClassNode) (es : List (ClassEntry Ty)) : Type 0 where
    pub no_fields : IsMapOf parameter_name d fields 0 []
    pub no_methods : IsMapOf stored_method_name d methods 0 []
    pub many : length es ≡ length ns
    pub each : (c : ℕ) (n : ClassNode) → slice_get ns c ≡ Some n → IsClassNode d fields methods es c n

  -- the contents of a table form a class table: each class agrees with its entry in the list
  abbrev pub IsClassTable : ClassArena Ty → Type 0
  IsClassTable p = AreNodes p.named p.fields.items p.methods.items p.classes.items (classes_of_table p)

  -- the store gave the types of all these fields and methods
  pub record HasParts (has : Ty → Type 0) (p : ClassArena Ty) : Type 0 where
    pub fields : All (HasParameter has) p.fields.items
    pub methods : All (HasMethod has) p.methods.items
