-- The contents of a map of names, the bindings of the entries of a class, and the findings about its members' names.
-- Own rule of the profile.
pub use Rattle.pc_shared_maps.specs.SharedLists.{at_number, IsNumberIn}
use Rattle.std.specs.Prelude.{◌≡◌, ℕ, suc, List, [], ◌∷◌, ◌++◌, find, if◌then◌else◌, Option, Some, None}
use Rattle.std.specs.Prelude.{slice_get, bytes_eq}
use Rattle.std.specs.List.{list_any}
use Rattle.pc_tree.specs.Tree.{ClassDef, Item, Module}
use Rattle.pc_annotations.specs.Bases.{base_named}
use Rattle.pc_tree.specs.declared.code.Code.TheVariants.{E06, E08}
use Rattle.pc_tree.specs.declared.code.Finding.{Finding}
use Rattle.pc_scope.specs.Bindings.{as_class, classes_in}
use Rattle.pc_tree.specs.Code.{at_code}
use Rattle.pc_class.specs.Facts.{TypedParameter, Method, ClassFacts, base_facts, classes_of}
use Rattle.pc_shared_maps.specs.NameMaps.{NameMaps, IsMap, named_at}
use Rattle.pc_class.specs.Entries.{MemberEntry, field_made, methods_made, inherited_by, class_entries}
use Rattle.pc_class.specs.Entries.{clash_places, late_places}

module _ {X : Type 0} (name : X → List ℕ) where
  -- the first item with a name
  abbrev pub first_named : List X → List ℕ → Option X
  first_named xs n = find (λ x. bytes_eq n (name x)) xs

  -- a map has these items by their names, as indices in the list of all items
  pub record IsMapOf (d : NameMaps) (all : List X) (at : ℕ) (these : List X) : Type 0 where
    pub is_map : IsMap d at
    pub within : (n : List ℕ) → IsNumberIn all (named_at d at n)
    pub same : (n : List ℕ) → at_number all (named_at d at n) ≡ first_named these n

-- the name of a field
abbrev pub field_name : TypedParameter → List ℕ
field_name p = p.name

-- the name of a method
abbrev pub method_name : Method → List ℕ
method_name x = x.name

-- the field that an entry binds, if it binds one
abbrev pub own_field : Module → MemberEntry → List TypedParameter
own_field m e = if e.binds then field_made m e.member else []

-- the method that an entry binds, if it binds one
abbrev pub own_method : Module → ℕ → MemberEntry → List Method
own_method m c e = if e.binds then methods_made m c e.number e.member else []

-- the items that entries bind, given those that each entry binds
abbrev pub all_own : {X : Type 0} → (own : MemberEntry → List X) → List MemberEntry → List X
all_own own [] = []
all_own own (e ∷ es) = own e ++ all_own own es

-- no item of the second list has the name of an item of the first
abbrev pub AreOther : {X : Type 0} → (name : X → List ℕ) → (those these : List X) → Type 0
AreOther name those [] = Unit {0}
AreOther name those (x ∷ xs) = (first_named name those (name x) ≡ None) × AreOther name those xs

-- the items that each entry binds have names other than those of the given items and of the items of earlier entries
abbrev pub AreNew : {X : Type 0} → (name : X → List ℕ) → (own : MemberEntry → List X) → (those : List X)
    → List MemberEntry → Type 0
AreNew name own those [] = Unit {0}
AreNew name own those (e ∷ es) = AreOther name those (own e) × AreNew name own (those ++ own e) es

-- the findings about the names of a class's members, given the facts of its base: E06, E08
abbrev pub found_over : ClassFacts → ClassDef → List Finding
found_over base class =
    at_code E06 (clash_places (class_entries (inherited_by base) class))
    ++ at_code E08 (late_places (list_any (λ (p : TypedParameter). p.has_default) base.fields)
    (class_entries (inherited_by base) class))

-- the findings about the names of the members of the class with this number: E06, E08
abbrev pub class_found : Module → ℕ → ClassDef → List Finding
class_found m c class = found_over (base_facts (classes_of m) (base_named m c class.base)) class

-- the findings of a rule on classes, each class over its base, given the number of the first
abbrev pub each_over_base : (over : ClassFacts → ClassDef → List Finding) → Module → ℕ → List ClassDef → List Finding
each_over_base over m c [] = []
each_over_base over m c (class ∷ rest) =
    over (base_facts (classes_of m) (base_named m c class.base)) class ++ each_over_base over m (suc c) rest

-- the findings about the names of members of classes, given the number of the first class: E06, E08
abbrev pub classes_found : Module → ℕ → List ClassDef → List Finding
classes_found m c classes = each_over_base found_over m c classes

-- an item, if it is a class, is the class with this number
abbrev pub IsClassNumbered : Module → ℕ → Item → Type 0
IsClassNumbered m c item = (class : ClassDef) → as_class item ≡ Some class
    → slice_get (classes_in m.items) c ≡ Some class
