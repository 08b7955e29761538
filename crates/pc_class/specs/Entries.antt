-- The members of a class in order: whether each binds its name, and whether that clashes. The computed twin of the
-- rules on members and of the findings about names; proofs/ tie it to them.
-- Own rules of the profile; library reference, `dataclasses`, order of fields.
use Rattle.std.specs.Prelude.{ℕ, suc, List, [], ◌∷◌, ◌++◌, Bool, false, ◌&&◌, ◌||◌, not, if◌then◌else◌, Option, Some}
use Rattle.std.specs.Prelude.{None, is_some, codes, bytes_eq}
use Rattle.pc_source.specs.declared.place.Place.{Place}
use Rattle.pc_tree.specs.Tree.{Name, Field, Member, field_member, method_member, ClassDef, member_of, Module}
use Rattle.pc_tree.specs.Stopping.{one_if, name_of_member}
use Rattle.pc_scope.specs.Reserved.{is_builtin_name}
use Rattle.pc_scope.specs.Resolution.{is_one_of}
use Rattle.pc_types.specs.Below.{Bases, base_of}
use Rattle.pc_annotations.specs.Bases.{bases_of}
use Rattle.pc_annotations.specs.Annotations.{read_ann}
use Rattle.pc_class.specs.declared.entries.ClassMember.{ClassMember as RustEntry}
use Rattle.pc_class.specs.declared.entries.MemberMaps.{MemberMaps}
use Rattle.pc_class.specs.Facts.{TypedParameter, Method, ClassFacts, field_by_name, method_by_name, method_made}
use Rattle.pc_shared_maps.specs.NameMaps.{NameMaps, IsMap, named_at}

-- the names that the ancestors of a class have as fields, and those that they have as methods
pub record Inherited : Type 0 where
  pub has_field : List ℕ → Bool
  pub has_method : List ℕ → Bool

-- the names that a base gives a class as fields, and those that it gives as methods
abbrev pub inherited_by : ClassFacts → Inherited
inherited_by base = record {
  has_field = λ n. is_some (field_by_name base.fields n);
  has_method = λ n. is_some (method_by_name base.methods n);
}

-- the names that one map has as fields, and those that another has as methods
abbrev pub inherited_in : NameMaps → MemberMaps → Inherited
inherited_in d held = record {
  has_field = λ n. is_some (named_at d held.fields n);
  has_method = λ n. is_some (named_at d held.methods n);
}

-- there are maps with these numbers
pub record HasMaps (d : NameMaps) (held : MemberMaps) : Type 0 where
  pub fields : IsMap d held.fields
  pub methods : IsMap d held.methods

-- a member of a class: the number of methods before it, whether it binds its name, and whether that clashes
pub record MemberEntry : Type 0 where
  pub member : Member
  pub number : ℕ
  pub binds : Bool
  pub clashes : Bool

-- a member after members of these names binds its name
abbrev pub member_binds : Inherited → List (List ℕ) → Member → Bool
member_binds h before (field_member f) =
    not (is_builtin_name f.name.text || bytes_eq f.name.text (codes "mro"))
    && (not (is_one_of f.name.text before) && not (h.has_field f.name.text || h.has_method f.name.text))
member_binds h before (method_member f) = not (is_builtin_name f.name.text)
    && (not (is_one_of f.name.text before) && not (h.has_field f.name.text))

-- a member has the name of an earlier one, or clashes with an ancestor's
abbrev pub member_clashes : Inherited → List (List ℕ) → Member → Bool
member_clashes h before (field_member f) = is_one_of f.name.text before
    || (h.has_field f.name.text || h.has_method f.name.text)
member_clashes h before (method_member f) = is_one_of f.name.text before || h.has_field f.name.text

-- a member as an entry
abbrev pub entry_of_member : Inherited → List (List ℕ) → ℕ → Member → MemberEntry
entry_of_member h before number x = record {
  member = x;
  number = number;
  binds = member_binds h before x;
  clashes = member_clashes h before x;
}

-- the number of methods after one more member
abbrev pub number_after : ℕ → Member → ℕ
number_after n (field_member f) = n
number_after n (method_member f) = suc n

-- the entries of members, given the names and the number of methods before them
abbrev pub entries_of_members : Inherited → List (List ℕ) → ℕ → List Member → List MemberEntry
entries_of_members h before number [] = []
entries_of_members h before number (x ∷ rest) =
    entry_of_member h before number x ∷ entries_of_members h ((name_of_member x).text ∷ before) (number_after number x) rest

-- the entries of a class whose ancestors have these names
abbrev pub class_entries : Inherited → ClassDef → List MemberEntry
class_entries h class = entries_of_members h [] 0 class.members

-- an entry of the program
abbrev pub entry_seen : RustEntry → MemberEntry
entry_seen e = record { member = member_of e.member.now; number = e.number; binds = e.binds; clashes = e.clashes }

-- ---- fields and methods

-- a field as a parameter of its class
abbrev pub parameter_made : Module → Field → TypedParameter
parameter_made m f = record {
  name = f.name.text;
  type = read_ann m (bases_of m) f.annotation;
  has_default = is_some f.default;
}

-- the field that a member is, as a parameter of its class
abbrev pub field_made : Module → Member → List TypedParameter
field_made m (field_member f) = parameter_made m f ∷ []
field_made m (method_member f) = []

-- the method that a member is, as a list of at most one
abbrev pub methods_made : Module → ℕ → ℕ → Member → List Method
methods_made m c number (field_member f) = []
methods_made m c number (method_member f) = method_made m c number f ∷ []

-- ---- findings of names

-- the places of the names of members that clash
abbrev pub clash_places : List MemberEntry → List Place
clash_places [] = []
clash_places (e ∷ es) = one_if e.clashes (name_of_member e.member).place ++ clash_places es

-- whether the field that a member is has a default; none if it is not a field
abbrev pub member_default : Member → Option Bool
member_default (field_member f) = Some (is_some f.default)
member_default (method_member f) = None

-- whether the field that an entry binds has a default; none if it binds no field
abbrev pub entry_default : MemberEntry → Option Bool
entry_default e = if e.binds then member_default e.member else None

-- whether there was a default, after one more field or none
abbrev pub defaulted_after : Bool → Option Bool → Bool
defaulted_after d None = d
defaulted_after d (Some b) = d || b

-- whether a field without a default comes after one with a default
abbrev pub is_late : Bool → Option Bool → Bool
is_late d None = false
is_late d (Some b) = d && not b

-- the places of the names of fields without a default after one with a default
abbrev pub late_places : Bool → List MemberEntry → List Place
late_places d [] = []
late_places d (e ∷ es) = one_if (is_late d (entry_default e)) (name_of_member e.member).place
    ++ late_places (defaulted_after d (entry_default e)) es

-- whether there was a default, after these entries
abbrev pub defaulted_in : Bool → List MemberEntry → Bool
defaulted_in d [] = d
defaulted_in d (e ∷ es) = defaulted_in (defaulted_after d (entry_default e)) es

-- the place of the name of a missing base
abbrev pub missing_base : Option ℕ → Option Name → List Place
missing_base None (Some n) = n.place ∷ []
missing_base _ _ = []

-- the places of the names of bases that are no earlier class, given the number of the first class
abbrev pub missing_bases : Bases → ℕ → List ClassDef → List Place
missing_bases bases c [] = []
missing_bases bases c (class ∷ rest) = missing_base (base_of bases c) class.base ++ missing_bases bases (suc c) rest
