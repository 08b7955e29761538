-- The details of names: where else each is bound, and the bindings before it. Own rule of the profile.
use Rattle.std.specs.Prelude.{ℕ, suc, List, [], ◌∷◌, ◌++◌, map, flat_map, filter, filter_map, find, reverse}
use Rattle.std.specs.Prelude.{Bool as Test, true, false, ◌&&◌, ◌||◌, if◌then◌else◌, Option, Some, None, is_some, codes}
use Rattle.std.specs.Prelude.{bytes_eq, slice_get, take}
use Rattle.std.specs.Option.{option_map, option_and_then}
use Rattle.pc_source.specs.declared.place.Place.{Place}
use Rattle.pc_tree.specs.NamesAlone.{name_of_tree}
use Rattle.pc_tree.specs.Stopping.{name_of_item, name_of_member, bound_by, is_field}
use Rattle.pc_tree.specs.Tree.{Name, Expr, name, call, Param, Member, field_member, method_member, Item, def_item}
use Rattle.pc_tree.specs.Tree.{ClassDef, Module}
use Rattle.pc_scope.specs.declared.resolution.Owner.{Owner}
use Rattle.pc_scope.specs.declared.resolution.Owner.TheVariants as owners
use Rattle.pc_scope.specs.declared.resolution.NameMeaning.{NameMeaning}
use Rattle.pc_scope.specs.declared.resolution.NameMeaning.TheVariants as meaning
use Rattle.pc_scope.specs.Bindings.{param_names, constants_in, classes_in, Body, bodies}
use Rattle.pc_scope.specs.Expressions.{keyword_names}
use Rattle.pc_scope.specs.Resolution.{function_of, resolve_in_module}
use Rattle.pc_types.specs.Tree.{Tree, Class}
use Rattle.pc_types.specs.Join.{absorbs}
use Rattle.pc_annotations.specs.Bases.{bases_of}
use Rattle.pc_annotations.specs.Text.{class_text}
use Rattle.pc_class.specs.Entries.{MemberEntry, inherited_by, class_entries}
use Rattle.pc_class.specs.Findings.{base_class}
use Rattle.pc_notes.specs.Notes.{is_same_place}
use Rattle.pc_detail_texts.specs.Details as detail
use Rattle.pc_detail_texts.specs.Details.{Detail, FunctionName, Earlier, Elsewhere, Early, NoMain}
use Rattle.pc_detail_rules.specs.Nodes.{OwnedExpr, exprs_of_module, function_name}
use Rattle.pc_detail_rules.specs.Operations.{has_member, numbers_from}
use Rattle.pc_detail_rules.specs.Overrides.{detail_or}

-- the first of these names with this text
abbrev pub first_named : List ℕ → List Name → Option Name
first_named word names = find (λ n. bytes_eq word n.text) names

-- the name at a place
abbrev pub name_at : Place → List Name → Option Name
name_at p names = find (λ n. is_same_place p n.place) names

-- the place of a name
abbrev pub place_of_name : Name → Place
place_of_name n = n.place

-- the first detail that a rule gives for one of these
abbrev pub first_of_all : {A : Type 0} → (A → Option (Detail Tree)) → List A → Option (Detail Tree)
first_of_all rule [] = None
first_of_all rule (x ∷ xs) = detail_or (rule x) (first_of_all rule xs)

-- the detail of the first of some things at a place for which a rule gives one, by those before it
abbrev pub first_from : {A : Type 0} → (A → Place) → (rule : List A → A → Option (Detail Tree)) → Place
    → (before : List A) → List A → Option (Detail Tree)
first_from place rule p before [] = None
first_from place rule p before (x ∷ xs) = detail_or (if is_same_place p (place x) then rule before x else None)
    (first_from place rule p (before ++ x ∷ []) xs)

-- ---- E01

-- names that are bound together, and the kind of earlier binding that each of them is
pub record Together : Type 0 where
  pub names : List Name
  pub earlier : Place → Earlier
  -- whether `self` comes before them
  pub behind_self : Test

-- the items of a module, bound together
abbrev pub items_together : Module → Together
items_together m = record {
  names = map name_of_item m.items;
  earlier = detail.earlier_item;
  behind_self = false;
}

-- whether an owner is a method
abbrev pub is_method : Owner → Test
is_method (owners.Method c i) = true
is_method owner = false

-- the parameters of a function or method, bound together
abbrev pub parameters_together : Body → Together
parameters_together b = record {
  names = param_names b.function.params;
  earlier = detail.earlier_parameter;
  behind_self = is_method b.owner;
}

-- the arguments by name of a call, given together
abbrev pub arguments_of : Expr → List Together
arguments_of (call p callee args kws) = record {
  names = keyword_names kws;
  earlier = detail.earlier_argument;
  behind_self = false;
} ∷ []
arguments_of e = []

-- the arguments by name of an expression that is a call
abbrev pub arguments_together : OwnedExpr → List Together
arguments_together o = arguments_of o.expr

-- the earlier binding that a name repeats: that of an earlier name, or else `self`
abbrev pub repeated_name : (is_self : Test) → (Place → Earlier) → Option Name → Option Earlier
repeated_name is_self earlier (Some n) = Some (earlier n.place)
repeated_name true earlier None = Some detail.earlier_self
repeated_name false earlier None = None

-- the earlier binding of this name, among the names before it that are bound together with it
abbrev pub repeated_after : Together → (before : List Name) → Name → Option Earlier
repeated_after t before n =
    repeated_name (t.behind_self && bytes_eq n.text (codes "self")) t.earlier (first_named n.text before)

-- the detail of a name that repeats one before it
abbrev pub twice_after : Together → (before : List Name) → Name → Option (Detail Tree)
twice_after t before n = option_map (detail.twice n.text) (repeated_after t before n)

-- the detail of the first name at a place that repeats one, among names that are bound together
abbrev pub twice_among : Place → Together → Option (Detail Tree)
twice_among p t = first_from place_of_name (twice_after t) p [] t.names

-- E01: the earlier binding of the name: an item of the module, a parameter, `self`, or an argument of the call
abbrev pub twice_detail : Module → Place → Option (Detail Tree)
twice_detail m p = first_of_all (twice_among p)
    (items_together m ∷ (map parameters_together (bodies m) ++ flat_map arguments_together (exprs_of_module m)))

-- ---- E02, E03, E04

-- the class of a method, if it has a member of this name
abbrev pub class_around : Module → List ℕ → Owner → Option (List ℕ)
class_around m word (owners.Method c i) = if has_member m word c then Some (class_text m c) else None
class_around m word owner = None

-- the names that a function or method binds
abbrev pub names_of_body : Body → List Name
names_of_body b = param_names b.function.params ++ bound_by b.function.body

-- the first name with this text that a function or method binds: a parameter, or in its body
abbrev pub bound_in : List ℕ → Body → Option Name
bound_in word b = first_named word (names_of_body b)

-- a function that binds a name, with the place of that name, or else another answer
abbrev pub elsewhere_or : FunctionName → Option Name → Elsewhere → Elsewhere
elsewhere_or f None other = other
elsewhere_or f (Some n) other = detail.in_function f n.place

-- the first function or method that binds a name, with the place of that name
abbrev pub elsewhere_among : Module → List ℕ → List Body → Elsewhere
elsewhere_among m word [] = detail.nowhere
elsewhere_among m word (b ∷ rest) = elsewhere_or (function_name m b) (bound_in word b) (elsewhere_among m word rest)

-- another place where a name is bound: in the class around, or in another function
abbrev pub elsewhere : Module → List ℕ → Option (List ℕ) → Elsewhere
elsewhere m word (Some class) = detail.in_class class
elsewhere m word None = elsewhere_among m word (bodies m)

-- E02: the name, and another place where it is bound
abbrev pub unknown_detail : Module → OwnedExpr → Option (Detail Tree)
unknown_detail m o = option_map
    (λ n. detail.unknown_name n.text (elsewhere m n.text (class_around m n.text o.owner))) (name_of_tree o.expr)

-- E02 at the decorator of a class: no header imports `dataclass`
abbrev pub decorator_detail : Module → Place → Option (Detail Tree)
decorator_detail m p = option_map (λ (c : ClassDef). detail.unknown_name (codes "dataclass") detail.not_imported)
    (find (λ c. is_same_place p c.decorator) (classes_in m.items))

-- a name that is defined later or here, at its place
abbrev pub early_at : (name : List ℕ) → Option Name → Option Early
early_at word n = option_map (λ x. detail.early_name word x.place) n

-- the name as one that is used too early, if it means a function, a class or a constant
abbrev pub early_of : Module → (name : List ℕ) → NameMeaning → Option Early
early_of m word (meaning.Func i) = Some (detail.early_function word)
early_of m word (meaning.Class c) = early_at word (option_map (λ x. x.name) (slice_get (classes_in m.items) c))
early_of m word (meaning.Const i) = early_at word (option_map (λ x. x.name) (slice_get (constants_in m.items) i))
early_of m word r = None

-- E03: the name or callee that the initializer uses too early
abbrev pub early_detail : Module → Expr → Option (Detail Tree)
early_detail m (name n) = option_map detail.early (early_of m n.text (resolve_in_module m n.text))
early_detail m e = Some (detail.early detail.early_callee)

-- the places where names have this text
abbrev pub places_named : List ℕ → List Name → List Place
places_named word names = map place_of_name (filter (λ n. bytes_eq word n.text) names)

-- E04: the local, and the first three places where its function binds it
abbrev pub unassigned_detail : Module → OwnedExpr → Option (Detail Tree)
unassigned_detail m o = option_and_then (λ n. option_map
    (λ f. detail.unassigned n.text (take 3 (places_named n.text (bound_by f.body)))) (function_of m o.owner))
    (name_of_tree o.expr)

-- ---- E06, E07, E08

-- a class with its number
pub record NumberedClass : Type 0 where
  pub number : ℕ
  pub class : ClassDef

-- a member of a class with the class's name
pub record OwnedMember : Type 0 where
  pub class : List ℕ
  pub member : Member

-- the members that a class binds
abbrev pub members_bound : Module → ℕ → ClassDef → List OwnedMember
members_bound m c class = map (λ (e : MemberEntry). record { class = class.name.text; member = e.member })
    (filter (λ (e : MemberEntry). e.binds) (class_entries (inherited_by (base_class m c class)) class))

-- the numbers of the classes above a class, the root first
abbrev pub above : Module → ℕ → List ℕ
above m c = filter (λ a. absorbs (bases_of m) (Class a) (Class c)) (numbers_from 0 (classes_in m.items))

-- the members that the class of this number binds, none if there is no such class
abbrev pub members_of_number : Module → ℕ → Option ClassDef → List OwnedMember
members_of_number m c None = []
members_of_number m c (Some class) = members_bound m c class

-- the members that the classes above a class bind, those of the root first
abbrev pub members_above : Module → ℕ → List OwnedMember
members_above m c = flat_map (λ a. members_of_number m a (slice_get (classes_in m.items) a)) (above m c)

-- an inherited member clashes with one of a class: it has its name, and one of them is a field
abbrev pub clashes_with : Member → OwnedMember → Test
clashes_with x above = bytes_eq (name_of_member x).text (name_of_member above.member).text
    && (is_field x || is_field above.member)

-- the detail of a member that has the name of this one
abbrev pub member_detail : OwnedMember → Detail Tree
member_detail o = let n = name_of_member o.member in detail.member n.text o.class n.place

-- members of a class, with the class's name
abbrev pub owned_by : ClassDef → List Member → List OwnedMember
owned_by class members = map (λ x. record { class = class.name.text; member = x }) members

-- a member if there is one, else another
abbrev pub member_or : Option OwnedMember → Option OwnedMember → Option OwnedMember
member_or None other = other
member_or (Some o) other = Some o

-- whether a member has the name of another
abbrev pub has_name_of : Member → OwnedMember → Test
has_name_of x o = bytes_eq (name_of_member x).text (name_of_member o.member).text

-- the detail of a member of a class: the earlier member of its name, or else the nearest above that it clashes with
abbrev pub clash_detail : Module → NumberedClass → (before : List Member) → Member → Option (Detail Tree)
clash_detail m n before x = option_map member_detail
    (member_or (find (has_name_of x) (owned_by n.class before)) (find (clashes_with x) (reverse (members_above m n.number))))

-- classes with their numbers, from this one on
abbrev pub numbered_from : ℕ → List ClassDef → List NumberedClass
numbered_from c [] = []
numbered_from c (class ∷ rest) = record { number = c; class = class } ∷ numbered_from (suc c) rest

-- the classes of a module with their numbers
abbrev pub numbered_classes : Module → List NumberedClass
numbered_classes m = numbered_from 0 (classes_in m.items)

-- the place of the name of a member
abbrev pub place_of_member : Member → Place
place_of_member x = (name_of_member x).place

-- the detail of the first member of a class whose name is at a place and that has one
abbrev pub clash_in_class : Module → Place → NumberedClass → Option (Detail Tree)
clash_in_class m p n = first_from place_of_member (clash_detail m n) p [] n.class.members

-- E06: the member before or above that has the name, its class and its place
abbrev pub twice_member_detail : Module → Place → Option (Detail Tree)
twice_member_detail m p = first_of_all (clash_in_class m p) (numbered_classes m)

-- E07: the name of the base, and the place of a later class of that name
abbrev pub base_detail : Module → Place → Option (Detail Tree)
base_detail m p = option_map (λ n. detail.base n.text
    (option_map place_of_name (first_named n.text (map (λ c. c.name) (classes_in m.items)))))
    (name_at p (filter_map (λ c. c.base) (classes_in m.items)))

-- whether a member is a field with a default
abbrev pub has_default : Member → Test
has_default (field_member d) = is_some d.default
has_default (method_member f) = false

-- the detail of a field after one with a default
abbrev pub field_order_after : Member → OwnedMember → Detail Tree
field_order_after x o =
    let n = name_of_member o.member in detail.field_order (name_of_member x).text o.class n.text n.place

-- the detail of a member of a class after the first field with a default, if there is one
abbrev pub order_detail : (before : List OwnedMember) → Member → Option (Detail Tree)
order_detail before x = option_map (field_order_after x) (find (λ o. has_default o.member) before)

-- the member that an entry of a class binds, if it does
abbrev pub bound_member : ClassDef → MemberEntry → List OwnedMember
bound_member class e = if e.binds then record { class = class.name.text; member = e.member } ∷ [] else []

-- the place of the name of an entry
abbrev pub place_of_entry : MemberEntry → Place
place_of_entry e = place_of_member e.member

-- the detail of an entry of a class, after those before it and the members above the class
abbrev pub entry_order : (above : List OwnedMember) → ClassDef → (before : List MemberEntry) → MemberEntry
    → Option (Detail Tree)
entry_order above class before e = order_detail (above ++ flat_map (bound_member class) before) e.member

-- the detail of the first member of a class whose name is at a place after a field with a default, its own or one above
abbrev pub order_in_class : Module → Place → NumberedClass → Option (Detail Tree)
order_in_class m p n = first_from place_of_entry (entry_order (members_above m n.number) n.class) p []
    (class_entries (inherited_by (base_class m n.number n.class)) n.class)

-- E08: the first field with a default before it, with its class and its place
abbrev pub field_order_detail : Module → Place → Option (Detail Tree)
field_order_detail m p = first_of_all (order_in_class m p) (numbered_classes m)

-- ---- E24, E28, E29, E31

-- the detail of a name that a function binds: the earlier binding, a parameter or an earlier place in the body
abbrev pub late_after : (before : List Name) → Name → Option (Detail Tree)
late_after before n =
    Some (detail.late_annotation n.text (option_map place_of_name (first_named n.text before)))

-- the earlier binding of the first of some names at a place
abbrev pub late_among : Place → List Name → Option (Detail Tree)
late_among p names = first_from place_of_name late_after p [] names

-- the earlier binding of the name at a place, if a function binds it
abbrev pub late_in : Place → Body → Option (Detail Tree)
late_in p b = late_among p (names_of_body b)

-- E24: the earlier binding of the local that is annotated
abbrev pub late_annotation_detail : Module → Place → Option (Detail Tree)
late_annotation_detail m p = first_of_all (late_in p) (bodies m)

-- the reason why the first item named `main` is not a function without parameters
abbrev pub no_main_of : Option Item → NoMain
no_main_of None = detail.no_such_name
no_main_of (Some (def_item p f)) = detail.has_parameters f.name.place
no_main_of (Some i) = detail.is_no_function (name_of_item i).place

-- E28: the reason why there is no function `main` without parameters
abbrev pub main_detail : Module → Detail Tree
main_detail m = detail.main (no_main_of (find (λ i. bytes_eq (codes "main") (name_of_item i).text) m.items))

-- the names that a class binds as its members
abbrev pub names_of_members : ClassDef → List Name
names_of_members c = map name_of_member c.members

-- E29: the reserved name that is bound
abbrev pub reserved_detail : Module → Place → Option (Detail Tree)
reserved_detail m p = option_map (λ n. detail.reserved n.text)
    (name_at p (map name_of_item m.items ++ (flat_map names_of_members (classes_in m.items)
    ++ flat_map names_of_body (bodies m))))

-- the detail of a parameter after one with a default
abbrev pub default_order_after : Name → Param → Detail Tree
default_order_after n x = detail.default_order n.text x.name.text x.name.place

-- the place of the name of a parameter
abbrev pub place_of_param : Param → Place
place_of_param x = x.name.place

-- the detail of a parameter, if one before it has a default
abbrev pub order_of_param : (before : List Param) → Param → Option (Detail Tree)
order_of_param before x = option_map (default_order_after x.name) (find (λ y. is_some y.default) before)

-- the detail of the first of some parameters that is at a place after one with a default
abbrev pub default_order_among : Place → List Param → Option (Detail Tree)
default_order_among p params = first_from place_of_param order_of_param p [] params

-- the detail of the first parameter of a function that is at a place after one with a default
abbrev pub default_order_in : Place → Body → Option (Detail Tree)
default_order_in p b = default_order_among p b.function.params

-- E31: the first parameter with a default before it
abbrev pub default_order_detail : Module → Place → Option (Detail Tree)
default_order_detail m p = first_of_all (default_order_in p) (bodies m)
