-- The walk over names and statements, as the program makes it: private to this crate, tied to the rules of each code in
-- proofs/. Own rule of the profile.
use Rattle.std.specs.Prelude.{◌≡◌, ℕ, List, [], ◌++◌, map, Bool as Test, false, ◌&&◌, ◌||◌, if◌then◌else◌, Option, Some, None}
use Rattle.std.specs.Prelude.{bytes_eq, codes, find, flat_map, reverse, slice_get}
use Rattle.std.specs.BTreeMap.{get_by}
use Rattle.std.specs.Borrow.{Bor}
use Rattle.std.specs.Cmp.Lexicographic.{slice_cmp}
use Rattle.std.specs.Option.{option_map, option_and_then}
use Rattle.std.specs.Ordering.{nat_cmp}
use Rattle.pc_source.specs.declared.place.Place.{Place}
use Rattle.pc_tree.specs.declared.code.Code.TheVariants.{E01, E02, E05, E06, E07, E08, E24, E29, E30}
use Rattle.pc_tree.specs.declared.code.Code.TheVariants.{E31}
use Rattle.pc_tree.specs.declared.code.Code.{Code}
use Rattle.pc_tree.specs.Code.{finding}
use Rattle.pc_tree.specs.declared.tree.ClassDef.{ClassDef as RustClass}
use Rattle.pc_tree.specs.declared.tree.Member.{Member as RustMember}
use Rattle.pc_tree.specs.declared.tree.Param.{Param as RustParam}
use Rattle.pc_tree.specs.Stopping.{name_of_member}
use Rattle.pc_tree.specs.Tree.{Name, Stmt, Stmts, Branches, while_loop, for_loop, conditional, no_stmts, more_stmts}
use Rattle.pc_tree.specs.Tree.{no_branches, more_branches, ClassDef, Member, Module, Param, class_of, member_of}
use Rattle.pc_tree.specs.Tree.{field_member, method_member, param_of}
use Rattle.pc_scope.specs.Bindings.{Body, bodies, classes_in}
use Rattle.pc_scope_findings.specs.Unreached.{first_token_place}
use Rattle.pc_types.specs.Tree.{Tree}
use Rattle.pc_class.specs.Entries.{Inherited, inherited_by, member_binds}
use Rattle.pc_class.specs.Findings.{base_class}
use Rattle.pc_notes.specs.Notes.{or_else}
use Rattle.pc_detail_texts.specs.Details as detail
use Rattle.pc_detail_texts.specs.Details.{Detail, Earlier}
use Rattle.pc_detail_texts.specs.Shown.{leaving_of_value}
use Rattle.pc_detail_texts.specs.declared.details.Leaving.{Leaving as RustLeaving}
use Rattle.pc_name_details.specs.declared.class_members.OwnedMember.{OwnedMember as RustOwned}
use Rattle.pc_detail_facts.specs.declared.facts.Facts.{Facts}
use Rattle.pc_name_details.specs.declared.first_places.FirstPlaces.{FirstPlaces}
use Rattle.pc_name_details.specs.declared.repeated.Together.{Together as RustTogether}
use Rattle.pc_name_details.specs.declared.repeated.Together.TheVariants as bound
use Rattle.pc_detail_facts.specs.Held.{module_held}
use Rattle.pc_detail_rules.specs.Names.{NumberedClass, OwnedMember, Together, arguments_together, base_detail}
use Rattle.pc_detail_rules.specs.Names.{decorator_detail, default_order_detail, default_order_in, field_order_after}
use Rattle.pc_detail_rules.specs.Names.{field_order_detail, first_named, first_of_all, has_default, items_together, late_in}
use Rattle.pc_detail_rules.specs.Names.{late_annotation_detail, members_above, members_bound, name_at, parameters_together}
use Rattle.pc_detail_rules.specs.Names.{clashes_with, has_name_of, member_or, owned_by}
use Rattle.pc_detail_rules.specs.Names.{place_of_name, reserved_detail, twice_among, twice_detail, twice_member_detail}
use Rattle.pc_detail_rules.specs.Nodes.{exprs_of_module}
use Rattle.pc_name_details.specs.Offered.{Rule, of_code, at_place}
use Rattle.pc_detail_rules.specs.Overrides.{detail_or}
use Rattle.pc_detail_rules.specs.Statements.{loose_detail, outside_loop_detail, unreachable_detail, unreached_after}

-- ---- names with their first places

-- the place where a name first occurs, if it is one of those that are kept
abbrev pub place_held : FirstPlaces → List ℕ → Option Place
place_held f word = get_by (λ k. slice_cmp nat_cmp word k.now) f.places

-- the places that are kept are the first of these names
pub record AreFirst (f : FirstPlaces) (names : List Name) : Type 0 where
  pub at : (word : List ℕ) → place_held f word ≡ option_map place_of_name (first_named word names)

-- ---- names that are bound together

-- a name at this place, as the earlier binding of a later one
abbrev pub earlier_held : RustTogether → Place → Earlier
earlier_held bound.Items = detail.earlier_item
earlier_held (bound.Parameters b) = detail.earlier_parameter
earlier_held bound.Arguments = detail.earlier_argument

-- whether `self` comes before them
abbrev pub has_self : RustTogether → Test
has_self (bound.Parameters b) = b
has_self t = false

-- names that are bound together in this way
abbrev pub together_of : RustTogether → List Name → Together
together_of t names = record { names = names; earlier = earlier_held t; behind_self = has_self t }

-- names that are bound together by the arguments of a call
abbrev pub arguments_named : List Name → Together
arguments_named names = together_of bound.Arguments names

-- the detail of the first reserved name at a place
abbrev pub reserved_of_names : List Name → Place → Option (Detail Tree)
reserved_of_names names p = option_map (λ n. detail.reserved n.text) (name_at p names)

-- the tree of a borrowed parameter
abbrev pub param_lent : Bor RustParam → Param
param_lent p = param_of p.now

-- the details of the names that a function binds
abbrev pub body_rule : Body → Rule
body_rule b f = detail_or (of_code E01 (λ p. twice_among p (parameters_together b)) f)
    (detail_or (of_code E31 (λ p. default_order_in p b) f) (of_code E24 (λ p. late_in p b) f))

-- ---- classes

-- the detail of the decorator of a class, where no header imports it
abbrev pub decorator_rule : ClassDef → Rule
decorator_rule c =
    of_code E02 (at_place c.decorator (Some (detail.unknown_name (codes "dataclass") detail.not_imported)))

-- the detail of a base that is none, given the names of all classes
abbrev pub base_rule : List Name → Option Name → Rule
base_rule classes None f = None
base_rule classes (Some n) f =
    of_code E07 (at_place n.place (Some (detail.base n.text (option_map place_of_name (first_named n.text classes))))) f

-- the names of classes
abbrev pub names_of_classes : List ClassDef → List Name
names_of_classes cs = map (λ c. c.name) cs

-- the details of the head of a class, given the names of all classes
abbrev pub head_rule : List Name → ClassDef → Rule
head_rule names c f = detail_or (decorator_rule c f) (base_rule names c.base f)

-- a member of the program with its class
abbrev pub owned_member : RustOwned → OwnedMember
owned_member o = record { class = (class_of o.class.now).name.text; member = member_of o.member.now }

-- the tree of a borrowed member
abbrev pub member_lent : Bor RustMember → Member
member_lent x = member_of x.now

-- whether a member has this name
abbrev pub has_word : List ℕ → Member → Test
has_word word x = bytes_eq word (name_of_member x).text

-- a class with its number
abbrev pub numbered_held : ℕ → RustClass → NumberedClass
numbered_held number class = record { number = number; class = class_of class }

-- the earlier member of the name of a member of a class, or else the nearest above that it clashes with
abbrev pub clash_member : Module → NumberedClass → (before : List Member) → Member → Option OwnedMember
clash_member m n before x = member_or (find (has_name_of x) (owned_by n.class before))
    (find (clashes_with x) (reverse (members_above m n.number)))

-- a class has this number in the module
abbrev pub HasNumber : Facts → ℕ → ClassDef → Type 0
HasNumber f number class = slice_get (classes_in (module_held f).items) number ≡ Some class

-- whether a name that classes above have keeps a member of that name from binding it
abbrev pub is_taken_by : Inherited → Member → Test
is_taken_by h (field_member f) = h.has_field f.name.text || h.has_method f.name.text
is_taken_by h (method_member f) = h.has_field f.name.text

-- a member of a class, if the class binds the first of its name
abbrev pub first_binding : Module → ℕ → ClassDef → Member → Option OwnedMember
first_binding m c class x = if member_binds (inherited_by (base_class m c class)) [] x
    then Some (record { class = class.name.text; member = x }) else None

-- the member of this name that a class binds
abbrev pub bound_named : Module → ℕ → List ℕ → Option ClassDef → Option OwnedMember
bound_named m c word None = None
bound_named m c word (Some class) = option_and_then (first_binding m c class) (find (has_word word) class.members)

-- the member of this name that the class of this number binds
abbrev pub member_bound : Module → ℕ → List ℕ → Option OwnedMember
member_bound m c word = bound_named m c word (slice_get (classes_in m.items) c)

-- the first member with a default, after one more
abbrev pub first_default_after : Option OwnedMember → OwnedMember → (binds : Test) → Option OwnedMember
first_default_after before o binds = or_else before (if binds && has_default o.member then Some o else None)

-- the first of some members that has a default
abbrev pub first_default : List OwnedMember → Option OwnedMember
first_default os = find (λ o. has_default o.member) os

-- the first member with a default of the classes above a class
abbrev pub first_default_above : Module → ℕ → Option OwnedMember
first_default_above m c = first_default (members_above m c)

-- the first member with a default of a class or of those above it
abbrev pub first_default_of : Module → NumberedClass → Option OwnedMember
first_default_of m n = first_default (members_above m n.number ++ members_bound m n.number n.class)

-- of each of these classes, by its number: the first member with a default, of it or of those above it
pub record AreFirstDefaults (m : Module) (first : List (Option RustOwned)) : Type 0 where
  pub each : (c : ℕ) (o : Option RustOwned) (class : ClassDef) → slice_get first c ≡ Some o
      → slice_get (classes_in m.items) c ≡ Some class
      → option_map owned_member o ≡ first_default_of m (record { number = c; class = class })

-- the detail of a member after the first with a default, if there is one
abbrev pub order_after : Option OwnedMember → Member → Option (Detail Tree)
order_after before x = option_map (field_order_after x) before

-- the details of the members of classes
abbrev pub members_rule : Module → Rule
members_rule m f = detail_or (of_code E06 (twice_member_detail m) f) (of_code E08 (field_order_detail m) f)

-- ---- the names of a module

-- the details of the names of a module
abbrev pub names_rule : Module → Rule
names_rule m f = detail_or (of_code E01 (λ p. twice_among p (items_together m)) f)
    (detail_or (of_code E29 (reserved_detail m) f)
    (detail_or (first_of_all (λ c. head_rule (names_of_classes (classes_in m.items)) c f) (classes_in m.items))
    (detail_or (members_rule m f)
    (first_of_all (λ b. body_rule b f) (bodies m)))))

-- ---- statements

-- the detail of a keyword outside a loop
abbrev pub outside_of_value : RustLeaving → Detail Tree
outside_of_value w = detail.outside_loop (leaving_of_value w)

-- the detail of a statement after the one before it, if there is one
abbrev pub behind_rule : Option Stmt → Stmt → Rule
behind_rule None s f = None
behind_rule (Some before) s f = of_code E30 (at_place (first_token_place s) (Some (unreached_after before))) f

-- the details of a statement, after the one before it
abbrev pub statement_rule : Option Stmt → Stmt → Rule
statement_rule before s f =
    detail_or (behind_rule before s f) (of_code E05 (at_place (first_token_place s) (loose_detail s)) f)

-- the details of the statements of a suite, each before those in its own suites
abbrev mutual
  -- the details of a suite, after the statement before it
  pub suite_rule : Option Stmt → Stmts → Rule
  suite_rule before no_stmts f = None
  suite_rule before (more_stmts s rest) f =
      detail_or (detail_or (statement_rule before s f) (below_rule s f)) (suite_rule (Some s) rest f)

  -- the details of the suites of a statement
  pub below_rule : Stmt → Rule
  below_rule (while_loop p c b) f = suite_rule None b f
  below_rule (for_loop p n e b) f = suite_rule None b f
  below_rule (conditional p bs o) f = detail_or (branches_rule bs f) (suite_rule None o f)
  below_rule s f = None

  -- the details of the suites of branches
  pub branches_rule : Branches → Rule
  branches_rule no_branches f = None
  branches_rule (more_branches c b rest) f = detail_or (suite_rule None b f) (branches_rule rest f)

-- the details of the statements of functions
abbrev pub statements_rule : List Body → Rule
statements_rule bs f = first_of_all (λ b. suite_rule None b.function.body f) bs

-- ---- the whole walk

-- the details of the names that are given together, as the arguments by name of calls are
abbrev pub given_rule : List Together → Rule
given_rule given f = first_of_all (λ t. of_code E01 (λ p. twice_among p t) f) given

-- the details of a whole module: of its names, of its statements, and of the arguments of its calls
abbrev pub walk_rule : Module → List Together → Rule
walk_rule m given f = detail_or (names_rule m f) (detail_or (statements_rule (bodies m) f) (given_rule given f))

-- the details that a walk gives, by the rule of each code
abbrev pub walked_detail : Module → Place → Code → Option (Detail Tree)
walked_detail m p E01 = twice_detail m p
walked_detail m p E02 = decorator_detail m p
walked_detail m p E05 = outside_loop_detail m p
walked_detail m p E06 = twice_member_detail m p
walked_detail m p E07 = base_detail m p
walked_detail m p E08 = field_order_detail m p
walked_detail m p E24 = late_annotation_detail m p
walked_detail m p E29 = reserved_detail m p
walked_detail m p E30 = unreachable_detail m p
walked_detail m p E31 = default_order_detail m p
walked_detail m p c = None

-- the law that a walk gives the details of the rules
abbrev pub WalksAreExact : Type 0
WalksAreExact = (m : Module) (p : Place) (c : Code)
    → walk_rule m (flat_map arguments_together (exprs_of_module m)) (finding p c) ≡ walked_detail m p c
