-- The findings that stop a run before its first event: conditions on the tree alone. Python Language Reference 3.12,
-- 4.2 "Naming and binding", 6.3.4 "Calls", 7.9, 7.10, 8.7; the reserved names, `main` and the members of classes are
-- own rules of the profile.
use Rattle.std.specs.Prelude.{ℕ, ◌&&◌, ◌||◌, not, Bool, true, false, if◌then◌else◌, List, [], ◌∷◌, ◌++◌, map, Option}
use Rattle.std.specs.Prelude.{Some, None, is_some, is_none, Contains, bytes_eq, codes}
use Rattle.std.specs.List.{list_any}
use Rattle.pc_source.specs.declared.place.Place.{Place}
use Rattle.pc_source.specs.ReservedNames.{is_reserved}
use Rattle.pc_tree.specs.declared.code.Code.{Code}
use Rattle.pc_tree.specs.declared.code.Code.TheVariants.{E01, E05, E06, E28, E29, E31}
use Rattle.pc_tree.specs.Tree.{Name, Expr, name, number, text, truth, nothing, tuple, list, dict, negative, negation}
use Rattle.pc_tree.specs.Tree.{binary, compare, is_none as is_none_of, is_not_none, conjunction, disjunction, attribute}
use Rattle.pc_tree.specs.Tree.{index, call, Exprs, no_exprs, more_exprs, Entries, no_entries, more_entries, Keywords}
use Rattle.pc_tree.specs.Tree.{no_keywords, more_keywords, Target, to_name, to_attribute, to_index, Stmt, pass, breaks}
use Rattle.pc_tree.specs.Tree.{continues, returns, asserts, annotated, assigns, evaluates, while_loop, for_loop}
use Rattle.pc_tree.specs.Tree.{conditional, Stmts, no_stmts, more_stmts, Branches, no_branches, more_branches, Param}
use Rattle.pc_tree.specs.Tree.{FuncDef, Member, field_member, method_member, Item, constant_item, class_item, def_item}
use Rattle.pc_tree.specs.Tree.{Module}

-- ---- names

-- the text is among these
abbrev pub is_among : List (List ℕ) → List ℕ → Bool
is_among texts sought = list_any (λ x. bytes_eq x sought) texts

-- the place if the test holds, otherwise no place
abbrev pub one_if : Bool → Place → List Place
one_if test place = if test then place ∷ [] else []

-- the name that an item of the module binds
abbrev pub name_of_item : Item → Name
name_of_item (constant_item first c) = c.name
name_of_item (class_item first c) = c.name
name_of_item (def_item first f) = f.name

-- the name that a member binds in its class
abbrev pub name_of_member : Member → Name
name_of_member (field_member f) = f.name
name_of_member (method_member f) = f.name

-- the name of a parameter
abbrev pub name_of_param : Param → Name
name_of_param p = p.name

-- the text of a name, if there is one
abbrev pub option_text : Option Name → Option (List ℕ)
option_text None = None
option_text (Some n) = Some n.text

-- the list is empty
abbrev pub has_none : {X : Type 0} → List X → Bool
has_none [] = true
has_none (x ∷ xs) = false

-- ---- rules for all functions and methods

-- the places that a rule gives for each method among these members, in order
abbrev pub of_members : (method : FuncDef → List Place) → List Member → List Place
of_members method [] = []
of_members method (field_member f ∷ ms) = of_members method ms
of_members method (method_member f ∷ ms) = method f ++ of_members method ms

-- the places that one rule gives for each function, and another for each method, of these items, in order
abbrev pub of_defs : (function method : FuncDef → List Place) → List Item → List Place
of_defs function method [] = []
of_defs function method (constant_item first c ∷ is) = of_defs function method is
of_defs function method (class_item first c ∷ is) = of_members method c.members ++ of_defs function method is
of_defs function method (def_item first f ∷ is) = function f ++ of_defs function method is

-- ---- E01: a name bound again

-- the names that repeat an earlier one; a reserved name binds nothing, so it repeats none
abbrev pub bound_again : List (List ℕ) → List Name → List Place
bound_again before [] = []
bound_again before (n ∷ ns) = one_if (is_among before n.text && not (is_reserved n.text)) n.place
    ++ bound_again (n.text ∷ before) ns

-- the arguments by name that repeat an earlier one of the same call
abbrev pub given_again : List (List ℕ) → Keywords → List Place
given_again before no_keywords = []
given_again before (more_keywords n e ks) = one_if (is_among before n.text) n.place ++ given_again (n.text ∷ before) ks

-- the arguments by name that are repeated in the calls of expressions
abbrev mutual
  -- the repeated arguments in the calls of an expression
  pub given_in : Expr → List Place
  given_in (name n) = []
  given_in (number p digits) = []
  given_in (text p characters) = []
  given_in (truth p b) = []
  given_in (nothing p) = []
  given_in (tuple p xs) = given_in_all xs
  given_in (list p xs) = given_in_all xs
  given_in (dict p es) = given_in_entries es
  given_in (negative p e) = given_in e
  given_in (negation p e) = given_in e
  given_in (binary p o l r) = given_in l ++ given_in r
  given_in (compare p o l r) = given_in l ++ given_in r
  given_in (is_none_of p e) = given_in e
  given_in (is_not_none p e) = given_in e
  given_in (conjunction p l r) = given_in l ++ given_in r
  given_in (disjunction p l r) = given_in l ++ given_in r
  given_in (attribute p e f) = given_in e
  given_in (index p e i) = given_in e ++ given_in i
  given_in (call p e xs ks) = given_in e ++ (given_in_all xs ++ (given_again [] ks ++ given_in_keywords ks))

  -- the repeated arguments in the calls of several expressions
  pub given_in_all : Exprs → List Place
  given_in_all no_exprs = []
  given_in_all (more_exprs x xs) = given_in x ++ given_in_all xs

  -- the repeated arguments in the calls of the keys and values of a dict display
  pub given_in_entries : Entries → List Place
  given_in_entries no_entries = []
  given_in_entries (more_entries x y es) = given_in x ++ (given_in y ++ given_in_entries es)

  -- the repeated arguments in the calls of the values of arguments by name
  pub given_in_keywords : Keywords → List Place
  given_in_keywords no_keywords = []
  given_in_keywords (more_keywords n e ks) = given_in e ++ given_in_keywords ks

-- the repeated arguments in the calls of an optional expression
abbrev pub given_in_optional : Option Expr → List Place
given_in_optional None = []
given_in_optional (Some e) = given_in e

-- the repeated arguments in the calls of a target
abbrev pub given_in_target : Target → List Place
given_in_target (to_name n) = []
given_in_target (to_attribute p e f) = given_in e
given_in_target (to_index p e i) = given_in e ++ given_in i

-- the arguments by name that are repeated in the calls of statements
abbrev mutual
  -- the repeated arguments in the calls of a statement
  pub given_in_stmt : Stmt → List Place
  given_in_stmt (pass p) = []
  given_in_stmt (breaks p) = []
  given_in_stmt (continues p) = []
  given_in_stmt (returns p value) = given_in_optional value
  given_in_stmt (asserts p condition message) = given_in condition ++ given_in_optional message
  given_in_stmt (annotated p n a value) = given_in_optional value
  given_in_stmt (assigns p target value) = given_in_target target ++ given_in value
  given_in_stmt (evaluates p value) = given_in value
  given_in_stmt (while_loop p condition body) = given_in condition ++ given_in_stmts body
  given_in_stmt (for_loop p target iterable body) = given_in iterable ++ given_in_stmts body
  given_in_stmt (conditional p branches otherwise) = given_in_branches branches ++ given_in_stmts otherwise

  -- the repeated arguments in the calls of the statements of a suite
  pub given_in_stmts : Stmts → List Place
  given_in_stmts no_stmts = []
  given_in_stmts (more_stmts s rest) = given_in_stmt s ++ given_in_stmts rest

  -- the repeated arguments in the calls of conditions and their suites
  pub given_in_branches : Branches → List Place
  given_in_branches no_branches = []
  given_in_branches (more_branches condition body rest) = given_in condition
      ++ (given_in_stmts body ++ given_in_branches rest)

-- the repeated arguments in the calls of the values of constants
abbrev pub given_in_constants : List Item → List Place
given_in_constants [] = []
given_in_constants (constant_item first c ∷ is) = given_in c.value ++ given_in_constants is
given_in_constants (class_item first c ∷ is) = given_in_constants is
given_in_constants (def_item first f ∷ is) = given_in_constants is

-- the names bound before the parameters: `self` in a method, otherwise none
abbrev pub self_before : (is_method : Bool) → List (List ℕ)
self_before true = codes "self" ∷ []
self_before false = []

-- the parameters of a function that repeat an earlier one or a name bound before them
abbrev pub params_again : (before : List (List ℕ)) → FuncDef → List Place
params_again before f = bound_again before (map name_of_param f.params)

-- the repeated arguments in the calls of the body of a function
abbrev pub given_in_def : FuncDef → List Place
given_in_def f = given_in_stmts f.body

-- E01: a name that the module or a parameter list binds again, or an argument that a call repeats; at the later name
abbrev pub twice : Module → List Place
twice m = bound_again [] (map name_of_item m.items)
    ++ (of_defs (params_again (self_before false)) (params_again (self_before true)) m.items
    ++ (given_in_constants m.items ++ of_defs given_in_def given_in_def m.items))

-- ---- E05: `break` or `continue` outside a loop

-- each `break` and `continue` outside a loop, in statements
abbrev mutual
  -- the loose `break` and `continue` of a statement: itself, or those in the suites of an `if`; a loop's body has none
  pub loose_in_stmt : Stmt → List Place
  loose_in_stmt (breaks p) = p ∷ []
  loose_in_stmt (continues p) = p ∷ []
  loose_in_stmt (conditional p branches otherwise) = loose_in_branches branches ++ loose_in otherwise
  loose_in_stmt _ = []

  -- the loose `break` and `continue` of the statements of a suite
  pub loose_in : Stmts → List Place
  loose_in no_stmts = []
  loose_in (more_stmts s rest) = loose_in_stmt s ++ loose_in rest

  -- the loose `break` and `continue` of the suites of conditions
  pub loose_in_branches : Branches → List Place
  loose_in_branches no_branches = []
  loose_in_branches (more_branches condition body rest) = loose_in body ++ loose_in_branches rest

-- the loose `break` and `continue` of the body of a function
abbrev pub loose_in_def : FuncDef → List Place
loose_in_def f = loose_in f.body

-- E05: a `break` or `continue` outside a loop; at the keyword
abbrev pub outside_loop : Module → List Place
outside_loop m = of_defs loose_in_def loose_in_def m.items

-- ---- E29: a reserved name bound

-- the member has a reserved name, or is a field named `mro`
abbrev pub is_reserved_member : Member → Bool
is_reserved_member (field_member f) = is_reserved f.name.text || bytes_eq f.name.text (codes "mro")
is_reserved_member (method_member f) = is_reserved f.name.text

-- the name that a target binds; an attribute or an item binds none
abbrev pub name_of_target : Target → List Name
name_of_target (to_name n) = n ∷ []
name_of_target (to_attribute p e f) = []
name_of_target (to_index p e i) = []

-- the names at binding positions, in text order
abbrev mutual
  -- the names at the binding positions of a statement
  pub bound_by_stmt : Stmt → List Name
  bound_by_stmt (annotated p n a value) = n ∷ []
  bound_by_stmt (assigns p target value) = name_of_target target
  bound_by_stmt (while_loop p condition body) = bound_by body
  bound_by_stmt (for_loop p target iterable body) = target ∷ bound_by body
  bound_by_stmt (conditional p branches otherwise) = bound_by_branches branches ++ bound_by otherwise
  bound_by_stmt _ = []

  -- the names at the binding positions of the statements of a suite
  pub bound_by : Stmts → List Name
  bound_by no_stmts = []
  bound_by (more_stmts s rest) = bound_by_stmt s ++ bound_by rest

  -- the names at the binding positions of the suites of conditions
  pub bound_by_branches : Branches → List Name
  bound_by_branches no_branches = []
  bound_by_branches (more_branches condition body rest) = bound_by body ++ bound_by_branches rest

-- the reserved ones among these names
abbrev pub reserved_among : List Name → List Place
reserved_among [] = []
reserved_among (n ∷ ns) = one_if (is_reserved n.text) n.place ++ reserved_among ns

-- the reserved names that a function binds, as parameters and in its body
abbrev pub reserved_in_def : FuncDef → List Place
reserved_in_def f = reserved_among (map name_of_param f.params ++ bound_by f.body)

-- the members of a class that have a reserved name, and its fields named `mro`
abbrev pub reserved_members : List Member → List Place
reserved_members [] = []
reserved_members (m ∷ ms) = one_if (is_reserved_member m) (name_of_member m).place ++ reserved_members ms

-- the members with a reserved name, and the fields named `mro`, of each class
abbrev pub reserved_in_classes : List Item → List Place
reserved_in_classes [] = []
reserved_in_classes (constant_item first c ∷ is) = reserved_in_classes is
reserved_in_classes (class_item first c ∷ is) = reserved_members c.members ++ reserved_in_classes is
reserved_in_classes (def_item first f ∷ is) = reserved_in_classes is

-- E29: a reserved name bound, or a field named `mro`; at the name
abbrev pub reserved_bound : Module → List Place
reserved_bound m = reserved_among (map name_of_item m.items)
    ++ (reserved_in_classes m.items ++ of_defs reserved_in_def reserved_in_def m.items)

-- ---- E06: members

-- a member of a class, its own or inherited
pub record HeldMember : Type 0 where
  pub text : List ℕ
  pub is_field : Bool

-- the name of a member of a class
abbrev pub held_text : HeldMember → List ℕ
held_text h = h.text

-- the member is a field of this name
abbrev pub is_field_of : List ℕ → HeldMember → Bool
is_field_of sought h = h.is_field && bytes_eq h.text sought

-- the member clashes with an inherited one: a field with any of its name, a method with a field of its name
abbrev pub clashes : List HeldMember → Member → Bool
clashes inherited (field_member f) = is_among (map held_text inherited) f.name.text
clashes inherited (method_member f) = list_any (is_field_of f.name.text) inherited

-- the member has the name of an earlier member of its class, or clashes with an inherited one
abbrev pub is_clash : List (List ℕ) → List HeldMember → Member → Bool
is_clash before inherited m = is_among before (name_of_member m).text || clashes inherited m

-- the member is a field
abbrev pub is_field : Member → Bool
is_field (field_member f) = true
is_field (method_member f) = false

-- a member, as its class has it
abbrev pub held_by : Member → HeldMember
held_by m = record { text = (name_of_member m).text; is_field = is_field m }

-- the members that bind their names: neither reserved nor clashing
abbrev pub own_members : List (List ℕ) → List HeldMember → List Member → List HeldMember
own_members before inherited [] = []
own_members before inherited (m ∷ ms) =
    (if is_reserved_member m || is_clash before inherited m then [] else held_by m ∷ [])
    ++ own_members ((name_of_member m).text ∷ before) inherited ms

-- no item before it has the name, and it is not reserved
abbrev pub is_first_binding : List Item → Name → Bool
is_first_binding before n = not (is_among (map (λ i. (name_of_item i).text) before) n.text) && not (is_reserved n.text)

-- the members of the class of this name, given the items before the point of use, the nearest first; none if the name
-- is not a class's
abbrev pub members_of : List Item → Option (List ℕ) → List HeldMember
members_of [] n = []
members_of (i ∷ before) None = []
members_of (constant_item first c ∷ before) (Some n) = members_of before (Some n)
members_of (def_item first f ∷ before) (Some n) = members_of before (Some n)
members_of (class_item first c ∷ before) (Some n) = if bytes_eq c.name.text n && is_first_binding before c.name
    then members_of before (option_text c.base) ++ own_members [] (members_of before (option_text c.base)) c.members
    else members_of before (Some n)

-- the members of a class that clash
abbrev pub clashes_among : List (List ℕ) → List HeldMember → List Member → List Place
clashes_among before inherited [] = []
clashes_among before inherited (m ∷ ms) = one_if (is_clash before inherited m) (name_of_member m).place
    ++ clashes_among ((name_of_member m).text ∷ before) inherited ms

-- the clashing members of each class, given the items before it, the nearest first
abbrev pub clashing_in : (before : List Item) → List Item → List Place
clashing_in before [] = []
clashing_in before (constant_item first c ∷ is) = clashing_in (constant_item first c ∷ before) is
clashing_in before (def_item first f ∷ is) = clashing_in (def_item first f ∷ before) is
clashing_in before (class_item first c ∷ is) = clashes_among [] (members_of before (option_text c.base)) c.members
    ++ clashing_in (class_item first c ∷ before) is

-- E06: a member's name twice in a class, a field with the name of an inherited member, a method with that of an
-- inherited field; at the name
abbrev pub clashing_members : Module → List Place
clashing_members m = clashing_in [] m.items

-- ---- E28: `main`

-- the first item of this name is a function without parameters
abbrev pub is_plain_def : List ℕ → List Item → Bool
is_plain_def n [] = false
is_plain_def n (constant_item first c ∷ is) = not (bytes_eq c.name.text n) && is_plain_def n is
is_plain_def n (class_item first c ∷ is) = not (bytes_eq c.name.text n) && is_plain_def n is
is_plain_def n (def_item first f ∷ is) = if bytes_eq f.name.text n then has_none f.params else is_plain_def n is

-- E28: the module has no function `main` without parameters; at the `main` of the last line
abbrev pub no_main : Module → List Place
no_main m = one_if (not (is_plain_def (codes "main") m.items)) m.main

-- ---- E31: a parameter without default after one with default

-- the parameters without default after one with default; `defaulted` says that one came before these
abbrev pub late_plain : (defaulted : Bool) → List Param → List Place
late_plain defaulted [] = []
late_plain defaulted (p ∷ ps) = one_if (defaulted && is_none p.default) p.name.place
    ++ late_plain (defaulted || is_some p.default) ps

-- the parameters without default after one with default, of a function
abbrev pub late_plain_in : FuncDef → List Place
late_plain_in f = late_plain false f.params

-- E31: a parameter without default after one with default; at the name
abbrev pub default_order : Module → List Place
default_order m = of_defs late_plain_in late_plain_in m.items

-- ---- all stopping codes

-- the places of a code that stops a run
abbrev pub stopping_places : Module → Code → List Place
stopping_places m E01 = twice m
stopping_places m E05 = outside_loop m
stopping_places m E06 = clashing_members m
stopping_places m E28 = no_main m
stopping_places m E29 = reserved_bound m
stopping_places m E31 = default_order m
stopping_places m _ = []

-- the code stops a run, at this place
abbrev pub IsStopping : Module → Place → Code → Type 0
IsStopping m place code = Contains (stopping_places m code) place

-- all places of codes that stop a run
abbrev pub all_stopping_places : Module → List Place
all_stopping_places m = twice m
    ++ (outside_loop m ++ (clashing_members m ++ (no_main m ++ (reserved_bound m ++ default_order m))))

-- no code stops a run
abbrev pub is_runnable : Module → Bool
is_runnable m = has_none (all_stopping_places m)
