-- The expressions of a module that tokens in order spell, and the names of its functions, have places of their own.
use Rattle.std.proofs.Common.{◌≡◌, ◌≤◌, ◌<◌, ◌+◌, ℕ, suc, List, [], ◌∷◌, ◌++◌, length, Bool as Test, true, false, refl}
use Rattle.std.proofs.Common.{sym, ap, ◌∙◌, subst, arith, map}
use Rattle.std.proofs.lemmas.Grind.{flat_map-append}
use Rattle.std.specs.Prelude.{flat_map, if◌then◌else◌}
use Rattle.pc_source.specs.declared.place.Place.{Place}
use Rattle.pc_token.specs.Lexeme.{Lexeme}
use Rattle.pc_tree.specs.Depth.{place_of}
use Rattle.pc_tree.specs.Tree.{Name, Expr, FuncDef, Member, field_member, method_member, ClassDef, Constant, Item}
use Rattle.pc_tree.specs.Tree.{constant_item, class_item, def_item, Module}
use Rattle.pc_scope.specs.declared.resolution.Owner.{Owner}
use Rattle.pc_scope.specs.declared.resolution.Owner.TheVariants as owners
use Rattle.pc_scope.specs.Bindings.{constants_in, functions_in, classes_in, methods_in, function_bodies, method_bodies}
use Rattle.pc_scope.specs.Bindings.{Body, class_bodies}
use Rattle.pc_scope.specs.Expressions.{parts_in, exprs_in_all}
use Rattle.pc_notes.specs.Notes.{is_same_place}
use Rattle.pc_grammar.specs.Grammar.{IsName}
use Rattle.pc_grammar.specs.Grammar.Expressions.{Expression}
use Rattle.pc_grammar.specs.Grammar.Modules.{SpellsDef, SpellsMembers, ClassBody, SpellsItem, SpellsItems}
use Rattle.pc_grammar.specs.Grammar.Modules.{SpellsModule}
use Rattle.pc_detail_rules.specs.Laws.{HasOwnPlaces, HasOwnNames}
use Rattle.pc_detail_rules.specs.Nodes.{OwnedExpr, owned, exprs_of_body}
use Rattle.pc_detail_rules.proofs.Spelled.Between.{is_of_line, AreInOrder}
use Rattle.pc_detail_rules.proofs.Spelled.Between.{Between, ended, one_token, none_apart}
use Rattle.pc_detail_rules.proofs.Spelled.Between.{at_most_one}
use Rattle.pc_detail_rules.proofs.Spelled.Counted.{at, at_append, one_apart}
use Rattle.pc_detail_rules.proofs.Spelled.Expressions.{exprs_at, Holds, holds_none, but_first, but_last, in_turn}
use Rattle.pc_detail_rules.proofs.Spelled.Expressions.{expression}
use Rattle.pc_detail_rules.proofs.Spelled.Statements.{all_at, suite, statements}

-- ---- things of each function and of each initializer

module _ (of_def : FuncDef → Place → ℕ) (of_value : Expr → Place → ℕ) where
  -- how many things of functions, of the methods of classes, and of initializers are at a place
  abbrev pub of_defs : List FuncDef → Place → ℕ
  of_defs [] p = 0
  of_defs (f ∷ fs) p = of_def f p + of_defs fs p

  abbrev pub of_classes : List ClassDef → Place → ℕ
  of_classes [] p = 0
  of_classes (c ∷ cs) p = of_defs (methods_in c.members) p + of_classes cs p

  abbrev pub of_constants : List Constant → Place → ℕ
  of_constants [] p = 0
  of_constants (c ∷ cs) p = of_value c.value p + of_constants cs p

  -- how many things of an item, and of items, are at a place
  abbrev of_item : Item → Place → ℕ
  of_item (constant_item first c) = of_value c.value
  of_item (class_item first c) = of_defs (methods_in c.members)
  of_item (def_item first f) = of_def f

  abbrev pub of_items : List Item → Place → ℕ
  of_items [] p = 0
  of_items (i ∷ is) p = of_item i p + of_items is p

  -- the items, kind by kind
  pub by_kind : (is : List Item) (p : Place)
      → of_items is p ≡ of_constants (constants_in is) p + (of_defs (functions_in is) p + of_classes (classes_in is) p)
  by_kind [] p = refl
  by_kind (constant_item first c ∷ is) p = let e = by_kind is p in omega (arith, e)
  by_kind (class_item first c ∷ is) p = let e = by_kind is p in omega (arith, e)
  by_kind (def_item first f ∷ is) p = let e = by_kind is p in omega (arith, e)

  module _ (defs : (method : Test) (f : FuncDef) → Holds (SpellsDef method f) (of_def f))
      (values : (e : Expr) → Holds (Expression e) (of_value e)) where
    members : (ms : List Member) → Holds (SpellsMembers ms) (of_defs (methods_in ms))
    members [] ts s low high b = none_apart low high
    members (field_member f ∷ ms) ts s low high b =
        but_first (of_defs (methods_in ms)) (members ms) ts s low high b
    members (method_member f ∷ ms) ts s low high b =
        in_turn (of_def f) (of_defs (methods_in ms)) (defs true f) (members ms) ts s low high b

    class_body : (ms : List Member) → Holds (ClassBody ms) (of_defs (methods_in ms))
    class_body [] ts s low high b = none_apart low high
    class_body (m ∷ ms) ts s low high b = members (m ∷ ms) ts s low high b

    item : (i : Item) → Holds (SpellsItem i) (of_item i)
    item (constant_item first c) ts s low high b =
        let n = of_value c.value in
        but_first n (but_first n (but_first n (but_last n (values c.value)))) ts s.1 low high b
    item (class_item first c) ts s low high b =
        let n = of_defs (methods_in c.members) in
        let body = suite n (class_body c.members) in
        but_first n (but_first n (but_first n (but_first n (but_first n (but_first n body))))) ts s.1 low high b
    item (def_item first f) ts s low high b = defs false f ts s.1 low high b

    items : (is : List Item) → Holds (SpellsItems is) (of_items is)
    items [] ts s low high b = none_apart low high
    items (i ∷ is) ts s low high b = in_turn (of_item i) (of_items is) (item i) (items is) ts s low high b

    -- there is at most one of all these things at a place
    pub at_most_one_of_module : (m : Module) (ts : List Lexeme) → AreInOrder 0 ts → SpellsModule m ts → (p : Place)
        → of_items m.items p ≤ 1
    at_most_one_of_module m ts h s p =
        let n = of_items m.items in
        let e = ended 0 ts h in
        at_most_one 0 e.high p (n p)
        (but_first n (but_first n (but_first n (but_last n (items m.items)))) ts s 0 e.high e.between p)

-- ---- expressions

def_holds : (method : Test) (f : FuncDef) → Holds (SpellsDef method f) (all_at (exprs_in_all false f.body))
def_holds method f =
    let n = all_at (exprs_in_all false f.body) in
    but_first n (but_first n (but_first n (but_first n (but_first n (but_first n (suite n (statements f.body)))))))

abbrev owned_place : OwnedExpr → Place
owned_place o = place_of o.expr

abbrev owned_at : List OwnedExpr → Place → ℕ
owned_at = at owned_place

one_owned : (o : Owner) (e : Expr) (p : Place) → owned_at (owned o e ∷ []) p ≡ exprs_at (e ∷ []) p
one_owned o e p = go (is_same_place p (place_of e))
  where
    go : (t : Test) → length (if t then owned o e ∷ [] else []) ≡ length (if t then e ∷ [] else [])
    go true = refl
    go false = refl

with_owner : (o : Owner) (es : List Expr) (p : Place) → owned_at (map (owned o) es) p ≡ exprs_at es p
with_owner o [] p = refl
with_owner o (e ∷ es) p =
    let x = at_append owned_place (owned o e ∷ []) (map (owned o) es) p in
    let y = at_append place_of (e ∷ []) es p in
    let z = one_owned o e p in
    let i = with_owner o es p in
    omega (arith, x, y, z, i)

-- the expressions of bodies, however they are numbered
abbrev bodies_at : List Body → Place → ℕ
bodies_at bs = owned_at (flat_map exprs_of_body bs)

body_more : (b : Body) (bs : List Body) (p : Place)
    → bodies_at (b ∷ bs) p ≡ all_at (exprs_in_all false b.function.body) p + bodies_at bs p
body_more b bs p =
    let x = at_append owned_place (exprs_of_body b) (flat_map exprs_of_body bs) p in
    let y = with_owner b.owner (flat_map (parts_in false) (exprs_in_all false b.function.body)) p in
    omega (arith, x, y)

bodies_append : (xs ys : List Body) (p : Place) → bodies_at (xs ++ ys) p ≡ bodies_at xs p + bodies_at ys p
bodies_append xs ys p = ap (λ (os : List OwnedExpr). owned_at os p) (flat_map-append exprs_of_body xs ys)
    ∙ at_append owned_place (flat_map exprs_of_body xs) (flat_map exprs_of_body ys) p

abbrev def_at : FuncDef → Place → ℕ
def_at f = all_at (exprs_in_all false f.body)

abbrev value_at : Expr → Place → ℕ
value_at e = exprs_at (parts_in false e)

functions_at : (i : ℕ) (fs : List FuncDef) (p : Place)
    → bodies_at (function_bodies i fs) p ≡ of_defs def_at value_at fs p
functions_at i [] p = refl
functions_at i (f ∷ fs) p =
    let x = body_more (record { owner = owners.Func i; function = f }) (function_bodies (suc i) fs) p in
    let y = functions_at (suc i) fs p in
    omega (arith, x, y)

methods_at : (c i : ℕ) (fs : List FuncDef) (p : Place)
    → bodies_at (method_bodies c i fs) p ≡ of_defs def_at value_at fs p
methods_at c i [] p = refl
methods_at c i (f ∷ fs) p =
    let x = body_more (record { owner = owners.Method c i; function = f }) (method_bodies c (suc i) fs) p in
    let y = methods_at c (suc i) fs p in
    omega (arith, x, y)

classes_at : (c : ℕ) (cs : List ClassDef) (p : Place)
    → bodies_at (class_bodies c cs) p ≡ of_classes def_at value_at cs p
classes_at c [] p = refl
classes_at c (x ∷ cs) p =
    let e = bodies_append (method_bodies c 0 (methods_in x.members)) (class_bodies (suc c) cs) p in
    let y = methods_at c 0 (methods_in x.members) p in
    let z = classes_at (suc c) cs p in
    omega (arith, e, y, z)

abbrev initializers : List Constant → List Expr
initializers cs = flat_map (λ (c : Constant). parts_in false c.value) cs

constants_at : (cs : List Constant) (p : Place) → exprs_at (initializers cs) p ≡ of_constants def_at value_at cs p
constants_at [] p = refl
constants_at (c ∷ cs) p =
    let x = at_append place_of (parts_in false c.value) (initializers cs) p in
    let y = constants_at cs p in
    omega (arith, x, y)

pub own_places : (m : Module) (ts : List Lexeme) → AreInOrder 0 ts → SpellsModule m ts → HasOwnPlaces m
own_places m ts h s p =
    let constants = map (owned owners.Module) (initializers (constants_in m.items)) in
    let functions = function_bodies 0 (functions_in m.items) in
    let classes = class_bodies 0 (classes_in m.items) in
    let all = at_append owned_place constants (flat_map exprs_of_body (functions ++ classes)) p in
    let both = bodies_append functions classes p in
    let x = with_owner owners.Module (initializers (constants_in m.items)) p in
    let c = constants_at (constants_in m.items) p in
    let f = functions_at 0 (functions_in m.items) p in
    let k = classes_at 0 (classes_in m.items) p in
    let kinds = by_kind def_at value_at m.items p in
    let most = at_most_one_of_module def_at value_at def_holds expression m ts h s p in
    omega (arith, all, both, x, c, f, k, kinds, most)

-- ---- names of functions

abbrev def_place : FuncDef → Place
def_place f = f.name.place

abbrev body_place : Body → Place
body_place b = b.function.name.place

abbrev name_at : FuncDef → Place → ℕ
name_at f = at def_place (f ∷ [])

abbrev none_at : Expr → Place → ℕ
none_at e p = 0

name_holds : (method : Test) (f : FuncDef) → Holds (SpellsDef method f) (name_at f)
name_holds method f = but_first (name_at f) (but_last (name_at f) one)
  where
    one : Holds (IsName f.name) (name_at f)
    one ts s low high b =
        let t : Between low (s.0 ∷ []) high = subst (λ (xs : List Lexeme). Between low xs high) s.3 b in
        let o = one_token s.0 low high t (ap is_of_line s.1) in
        let e = ap (λ (n : Name). n.place) s.2 in
        one_apart def_place low high f (subst (λ (q : Place). low ≤ q.start) (sym e) o.0)
        (subst (λ (q : Place). q.start < q.end) (sym e) o.1) (subst (λ (q : Place). q.end ≤ high) (sym e) o.2)

one_body : (b : Body) (p : Place) → at body_place (b ∷ []) p ≡ at def_place (b.function ∷ []) p
one_body b p = go (is_same_place p b.function.name.place)
  where
    go : (t : Test) → length (if t then b ∷ [] else []) ≡ length (if t then b.function ∷ [] else [])
    go true = refl
    go false = refl

names_more : (b : Body) (bs : List Body) (p : Place)
    → at body_place (b ∷ bs) p ≡ name_at b.function p + at body_place bs p
names_more b bs p =
    let x = at_append body_place (b ∷ []) bs p in
    let y = one_body b p in
    omega (arith, x, y)

function_names : (i : ℕ) (fs : List FuncDef) (p : Place)
    → at body_place (function_bodies i fs) p ≡ of_defs name_at none_at fs p
function_names i [] p = refl
function_names i (f ∷ fs) p =
    let x = names_more (record { owner = owners.Func i; function = f }) (function_bodies (suc i) fs) p in
    let y = function_names (suc i) fs p in
    omega (arith, x, y)

method_names : (c i : ℕ) (fs : List FuncDef) (p : Place)
    → at body_place (method_bodies c i fs) p ≡ of_defs name_at none_at fs p
method_names c i [] p = refl
method_names c i (f ∷ fs) p =
    let x = names_more (record { owner = owners.Method c i; function = f }) (method_bodies c (suc i) fs) p in
    let y = method_names c (suc i) fs p in
    omega (arith, x, y)

class_names : (c : ℕ) (cs : List ClassDef) (p : Place)
    → at body_place (class_bodies c cs) p ≡ of_classes name_at none_at cs p
class_names c [] p = refl
class_names c (x ∷ cs) p =
    let e = at_append body_place (method_bodies c 0 (methods_in x.members)) (class_bodies (suc c) cs) p in
    let y = method_names c 0 (methods_in x.members) p in
    let z = class_names (suc c) cs p in
    omega (arith, e, y, z)

pub own_names : (m : Module) (ts : List Lexeme) → AreInOrder 0 ts → SpellsModule m ts → HasOwnNames m
own_names m ts h s p =
    let functions = function_bodies 0 (functions_in m.items) in
    let classes = class_bodies 0 (classes_in m.items) in
    let both = at_append body_place functions classes p in
    let f = function_names 0 (functions_in m.items) p in
    let k = class_names 0 (classes_in m.items) p in
    let kinds = by_kind name_at none_at m.items p in
    let most = at_most_one_of_module name_at none_at name_holds (λ e. holds_none (Expression e)) m ts h s p in
    omega (arith, both, f, k, kinds, most)
