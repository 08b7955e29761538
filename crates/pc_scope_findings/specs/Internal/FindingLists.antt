-- The findings about names and places in a module, as lists in the order of walks over its tree.
-- Each code is an own rule of the profile.
use Rattle.std.specs.Prelude.{ℕ, suc, nat_le, Bool, true, false, List, [], ◌∷◌, ◌++◌, map, Option, Some, None}
use Rattle.pc_source.specs.declared.place.Place.{Place}
use Rattle.pc_tree.specs.declared.code.Code.TheVariants.{E02, E03, E30}
use Rattle.pc_tree.specs.declared.code.Finding.{Finding}
use Rattle.pc_tree.specs.Tree.{Name, Expr, FuncDef, Member, field_member, method_member, Item, constant_item}
use Rattle.pc_tree.specs.Tree.{class_item, def_item, Module}
use Rattle.pc_tree.specs.NamesAlone.{name_of_tree}
use Rattle.pc_tree.specs.Stopping.{one_if, of_defs}
use Rattle.pc_tree.specs.Code.{at_code}
use Rattle.pc_stopping.specs.Found.{found_in_scopes}
use Rattle.pc_scope.specs.declared.resolution.Owner.{Owner}
use Rattle.pc_scope.specs.declared.resolution.Owner.TheVariants as owners
use Rattle.pc_scope.specs.declared.resolution.NameMeaning.{NameMeaning}
use Rattle.pc_scope.specs.declared.resolution.NameMeaning.TheVariants as meaning
use Rattle.pc_scope.specs.Expressions.{parts_in, other_callee, exprs_in_all}
use Rattle.pc_scope_findings.specs.Unreached.{unreached_places}

-- ---- names that mean nothing

-- the name means nothing
abbrev pub means_nothing : NameMeaning → Bool
means_nothing meaning.None = true
means_nothing _ = false

-- the place of a name that means nothing, if there is a name
abbrev pub unknown_at : (List ℕ → NameMeaning) → Option Name → List Place
unknown_at resolve None = []
unknown_at resolve (Some n) = one_if (means_nothing (resolve n.text)) n.place

-- the places of the names among these expressions that mean nothing
abbrev pub unknown_among : (List ℕ → NameMeaning) → List Expr → List Place
unknown_among resolve [] = []
unknown_among resolve (e ∷ es) = unknown_at resolve (name_of_tree e) ++ unknown_among resolve es

-- the places of the names that mean nothing in these expressions and their parts
abbrev pub unknown_in : (List ℕ → NameMeaning) → List Expr → List Place
unknown_in resolve [] = []
unknown_in resolve (e ∷ es) = unknown_among resolve (parts_in true e) ++ unknown_in resolve es

-- ---- names used too early

-- an initializer after this many constants and classes may not use a name of this meaning
abbrev pub is_early_meaning : (constants classes : ℕ) → NameMeaning → Bool
is_early_meaning k c (meaning.Func i) = true
is_early_meaning k c (meaning.Const i) = nat_le k i
is_early_meaning k c (meaning.Class i) = nat_le c i
is_early_meaning k c _ = false

-- the place of a name that is used too early, if there is a name
abbrev pub early_at : (constants classes : ℕ) → (List ℕ → NameMeaning) → Option Name → List Place
early_at k c resolve None = []
early_at k c resolve (Some n) = one_if (is_early_meaning k c (resolve n.text)) n.place

-- the place of a callee, if there is one
abbrev pub callee_at : Option Place → List Place
callee_at None = []
callee_at (Some p) = p ∷ []

-- the places of the names among these expressions that are used too early, and of the callees that are not names
abbrev pub early_among : (constants classes : ℕ) → (List ℕ → NameMeaning) → List Expr → List Place
early_among k c resolve [] = []
early_among k c resolve (e ∷ es) = (early_at k c resolve (name_of_tree e) ++ callee_at (other_callee e))
    ++ early_among k c resolve es

-- ---- unreachable statements

-- the first unreachable statements in the body of a function
abbrev pub unreached_def : FuncDef → List Place
unreached_def f = unreached_places f.body

-- the first unreachable statements in the functions and methods of items
abbrev pub unreached_in_defs : List Item → List Place
unreached_in_defs items = of_defs unreached_def unreached_def items

-- ---- names in items

-- the places of the names in initializers that mean nothing
abbrev pub unknown_in_constants : (List ℕ → NameMeaning) → List Item → List Place
unknown_in_constants resolve [] = []
unknown_in_constants resolve (constant_item p c ∷ is) = unknown_among resolve (parts_in true c.value)
    ++ unknown_in_constants resolve is
unknown_in_constants resolve (class_item p c ∷ is) = unknown_in_constants resolve is
unknown_in_constants resolve (def_item p f ∷ is) = unknown_in_constants resolve is

-- the places of the names and callees in initializers that E03 reports, given how many constants and classes come
-- before
abbrev pub early_in : (constants classes : ℕ) → (List ℕ → NameMeaning) → List Item → List Place
early_in k c resolve [] = []
early_in k c resolve (constant_item p x ∷ is) = early_among k c resolve (parts_in false x.value)
    ++ early_in (suc k) c resolve is
early_in k c resolve (class_item p x ∷ is) = early_in k (suc c) resolve is
early_in k c resolve (def_item p f ∷ is) = early_in k c resolve is

-- the places of the decorators of classes
abbrev pub decorators_in : List Item → List Place
decorators_in [] = []
decorators_in (constant_item p c ∷ is) = decorators_in is
decorators_in (class_item p c ∷ is) = c.decorator ∷ decorators_in is
decorators_in (def_item p f ∷ is) = decorators_in is

-- the places of the decorators of classes, unless the header imports `dataclass`
abbrev pub unknown_decorators : (imported : Bool) → List Item → List Place
unknown_decorators true items = []
unknown_decorators false items = decorators_in items

-- the places of the names in a class's methods that mean nothing, given the numbers of the class and of the first
-- method
abbrev pub unknown_in_methods : (Owner → List ℕ → NameMeaning) → (class method : ℕ) → List Member → List Place
unknown_in_methods means c i [] = []
unknown_in_methods means c i (field_member f ∷ ms) = unknown_in_methods means c i ms
unknown_in_methods means c i (method_member f ∷ ms) = unknown_in (means (owners.Method c i)) (exprs_in_all true f.body)
    ++ unknown_in_methods means c (suc i) ms

-- the places of the names in bodies that mean nothing, given the numbers of the first function and class
abbrev pub unknown_in_bodies : (Owner → List ℕ → NameMeaning) → (function class : ℕ) → List Item → List Place
unknown_in_bodies means i c [] = []
unknown_in_bodies means i c (constant_item p x ∷ is) = unknown_in_bodies means i c is
unknown_in_bodies means i c (class_item p x ∷ is) = unknown_in_methods means c 0 x.members
    ++ unknown_in_bodies means i (suc c) is
unknown_in_bodies means i c (def_item p f ∷ is) = unknown_in (means (owners.Func i)) (exprs_in_all true f.body)
    ++ unknown_in_bodies means (suc i) c is

-- ---- all the findings

-- E02, E03: names that mean nothing, and names and callees that an initializer may not use
abbrev pub name_findings : (Owner → List ℕ → NameMeaning) → Module → List Finding
name_findings means m = at_code E02 (unknown_in_constants (means owners.Module) m.items)
    ++ (at_code E02 (unknown_in_bodies means 0 0 m.items)
    ++ (at_code E02 (unknown_decorators m.imports_dataclass m.items)
    ++ at_code E03 (early_in 0 0 (means owners.Module) m.items)))

-- the findings about a module's names and places, given the meaning of names to their owners
abbrev pub scope_findings : (Owner → List ℕ → NameMeaning) → Module → List Finding
scope_findings means m = found_in_scopes m ++ (at_code E30 (unreached_in_defs m.items) ++ name_findings means m)
