-- Places in the functions, methods and fields of a module.
use Rattle.std.proofs.Common.{◌≡◌, ℕ, zero, suc, List, ◌∷◌, [], refl, sym, ap, ◌∙◌, subst, Contains}
use Rattle.std.specs.Prelude.{Option, Some, None, slice_get}
use Rattle.std.proofs.lemmas.List.Elements.{Contains-append_left, Contains-append_right}
use Rattle.std.proofs.lemmas.Option.{none-some, same_Some}
use Rattle.pc_source.specs.declared.place.Place.{Place}
use Rattle.pc_tree.specs.Tree.{FuncDef, Member, field_member, method_member, ClassDef, Item, constant_item, class_item}
use Rattle.pc_tree.specs.Tree.{def_item, Module}
use Rattle.pc_tree.specs.Stopping.{of_members, of_defs}
use Rattle.pc_scope.specs.declared.resolution.Owner.{Owner}
use Rattle.pc_scope.specs.declared.resolution.Owner.TheVariants as owners
use Rattle.pc_scope.specs.Bindings.{classes_in, functions_in, methods_in}
use Rattle.pc_scope.specs.Resolution.{method_at, function_of}
use Rattle.pc_sound.specs.Silent.{field_defaults, field_defaults_in}

-- ---- places of all functions and methods

pub of_function_at : (function method : FuncDef → List Place) (items : List Item) (j : ℕ) (d : FuncDef) (p : Place)
    → slice_get (functions_in items) j ≡ Some d → Contains (function d) p → Contains (of_defs function method items) p
of_function_at function method [] j d p e c = absurd (none-some _ e)
of_function_at function method (constant_item q x ∷ rest) j d p e c = of_function_at function method rest j d p e c
of_function_at function method (class_item q x ∷ rest) j d p e c = Contains-append_right (of_members method x.members)
    (of_defs function method rest) p (of_function_at function method rest j d p e c)
of_function_at function method (def_item q x ∷ rest) zero d p e c = Contains-append_left (function x)
    (of_defs function method rest) p (subst (λ f. Contains (function f) p) (sym (same_Some _ _ e)) c)
of_function_at function method (def_item q x ∷ rest) (suc j) d p e c = Contains-append_right (function x)
    (of_defs function method rest) p (of_function_at function method rest j d p e c)

of_member_at : (method : FuncDef → List Place) (ms : List Member) (j : ℕ) (d : FuncDef) (p : Place)
    → slice_get (methods_in ms) j ≡ Some d → Contains (method d) p → Contains (of_members method ms) p
of_member_at method [] j d p e c = absurd (none-some _ e)
of_member_at method (field_member x ∷ ms) j d p e c = of_member_at method ms j d p e c
of_member_at method (method_member x ∷ ms) zero d p e c = Contains-append_left (method x) (of_members method ms) p
    (subst (λ f. Contains (method f) p) (sym (same_Some _ _ e)) c)
of_member_at method (method_member x ∷ ms) (suc j) d p e c = Contains-append_right (method x) (of_members method ms) p
    (of_member_at method ms j d p e c)

pub of_method_at : (function method : FuncDef → List Place) (items : List Item) (j : ℕ) (class : ClassDef) (i : ℕ)
    (d : FuncDef) (p : Place) → slice_get (classes_in items) j ≡ Some class → slice_get (methods_in class.members) i
    ≡ Some d → Contains (method d) p → Contains (of_defs function method items) p
of_method_at function method [] j class i d p e is c = absurd (none-some _ e)
of_method_at function method (constant_item q x ∷ rest) j class i d p e is c = of_method_at function method rest j class
    i d p e is c
of_method_at function method (def_item q x ∷ rest) j class i d p e is c = Contains-append_right (function x)
    (of_defs function method rest) p (of_method_at function method rest j class i d p e is c)
of_method_at function method (class_item q x ∷ rest) zero class i d p e is c =
    Contains-append_left (of_members method x.members) (of_defs function method rest) p
    (of_member_at method x.members i d p (ap (λ z. slice_get (methods_in z.members) i) (same_Some _ _ e) ∙ is) c)
of_method_at function method (class_item q x ∷ rest) (suc j) class i d p e is c =
    Contains-append_right (of_members method x.members) (of_defs function method rest) p
    (of_method_at function method rest j class i d p e is c)

-- a place in a function or method is a place in the module
pub function_places : (m : Module) (places : FuncDef → List Place) (owner : Owner) (d : FuncDef) (p : Place)
    → function_of m owner ≡ Some d → Contains (places d) p → Contains (of_defs places places m.items) p
function_places m places owners.Module d p e c = absurd (none-some _ e)
function_places m places (owners.Func i) d p e c = of_function_at places places m.items i d p e c
function_places m places (owners.Method c i) d p e h = go (slice_get (classes_in m.items) c) refl e
  where
    go : (o : Option ClassDef) → slice_get (classes_in m.items) c ≡ o → method_at o i ≡ Some d
        → Contains (of_defs places places m.items) p
    go None is e = absurd (none-some _ e)
    go (Some class) is e = of_method_at places places m.items c class i d p is e h

-- a default of a field stands in one of the module
pub field_places : (items : List Item) (c : ℕ) (class : ClassDef) (p : Place) → slice_get (classes_in items) c
    ≡ Some class → Contains (field_defaults class.members) p → Contains (field_defaults_in items) p
field_places [] c class p e h = absurd (none-some _ e)
field_places (constant_item q x ∷ rest) c class p e h = field_places rest c class p e h
field_places (def_item q x ∷ rest) c class p e h = field_places rest c class p e h
field_places (class_item q x ∷ rest) zero class p e h = Contains-append_left (field_defaults x.members)
    (field_defaults_in rest) p (subst (λ z. Contains (field_defaults z.members) p) (sym (same_Some _ _ e)) h)
field_places (class_item q x ∷ rest) (suc c) class p e h = Contains-append_right (field_defaults x.members)
    (field_defaults_in rest) p (field_places rest c class p e h)
