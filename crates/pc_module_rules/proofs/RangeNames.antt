-- In a function a name means `range` exactly if it is this name: it is reserved, so it binds nothing else.
use Rattle.std.proofs.Common.{◌≡◌, ℕ, suc, List, [], ◌∷◌, ◌++◌, refl, sym, ap, ◌∙◌, subst}
use Rattle.std.specs.Prelude.{Bool as Test, true, false, if◌then◌else◌, Option, Some, None, is_some, codes}
use Rattle.std.specs.Prelude.{bytes_eq}
use Rattle.std.specs.List.{list_all}
use Rattle.std.proofs.lemmas.Bool.{and_parts}
use Rattle.std.proofs.lemmas.Slice.Eq.{bytes_eq-Decides}
use Rattle.pc_tree.specs.Tree.{FuncDef, Item, constant_item, class_item, def_item, Module}
use Rattle.pc_tree.specs.Stopping.{bound_by}
use Rattle.pc_scope.specs.Bindings.{texts}
use Rattle.pc_scope.specs.declared.resolution.Builtin.{Builtin}
use Rattle.pc_scope.specs.declared.resolution.Owner.{Owner}
use Rattle.pc_scope.specs.declared.resolution.NameMeaning.{NameMeaning}
use Rattle.pc_scope.specs.declared.resolution.NameMeaning.TheVariants as meaning
use Rattle.pc_scope.specs.Reserved.{reserved_builtins, beside, builtin_of}
use Rattle.pc_scope.specs.Resolution.{index_of, entry_texts, locals, bound_first, or_meaning, local_meaning}
use Rattle.pc_scope.specs.Resolution.{builtin_meaning, resolve_in_module, resolve_among}
use Rattle.pc_scope.proofs.Unbound.{is_none_of}
use Rattle.pc_rules.specs.Calls.{is_range}

-- among reserved names only `range` means it
abbrev only_range : List ℕ × Builtin → Test
only_range e = if is_range (meaning.Builtin e.1) then bytes_eq e.0 (codes "range") else true

besides : (entries : List (List ℕ × Builtin)) (t : List ℕ) (r : NameMeaning) → list_all only_range entries ≡ true
    → bytes_eq (codes "range") t ≡ false → is_range r ≡ false
    → is_range (or_meaning (builtin_meaning (beside entries t)) r) ≡ false
besides [] t r h other none = none
besides (e ∷ rest) t r h other none =
    let both = and_parts (only_range e) (list_all only_range rest) h in
    by_name both.0 (besides rest t r both.1 other none) (bytes_eq e.0 t) refl
  where
    by_meaning : e.0 ≡ t → (x : Test) → is_range (meaning.Builtin e.1) ≡ x
        → (if x then bytes_eq e.0 (codes "range") else true) ≡ true → x ≡ false
    by_meaning is true i only =
        let same : t ≡ codes "range" = sym is ∙ (bytes_eq-Decides e.0 (codes "range")).0 only in
        absurd (cc (sym other ∙ (bytes_eq-Decides (codes "range") t).1 (sym same)))
    by_meaning is false i only = refl

    by_name : only_range e ≡ true → is_range (or_meaning (builtin_meaning (beside rest t)) r) ≡ false
        → (x : Test) → bytes_eq e.0 t ≡ x
        → is_range (or_meaning (builtin_meaning (if x then Some e.1 else beside rest t)) r) ≡ false
    by_name only k true i = by_meaning ((bytes_eq-Decides e.0 t).0 i) (is_range (meaning.Builtin e.1)) refl only
    by_name only k false i = k

-- items bind no built-in
bound_other : (k f c : ℕ) (items : List Item) (t : List ℕ)
    → is_range (or_meaning (bound_first k f c items t) meaning.None) ≡ false
bound_other k f c [] t = refl
bound_other k f c (constant_item p i ∷ rest) t = go (bytes_eq i.name.text t) (bound_other (suc k) f c rest t)
  where
    go : (x : Test) → is_range (or_meaning (bound_first (suc k) f c rest t) meaning.None) ≡ false
        → is_range (or_meaning (if x then Some (meaning.Const k) else bound_first (suc k) f c rest t) meaning.None) ≡ false
    go true h = refl
    go false h = h
bound_other k f c (def_item p i ∷ rest) t = go (bytes_eq i.name.text t) (bound_other k (suc f) c rest t)
  where
    go : (x : Test) → is_range (or_meaning (bound_first k (suc f) c rest t) meaning.None) ≡ false
        → is_range (or_meaning (if x then Some (meaning.Func f) else bound_first k (suc f) c rest t) meaning.None) ≡ false
    go true h = refl
    go false h = h
bound_other k f c (class_item p i ∷ rest) t = go (bytes_eq i.name.text t) (bound_other k f (suc c) rest t)
  where
    go : (x : Test) → is_range (or_meaning (bound_first k f (suc c) rest t) meaning.None) ≡ false
        → is_range (or_meaning (if x then Some (meaning.Class c) else bound_first k f (suc c) rest t) meaning.None) ≡ false
    go true h = refl
    go false h = h

module_other : (m : Module) (t : List ℕ) → bytes_eq (codes "range") t ≡ false → is_range (resolve_in_module m t) ≡ false
unfolding builtin_of
module_other m t other = besides reserved_builtins t (or_meaning (bound_first 0 0 0 m.items t) meaning.None) refl other
    (bound_other 0 0 0 m.items t)

module_range : (m : Module) → is_range (resolve_in_module m (codes "range")) ≡ true
unfolding builtin_of
module_range m = refl

range_reserved : is_some (builtin_of (codes "range")) ≡ true
unfolding builtin_of
range_reserved = refl

pub range_named : (m : Module) (owner : Owner) (f : FuncDef) (t : List ℕ)
    → is_range (resolve_among m (locals owner f) t) ≡ bytes_eq (codes "range") t
range_named m owner f t = go (bytes_eq (codes "range") t) refl
  where
    local_or : (o : Option ℕ) → is_range (resolve_in_module m t) ≡ false
        → is_range (or_meaning (local_meaning o) (resolve_in_module m t)) ≡ false
    local_or None h = h
    local_or (Some x) h = refl

    go : (x : Test) → bytes_eq (codes "range") t ≡ x → is_range (resolve_among m (locals owner f) t) ≡ x
    go true e =
        let none : index_of (codes "range") (locals owner f) ≡ None = is_none_of (codes "range") range_reserved []
        (entry_texts owner f ++ texts (bound_by f.body)) in
        let here : is_range (resolve_among m (locals owner f) (codes "range")) ≡ true =
        ap (λ (o : Option ℕ). is_range (or_meaning (local_meaning o) (resolve_in_module m (codes "range")))) none
        ∙ module_range m in
        subst (λ (w : List ℕ). is_range (resolve_among m (locals owner f) w) ≡ true)
        ((bytes_eq-Decides (codes "range") t).0 e) here
    go false e = local_or (index_of t (locals owner f)) (module_other m t e)
