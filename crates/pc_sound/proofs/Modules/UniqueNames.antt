-- In a module without silent errors each item, and each parameter of a function, binds its name: it is not reserved,
-- and no earlier one's.
use Rattle.std.proofs.Common.{◌≡◌, ℕ, List, [], ◌∷◌, ◌++◌, map, refl, sym, ap, ◌∙◌, subst, arith, Contains}
use Rattle.std.proofs.Common.{append_assoc}
use Rattle.std.specs.Prelude.{Bool as Test, true, false, ◌&&◌, ◌||◌, not, Option, Some, None, slice_get, bytes_eq}
use Rattle.std.specs.Prelude.{codes}
use Rattle.std.proofs.lemmas.List.Elements.{Contains-append_left, Contains-append_right}
use Rattle.std.proofs.lemmas.Option.{none-some}
use Rattle.pc_source.specs.declared.place.Place.{Place}
use Rattle.pc_source.specs.ReservedNames as keywords
use Rattle.pc_tree.specs.declared.code.Code.TheVariants.{E01, E29}
use Rattle.pc_tree.specs.Tree.{Name, Param, FuncDef, ClassDef, Module}
use Rattle.pc_tree.specs.Stopping as stopping
use Rattle.pc_tree.specs.Stopping.{one_if, of_defs, name_of_item, name_of_param, bound_by, bound_again, params_again}
use Rattle.pc_tree.specs.Stopping.{reserved_among, reserved_in_def, reserved_in_classes, given_in_constants}
use Rattle.pc_tree.specs.Stopping.{given_in_def}
use Rattle.pc_scope.specs.declared.resolution.Owner.{Owner}
use Rattle.pc_scope.specs.declared.resolution.Owner.TheVariants as owners
use Rattle.pc_scope.specs.Reserved.{is_builtin_name}
use Rattle.pc_scope.specs.Bindings.{classes_in}
use Rattle.pc_scope.specs.Resolution.{is_one_of, receiver, method_at, function_of}
use Rattle.pc_class.specs.Facts.{parameters_of}
use Rattle.pc_rules.specs.Signatures.{binds_name}
use Rattle.pc_module_rules.specs.Modules.{Labelling, IsLawful}
use Rattle.pc_sound.specs.Silent.{HasNoSilentError}
use Rattle.pc_sound.proofs.TruthValues.{neither}
use Rattle.pc_sound.proofs.Calls.FilledParameters.{Distinct}
use Rattle.pc_sound.proofs.Modules.ModuleOrder.{ParametersBind}
use Rattle.pc_sound.proofs.Modules.PlacesInModules.{function_places, of_function_at, of_method_at}
use Rattle.pc_sound.proofs.Modules.LabelledBodies.{never_stops}
use Rattle.pc_sound.proofs.Modules.LabelledBodies.{reserved_same}
use Rattle.pc_sound.proofs.Modules.MembersBind.{among_same}

-- ---- names, one after another

-- each name is bound: it is not reserved, and not among those before it
abbrev pub AllBind : List (List ℕ) → List Name → Type 0
AllBind before [] = Unit {0}
AllBind before (n ∷ ns) = (binds_name before n ≡ true) × AllBind (n.text ∷ before) ns

pub all_bind : (before : List (List ℕ)) (ns : List Name) → ((p : Place) → Contains (bound_again before ns) p → ⊥)
    → ((p : Place) → Contains (reserved_among ns) p → ⊥) → AllBind before ns
all_bind before [] again reserved = tt
all_bind before (n ∷ ns) again reserved = (
  binds (is_builtin_name n.text) refl (is_one_of n.text before) refl,
  all_bind (n.text ∷ before) ns
      (λ p c. again p
      (Contains-append_right (one_if (stopping.is_among before n.text && not (keywords.is_reserved n.text)) n.place)
      (bound_again (n.text ∷ before) ns) p c)) (λ p c. reserved p
      (Contains-append_right (one_if (keywords.is_reserved n.text) n.place) (reserved_among ns) p c)),
)
  where
    here : {b : Test} → b ≡ true → (rest : List Place) → Contains (one_if b n.place ++ rest) n.place
    here e rest = subst (λ b. Contains (one_if b n.place ++ rest) n.place) (sym e) (0, omega arith, refl)

    binds : (r : Test) → is_builtin_name n.text ≡ r → (a : Test) → is_one_of n.text before ≡ a
        → binds_name before n ≡ true
    binds true e a f = absurd (reserved n.place (here (sym (reserved_same n.text) ∙ e) (reserved_among ns)))
    binds false e true f =
        absurd (again n.place (here (λ i. (among_same before n.text ∙ f) i && not ((sym (reserved_same n.text) ∙ e) i))
        (bound_again (n.text ∷ before) ns)))
    binds false e false f = λ i. not (e i || f i)

-- parameters bind their names
pub parameters_bind : (m : Module) (listed : Place → Type 0) (before : List (List ℕ)) (ps : List Param)
    → AllBind before (map name_of_param ps) → ParametersBind m listed before ps
parameters_bind m listed before [] h = tt
parameters_bind m listed before (p ∷ ps) h = (h.0, parameters_bind m listed (p.name.text ∷ before) ps h.1)

new_name : (before : List (List ℕ)) (n : Name) → binds_name before n ≡ true → is_one_of n.text before ≡ false
new_name before n e = (neither (is_builtin_name n.text) (is_one_of n.text before) e).1

fewer : (before less : List (List ℕ)) (ps : List Param) → ((word : List ℕ) → is_one_of word before ≡ false
    → is_one_of word less ≡ false) → AllBind before (map name_of_param ps) → (m : Module)
    → Distinct less (parameters_of m ps)
fewer before less [] within h m = tt
fewer before less (p ∷ ps) within h m = (
  within p.name.text (new_name before p.name h.0),
  fewer (p.name.text ∷ before)
      (p.name.text ∷ less) ps wider h.1 m,
)
  where
    wider : (word : List ℕ) → is_one_of word (p.name.text ∷ before) ≡ false → is_one_of word (p.name.text ∷ less)
        ≡ false
    wider word f = go (bytes_eq word p.name.text) f
      where
        go : (b : Test) → (b || is_one_of word before) ≡ false → (b || is_one_of word less) ≡ false
        go true f = absurd (grind (arith, f))
        go false f = within word f

-- parameters have distinct names, also where `self` is before them
pub parameters_distinct : (m : Module) (before : List (List ℕ)) (ps : List Param)
    → AllBind before (map name_of_param ps) → Distinct [] (parameters_of m ps)
parameters_distinct m before ps h = fewer before [] ps (λ word e. refl) h m

reserved_front : (xs ys : List Name) (p : Place) → Contains (reserved_among xs) p
    → Contains (reserved_among (xs ++ ys)) p
reserved_front xs ys p c = subst (λ l. Contains l p) (sym (split xs))
    (Contains-append_left (reserved_among xs) (reserved_among ys) p c)
  where
    split : (xs : List Name) → reserved_among (xs ++ ys) ≡ reserved_among xs ++ reserved_among ys
    split [] = refl
    split (x ∷ xs) = ap (λ l. one_if (keywords.is_reserved x.text) x.place ++ l) (split xs)
        ∙ sym (append_assoc (one_if (keywords.is_reserved x.text) x.place) (reserved_among xs) (reserved_among ys))

module _ (m : Module) (labels : Labelling m) (lawful : IsLawful m labels) (clean : HasNoSilentError m) where
  -- each item binds its name
  pub items_bind : AllBind [] (map name_of_item m.items)
  items_bind = all_bind [] (map name_of_item m.items)
      (λ p c. never_stops m labels lawful clean E01 tt tt p (Contains-append_left
      (bound_again [] (map name_of_item m.items)) _ p c))
      (λ p c. never_stops m labels lawful clean E29 tt tt p (Contains-append_left
      (reserved_among (map name_of_item m.items)) _ p c))

  again_places : (owner : Owner) (d : FuncDef) (p : Place) → function_of m owner ≡ Some d
      → Contains (params_again (receiver owner) d) p
      → Contains (of_defs (params_again []) (params_again (codes "self" ∷ [])) m.items) p
  again_places owners.Module d p e c = absurd (none-some _ e)
  again_places (owners.Func i) d p e c = of_function_at (params_again []) (params_again (codes "self" ∷ [])) m.items i d
      p e c
  again_places (owners.Method c i) d p e h = go (slice_get (classes_in m.items) c) refl e
    where
      go : (o : Option ClassDef) → slice_get (classes_in m.items) c ≡ o → method_at o i ≡ Some d
          → Contains (of_defs (params_again []) (params_again (codes "self" ∷ [])) m.items) p
      go None is e = absurd (none-some _ e)
      go (Some class) is e = of_method_at (params_again []) (params_again (codes "self" ∷ [])) m.items c class i d p is
          e h

  -- each parameter of a function binds its name, after `self` in a method
  pub function_binds : (owner : Owner) (d : FuncDef) → function_of m owner ≡ Some d
      → AllBind (receiver owner) (map name_of_param d.params)
  function_binds owner d e = all_bind (receiver owner) (map name_of_param d.params)
      (λ p c. never_stops m labels lawful clean E01 tt tt p (Contains-append_right
      (bound_again [] (map name_of_item m.items)) _ p
      (Contains-append_left (of_defs (params_again []) (params_again (codes "self" ∷ [])) m.items)
      (given_in_constants m.items ++ of_defs given_in_def given_in_def m.items) p (again_places owner d p e c))))
      (λ p c. never_stops m labels lawful clean E29 tt tt p (Contains-append_right
      (reserved_among (map name_of_item m.items)) _ p (Contains-append_right (reserved_in_classes m.items)
      (of_defs reserved_in_def reserved_in_def m.items) p
      (function_places m reserved_in_def owner d p e
      (reserved_front (map name_of_param d.params) (bound_by d.body) p c)))))
