-- The walks find exactly the findings about a module's scopes.
use Rattle.std.proofs.Common.{◌≡◌, ◌↔◌, ◌+◌, ℕ, suc, List, [], ◌∷◌, ◌++◌, refl, sym, ap, ◌∙◌, subst, inl, inr, arith}
use Rattle.std.proofs.Common.{Contains, map, length}
use Rattle.std.specs.Prelude.{Bool, true, false, Some, take, slice_get}
use Rattle.std.proofs.lemmas.List.Elements.{Contains-append_left, Contains-append_right}
use Rattle.pc_source.specs.declared.place.Place.{Place}
use Rattle.pc_tree.specs.declared.code.Code.{Code}
use Rattle.pc_tree.specs.declared.code.Code.TheVariants as code
use Rattle.pc_tree.specs.declared.code.Code.TheVariants.{E01, E02, E03, E05, E28, E29, E30, E31}
use Rattle.pc_tree.specs.declared.code.Finding.{Finding}
use Rattle.pc_tree.specs.Code.{finding, at_code}
use Rattle.pc_tree.specs.Tree.{FuncDef, Constant, Member, field_member, method_member, Item, constant_item, class_item}
use Rattle.pc_tree.specs.Tree.{def_item, Module}
use Rattle.pc_tree.specs.Stopping.{of_members, of_defs, IsStopping}
use Rattle.pc_stopping.specs.Found.{found_in_scopes}
use Rattle.pc_stopping.proofs.AllStops.{of_scopes, to_twice, to_loose, to_main, to_reserved, to_default}
use Rattle.pc_scope.specs.declared.resolution.Owner.{Owner}
use Rattle.pc_scope.specs.declared.resolution.Owner.TheVariants as owners
use Rattle.pc_scope.specs.declared.resolution.NameMeaning.{NameMeaning}
use Rattle.pc_scope.specs.Bindings.{constants_in, classes_in, functions_in, Body, bodies, function_bodies, class_bodies}
use Rattle.pc_scope.specs.Resolution.{resolve}
use Rattle.pc_scope_findings.specs.Unreached.{unreached_places}
use Rattle.pc_scope.specs.Expressions.{parts_in, exprs_in_all}
use Rattle.pc_scope_findings.specs.Findings.{IsScopeCode, in_constant, in_body, decorator, ScopeFinds, stopping}
use Rattle.pc_scope_findings.specs.Findings.{unknown, early, unreachable}
use Rattle.pc_scope_findings.specs.Internal.FindingLists.{unreached_in_defs, unknown_in, unknown_in_constants}
use Rattle.pc_scope_findings.specs.Internal.FindingLists.{unknown_in_methods, unknown_in_bodies, decorators_in}
use Rattle.pc_scope_findings.specs.Internal.FindingLists.{unknown_decorators, early_among, early_in, name_findings}
use Rattle.pc_scope_findings.specs.Internal.FindingLists.{scope_findings}
use Rattle.pc_scope.specs.Tables.{Tables, AreTables, meaning_by_tables}
use Rattle.pc_scope.proofs.Meanings.{means}
use Rattle.pc_tree.proofs.Among.{none_among, either, in_code, to_code}
use Rattle.pc_scope_findings.proofs.FoundNames.{unknown_of, to_unknown, part_of, to_part, early_of, to_early_name}
use Rattle.pc_scope_findings.proofs.FoundNames.{to_early_callee}
use Rattle.pc_scope_findings.proofs.FoundItems.{constant_of, to_constant, decorated, to_decorated, over_methods}
use Rattle.pc_scope_findings.proofs.FoundItems.{over_bodies, IsBodyWith, body_of, to_function, to_class}
use Rattle.pc_scope_findings.proofs.FoundEarly.{early_constant, to_early, moved}

-- ---- rules over functions and methods

methods_over : (g : FuncDef → List Place) (c i : ℕ) (ms : List Member) → of_members g ms ≡ over_methods (λ o f. g f) c i
    ms
methods_over g c i [] = refl
methods_over g c i (field_member f ∷ ms) = methods_over g c i ms
methods_over g c i (method_member f ∷ ms) = ap (λ l. g f ++ l) (methods_over g c (suc i) ms)

defs_over : (g : FuncDef → List Place) (i c : ℕ) (items : List Item) → of_defs g g items ≡ over_bodies (λ o f. g f) i c
    items
defs_over g i c [] = refl
defs_over g i c (constant_item p x ∷ is) = defs_over g i c is
defs_over g i c (class_item p x ∷ is) = ap (λ l. l ++ of_defs g g is) (methods_over g c 0 x.members)
    ∙ ap (λ l. over_methods (λ o f. g f) c 0 x.members ++ l) (defs_over g i (suc c) is)
defs_over g i c (def_item p f ∷ is) = ap (λ l. g f ++ l) (defs_over g (suc i) c is)

unknown_over_methods : (means : Owner → List ℕ → NameMeaning) (c i : ℕ) (ms : List Member) → unknown_in_methods means c i ms
    ≡ over_methods (λ o f. unknown_in (means o) (exprs_in_all true f.body)) c i ms
unknown_over_methods means c i [] = refl
unknown_over_methods means c i (field_member f ∷ ms) = unknown_over_methods means c i ms
unknown_over_methods means c i (method_member f ∷ ms) = ap (λ l. unknown_in (means (owners.Method c i))
    (exprs_in_all true f.body) ++ l) (unknown_over_methods means c (suc i) ms)

unknown_over : (means : Owner → List ℕ → NameMeaning) (i c : ℕ) (items : List Item) → unknown_in_bodies means i c items
    ≡ over_bodies (λ o f. unknown_in (means o) (exprs_in_all true f.body)) i c items
unknown_over means i c [] = refl
unknown_over means i c (constant_item p x ∷ is) = unknown_over means i c is
unknown_over means i c (class_item p x ∷ is) = ap (λ l. l ++ unknown_in_bodies means i (suc c) is)
    (unknown_over_methods means c 0 x.members)
    ∙ ap (λ l. over_methods (λ o f. unknown_in (means o) (exprs_in_all true f.body)) c 0 x.members ++ l)
    (unknown_over means i (suc c) is)
unknown_over means i c (def_item p f ∷ is) = ap (λ l. unknown_in (means (owners.Func i)) (exprs_in_all true f.body)
    ++ l) (unknown_over means (suc i) c is)

module _ (g : Owner → FuncDef → List Place) (m : Module) where
  -- the body in which a rule finds a place, among those of the module
  pub in_bodies : (p : Place) → Contains (over_bodies g 0 0 m.items) p → IsBodyWith g (bodies m) p
  in_bodies p h = elim (body_of g 0 0 m.items p h) [
    | inl r ↦ record {
      b = r.b;
      among = Contains-append_left (function_bodies 0 (functions_in m.items))
          (class_bodies 0 (classes_in m.items)) r.b r.among;
      found = r.found;
    }
    | inr r ↦ record {
      b = r.b;
      among = Contains-append_right (function_bodies 0 (functions_in m.items))
          (class_bodies 0 (classes_in m.items)) r.b r.among;
      found = r.found;
    }
  ]

  pub to_bodies : (b : Body) (p : Place) → Contains (bodies m) b → Contains (g b.owner b.function) p
      → Contains (over_bodies g 0 0 m.items) p
  to_bodies b p h found = either (function_bodies 0 (functions_in m.items)) (class_bodies 0 (classes_in m.items)) b h
      (λ x. to_function g 0 0 m.items p (record { b = b; among = x; found = found }))
      (λ y. to_class g 0 0 m.items p (record { b = b; among = y; found = found }))

-- ---- found codes as findings of the scopes

module _ (m : Module) (f : Finding) where
  is_finding : (c : Code) → f.code ≡ c → f ≡ finding f.place c
  is_finding c e = ap (finding f.place) e

  constants : Contains (at_code E02 (unknown_in_constants (resolve m owners.Module) m.items)) f → ScopeFinds m f
  constants h =
      let r = in_code E02 (unknown_in_constants (resolve m owners.Module) m.items) f h in
      let c = constant_of (resolve m owners.Module) m.items f.place r.1 in
      let n = unknown_of (resolve m owners.Module) (parts_in true c.c.value) f.place c.part in
      unknown (in_constant c.c c.among (record {
        n = n.n;
        named = n.named;
        unknown = n.unknown;
        is = is_finding E02 r.0
            ∙ ap (λ p. finding p E02) (sym n.is);
      }))

  in_all_bodies : Contains (at_code E02 (unknown_in_bodies (resolve m) 0 0 m.items)) f → ScopeFinds m f
  in_all_bodies h =
      let r = in_code E02 (unknown_in_bodies (resolve m) 0 0 m.items) f h in
      let b = in_bodies (λ o d. unknown_in (resolve m o) (exprs_in_all true d.body)) m f.place
      (subst (λ ps. Contains ps f.place) (unknown_over (resolve m) 0 0 m.items) r.1) in
      let e = part_of (resolve m b.b.owner) (exprs_in_all true b.b.function.body) f.place b.found in
      let n = unknown_of (resolve m b.b.owner) (parts_in true e.e) f.place e.part in
      unknown (in_body b.b e.e b.among e.among (record {
        n = n.n;
        named = n.named;
        unknown = n.unknown;
        is =
            is_finding E02 r.0 ∙ ap (λ p. finding p E02) (sym n.is);
      }))

  decorators : (imported : Bool) → m.imports_dataclass ≡ imported
      → Contains (at_code E02 (unknown_decorators imported m.items)) f → ScopeFinds m f
  decorators true is h = absurd (none_among f h)
  decorators false is h =
      let r = in_code E02 (decorators_in m.items) f h in
      let c = decorated m.items f.place r.1 in
      unknown (decorator c.c is c.among (is_finding E02 r.0 ∙ ap (λ p. finding p E02) (sym c.is)))

  initializers : Contains (at_code E03 (early_in 0 0 (resolve m owners.Module) m.items)) f → ScopeFinds m f
  initializers h =
      let r = in_code E03 (early_in 0 0 (resolve m owners.Module) m.items) f h in
      let e = early_constant (resolve m owners.Module) 0 0 m.items f.place r.1 in
      let found = early_of (length (constants_in (take e.at m.items))) (length (classes_in (take e.at m.items)))
      (resolve m owners.Module) (parts_in false e.constant.value) f.place
      (moved (resolve m owners.Module) (0 + length (constants_in (take e.at m.items)))
      (length (constants_in (take e.at m.items))) (0 + length (classes_in (take e.at m.items)))
      (length (classes_in (take e.at m.items))) e.constant f.place (omega arith) (omega arith) e.found) in
      early (record {
        at = e.at;
        first = e.first;
        constant = e.constant;
        item = e.item;
        found = elim found [
          | inl n ↦ inl (record {
            n = n.n;
            named = n.named;
            early = n.early;
            is = is_finding E03 r.0
                ∙ ap (λ p. finding p E03) (sym n.is);
          })
          | inr c ↦ inr (record { place = f.place; callee = c; is = is_finding E03 r.0 })
        ];
      })

  behind : Contains (at_code E30 (unreached_in_defs m.items)) f → ScopeFinds m f
  behind h =
      let r = in_code E30 (unreached_in_defs m.items) f h in
      let b = in_bodies (λ o d. unreached_places d.body) m f.place
      (subst (λ ps. Contains ps f.place) (defs_over (λ d. unreached_places d.body) 0 0 m.items) r.1) in
      unreachable (record { body = b.b; of = b.among; place = f.place; first = b.found; is = is_finding E30 r.0 })

  abbrev unknown_constants : List Finding
  unknown_constants = at_code E02 (unknown_in_constants (resolve m owners.Module) m.items)

  abbrev unknown_bodies : List Finding
  unknown_bodies = at_code E02 (unknown_in_bodies (resolve m) 0 0 m.items)

  abbrev unknown_classes : List Finding
  unknown_classes = at_code E02 (unknown_decorators m.imports_dataclass m.items)

  abbrev early_names : List Finding
  early_names = at_code E03 (early_in 0 0 (resolve m owners.Module) m.items)

  stops : Contains (found_in_scopes m) f → ScopeFinds m f
  stops h = let r = of_scopes m f IsScopeCode tt tt tt tt tt h in stopping r.0 r.1

  names : Contains (name_findings (resolve m) m) f → ScopeFinds m f
  names h =
      either unknown_constants (unknown_bodies ++ (unknown_classes ++ early_names)) f h (constants)
      (λ h4. either unknown_bodies (unknown_classes ++ early_names) f h4 (in_all_bodies)
      (λ h3. either unknown_classes (early_names) f h3 (decorators m.imports_dataclass refl)
      (λ h2. (initializers) h2)))

  -- each finding of the walks is a finding of the scopes
  pub sound : Contains (scope_findings (resolve m) m) f → ScopeFinds m f
  sound h = either (found_in_scopes m) (at_code E30 (unreached_in_defs m.items) ++ name_findings (resolve m) m) f h
      stops
      (λ h2. either (at_code E30 (unreached_in_defs m.items)) (name_findings (resolve m) m) f h2 behind names)

-- ---- a finding of the scopes is found

module _ (m : Module) (f : Finding) where
  in_stops : Contains (found_in_scopes m) f → Contains (scope_findings (resolve m) m) f
  in_stops h = Contains-append_left (found_in_scopes m) (at_code E30 (unreached_in_defs m.items) ++ name_findings
      (resolve m) m) f h

  behind_stops : Contains (at_code E30 (unreached_in_defs m.items) ++ name_findings (resolve m) m) f
      → Contains (scope_findings (resolve m) m) f
  behind_stops h = Contains-append_right (found_in_scopes m) (at_code E30 (unreached_in_defs m.items) ++ name_findings
      (resolve m) m) f h

  in_unreached_statements : Contains (at_code E30 (unreached_in_defs m.items)) f
      → Contains (scope_findings (resolve m) m) f
  in_unreached_statements h = behind_stops (Contains-append_left (at_code E30 (unreached_in_defs m.items))
      (name_findings (resolve m) m) f h)

  in_names : Contains (name_findings (resolve m) m) f → Contains (scope_findings (resolve m) m) f
  in_names h = behind_stops (Contains-append_right (at_code E30 (unreached_in_defs m.items))
      (name_findings (resolve m) m) f h)

  in_unknown_constants : Contains (at_code E02 (unknown_in_constants (resolve m owners.Module) m.items)) f
      → Contains (scope_findings (resolve m) m) f
  in_unknown_constants h =
      in_names (Contains-append_left (at_code E02 (unknown_in_constants (resolve m owners.Module) m.items))
      (at_code E02 (unknown_in_bodies (resolve m) 0 0 m.items)
      ++ (at_code E02 (unknown_decorators m.imports_dataclass m.items) ++ at_code E03
      (early_in 0 0 (resolve m owners.Module) m.items))) f h)

  behind_constants : Contains (at_code E02 (unknown_in_bodies (resolve m) 0 0 m.items)
      ++ (at_code E02 (unknown_decorators m.imports_dataclass m.items) ++ at_code E03
      (early_in 0 0 (resolve m owners.Module) m.items))) f → Contains (scope_findings (resolve m) m) f
  behind_constants h =
      in_names (Contains-append_right (at_code E02 (unknown_in_constants (resolve m owners.Module) m.items))
      (at_code E02 (unknown_in_bodies (resolve m) 0 0 m.items)
      ++ (at_code E02 (unknown_decorators m.imports_dataclass m.items) ++ at_code E03
      (early_in 0 0 (resolve m owners.Module) m.items))) f h)

  in_unknown_bodies : Contains (at_code E02 (unknown_in_bodies (resolve m) 0 0 m.items)) f
      → Contains (scope_findings (resolve m) m) f
  in_unknown_bodies h = behind_constants (Contains-append_left (at_code E02 (unknown_in_bodies (resolve m) 0 0 m.items))
      (at_code E02 (unknown_decorators m.imports_dataclass m.items) ++ at_code E03
      (early_in 0 0 (resolve m owners.Module) m.items)) f h)

  behind_bodies : Contains (at_code E02 (unknown_decorators m.imports_dataclass m.items) ++ at_code E03
      (early_in 0 0 (resolve m owners.Module) m.items)) f → Contains (scope_findings (resolve m) m) f
  behind_bodies h = behind_constants (Contains-append_right (at_code E02 (unknown_in_bodies (resolve m) 0 0 m.items))
      (at_code E02 (unknown_decorators m.imports_dataclass m.items) ++ at_code E03
      (early_in 0 0 (resolve m owners.Module) m.items)) f h)

  in_unknown_classes : Contains (at_code E02 (unknown_decorators m.imports_dataclass m.items)) f
      → Contains (scope_findings (resolve m) m) f
  in_unknown_classes h =
      behind_bodies (Contains-append_left (at_code E02 (unknown_decorators m.imports_dataclass m.items))
      (at_code E03 (early_in 0 0 (resolve m owners.Module) m.items)) f h)

  in_early_names : Contains (at_code E03 (early_in 0 0 (resolve m owners.Module) m.items)) f
      → Contains (scope_findings (resolve m) m) f
  in_early_names h = behind_bodies (Contains-append_right (at_code E02 (unknown_decorators m.imports_dataclass m.items))
      (at_code E03 (early_in 0 0 (resolve m owners.Module) m.items)) f h)

  stopped : (c : Code) → f.code ≡ c → IsScopeCode c → IsStopping m f.place c → Contains (scope_findings (resolve m) m) f
  stopped E01 e code h = in_stops (to_twice m f e h)
  stopped E05 e code h = in_stops (to_loose m f e h)
  stopped E28 e code h = in_stops (to_main m f e h)
  stopped E29 e code h = in_stops (to_reserved m f e h)
  stopped E31 e code h = in_stops (to_default m f e h)
  stopped _ e code h = absurd code

  placed : (c : Code) (p : Place) (ps : List Place) → f ≡ finding p c → Contains ps p → Contains (at_code c ps) f
  placed c p ps is h = subst (Contains (at_code c ps)) (sym is) (to_code c ps p h)

  classes_unknown : (imported : Bool) → imported ≡ false → (p : Place) → Contains (decorators_in m.items) p
      → Contains (unknown_decorators imported m.items) p
  classes_unknown true e p h = absurd (grind (arith, e))
  classes_unknown false e p h = h

  counted : (n : ℕ) (first : Place) (x : Constant) → slice_get m.items n ≡ Some (constant_item first x) → (p : Place)
      → Contains (early_among (length (constants_in (take n m.items))) (length (classes_in (take n m.items)))
      (resolve m owners.Module) (parts_in false x.value)) p → Contains (early_in 0 0 (resolve m owners.Module) m.items)
      p
  counted n first x item p h = to_early (resolve m owners.Module) 0 0 m.items p n first x item
      (moved (resolve m owners.Module) (length (constants_in (take n m.items)))
      (0 + length (constants_in (take n m.items))) (length (classes_in (take n m.items)))
      (0 + length (classes_in (take n m.items))) x p (omega arith) (omega arith) h)

  -- a finding of the scopes is among what the walks find
  pub complete : ScopeFinds m f → Contains (scope_findings (resolve m) m) f
  complete (stopping code h) = stopped f.code refl code h
  complete (unknown (in_constant c among u)) = in_unknown_constants
      (placed E02 u.n.place (unknown_in_constants (resolve m owners.Module) m.items) u.is
      (to_constant (resolve m owners.Module) m.items c u.n.place among
      (to_unknown (resolve m owners.Module) (parts_in true c.value) u.n u.named u.unknown)))
  complete (unknown (in_body b e among of u)) = in_unknown_bodies
      (placed E02 u.n.place (unknown_in_bodies (resolve m) 0 0 m.items) u.is
      (subst (λ ps. Contains ps u.n.place) (sym (unknown_over (resolve m) 0 0 m.items))
      (to_bodies (λ o d. unknown_in (resolve m o) (exprs_in_all true d.body)) m b u.n.place among
      (to_part (resolve m b.owner) (exprs_in_all true b.function.body) e u.n.place of
      (to_unknown (resolve m b.owner) (parts_in true e) u.n u.named u.unknown)))))
  complete (unknown (decorator c none among is)) = in_unknown_classes
      (placed E02 c.decorator (unknown_decorators m.imports_dataclass m.items) is
      (classes_unknown m.imports_dataclass none c.decorator (to_decorated m.items c among)))
  complete (early r) = elim r.found [
    | inl n ↦ in_early_names (placed E03 n.n.place (early_in 0 0 (resolve m owners.Module) m.items) n.is
        (counted r.at r.first r.constant r.item n.n.place (to_early_name (length (constants_in (take r.at m.items)))
        (length (classes_in (take r.at m.items))) (resolve m owners.Module) (parts_in false r.constant.value) n.n
        n.named n.early)))
    | inr c ↦ in_early_names (placed E03 c.place (early_in 0 0 (resolve m owners.Module) m.items) c.is
        (counted r.at r.first r.constant r.item c.place (to_early_callee (length (constants_in (take r.at m.items)))
        (length (classes_in (take r.at m.items))) (resolve m owners.Module) (parts_in false r.constant.value) c.place
        c.callee)))
  ]
  complete (unreachable r) = in_unreached_statements (placed E30 r.place (unreached_in_defs m.items) r.is
      (subst (λ ps. Contains ps r.place) (sym (defs_over (λ d. unreached_places d.body) 0 0 m.items))
      (to_bodies (λ o d. unreached_places d.body) m r.body r.place r.of r.first)))

-- ---- names by the tables

-- the findings by the tables of a module are exactly those of its scopes
pub found_by : (m : Module) (t : Tables) → AreTables m t → (f : Finding)
    → Contains (scope_findings (meaning_by_tables t) m) f ↔ ScopeFinds m f
found_by m t are f =
    let same : scope_findings (meaning_by_tables t) m ≡ scope_findings (resolve m) m =
    λ i. scope_findings (λ owner text. means m t are owner text i) m in
    (λ h. sound m f (subst (λ fs. Contains fs f) same h), λ h. subst (λ fs. Contains fs f) (sym same) (complete m f h))
