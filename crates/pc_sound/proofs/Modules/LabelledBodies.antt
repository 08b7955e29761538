-- The functions and methods of a module have the lawful labels that the module's labelling gives them.
use Rattle.std.proofs.Common.{◌≡◌, ℕ, ◌+◌, List, [], ◌∷◌, ◌++◌, length, map, refl, sym, ap, ◌∙◌, subst, inl, inr}
use Rattle.std.proofs.Common.{arith, Contains, append-nil, append_assoc}
use Rattle.std.specs.Prelude.{Bool as Test, true, false, ◌||◌, not, if◌then◌else◌, Option, Some, None, is_some}
use Rattle.std.specs.Prelude.{bytes_eq, codes}
use Rattle.std.specs.List.{list_any}
use Rattle.std.proofs.lemmas.List.Elements.{Contains-append_right}
use Rattle.std.proofs.lemmas.Slice.Eq.{bytes_eq-Decides}
use Rattle.std.proofs.lemmas.Option.{none-some, same_Some}
use Rattle.pc_source.specs.declared.place.Place.{Place}
use Rattle.pc_source.specs.ReservedNames as keywords
use Rattle.pc_tree.specs.declared.code.Code.{Code}
use Rattle.pc_tree.specs.declared.code.Code.TheVariants.{E05, E28, E29}
use Rattle.pc_tree.specs.declared.code.Finding.{Finding}
use Rattle.pc_tree.specs.Code.{finding}
use Rattle.pc_sound.specs.Silent.{IsSilentCode, by_code, unreturned}
use Rattle.pc_tree.specs.Tree.{Name, Param, FuncDef, Item, constant_item}
use Rattle.pc_tree.specs.Tree.{class_item, def_item, Module}
use Rattle.pc_tree.specs.Stopping as stopping
use Rattle.pc_tree.specs.Stopping.{one_if, of_defs, name_of_param, bound_by, loose_in_def, reserved_among}
use Rattle.pc_tree.specs.Stopping.{reserved_in_def, is_plain_def, stopping_places}
use Rattle.pc_scope.specs.declared.resolution.Owner.{Owner}
use Rattle.pc_scope.specs.declared.resolution.Owner.TheVariants as owners
use Rattle.pc_scope.specs.Reserved.{reserved_builtins, beside, builtin_of, is_builtin_name}
use Rattle.pc_scope.specs.Bindings.{texts, param_names, classes_in}
use Rattle.pc_scope.specs.Resolution.{is_one_of, entry_texts, function_of}
use Rattle.pc_scope_findings.specs.Findings as scope
use Rattle.pc_scope_findings.specs.Findings.{IsScopeCode}
use Rattle.pc_types.specs.Tree.{Tree}
use Rattle.pc_module_rules.specs.Modules.{FunctionLabels, LawfulFunction, FunctionFinds, ModuleItemsLabels, ModuleItemsFind}
use Rattle.pc_module_rules.specs.Modules.{BeforeItem, IsFinding}
use Rattle.pc_module_rules.specs.Modules.{before_next, nothing_before, Labelling, IsLawful, constant_types}
use Rattle.pc_module_rules.specs.Modules.{item_constants}
use Rattle.pc_module_rules.proofs.Functions.{function_labels}
use Rattle.pc_module_rules.proofs.Scopes.{said_is_found}
use Rattle.pc_rules.specs.Labels.{IsCodeAt}
use Rattle.pc_sound.specs.Silent.{HasNoSilentError}
use Rattle.pc_sound.proofs.TruthValues.{not_both}
use Rattle.pc_sound.proofs.Regular.KeyedLabels.{SuiteKeyed}
use Rattle.pc_sound.proofs.Modules.MainWorld.{Labelled}
use Rattle.pc_sound.proofs.Modules.ModuleItems.{last_of}
use Rattle.pc_sound.proofs.Modules.WholeModule.{IsListedPlace}
use Rattle.pc_sound.proofs.Modules.PlacesInModules.{function_places}
use Rattle.pc_sound.proofs.Calls.EntryFrames.{texts_append}
use Rattle.pc_sound.proofs.Lists.{same_text_back}

-- ---- constants and classes after the last item

module _ (m : Module) (constants : List Tree) (listed : Place → Type 0) where
  pub last_types_are : (b : BeforeItem) (items : List Item) (labels : ModuleItemsLabels items)
      → (last_of m constants listed b items labels).constants ≡ b.constants ++ constant_types m items labels
  last_types_are b [] labels = sym (append-nil b.constants)
  last_types_are b (constant_item p c ∷ rest) labels = last_types_are (before_next m b (constant_item p c) labels.first)
      rest labels.rest ∙ append_assoc b.constants (item_constants m (constant_item p c) labels.first)
      (constant_types m rest labels.rest)
  last_types_are b (class_item p c ∷ rest) labels = last_types_are (before_next m b (class_item p c) labels.first) rest
      labels.rest
  last_types_are b (def_item p f ∷ rest) labels = last_types_are (before_next m b (def_item p f) labels.first) rest
      labels.rest

  pub last_classes_are : (b : BeforeItem) (items : List Item) (labels : ModuleItemsLabels items)
      → (last_of m constants listed b items labels).classes ≡ b.classes + length (classes_in items)
  last_classes_are b [] labels = omega arith
  last_classes_are b (constant_item p c ∷ rest) labels = last_classes_are
      (before_next m b (constant_item p c) labels.first) rest labels.rest
  last_classes_are b (class_item p c ∷ rest) labels = let h = last_classes_are
      (before_next m b (class_item p c) labels.first) rest labels.rest in h ∙ omega arith
  last_classes_are b (def_item p f ∷ rest) labels = last_classes_are (before_next m b (def_item p f) labels.first) rest
      labels.rest

-- ---- reserved names

besides : {A : Type 0} (es : List (List ℕ × A)) (word : List ℕ)
    → is_some (beside es word) ≡ list_any (λ x. bytes_eq word x) (map (λ e. e.0) es)
besides [] word = refl
besides (e ∷ es) word = go (bytes_eq e.0 word) (besides es word)
    ∙ ap (λ b. b || list_any (λ x. bytes_eq word x) (map (λ e. e.0) es)) (same_text_back e.0 word)
  where
    go : (b : Test) → is_some (beside es word) ≡ list_any (λ x. bytes_eq word x) (map (λ e. e.0) es)
        → is_some (if b then Some e.1 else beside es word) ≡ (b || list_any (λ x. bytes_eq word x) (map (λ e. e.0) es))
    go true h = refl
    go false h = h

-- scopes and the codes that stop a run have the same reserved names
pub reserved_same : (word : List ℕ) → is_builtin_name word ≡ keywords.is_reserved word
unfolding builtin_of
reserved_same word = besides reserved_builtins word

self_free : is_builtin_name (codes "self") ≡ false
unfolding builtin_of
self_free = refl

reserved_found : (ns : List Name) (word : List ℕ) → is_one_of word (texts ns) ≡ true → is_builtin_name word ≡ true
    → (p : Place) × Contains (reserved_among ns) p
reserved_found [] word e r = absurd (grind (arith, e))
reserved_found (n ∷ ns) word e r = go (bytes_eq word n.text) refl e (λ f. reserved_found ns word f r)
  where
    go : (b : Test) → bytes_eq word n.text ≡ b → (b || is_one_of word (texts ns)) ≡ true
        → (is_one_of word (texts ns) ≡ true → (p : Place) × Contains (reserved_among ns) p) → (p : Place)
        × Contains (reserved_among (n ∷ ns)) p
    go true t e others =
        let here : keywords.is_reserved n.text ≡ true = sym (reserved_same n.text)
        ∙ ap is_builtin_name (sym ((bytes_eq-Decides word n.text).0 t)) ∙ r in (
          n.place,
          subst (λ b. Contains (one_if b n.place ++ reserved_among ns) n.place) (sym here)
              (0, omega arith, refl),
        )
    go false t e others = let o = others e in (
      o.0,
      Contains-append_right (one_if (keywords.is_reserved n.text) n.place)
          (reserved_among ns) o.0 o.1,
    )

-- ---- a module without silent errors

params_named : (ps : List Param) → map name_of_param ps ≡ param_names ps
params_named [] = refl
params_named (p ∷ ps) = ap (λ l. p.name ∷ l) (params_named ps)

module _ (m : Module) (labels : Labelling m) (lawful : IsLawful m labels) (clean : HasNoSilentError m) where
  -- no place has a code that stops a run
  pub never_stops : (code : Code) → IsScopeCode code → IsSilentCode code → (p : Place)
      → Contains (stopping_places m code) p → ⊥
  never_stops code is error p stops = clean (finding p code) (record {
    labels = labels;
    lawful = lawful;
    found =
        inl (scope.stopping is stops);
  }) (by_code error)

  -- `main` is a function without parameters
  pub main_plain : is_plain_def (codes "main") m.items ≡ true
  main_plain = go (is_plain_def (codes "main") m.items) refl
    where
      go : (b : Test) → is_plain_def (codes "main") m.items ≡ b → is_plain_def (codes "main") m.items ≡ true
      go true e = e
      go false e = absurd (never_stops E28 tt tt m.main (subst (λ b. Contains (one_if (not b) m.main) m.main) (sym e)
          (0, omega arith, refl)))

  -- no name that a function binds is reserved
  names_free : (owner : Owner) (d : FuncDef) → function_of m owner ≡ Some d → (word : List ℕ)
      → is_one_of word (entry_texts owner d ++ texts (bound_by d.body)) ≡ true → is_builtin_name word ≡ false
  names_free owner d e word among = go (is_builtin_name word) refl
    where
      at_end : (p : Place) → Contains (reserved_in_def d) p → ⊥
      at_end p c = never_stops E29 tt tt p (Contains-append_right (reserved_among (map stopping.name_of_item m.items))
          _ p (Contains-append_right (stopping.reserved_in_classes m.items)
          (of_defs reserved_in_def reserved_in_def m.items) p (function_places m reserved_in_def owner d p e c)))

      own : texts (param_names d.params) ++ texts (bound_by d.body)
          ≡ texts (map name_of_param d.params ++ bound_by d.body)
      own = sym (texts_append (map name_of_param d.params) (bound_by d.body)
          ∙ ap (λ l. texts l ++ texts (bound_by d.body)) (params_named d.params))

      parts : (owner : Owner) → is_one_of word (entry_texts owner d ++ texts (bound_by d.body)) ≡ true
          → is_builtin_name word ≡ true → (p : Place) × Contains (reserved_in_def d) p
      parts owners.Module a r = reserved_found (map name_of_param d.params ++ bound_by d.body) word
          (ap (is_one_of word) (sym own) ∙ a) r
      parts (owners.Func i) a r = reserved_found (map name_of_param d.params ++ bound_by d.body) word
          (ap (is_one_of word) (sym own) ∙ a) r
      parts (owners.Method c i) a r = test (bytes_eq word (codes "self")) refl a
        where
          test : (b : Test) → bytes_eq word (codes "self") ≡ b
              → (b || is_one_of word (texts (param_names d.params) ++ texts (bound_by d.body))) ≡ true → (p : Place)
              × Contains (reserved_in_def d) p
          test true t x = absurd (not_both r (ap is_builtin_name ((bytes_eq-Decides word (codes "self")).0 t)
              ∙ self_free))
          test false t x = reserved_found (map name_of_param d.params ++ bound_by d.body) word
              (ap (is_one_of word) (sym own) ∙ x) r

      go : (b : Test) → is_builtin_name word ≡ b → is_builtin_name word ≡ false
      go true r = let f = parts owner among r in absurd (at_end f.0 f.1)
      go false r = r

  -- a finding of the items is a listed place, and its code is not silent everywhere
  pub listed_finding : (f : Finding) → ModuleItemsFind m (constant_types m m.items labels) nothing_before m.items labels f
      → IsListedPlace m f.place × (¬ (IsSilentCode f.code))
  listed_finding f h = let found = said_is_found m labels lawful f h in
      (record { finding = f; found = found; at = refl }, λ s. clean f found (by_code s))

  at_name : (d : FuncDef) (code : Option Code) (c : Code) → code ≡ Some c → IsCodeAt d.name.place code
      (finding d.name.place c)
  at_name d None c e = absurd (none-some _ e)
  at_name d (Some x) c e = ap (finding d.name.place) (sym (same_Some _ _ e))

  -- each function and method of the module has its lawful labels, in which each finding is a listed place
  pub labelled_of : ((owner : Owner) (d : FuncDef) → function_of m owner ≡ Some d → (fm : FunctionLabels d)
      → ((f : Finding) → FunctionFinds m (constant_types m m.items labels) owner d fm f → IsFinding m f)
      → LawfulFunction m (constant_types m m.items labels) owner d fm → SuiteKeyed d.body fm.body)
      → (owner : Owner) (d : FuncDef) → function_of m owner ≡ Some d → Labelled m (constant_types m m.items labels)
      (IsListedPlace m) owner d
  labelled_of keyed owner d e =
      let l = function_labels m labels lawful owner d e in
      record {
        labels = l.labels;
        lawful = l.lawful;
        covered = λ f h. listed_finding f (l.within f h);
        keyed = keyed owner d e l.labels (λ f h. said_is_found m labels lawful f (l.within f h)) l.lawful;
        returned = λ i is c x at. clean (finding d.name.place c) (said_is_found m labels lawful
            (finding d.name.place c) (l.within (finding d.name.place c)
            (inr (inr (inl (at_name d l.labels.completing c x))))))
            (unreturned i d (subst (λ o. function_of m o ≡ Some d) is e) (ap (finding d.name.place) at));
        in_loops = λ p c. never_stops E05 tt tt p (function_places m loose_in_def owner d p e c);
        free = names_free owner d e;
      }
