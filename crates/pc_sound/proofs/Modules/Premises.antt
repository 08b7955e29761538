-- The premises of the law that a module without silent errors establishes, and those that are left.
use Rattle.std.proofs.Common.{◌≡◌, ℕ, zero, suc, List, [], ◌∷◌, ◌++◌, length, map, refl, sym, ap, ◌∙◌, subst, inl, inr}
use Rattle.std.proofs.Common.{arith, append_assoc, append-nil}
use Rattle.std.specs.Prelude.{true, ◌&&◌, not, take, Option, Some, None, is_some, slice_get}
use Rattle.std.proofs.lemmas.List.Elements.{filter_map-append}
use Rattle.std.proofs.lemmas.Option.{none-some}
use Rattle.std.proofs.Math.Bool.{or-false}
use Rattle.std.proofs.Math.Seq.{take-append_seam}
use Rattle.pc_source.specs.declared.place.Place.{Place}
use Rattle.pc_tree.specs.declared.code.Code.{Code}
use Rattle.pc_tree.specs.declared.code.Finding.{Finding}
use Rattle.pc_tree.specs.Code.{finding}
use Rattle.pc_tree.specs.Tree.{FuncDef, Member, field_member, method_member, ClassDef, Item, constant_item, class_item}
use Rattle.pc_tree.specs.Tree.{def_item, Constant, Module}
use Rattle.pc_tree.specs.Stopping.{name_of_item}
use Rattle.pc_scope.specs.declared.resolution.Owner.{Owner}
use Rattle.pc_scope.specs.declared.resolution.Owner.TheVariants as owners
use Rattle.pc_scope.specs.declared.resolution.NameMeaning.{NameMeaning}
use Rattle.pc_scope.specs.declared.resolution.NameMeaning.TheVariants as meaning
use Rattle.pc_scope.specs.Bindings.{as_method, constants_in, classes_in, functions_in, methods_in}
use Rattle.pc_scope.specs.Reserved.{is_builtin_name}
use Rattle.pc_scope.specs.Resolution.{is_one_of, index_of, locals, function_of, local_meaning, or_meaning}
use Rattle.pc_scope.specs.Resolution.{resolve_in_module}
use Rattle.pc_types.specs.Tree.{Tree}
use Rattle.pc_class.specs.Bases.{bases_of}
use Rattle.pc_class.specs.Facts.{ClassFacts, Method, classes_of, class_facts_at, field_by_name, method_by_name}
use Rattle.pc_class.specs.Facts.{binds_method, method_made}
use Rattle.pc_class.specs.Findings as classes
use Rattle.pc_class.specs.Findings.{base_class, member_texts}
use Rattle.pc_class.proofs.Judged.{judged_once}
use Rattle.pc_class.specs.Overrides.{Judges, dynamic, wrong, overridden}
use Rattle.pc_rules.specs.Signatures.{body_context}
use Rattle.pc_module_rules.specs.Modules.{FunctionLabels, LawfulFunction, FunctionFinds, ModuleItemsLabels, BeforeItem}
use Rattle.pc_module_rules.specs.Modules.{before_next, nothing_before, constant_types, Labelling, IsLawful, IsFinding}
use Rattle.pc_machine.specs.Free.{Step, free}
use Rattle.pc_machine.specs.Evaluation.{steps}
use Rattle.pc_machine.specs.Runs.{Run, End, IsFaultyEnd}
use Rattle.pc_sound.specs.Silent.{HasNoSilentError, IsSilent, shape, bare, bare_returns_in_def}
use Rattle.pc_sound.specs.Sound.{HasEvaluatedListed}
use Rattle.pc_sound.proofs.Lists.{get_at_end, one_longer, within}
use Rattle.pc_sound.proofs.Modules.ClassPremises.{names_behind, names_last, among_behind}
use Rattle.pc_sound.proofs.Regular.RegularParts.{tests_in_time}
use Rattle.pc_sound.proofs.Regular.KeyedLabels.{IsKeyed, SuiteKeyed, InitializersKeyed}
use Rattle.pc_sound.proofs.Modules.TimelyBodies.{NamesTimely}
use Rattle.pc_sound.proofs.Regular.RegularFunctions.{OwnerAsked, function_regular}
use Rattle.pc_sound.proofs.Modules.PlacesInModules.{function_places}
use Rattle.pc_sound.proofs.Modules.Inheritance.{inherits}
use Rattle.pc_sound.proofs.Calls.OverridesFit.{HasShapes, shapes_or_not, IsAllowedOverride, AreJudged, dispatched}
use Rattle.pc_sound.proofs.Calls.OverridesFit.{owner_above}
use Rattle.pc_sound.proofs.Calls.KnownTests.{right_tests}
use Rattle.pc_sound.proofs.Modules.KnownNames.{initializer_names, initializer_ancestors, body_names, body_ancestors}
use Rattle.pc_sound.proofs.Modules.MainWorld.{Labelled}
use Rattle.pc_sound.proofs.Calls.FilledParameters.{Distinct}
use Rattle.pc_sound.proofs.Modules.ModuleNames.{functions_append, outside_class, constant_named, class_named}
use Rattle.pc_sound.proofs.Expressions.NameReads.{KnowsNames}
use Rattle.pc_sound.proofs.Values.InstanceTests.{RightTests}
use Rattle.pc_sound.proofs.Modules.ModuleItems.{ItemsReady}
use Rattle.pc_sound.proofs.Modules.MadeClasses.{ClassesReady, classes_good}
use Rattle.pc_sound.proofs.Calls.BodyCalls.{Facts}
use Rattle.pc_sound.proofs.Modules.WholeModule.{IsListedPlace, BodyOf, of_function, of_items, body_around, body_ctx}
use Rattle.pc_sound.proofs.Modules.WholeModule.{body_fits, Premises, sound_of}
use Rattle.pc_sound.proofs.Modules.AllForms.{forms_of}
use Rattle.pc_sound.proofs.Modules.LabelledBodies.{last_types_are, last_classes_are, main_plain, labelled_of}
use Rattle.pc_sound.proofs.Modules.UniqueNames.{AllBind, parameters_bind, parameters_distinct, items_bind}
use Rattle.pc_sound.proofs.Modules.UniqueNames.{function_binds}

outside_const : (o : Option ℕ) (r : NameMeaning) (i : ℕ) → or_meaning (local_meaning o) r ≡ meaning.Const i → r ≡ meaning.Const i
outside_const None r i e = e
outside_const (Some x) r i e = absurd (grind (arith, e))

-- the methods of members and one more
abbrev count_with : ℕ → Member → ℕ
count_with n (field_member d) = n
count_with n (method_member d) = suc n

count_last : (done : List Member) (x : Member) → length (methods_in (done ++ x ∷ []))
    ≡ count_with (length (methods_in done)) x
count_last done (field_member d) = ap length (filter_map-append as_method done (field_member d ∷ [])
    ∙ append-nil (methods_in done))
count_last done (method_member d) = ap length (filter_map-append as_method done (method_member d ∷ []))
    ∙ one_longer (methods_in done) d

-- ---- constants

-- each constant has a type
constant_at : (m : Module) (items : List Item) (labels : ModuleItemsLabels items) (i : ℕ) (c : Constant)
    → slice_get (constants_in items) i ≡ Some c → (t : Tree) × (slice_get (constant_types m items labels) i ≡ Some t)
constant_at m [] labels i c e = absurd (none-some _ e)
constant_at m (constant_item p x ∷ rest) labels zero c e = (_, refl)
constant_at m (constant_item p x ∷ rest) labels (suc i) c e = constant_at m rest labels.rest i c e
constant_at m (class_item p x ∷ rest) labels i c e = constant_at m rest labels.rest i c e
constant_at m (def_item p x ∷ rest) labels i c e = constant_at m rest labels.rest i c e

module _ (m : Module) (labels : Labelling m) (lawful : IsLawful m labels) (clean : HasNoSilentError m) where
  abbrev Constants : List Tree
  Constants = constant_types m m.items labels

  -- ---- names in bodies

  names_timely : (owner : Owner) (d : FuncDef) → NamesTimely (body_context m (constant_types m m.items labels)
      (locals owner d))
  names_timely owner d = record {
    in_body = refl;
    constants = λ word i e. let h = constant_named m word i (outside_const (index_of word (locals owner d))
        (resolve_in_module m word) i e) in let b = h.behind in let at : i ≡ h.at = omega arith in
        constant_at m m.items labels i h.constant (ap (slice_get (constants_in m.items)) at ∙ h.is);
    classes = λ word c e. let h = class_named m word c (outside_class (index_of word (locals owner d))
        (resolve_in_module m word) c e) in let b = h.behind in let at : c ≡ h.at = omega arith in
        within (classes_in m.items) c h.class (ap (slice_get (classes_in m.items)) at ∙ h.is);
  }

  -- ---- overrides

  module _ (c : ℕ) (class : ClassDef) (is : slice_get (classes_in m.items) c ≡ Some class) where
    abbrev Base : ClassFacts
    Base = base_class m c class

    -- a finding of an override is at a listed place, and not silent
    override_listed : (done rest : List Member) (d : FuncDef) (code : Code) → class.members ≡ done ++ method_member d
        ∷ rest → binds_method Base (names_behind [] done) d.name.text ≡ true
        → Judges (bases_of m) (overridden Base.methods d.name.text) (method_made m c (length (methods_in done)) d)
        (Some code) → IsListedPlace m d.name.place × (¬ (IsSilent m (finding d.name.place code)))
    override_listed done rest d code all binds judged =
        let taken : take (length done) class.members ≡ done = ap (take (length done)) all
        ∙ take-append_seam done (method_member d ∷ rest) in
        let found : IsFinding m (finding d.name.place code) = record {
          labels = labels;
          lawful = lawful;
          found = inr (inl (classes.override c class (record { is = is }) (record {
            at = length done;
            method = d;
            code = code;
            here = ap (λ l. slice_get l (length done)) all ∙ get_at_end done (method_member d) rest;
            binds = subst (λ l. binds_method Base (member_texts l) d.name.text ≡ true) (sym taken)
                (sym (same_bound done) ∙ binds);
            judged = subst (λ l. Judges (bases_of m) (overridden Base.methods d.name.text)
                (method_made m c (length (methods_in l)) d) (Some code)) (sym taken) judged;
            is = refl;
          })));
        } in (
          record {
            finding = finding d.name.place code;
            found = found;
            at = refl;
          },
          clean (finding d.name.place code) found,
        )
      where
        same_bound : (xs : List Member) → binds_method Base (names_behind [] xs) d.name.text ≡ binds_method Base
            (member_texts xs) d.name.text
        same_bound xs = ap (λ x. not (is_builtin_name d.name.text)
            && (not x && not (is_some (field_by_name Base.fields d.name.text)))) (among_behind [] xs d.name.text
            ∙ or-false (is_one_of d.name.text (member_texts xs)))

    allowed_by : (done rest : List Member) (d : FuncDef) → class.members ≡ done ++ method_member d ∷ rest
        → (code : Option Code) → Judges (bases_of m) (overridden Base.methods d.name.text)
        (method_made m c (length (methods_in done)) d) code → binds_method Base (names_behind [] done) d.name.text
        ≡ true → IsAllowedOverride (IsListedPlace m) d.name.place (overridden Base.methods d.name.text)
        (method_made m c (length (methods_in done)) d) code
    allowed_by done rest d all None judged binds = inl refl
    allowed_by done rest d all (Some code) judged binds = go (override_listed done rest d code all binds judged) judged
      where
        taken : take (length done) class.members ≡ done
        taken = ap (take (length done)) all ∙ take-append_seam done (method_member d ∷ rest)

        go : {code : Code} → IsListedPlace m d.name.place × (¬ (IsSilent m (finding d.name.place code)))
            → Judges (bases_of m) (overridden Base.methods d.name.text) (method_made m c (length (methods_in done)) d)
            (Some code) → IsAllowedOverride (IsListedPlace m) d.name.place (overridden Base.methods d.name.text)
            (method_made m c (length (methods_in done)) d) (Some code)
        go ok (dynamic all_good n) = inr (ok.0, λ k x h. (all_good k x h).shape)
        go ok (wrong n) = elim (shapes_or_not (method_made m c (length (methods_in done)) d)
            (overridden Base.methods d.name.text)) [
              | inl a ↦ inr (ok.0, a)
              | inr other ↦ absurd (ok.1 (shape (record {
                c = c;
                class = class;
                numbered = record { is = is };
                at = length done;
                method = d;
                here = ap (λ l. slice_get l (length done)) all ∙ get_at_end done (method_member d) rest;
                other = subst (λ l. ¬ (HasShapes (method_made m c (length (methods_in l)) d)
                    (overridden Base.methods d.name.text))) (sym taken) other;
                is = refl;
              })))
            ]

    judged_members : (done rest : List Member) → class.members ≡ done ++ rest
        → AreJudged m (IsListedPlace m) Base c (length (methods_in done)) (names_behind [] done) rest
    judged_members done [] all = tt
    judged_members done (field_member d ∷ ms) all =
        subst (λ n. AreJudged m (IsListedPlace m) Base c n (d.name.text ∷ names_behind [] done) ms)
        (count_last done (field_member d))
        (subst (λ l. AreJudged m (IsListedPlace m) Base c (length (methods_in (done ++ field_member d ∷ []))) l ms)
        (names_last [] done (field_member d)) (judged_members (done ++ field_member d ∷ []) ms
        (all ∙ sym (append_assoc done (field_member d ∷ []) ms))))
    judged_members done (method_member d ∷ ms) all = (
      (let j = judged_once m c (length (methods_in done)) class d in
          record { code = j.code; judged = j.judged; allowed = allowed_by done ms d all j.code j.judged }),
      subst (λ n. AreJudged m (IsListedPlace m) Base c n (d.name.text ∷ names_behind [] done) ms)
          (count_last done (method_member d))
          (subst (λ l. AreJudged m (IsListedPlace m) Base c (length (methods_in (done ++ method_member d ∷ []))) l ms)
          (names_last [] done (method_member d)) (judged_members (done ++ method_member d ∷ []) ms
          (all ∙ sym (append_assoc done (method_member d ∷ []) ms)))),
    )

  pub judged : (c : ℕ) (class : ClassDef) → slice_get (classes_in m.items) c ≡ Some class
      → AreJudged m (IsListedPlace m) (base_class m c class) c 0 [] class.members
  judged c class is = judged_members c class is [] class.members refl

  -- ---- the remaining premises

  -- of a module without silent errors: its classes can be made, and the labels of its initializers have keyed dicts
  pub record Left : Type 0 where
    pub classes : ClassesReady m (constant_types m m.items labels) (IsListedPlace m)
    pub distinct_fields : (c : ℕ) → Distinct [] (class_facts_at (classes_of m) c).fields
    pub distinct_methods : (c : ℕ) (word : List ℕ) (old : Method)
        → method_by_name (class_facts_at (classes_of m) c).methods word ≡ Some old → Distinct [] old.parameters
    pub constants_keyed : (i : ℕ) (t : Tree) → slice_get (constant_types m m.items labels) i ≡ Some t → IsKeyed t
    pub initializers_keyed : InitializersKeyed m.items labels

  module _ (left : Left) where
    none_asked : (owner : Owner) → OwnerAsked tests_in_time owner
    none_asked owners.Module = tt
    none_asked (owners.Func i) = tt
    none_asked (owners.Method c i) = tt

    body_keyed : (owner : Owner) (d : FuncDef) → function_of m owner ≡ Some d → (fm : FunctionLabels d)
        → ((f : Finding) → FunctionFinds m (constant_types m m.items labels) owner d fm f → IsFinding m f)
        → LawfulFunction m (constant_types m m.items labels) owner d fm → SuiteKeyed d.body fm.body
    body_keyed owner d e fm found law = function_regular tests_in_time m (λ word c e. tt)
        (constant_types m m.items labels) left.constants_keyed owner (none_asked owner) d (names_timely owner d) fm
        (λ f h wrong here. clean f (found f (inr (inr (inr h))))
        (bare wrong (function_places m bare_returns_in_def owner d f.place e here))) law

    labelled : (owner : Owner) (d : FuncDef) → function_of m owner ≡ Some d
        → Labelled m (constant_types m m.items labels) (IsListedPlace m) owner d
    labelled = labelled_of m labels lawful clean body_keyed

    pub facts : Facts m (constant_types m m.items labels) (IsListedPlace m)
    facts = record {
      inherits = inherits m;
      dispatched = λ d c below word old e. dispatched m (IsListedPlace m) judged d c below word old e;
      owner_above = owner_above m (IsListedPlace m);
      labelled = labelled;
      distinct_methods = left.distinct_methods;
      distinct_fields = left.distinct_fields;
      distinct_functions = λ i d e. parameters_distinct m [] d.params
          (function_binds m labels lawful clean (owners.Func i) d e);
    }

    knows : (b : BodyOf m labels) → KnowsNames (body_around m labels b) (body_ctx m labels b)
    knows (of_function owner d lab) = body_names m (constant_types m m.items labels) (IsListedPlace m) owner d lab
    knows (of_items types defs n names) = initializer_names m (IsListedPlace m) types defs n names

    tests : (b : BodyOf m labels) → RightTests (body_around m labels b) (body_ctx m labels b)
    tests (of_function owner d lab) = right_tests (body_around m labels (of_function owner d lab))
        (body_ctx m labels (of_function owner d lab)) (body_fits m labels (of_function owner d lab))
        (body_names m (constant_types m m.items labels) (IsListedPlace m) owner d lab)
        (body_ancestors m (constant_types m m.items labels) (IsListedPlace m) owner d lab)
    tests (of_items types defs n names) = right_tests (body_around m labels (of_items types defs n names))
        (body_ctx m labels (of_items types defs n names)) (body_fits m labels (of_items types defs n names))
        (initializer_names m (IsListedPlace m) types defs n names)
        (initializer_ancestors m (IsListedPlace m) types defs n names)

    -- each item can run
    all_ready : (done items : List Item) (b : BeforeItem) (im : ModuleItemsLabels items) → m.items ≡ done ++ items
        → AllBind b.names (map name_of_item items) → InitializersKeyed items im
        → ItemsReady m (constant_types m m.items labels) (IsListedPlace m) b items im
    all_ready done [] b im all binds keyed = tt
    all_ready done (constant_item p c ∷ rest) b im all binds keyed = (
      (binds.0, keyed.0),
      all_ready (done ++ constant_item p c ∷ []) rest
          (before_next m b (constant_item p c) im.first) im.rest (all
          ∙ sym (append_assoc done (constant_item p c ∷ []) rest)) binds.1 keyed.1,
    )
    all_ready done (class_item p c ∷ rest) b im all binds keyed = (
      binds.0,
      all_ready (done ++ class_item p c ∷ []) rest (before_next m b (class_item p c) im.first) im.rest
          (all ∙ sym (append_assoc done (class_item p c ∷ []) rest)) binds.1 keyed,
    )
    all_ready done (def_item p f ∷ rest) b im all binds keyed = (
      (
        binds.0,
        parameters_bind m (IsListedPlace m) [] f.params (function_binds m labels lawful clean
            (owners.Func (length (functions_in done))) f here),
      ),
      all_ready (done ++ def_item p f ∷ []) rest (before_next m b (def_item p f) im.first) im.rest
          (all ∙ sym (append_assoc done (def_item p f ∷ []) rest)) binds.1 keyed,
    )
      where
        here : slice_get (functions_in m.items) (length (functions_in done)) ≡ Some f
        here = ap (λ l. slice_get l (length (functions_in done)))
            (ap functions_in all ∙ functions_append done (def_item p f ∷ rest))
            ∙ get_at_end (functions_in done) f (functions_in rest)

    pub premises : Premises m labels
    premises = record {
      forms = forms_of m labels facts (record { knows = knows; tests = tests });
      classes = λ n. classes_good m (constant_types m m.items labels) (IsListedPlace m) left.classes
          (steps Step free n);
      ready = all_ready [] m.items nothing_before labels refl (items_bind m labels lawful clean)
          left.initializers_keyed;
      labelled = labelled;
      main = main_plain m labels lawful clean;
      inherits = inherits m;
      last_types = last_types_are m (constant_types m m.items labels) (IsListedPlace m) nothing_before m.items labels;
      last_classes = last_classes_are m (constant_types m m.items labels) (IsListedPlace m) nothing_before m.items
          labels ∙ omega arith;
    }

    -- a run of the module that ends in a fault has evaluated a listed place
    pub sound_but_for : (events : List Place) (end : End) → Run m events end → IsFaultyEnd end
        → HasEvaluatedListed m events
    sound_but_for events end run fault = sound_of m labels lawful clean premises events end run fault
