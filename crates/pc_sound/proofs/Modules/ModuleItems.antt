-- All items of a module, one after another, and then `main`.
use Rattle.std.proofs.Common.{◌≡◌, ℕ, zero, suc, ◌+◌, List, [], ◌∷◌, ◌++◌, length, refl, sym, ap, ◌∙◌, subst, inl, inr}
use Rattle.std.proofs.Common.{arith, append-nil, append_assoc}
use Rattle.std.specs.Prelude.{Bool as Test, true, false, not, nat_lt, if◌then◌else◌, codes, Some, None, is_some}
use Rattle.std.specs.Prelude.{slice_get, bytes_eq}
use Rattle.std.proofs.lemmas.List.Elements.{Contains-append_left}
use Rattle.std.proofs.lemmas.Option.{same_Some}
use Rattle.std.proofs.lemmas.Bool.{and_parts, not-true}
use Rattle.pc_source.specs.declared.place.Place.{Place}
use Rattle.pc_source.specs.ReservedNames as keywords
use Rattle.pc_tree.specs.Tree.{Name, Expr, ClassDef, FuncDef, Param, Item, constant_item, class_item, def_item, Module}
use Rattle.pc_tree.specs.Stopping.{of_defs, is_plain_def, has_none}
use Rattle.pc_tree.specs.Depth.{place_of}
use Rattle.pc_scope.specs.declared.resolution.Owner.TheVariants as owners
use Rattle.pc_scope.specs.declared.resolution.NameMeaning.TheVariants as meaning
use Rattle.pc_scope.specs.Reserved.{builtin_of, is_builtin_name}
use Rattle.pc_scope.specs.Bindings.{constants_in, classes_in, functions_in}
use Rattle.pc_scope.specs.Resolution.{is_one_of, bound_first, or_meaning, builtin_meaning, resolve_in_module}
use Rattle.pc_types.specs.Tree.{Tree}
use Rattle.pc_class.specs.Bases.{bases_of}
use Rattle.pc_class.specs.Facts.{TypedParameter, parameters_of, return_type, classes_of}
use Rattle.pc_rules.specs.Context.{FlowsInto}
use Rattle.pc_rules.specs.Labels.{whole_label}
use Rattle.pc_rules.specs.Lawful.{Lawful}
use Rattle.pc_rules.specs.Signatures.{initializer_context, binds_name, annotated_types, first_of_types}
use Rattle.pc_module_rules.specs.Modules.{BeforeItem, before_next, ItemLabels, ModuleItemsLabels, LawfulItem}
use Rattle.pc_module_rules.specs.Modules.{LawfulModuleItems, ItemFinds, ModuleItemsFind}
use Rattle.pc_value.specs.Value.{Gives}
use Rattle.pc_machine.specs.State.{State, Function, Class, Globals}
use Rattle.pc_machine.specs.Names.{meaning_in_run, meaning_of_global, meaning_of_local, global_by_name}
use Rattle.pc_machine.specs.Calls.{Callee, calls_value, calls_function, calls_class, calls_reserved, calls_method}
use Rattle.pc_machine.specs.Calls.{calls_builtin_method, callee_of_meaning, bound_arguments}
use Rattle.pc_machine.specs.Steps.{Parts}
use Rattle.pc_machine.specs.Free.{Step, free}
use Rattle.pc_machine.specs.Evaluation.{exec_item, exec_items, enter_main, call_callee}
use Rattle.pc_sound.specs.Values.{HeapTyping, HasType}
use Rattle.pc_sound.specs.Silent.{param_defaults_in, field_defaults_in}
use Rattle.pc_sound.specs.Ends.{EndsWell}
use Rattle.pc_sound.specs.Loaded.{DefaultsHave, MadeOf, IsLoaded}
use Rattle.pc_sound.specs.Arguments.{Suits}
use Rattle.pc_sound.proofs.Steps.Judgment.{Around, IsWellTyped, IsSafe}
use Rattle.pc_sound.proofs.TruthValues.{neither}
use Rattle.pc_sound.proofs.Lists.{get_at_end, one_longer, within}
use Rattle.pc_sound.proofs.Steps.SafeSteps.{bind_safe, looks_safe, weaken}
use Rattle.pc_sound.proofs.Expressions.SimpleExpressions.{GoodEval}
use Rattle.pc_sound.proofs.Values.Flows.{Evaluates}
use Rattle.pc_sound.proofs.Regular.KeyedLabels.{Keyed}
use Rattle.pc_sound.proofs.Heap.Fields.{Inherits}
use Rattle.pc_sound.proofs.Calls.OrdinaryCalls.{impossible_safe}
use Rattle.pc_sound.proofs.Statements.WaysOut.{GoodExec}
use Rattle.pc_sound.proofs.Modules.MainWorld.{made_later, Labelled, around_of, context_of}
use Rattle.pc_sound.proofs.Calls.FilledParameters.{Filled}
use Rattle.pc_sound.proofs.Calls.LabelledArguments.{suited_bound}
use Rattle.pc_sound.proofs.Calls.SuitedCalls.{function_call_safe}
use Rattle.pc_sound.proofs.Steps.ModuleSteps.{Proceeds, proceeds_bind, proceeds_comes}
use Rattle.pc_sound.proofs.Modules.ModuleNames.{constants_append, classes_append, functions_append, constant_named}
use Rattle.pc_sound.proofs.Modules.ModuleNames.{function_named, class_named}
use Rattle.pc_sound.proofs.Modules.PlacesInModules.{of_function_at}
use Rattle.pc_sound.proofs.Modules.ModuleOrder.{BoundSoFar, bound_later, around_items, Between, Listed, ParametersBind}
use Rattle.pc_sound.proofs.Modules.ModuleOrder.{def_proceeds, constant_proceeds}

binds_parts : (names : List (List ℕ)) (n : Name) → binds_name names n ≡ true → (is_one_of n.text names ≡ false)
    × (is_builtin_name n.text ≡ false)
binds_parts names n e = let h = neither (is_builtin_name n.text) (is_one_of n.text names) e in (h.1, h.0)

module _ (m : Module) (constants : List Tree) (listed : Place → Type 0) where
  -- the facts known of each item before it runs: its name is bound by nothing, its labels' dicts have int or str as
  -- key, its parameters bind their names
  abbrev pub ItemReady : BeforeItem → (i : Item) → ItemLabels i → Type 0
  ItemReady b (constant_item p c) labels = (binds_name b.names c.name ≡ true) × Keyed c.value labels.value
  ItemReady b (class_item p c) labels = binds_name b.names c.name ≡ true
  ItemReady b (def_item p f) labels = (binds_name b.names f.name ≡ true) × ParametersBind m listed [] f.params

  abbrev pub ItemsReady : BeforeItem → (items : List Item) → ModuleItemsLabels items → Type 0
  ItemsReady b [] labels = Unit {0}
  ItemsReady b (i ∷ rest) labels = ItemReady b i labels.first × ItemsReady (before_next m b i labels.first) rest
      labels.rest

  -- the state before the end
  abbrev pub last_of : BeforeItem → (items : List Item) → ModuleItemsLabels items → BeforeItem
  last_of b [] labels = b
  last_of b (i ∷ rest) labels = last_of (before_next m b i labels.first) rest labels.rest

  -- classes bind their names to what their facts say
  pub record GoodClasses (parts : Parts Step) : Type 0 where
    pub proceeds : (p : Place) (c : ClassDef) (b : BeforeItem) (defs : List FuncDef)
        (labels : ItemLabels (class_item p c)) → slice_get (classes_in m.items) b.classes ≡ Some c
        → LawfulItem m constants b (class_item p c) labels → Listed m listed
        (ItemFinds m constants b (class_item p c) labels) → ItemReady b (class_item p c) labels
        → Proceeds listed (λ k s. Between m listed b.constants defs b.classes b.names k s)
        (exec_item Step free parts m.imports_dataclass (class_item p c))
        (λ k u s. Between m listed b.constants defs (suc b.classes) (c.name.text ∷ b.names) k s)

  module _ (parts : Parts Step) (inits : (types : List Tree) (defs : List FuncDef) (n : ℕ) (names : List (List ℕ))
      → GoodEval (around_items m listed types defs n names) (initializer_context m types n) parts.eval)
      (evaluates : (e : Expr) → Evaluates (place_of e) (parts.eval e)) (classes : GoodClasses parts) where
    -- items after others
    pub items_proceed : (done rest : List Item) (b : BeforeItem) (defs : List FuncDef) (labels : ModuleItemsLabels rest)
        → m.items ≡ done ++ rest → length b.constants ≡ length (constants_in done)
        → b.classes ≡ length (classes_in done) → defs ≡ functions_in done
        → LawfulModuleItems m constants b rest labels → Listed m listed (ModuleItemsFind m constants b rest labels)
        → ItemsReady b rest labels
        → Proceeds listed (λ k s. Between m listed b.constants defs b.classes b.names k s)
        (exec_items Step free parts m.imports_dataclass rest) (λ k u s. Between m listed
        (last_of b rest labels).constants (functions_in m.items) (last_of b rest labels).classes
        (last_of b rest labels).names k s)
    items_proceed done [] b defs labels all cs ns fs law clean ready =
        proceeds_comes listed _ (Gives tt) _ λ k s h. subst (λ d. Between m listed b.constants d b.classes b.names k s)
        (fs ∙ ap functions_in (sym (append-nil done)) ∙ ap functions_in (sym all)) h
    items_proceed done (constant_item p c ∷ rest) b defs labels all cs ns fs law clean ready =
        let parts_of = binds_parts b.names c.name ready.0.0 in
        proceeds_bind listed _ _ _ (λ k u s. Between m listed (before_next m b (constant_item p c)
        labels.first).constants defs b.classes (c.name.text ∷ b.names) k s) _
        (constant_proceeds m listed parts m.imports_dataclass b.constants defs b.classes b.names p c labels.first.value
        labels.first.flows (inits b.constants defs b.classes b.names) evaluates
        (subst (λ t. Lawful (initializer_context m b.constants b.classes) [] []
        (first_of_types (annotated_types m t c.annotation)) c.value labels.first.value) ready.0.0 law.0.value)
        (subst (λ t. FlowsInto (bases_of m) (whole_label c.value labels.first.value) (annotated_types m t c.annotation)
        labels.first.flows) ready.0.0 law.0.flow)
        (λ f h. clean f (inl (inr h))) ready.0.1 means parts_of.0 parts_of.1)
        λ u. items_proceed (done ++ constant_item p c ∷ []) rest (before_next m b (constant_item p c) labels.first) defs
        labels.rest (all ∙ sym (append_assoc done (constant_item p c ∷ []) rest))
        (one_longer b.constants _ ∙ ap suc cs ∙ sym (one_longer (constants_in done) c)
        ∙ ap length (sym (constants_append done (constant_item p c ∷ []))))
        (ns ∙ ap length (sym (classes_append done (constant_item p c ∷ []) ∙ append-nil (classes_in done))))
        (fs ∙ sym (functions_append done (constant_item p c ∷ []) ∙ append-nil (functions_in done))) law.1
        (λ f h. clean f (inr h)) ready.1
      where
        means : (word : List ℕ) → resolve_in_module m word ≡ meaning.Const (length b.constants) → c.name.text ≡ word
        means word r =
            let n = constant_named m word (length b.constants) r in
            let here : slice_get (constants_in m.items) (length (constants_in done)) ≡ Some c =
            ap (λ l. slice_get l (length (constants_in done))) (ap constants_in all
            ∙ constants_append done (constant_item p c ∷ rest)) ∙ get_at_end (constants_in done) c
            (constants_in rest) in
            let behind = n.behind in
            let at : n.at ≡ length b.constants = omega arith in
            let same : n.constant ≡ c = same_Some _ _ (sym n.is ∙ ap (slice_get (constants_in m.items)) (at ∙ cs)
            ∙ here) in
            ap (λ x. x.name.text) (sym same) ∙ n.named
    items_proceed done (class_item p c ∷ rest) b defs labels all cs ns fs law clean ready =
        proceeds_bind listed _ _ _ (λ k u s. Between m listed b.constants defs (suc b.classes) (c.name.text ∷ b.names) k
        s) _
        (classes.proceeds p c b defs labels.first (ap (λ l. slice_get l b.classes)
        (ap classes_in all ∙ classes_append done (class_item p c ∷ rest))
        ∙ ap (slice_get (classes_in done ++ classes_in (class_item p c ∷ rest))) ns
        ∙ get_at_end (classes_in done) c (classes_in rest)) law.0 (λ f h. clean f (inl h)) ready.0)
        λ u. items_proceed (done ++ class_item p c ∷ []) rest (before_next m b (class_item p c) labels.first) defs
        labels.rest (all ∙ sym (append_assoc done (class_item p c ∷ []) rest))
        (cs ∙ ap length (sym (constants_append done (class_item p c ∷ []) ∙ append-nil (constants_in done))))
        (ap suc ns ∙ sym (one_longer (classes_in done) c) ∙ ap length (sym (classes_append done (class_item p c ∷ []))))
        (fs ∙ sym (functions_append done (class_item p c ∷ []) ∙ append-nil (functions_in done))) law.1
        (λ f h. clean f (inr h)) ready.1
    items_proceed done (def_item p d ∷ rest) b defs labels all cs ns fs law clean ready =
        let parts_of = binds_parts b.names d.name ready.0.0 in
        proceeds_bind listed _ _ _ (λ k u s. Between m listed b.constants (defs ++ d ∷ []) b.classes
        (d.name.text ∷ b.names) k s) _
        (def_proceeds m listed parts m.imports_dataclass b.constants defs b.classes b.names p d labels.first.params
        law.0.params ready.0.1 (λ f h. clean f (inl (inl h)))
        (λ q h. Contains-append_left (of_defs param_defaults_in param_defaults_in m.items) (field_defaults_in m.items) q
        (of_function_at param_defaults_in param_defaults_in m.items (length (functions_in done)) d q here h))
        means parts_of.0 parts_of.1)
        λ u. items_proceed (done ++ def_item p d ∷ []) rest (before_next m b (def_item p d) labels.first)
        (defs ++ d ∷ []) labels.rest (all ∙ sym (append_assoc done (def_item p d ∷ []) rest))
        (cs ∙ ap length (sym (constants_append done (def_item p d ∷ []) ∙ append-nil (constants_in done))))
        (ns ∙ ap length (sym (classes_append done (def_item p d ∷ []) ∙ append-nil (classes_in done))))
        (ap (λ l. l ++ d ∷ []) fs ∙ sym (functions_append done (def_item p d ∷ []))) law.1 (λ f h. clean f (inr h))
        ready.1
      where
        here : slice_get (functions_in m.items) (length (functions_in done)) ≡ Some d
        here = ap (λ l. slice_get l (length (functions_in done))) (ap functions_in all
            ∙ functions_append done (def_item p d ∷ rest)) ∙ get_at_end (functions_in done) d (functions_in rest)

        means : (word : List ℕ) → resolve_in_module m word ≡ meaning.Func (length defs) → d.name.text ≡ word
        means word r =
            let n = function_named m word (length defs) r in
            let behind = n.behind in
            let at : n.at ≡ length defs = omega arith in
            let same : n.function ≡ d = same_Some _ _ (sym n.is ∙ ap (slice_get (functions_in m.items))
            (at ∙ ap length fs) ∙ here) in
            ap (λ x. x.name.text) (sym same) ∙ n.named

  -- ---- the end

  -- the world of `main`
  pub world_at_end : (types : List Tree) (n : ℕ) (names : List (List ℕ)) (k : HeapTyping) (made : List Class)
      (globals : Globals) → types ≡ constants → n ≡ length (classes_in m.items)
      → BoundSoFar m types (functions_in m.items) n names k made globals → IsLoaded m constants k made globals
  world_at_end types n names k made globals same count w = record {
    constant = λ word i t r e. w.constant word i t r (ap (λ l. slice_get l i) same ∙ e);
    function = w.function;
    class = λ word c r. let h = class_named m word c r in let b = h.behind in let at : c ≡ h.at = omega arith in
        w.class word c r (subst (λ i. nat_lt i n ≡ true) (sym at)
        (subst (λ l. nat_lt h.at l ≡ true) (sym count) (within (classes_in m.items) h.at h.class h.is)));
    classes = λ c t e. w.classes c t (subst (λ l. nat_lt c l ≡ true) (sym count) (within (classes_in m.items) c t e)) e;
    reserved = λ word b e. w.fresh word (w.free word (ap is_some e));
    no_more = λ c e. equally_long made (classes_in m.items) c (w.count ∙ count) e;
  }
    where
      equally_long : {A B : Type 0} (xs : List A) (ys : List B) (c : ℕ) → length xs ≡ length ys → slice_get ys c ≡ None
          → slice_get xs c ≡ None
      equally_long [] ys c long e = refl
      equally_long (x ∷ xs) [] c long e = absurd (omega arith)
      equally_long (x ∷ xs) (y ∷ ys) zero long e = absurd (grind (arith, e))
      equally_long (x ∷ xs) (y ∷ ys) (suc c) long e = equally_long xs ys c (omega arith) e

  -- ---- `main`

  record MainNamed (k f c : ℕ) (items : List Item) : Type 0 where
    number : ℕ
    at : ℕ
    function : FuncDef
    bound : bound_first k f c items (codes "main") ≡ Some (meaning.Func number)
    behind : number ≡ f + at
    is : slice_get (functions_in items) at ≡ Some function
    plain : has_none function.params ≡ true

  plain_main : (k f c : ℕ) (items : List Item) → is_plain_def (codes "main") items ≡ true → MainNamed k f c items
  plain_main k f c [] e = absurd (grind (arith, e))
  plain_main k f c (constant_item p x ∷ rest) e =
      let h = and_parts (not (bytes_eq x.name.text (codes "main"))) (is_plain_def (codes "main") rest) e in
      let r = plain_main (suc k) f c rest h.1 in
      record {
        number = r.number;
        at = r.at;
        function = r.function;
        bound =
            ap (λ b. if b then Some (meaning.Const k) else bound_first (suc k) f c rest (codes "main"))
            (not-true (bytes_eq x.name.text (codes "main")) h.0) ∙ r.bound;
        behind = r.behind;
        is = r.is;
        plain =
            r.plain;
      }
  plain_main k f c (class_item p x ∷ rest) e =
      let h = and_parts (not (bytes_eq x.name.text (codes "main"))) (is_plain_def (codes "main") rest) e in
      let r = plain_main k f (suc c) rest h.1 in
      record {
        number = r.number;
        at = r.at;
        function = r.function;
        bound =
            ap (λ b. if b then Some (meaning.Class c) else bound_first k f (suc c) rest (codes "main"))
            (not-true (bytes_eq x.name.text (codes "main")) h.0) ∙ r.bound;
        behind = r.behind;
        is = r.is;
        plain =
            r.plain;
      }
  plain_main k f c (def_item p x ∷ rest) e = go (bytes_eq x.name.text (codes "main")) refl e
      (plain_main k (suc f) c rest)
    where
      go : (b : Test) → bytes_eq x.name.text (codes "main") ≡ b
          → (if b then has_none x.params else is_plain_def (codes "main") rest) ≡ true
          → (is_plain_def (codes "main") rest ≡ true → MainNamed k (suc f) c rest)
          → MainNamed k f c (def_item p x ∷ rest)
      go true t e others = record {
        number = f;
        at = 0;
        function = x;
        bound =
            ap (λ b. if b then Some (meaning.Func f) else bound_first k (suc f) c rest (codes "main")) t;
        behind =
            omega arith;
        is = refl;
        plain = e;
      }
      go false t e others =
          let r = others e in
          let b = r.behind in
          record {
            number = r.number;
            at = suc r.at;
            function = r.function;
            bound =
                ap (λ b. if b then Some (meaning.Func f) else bound_first k (suc f) c rest (codes "main")) t
                ∙ r.bound;
            behind = omega arith;
            is = r.is;
            plain = r.plain;
          }

  main_free : builtin_of (codes "main") ≡ None
  unfolding builtin_of
  main_free = refl

  pub record MainIs : Type 0 where
    pub number : ℕ
    pub function : FuncDef
    pub resolves : resolve_in_module m (codes "main") ≡ meaning.Func number
    pub is : slice_get (functions_in m.items) number ≡ Some function
    pub plain : function.params ≡ []

  no_params : (ps : List Param) → has_none ps ≡ true → ps ≡ []
  no_params [] e = refl
  no_params (p ∷ ps) e = absurd (grind (arith, e))

  pub main_is : is_plain_def (codes "main") m.items ≡ true → MainIs
  main_is e =
      let r = plain_main 0 0 0 m.items e in
      let b = r.behind in
      let at : r.number ≡ r.at = omega arith in
      record {
        number = r.number;
        function = r.function;
        resolves = ap (λ o. or_meaning (builtin_meaning o) (or_meaning (bound_first 0 0 0 m.items (codes "main"))
            meaning.None)) main_free ∙ ap (λ o. or_meaning o meaning.None) r.bound;
        is = ap (slice_get (functions_in m.items)) at ∙ r.is;
        plain = no_params r.function.params r.plain;
      }

  module _ (inherits : Inherits (bases_of m) (classes_of m)) (parts : Parts Step) (types : List Tree) (n : ℕ)
      (names : List (List ℕ)) (same : types ≡ constants) (count : n ≡ length (classes_in m.items)) where
    abbrev AtEnd : Around
    AtEnd = around_items m listed types (functions_in m.items) n names

    abbrev IsMain : FuncDef → HeapTyping → Callee → Type 0
    IsMain d k (calls_function f) = MadeOf m k f d
    IsMain d k _ = ⊥

    -- `main` is entered without arguments
    pub main_safe : (main : MainIs) (lab : Labelled m constants listed (owners.Func main.number) main.function)
        → GoodExec (around_of m constants listed (owners.Func main.number) main.function lab)
        (context_of m constants listed (owners.Func main.number) main.function) m (return_type m main.function)
        parts.exec
        → IsSafe (around_items m listed types (functions_in m.items) n names) [] (λ k. Unit {0})
        (enter_main Step free parts) (λ k v. Unit {0})
    main_safe main lab good =
        bind_safe AtEnd [] _ _ _ (λ k c. IsMain main.function k c) _ (λ k k' x h. tt)
        (looks_safe AtEnd [] _ (λ s. callee_of_meaning (codes "main") (meaning_in_run (codes "main") s)) _ λ k s h st.
        found k s st)
        λ c. entered c
      where
        found : (k : HeapTyping) (s : State) → IsWellTyped (around_items m listed types (functions_in m.items) n names)
            [] k s → EndsWell (λ c. IsMain main.function k c) (callee_of_meaning (codes "main")
            (meaning_in_run (codes "main") s))
        found k s st =
            let f = st.outside.function (codes "main") main.number main.function main.resolves main.is in
            subst (λ o. EndsWell (λ c. IsMain main.function k c) (callee_of_meaning (codes "main")
            (meaning_of_local (meaning_of_global (keywords.is_reserved (codes "main"))
            (global_by_name (codes "main") s.globals)) o))) (sym (st.frame.others (codes "main") refl))
            (subst (λ o. EndsWell (λ c. IsMain main.function k c) (callee_of_meaning (codes "main")
            (meaning_of_global (keywords.is_reserved (codes "main")) o))) (sym f.is) f.made)

        none_left : (ps : List TypedParameter) → ps ≡ [] → (k : HeapTyping) (f : Function)
            → DefaultsHave (bases_of m) k f.parameters ps → Filled (bases_of m) k ps
            (bound_arguments f.parameters [] [])
        none_left ps e k f d = suited_bound (bases_of m) k f.parameters ps [] [] d
            (subst (λ l. Suits (bases_of m) k l [] []) (sym e) (record { fills = tt; all_for = tt }))

        entered : (c : Callee) → IsSafe (around_items m listed types (functions_in m.items) n names) []
            (λ k. Unit {0} × IsMain main.function k c) (call_callee Step free parts c [] []) (λ k v. Unit {0})
        entered (calls_function f) = record {
          run = λ k s s' events out knows st r.
              (weaken AtEnd [] (λ j. MadeOf m j f main.function) (λ j. MadeOf m j f main.function) _
              (λ j v. HasType (bases_of m) j (return_type m main.function) v) (λ j v. Unit {0}) (λ j h. h)
              (λ j v h. tt)
              (function_call_safe m inherits listed [] [] (BoundSoFar m types (functions_in m.items) n names)
              (λ j j' made globals grows w. bound_later m types (functions_in m.items) n names j j' made globals
              grows w) parts [] (λ j. MadeOf m j f main.function) (λ j j' x h. made_later m x f main.function h)
              constants (λ j made globals w. world_at_end types n names j made globals same count w) main.number
              main.function lab good f [] [] knows.1.body
              (λ j h. none_left (parameters_of m main.function.params) (ap (parameters_of m) main.plain) j f
              h.parameters))).run k s s' events out knows.1 st r;
        }
        entered (calls_value v) = impossible_safe AtEnd [] _ _ _ λ k h. h.1
        entered (calls_class b) = impossible_safe AtEnd [] _ _ _ λ k h. h.1
        entered (calls_reserved w) = impossible_safe AtEnd [] _ _ _ λ k h. h.1
        entered (calls_method v f) = impossible_safe AtEnd [] _ _ _ λ k h. h.1
        entered (calls_builtin_method v b) = impossible_safe AtEnd [] _ _ _ λ k h. h.1
