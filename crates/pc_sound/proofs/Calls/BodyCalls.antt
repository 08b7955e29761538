-- Calls in bodies, whatever is called.
use Rattle.std.proofs.Common.{◌≡◌, ℕ, List, [], ◌∷◌, refl, sym, ap, ◌∙◌, subst, inl, inr, arith}
use Rattle.std.specs.Prelude.{Bool as Test, true, false, if◌then◌else◌, nat_lt, Option, Some, None, slice_get}
use Rattle.std.specs.Option.{option_map}
use Rattle.std.proofs.lemmas.Option.{slice_get-map}
use Rattle.pc_source.specs.declared.place.Place.{Place}
use Rattle.pc_source.specs.ReservedNames.{is_reserved}
use Rattle.pc_tree.specs.declared.code.Code.TheVariants.{E03}
use Rattle.pc_tree.specs.Tree.{Name, Expr, name, number, text, truth, nothing, tuple, list, dict, negative, negation}
use Rattle.pc_tree.specs.Tree.{binary, compare, is_none, is_not_none, conjunction, disjunction, attribute, index, call}
use Rattle.pc_tree.specs.Tree.{Exprs, Keywords, FuncDef, Module}
use Rattle.pc_tree.specs.Depth.{place_of}
use Rattle.pc_scope.specs.declared.resolution.Owner.{Owner}
use Rattle.pc_scope.specs.declared.resolution.Owner.TheVariants as owners
use Rattle.pc_scope.specs.declared.resolution.NameMeaning.{NameMeaning}
use Rattle.pc_scope.specs.declared.resolution.NameMeaning.TheVariants as meaning
use Rattle.pc_scope.specs.Expressions.{is_instance_test}
use Rattle.pc_scope.specs.Bindings.{functions_in, classes_in}
use Rattle.pc_scope.specs.Resolution.{index_of, locals, function_of, local_meaning, or_meaning, resolve_in_module}
use Rattle.pc_types.specs.Tree.{Tree}
use Rattle.pc_types.specs.Tree as tree
use Rattle.pc_types.specs.Below.{Below}
use Rattle.pc_class.specs.Bases.{bases_of}
use Rattle.pc_class.specs.Facts.{Method, parameters_of, return_type, classes_of, class_facts_at, method_by_name}
use Rattle.pc_flow.specs.Environment.{Env}
use Rattle.pc_rules.specs.Operations.{in_error}
use Rattle.pc_rules.specs.Context.{Context, name_label}
use Rattle.pc_rules.specs.Signatures.{signature_of, signatures_of}
use Rattle.pc_rules.specs.Calls.{arguments_given, signature_offer, function_offer, class_signature, good_callee}
use Rattle.pc_rules.specs.Calls.{value_callee, name_callee, value_offers, method_callee, CalleeLabel, member_rule}
use Rattle.pc_rules.specs.Calls.{call_label, positional_seat, named_seat}
use Rattle.pc_rules.specs.Labels.{Labels, whole_label, type_of, with_label, item_types, Finds, ItemsFind}
use Rattle.pc_rules.specs.Lawful.{Lawful, LawfulItems, LawfulKeywords, callee_of}
use Rattle.pc_value.specs.Value.{Gives}
use Rattle.pc_machine.specs.Names.{meaning_of_global}
use Rattle.pc_machine.specs.Calls.{calls_value}
use Rattle.pc_machine.specs.Steps.{Parts}
use Rattle.pc_machine.specs.Free.{Step, ◌>>=◌, comes, Emits, free}
use Rattle.pc_machine.specs.Evaluation.{ordinary, eval_call, eval_node, eval_all, eval_keywords, call_callee}
use Rattle.pc_sound.specs.Values.{HasType}
use Rattle.pc_sound.specs.Loaded.{IsLoaded}
use Rattle.pc_sound.proofs.Steps.Judgment.{Around, IsSafe, IsContextOf}
use Rattle.pc_sound.proofs.Regular.KeyedLabels.{Keyed}
use Rattle.pc_sound.proofs.Expressions.SimpleExpressions.{Covered, GoodEval}
use Rattle.pc_sound.proofs.Values.Flows.{Evaluates}
use Rattle.pc_sound.proofs.Heap.Fields.{Inherits}
use Rattle.pc_sound.proofs.Expressions.NameReads.{KnowsNames, meaning_outside, means_a_class}
use Rattle.pc_sound.proofs.Expressions.Forms.{NotReserved, OtherCalls}
use Rattle.pc_sound.proofs.Calls.OverridesFit.{IsIn, Dispatched}
use Rattle.pc_sound.proofs.Statements.WaysOut.{GoodExec}
use Rattle.pc_sound.proofs.Modules.MainWorld.{world_later, Labelled, around_of, context_of}
use Rattle.pc_sound.proofs.Calls.EnteredFunctions.{fits_of}
use Rattle.pc_sound.proofs.Calls.FilledParameters.{Distinct}
use Rattle.pc_sound.proofs.Modules.ModuleNames.{function_named, outside_class, class_named}
use Rattle.pc_sound.proofs.Calls.CallNodes.{function_node_safe, class_node_safe}
use Rattle.pc_sound.proofs.Calls.MethodNodes.{method_node_safe}
use Rattle.pc_sound.proofs.Calls.BuiltIns.{callee_found_call_safe}
use Rattle.pc_sound.proofs.Calls.CallRules.{ordinary_label}
use Rattle.pc_sound.proofs.Calls.ValueCalls.{with_own, ordinary_call, values_quiet, fails_safe, value_callee_safe}
use Rattle.pc_sound.proofs.Calls.ValueCalls.{named_value_safe, arguments_covered}

-- a name that is no local means what the module says
outside_func : (o : Option ℕ) (r : NameMeaning) (i : ℕ) → or_meaning (local_meaning o) r ≡ meaning.Func i → r ≡ meaning.Func i
outside_func None r i e = e
outside_func (Some x) r i e = absurd (grind (arith, e))

-- the signature with a number is that of the function with that number
signature_at : (m : Module) (i : ℕ) (d : FuncDef) → slice_get (functions_in m.items) i ≡ Some d
    → slice_get (signatures_of m) i ≡ Some (signature_of m d)
unfolding signatures_of
signature_at m i d e = slice_get-map (signature_of m) (functions_in m.items) i ∙ ap (option_map (signature_of m)) e

-- the facts that calls need of a module whose labels are lawful and without silent errors
pub record Facts (m : Module) (constants : List Tree) (listed : Place → Type 0) : Type 0 where
  pub inherits : Inherits (bases_of m) (classes_of m)
  pub dispatched : (d c : ℕ) → Below (bases_of m) (tree.Class d) (tree.Class c) → (word : List ℕ) (old : Method)
      → method_by_name (class_facts_at (classes_of m) c).methods word ≡ Some old → Dispatched m listed d word old
  pub owner_above : (c : ℕ) (q : Method) → IsIn (class_facts_at (classes_of m) c).methods q
      → Below (bases_of m) (tree.Class c) (tree.Class q.owner)
  pub labelled : (owner : Owner) (d : FuncDef) → function_of m owner ≡ Some d → Labelled m constants listed owner d
  pub distinct_methods : (c : ℕ) (word : List ℕ) (old : Method)
      → method_by_name (class_facts_at (classes_of m) c).methods word ≡ Some old → Distinct [] old.parameters
  pub distinct_fields : (c : ℕ) → Distinct [] (class_facts_at (classes_of m) c).fields
  pub distinct_functions : (i : ℕ) (d : FuncDef) → slice_get (functions_in m.items) i ≡ Some d
      → Distinct [] (parameters_of m d.params)

module _ (m : Module) (constants : List Tree) (listed : Place → Type 0) (facts : Facts m constants listed)
    (owner : Owner) (d : FuncDef) (lab : Labelled m constants listed owner d) where
  abbrev Here : Around
  Here = around_of m constants listed owner d lab

  abbrev Ctx : Context
  Ctx = context_of m constants listed owner d

  module _ (knows : KnowsNames (around_of m constants listed owner d lab) (context_of m constants listed owner d))
      (parts : Parts Step) (good : GoodEval (around_of m constants listed owner d lab)
      (context_of m constants listed owner d) parts.eval) (evaluates : (e : Expr)
      → Evaluates (place_of e) (parts.eval e)) (runs : (o : Owner) (f : FuncDef) (l : Labelled m constants listed o f)
      → GoodExec (around_of m constants listed o f l) (context_of m constants listed o f) m (return_type m f)
      parts.exec) (env : Env) where
    abbrev Fit : IsContextOf (around_of m constants listed owner d lab) (context_of m constants listed owner d)
    Fit = fits_of m constants listed owner d lab

    -- a whole call is safe
    abbrev CallSafe : (p : Place) (c : Expr) (args : Exprs) (kws : Keywords) → Labels (call p c args kws) → Type 0
    CallSafe p c args kws k = IsSafe Here env (λ j. Unit {0}) (eval_node Step free parts (call p c args kws))
        (λ j v. HasType (bases_of m) j k.here.type v)

    -- ---- values

    -- the callee is a value, and so labelled
    value_node : (want : Option Tree) (p : Place) (c : Expr) (args : Exprs) (kws : Keywords)
        (k : Labels (call p c args kws)) (law : Lawful Ctx lab.labels.declared env want (call p c args kws) k)
        → callee_of Ctx env (arguments_given args kws) c law.value ≡ value_callee (whole_label c law.value)
        → is_instance_test c args kws ≡ false → Covered Here (Finds (call p c args kws) k) → Keyed (call p c args kws) k
        → IsSafe Here env (λ j. Unit {0}) ((parts.eval c >>= λ v. comes (Gives (calls_value v))) >>= λ signature_offer.
        eval_all Step free parts.eval args >>= λ values. eval_keywords Step free parts.eval kws >>= λ more.
        Emits p >>= λ u. call_callee Step free parts signature_offer values more)
        (λ j v. HasType (bases_of m) j k.here.type v)
    value_node want p c args kws k law is no_test covered keyed =
        let own : k.callee ≡ law.value = law.callee ∙ ap (λ x. with_label c law.value x.label) is
        ∙ with_own c law.value in
        fails_safe Here Ctx Fit parts good evaluates env p _ (value_offers (type_of c law.value))
        (values_quiet (type_of c law.value))
        (value_callee_safe Here Ctx parts good env c law.value law.lawful
        (subst (λ x. Covered Here (Finds c x)) own (λ f h. covered f (inr (inl h))))
        (subst (λ x. Keyed c x) own keyed.1.0))
        args k.arguments kws k.keywords k.here
        (ordinary_label Ctx env (callee_of Ctx env (arguments_given args kws) c law.value) args
        (item_types args k.arguments) k.here (ap (λ x. x.rule) is) law.here
        ∙ ap (λ x. call_label (bases_of m) x.offers) is)
        (subst (λ x. LawfulItems Ctx lab.labels.declared env (positional_seat x.offers) args k.arguments) is
        law.arguments)
        (subst (λ x. LawfulKeywords Ctx lab.labels.declared env (named_seat x.offers) [] kws k.keywords) is
        law.keywords)
        (arguments_covered Here c args kws k.arguments no_test (λ f h. covered f (inr (inr (inr (inl h))))))
        (λ f h. covered f (inr (inr (inr (inr h))))) (λ f h. covered f (inl h)) keyed.1.1.0 keyed.1.1.1

    -- ---- `e.m`

    attribute_node : (want : Option Tree) (p q : Place) (e : Expr) (w : Name) (args : Exprs) (kws : Keywords)
        (k : Labels (call p (attribute q e w) args kws)) → Lawful Ctx lab.labels.declared env want
        (call p (attribute q e w) args kws) k → Covered Here (Finds (call p (attribute q e w) args kws) k)
        → Keyed (call p (attribute q e w) args kws) k → CallSafe p (attribute q e w) args kws k
    attribute_node want p q e w args kws k law covered keyed =
        let found = subst (λ x. Covered Here (Finds (attribute q e w) x)) law.callee (λ f h. covered f (inr (inl h))) in
        let keys = subst (λ x. Keyed (attribute q e w) x) law.callee keyed.1.0 in
        method_node_safe m facts.inherits constants listed facts.dispatched facts.owner_above (locals owner d)
        lab.labels.declared Ctx Fit parts good evaluates env facts.labelled runs facts.distinct_methods
        p q e w args kws law.value.object (method_callee Ctx (arguments_given args kws) w.text
        (type_of e law.value.object)).label.codes k.arguments k.keywords k.here law.lawful.object
        (λ f h. found f (inr h)) keys.1 refl (λ f h. found f (inl h))
        (ordinary_label Ctx env (callee_of Ctx env (arguments_given args kws) (attribute q e w) law.value) args
        (item_types args k.arguments) k.here refl law.here)
        law.arguments law.keywords
        (arguments_covered Here (attribute q e w) args kws k.arguments refl
        (λ f h. covered f (inr (inr (inr (inl h)))))) (λ f h. covered f (inr (inr (inr (inr h)))))
        (λ f h. covered f (inl h)) keyed.1.1.0 keyed.1.1.1

    -- ---- names

    record FunctionAt (word : List ℕ) (i : ℕ) : Type 0 where
      def : FuncDef
      at : slice_get (functions_in m.items) i ≡ Some def
      resolves : resolve_in_module m word ≡ meaning.Func i

    function_at : (word : List ℕ) (i : ℕ) → Ctx.resolve word ≡ meaning.Func i → FunctionAt word i
    function_at word i e =
        let r = outside_func (index_of word (locals owner d)) (resolve_in_module m word) i e in
        let n = function_named m word i r in
        let b = n.behind in
        let at : i ≡ n.at = omega arith in
        record { def = n.function; at = ap (slice_get (functions_in m.items)) at ∙ n.is; resolves = r }

    no_local : (word : List ℕ) (r : NameMeaning) → Ctx.resolve word ≡ r → ((x : ℕ) → r ≡ meaning.Local x → ⊥) → (x : ℕ)
        → Ctx.resolve word ≡ meaning.Local x → ⊥
    no_local word r e n x f = n x (sym e ∙ f)

    module _ (want : Option Tree) (p : Place) (n : Name) (args : Exprs) (kws : Keywords)
        (k : Labels (call p (name n) args kws)) (law : Lawful Ctx lab.labels.declared env want
        (call p (name n) args kws) k) (no_test : is_instance_test (name n) args kws ≡ false)
        (covered : Covered Here (Finds (call p (name n) args kws) k)) (keyed : Keyed (call p (name n) args kws) k) where
      found_args : Covered Here (ItemsFind args k.arguments)
      found_args = arguments_covered Here (name n) args kws k.arguments no_test
          (λ f h. covered f (inr (inr (inr (inl h)))))

      -- the offers and the label of the call, by what the name means
      offers_are : (c : CalleeLabel) → name_callee Ctx env (arguments_given args kws) (Ctx.resolve n.text) ≡ c
          → c.rule ≡ member_rule → k.here ≡ call_label (bases_of m) c.offers
      offers_are c e member = ordinary_label Ctx env (name_callee Ctx env (arguments_given args kws)
          (Ctx.resolve n.text)) args (item_types args k.arguments) k.here (ap (λ x. x.rule) e ∙ member) law.here
          ∙ ap (λ x. call_label (bases_of m) x.offers) e

      as_ordinary : IsSafe Here env (λ j. Unit {0}) (eval_call Step free parts p (name n) args kws ordinary)
          (λ j v. HasType (bases_of m) j k.here.type v) → CallSafe p (name n) args kws k
      as_ordinary h = subst (λ form. IsSafe Here env (λ j. Unit {0})
          (eval_call Step free parts p (name n) args kws form) (λ j v. HasType (bases_of m) j k.here.type v))
          (sym (ordinary_call n args kws no_test)) h

      -- a function
      function_node : (i : ℕ) → Ctx.resolve n.text ≡ meaning.Func i → CallSafe p (name n) args kws k
      function_node i e =
          let a = function_at n.text i e in
          let is : name_callee Ctx env (arguments_given args kws) (Ctx.resolve n.text) ≡ good_callee
          (signature_offer (arguments_given args kws) (signature_of m a.def) ∷ []) =
          ap (name_callee Ctx env (arguments_given args kws)) e
          ∙ ap (λ o. good_callee (function_offer (arguments_given args kws) o ∷ []))
          (signature_at m i a.def a.at) in
          let l = facts.labelled (owners.Func i) a.def a.at in
          as_ordinary
          (function_node_safe m facts.inherits listed (locals owner d) lab.labels.declared (IsLoaded m constants)
          (λ j j' made globals grows w. world_later m constants j j' made globals grows w) Ctx Fit parts good
          evaluates env constants (λ j made globals w. w)
          p n args kws k.arguments k.keywords k.here i a.def l (runs (owners.Func i) a.def l)
          (λ j st stands. let f = stands.outside.function n.text i a.def a.resolves a.at in (
            f.function,
            meaning_outside Here Ctx Fit n.text (no_local n.text (meaning.Func i) e (λ x g. grind (arith, g)))
                env j st stands ∙ ap (meaning_of_global (is_reserved n.text)) f.is,
            f.made,
          ))
          (offers_are (good_callee (signature_offer (arguments_given args kws) (signature_of m a.def) ∷ [])) is refl)
          (facts.distinct_functions i a.def a.at)
          (subst (λ x. LawfulItems Ctx lab.labels.declared env (positional_seat x.offers) args k.arguments) is
          law.arguments) (subst (λ x. LawfulKeywords Ctx lab.labels.declared env (named_seat x.offers) [] kws
          k.keywords) is law.keywords)
          found_args (λ f h. covered f (inr (inr (inr (inr h))))) (λ f h. covered f (inl h)) keyed.1.1.0 keyed.1.1.1)

      -- a class
      class_node : (c : ℕ) → Ctx.resolve n.text ≡ meaning.Class c → CallSafe p (name n) args kws k
      class_node c e = go (nat_lt c Ctx.known) refl
        where
          go : (b : Test) → nat_lt c Ctx.known ≡ b → CallSafe p (name n) args kws k
          go false t =
              let is : name_callee Ctx env (arguments_given args kws) (Ctx.resolve n.text) ≡ value_callee
              (in_error E03) = ap (name_callee Ctx env (arguments_given args kws)) e
              ∙ ap (λ x. if x then good_callee (signature_offer (arguments_given args kws)
              (class_signature (classes_of m) c) ∷ []) else value_callee (in_error E03)) t in
              callee_found_call_safe Here Ctx Fit knows parts good evaluates env p n args kws k no_test covered E03 []
              (ap (λ x. x.codes) (law.callee ∙ ap (λ x. x.label) is))
          go true t =
              let is : name_callee Ctx env (arguments_given args kws) (Ctx.resolve n.text) ≡ good_callee
              (signature_offer (arguments_given args kws) (class_signature (classes_of m) c) ∷ []) =
              ap (name_callee Ctx env (arguments_given args kws)) e
              ∙ ap (λ x. if x then good_callee (signature_offer (arguments_given args kws)
              (class_signature (classes_of m) c) ∷ []) else value_callee (in_error E03)) t in
              let h = class_named m n.text c (outside_class (index_of n.text (locals owner d))
              (resolve_in_module m n.text) c e) in
              let b = h.behind in
              let at : c ≡ h.at = omega arith in
              as_ordinary
              (class_node_safe m facts.inherits listed (locals owner d) lab.labels.declared (IsLoaded m constants)
              (λ j j' made globals grows w. world_later m constants j j' made globals grows w) Ctx Fit parts good
              evaluates env
              p n args kws k.arguments k.keywords k.here c (λ j st stands. means_a_class Here Ctx Fit knows env n.text c
              e t j st stands) (λ j made globals w. w.classes c h.class (ap (slice_get (classes_in m.items)) at
              ∙ h.is))
              (offers_are (good_callee (signature_offer (arguments_given args kws) (class_signature (classes_of m) c)
              ∷ [])) is refl) (facts.distinct_fields c)
              (subst (λ x. LawfulItems Ctx lab.labels.declared env (positional_seat x.offers) args k.arguments) is
              law.arguments) (subst (λ x. LawfulKeywords Ctx lab.labels.declared env (named_seat x.offers) [] kws
              k.keywords) is law.keywords)
              found_args (λ f h. covered f (inr (inr (inr (inr h))))) (λ f h. covered f (inl h)) keyed.1.1.0
              keyed.1.1.1)

      -- a value
      named_node : (r : NameMeaning) → Ctx.resolve n.text ≡ r → name_callee Ctx env (arguments_given args kws)
          (Ctx.resolve n.text) ≡ value_callee (name_label Ctx env (Ctx.resolve n.text)) → CallSafe p (name n) args kws k
      named_node r e is =
          let own : k.callee ≡ name_label Ctx env (Ctx.resolve n.text) = law.callee ∙ ap (λ x. x.label) is in
          let same : value_offers (name_label Ctx env (Ctx.resolve n.text)).type ≡ value_offers k.callee.type =
          ap (λ x. value_offers x.type) (sym own) in
          as_ordinary
          (fails_safe Here Ctx Fit parts good evaluates env p _ (value_offers k.callee.type)
          (values_quiet k.callee.type)
          (named_value_safe Here Ctx Fit knows env parts n k.callee own (λ f h. covered f (inr (inl h))))
          args k.arguments kws k.keywords k.here
          (offers_are (value_callee (name_label Ctx env (Ctx.resolve n.text))) is refl
          ∙ ap (call_label (bases_of m)) same)
          (subst (λ x. LawfulItems Ctx lab.labels.declared env (positional_seat x) args k.arguments)
          (ap (λ x. x.offers) is ∙ same) law.arguments)
          (subst (λ x. LawfulKeywords Ctx lab.labels.declared env (named_seat x) [] kws k.keywords)
          (ap (λ x. x.offers) is ∙ same) law.keywords)
          found_args (λ f h. covered f (inr (inr (inr (inr h))))) (λ f h. covered f (inl h)) keyed.1.1.0 keyed.1.1.1)

      name_node : NotReserved Ctx (name n) → CallSafe p (name n) args kws k
      name_node unreserved = go (Ctx.resolve n.text) refl
        where
          go : (r : NameMeaning) → Ctx.resolve n.text ≡ r → CallSafe p (name n) args kws k
          go (meaning.Local x) e = named_node (meaning.Local x) e (ap (name_callee Ctx env (arguments_given args kws)) e
              ∙ ap (λ r. value_callee (name_label Ctx env r)) (sym e))
          go (meaning.Const i) e = named_node (meaning.Const i) e (ap (name_callee Ctx env (arguments_given args kws)) e
              ∙ ap (λ r. value_callee (name_label Ctx env r)) (sym e))
          go (meaning.Func i) e = function_node i e
          go (meaning.Class c) e = class_node c e
          go (meaning.Builtin b) e = absurd (unreserved b e)
          go meaning.None e = named_node meaning.None e (ap (name_callee Ctx env (arguments_given args kws)) e
              ∙ ap (λ r. value_callee (name_label Ctx env r)) (sym e))

    -- ---- all other calls

    others_safe : (want : Option Tree) (p : Place) (c : Expr) (args : Exprs) (kws : Keywords)
        (k : Labels (call p c args kws)) → NotReserved Ctx c → is_instance_test c args kws ≡ false
        → Lawful Ctx lab.labels.declared env want (call p c args kws) k → Covered Here (Finds (call p c args kws) k)
        → Keyed (call p c args kws) k → CallSafe p c args kws k
    others_safe want p (name n) args kws k unreserved no_test law covered keyed = name_node want p n args kws k law
        no_test covered keyed unreserved
    others_safe want p (attribute q e w) args kws k unreserved no_test law covered keyed = attribute_node want p q e w
        args kws k law covered keyed
    others_safe want p (number q x) args kws k unreserved no_test law covered keyed = value_node want p (number q x)
        args kws k law refl refl covered keyed
    others_safe want p (text q x) args kws k unreserved no_test law covered keyed = value_node want p (text q x) args
        kws k law refl refl covered keyed
    others_safe want p (truth q x) args kws k unreserved no_test law covered keyed = value_node want p (truth q x) args
        kws k law refl refl covered keyed
    others_safe want p (nothing q) args kws k unreserved no_test law covered keyed = value_node want p (nothing q) args
        kws k law refl refl covered keyed
    others_safe want p (tuple q x) args kws k unreserved no_test law covered keyed = value_node want p (tuple q x) args
        kws k law refl refl covered keyed
    others_safe want p (list q x) args kws k unreserved no_test law covered keyed = value_node want p (list q x) args
        kws k law refl refl covered keyed
    others_safe want p (dict q x) args kws k unreserved no_test law covered keyed = value_node want p (dict q x) args
        kws k law refl refl covered keyed
    others_safe want p (negative q x) args kws k unreserved no_test law covered keyed = value_node want p (negative q x)
        args kws k law refl refl covered keyed
    others_safe want p (negation q x) args kws k unreserved no_test law covered keyed = value_node want p (negation q x)
        args kws k law refl refl covered keyed
    others_safe want p (binary q o x y) args kws k unreserved no_test law covered keyed =
        value_node want p (binary q o x y) args kws k law refl refl covered keyed
    others_safe want p (compare q o x y) args kws k unreserved no_test law covered keyed =
        value_node want p (compare q o x y) args kws k law refl refl covered keyed
    others_safe want p (is_none q x) args kws k unreserved no_test law covered keyed = value_node want p (is_none q x)
        args kws k law refl refl covered keyed
    others_safe want p (is_not_none q x) args kws k unreserved no_test law covered keyed =
        value_node want p (is_not_none q x) args kws k law refl refl covered keyed
    others_safe want p (conjunction q x y) args kws k unreserved no_test law covered keyed =
        value_node want p (conjunction q x y) args kws k law refl refl covered keyed
    others_safe want p (disjunction q x y) args kws k unreserved no_test law covered keyed =
        value_node want p (disjunction q x y) args kws k law refl refl covered keyed
    others_safe want p (index q x y) args kws k unreserved no_test law covered keyed = value_node want p (index q x y)
        args kws k law refl refl covered keyed
    others_safe want p (call q x y z) args kws k unreserved no_test law covered keyed = value_node want p (call q x y z)
        args kws k law refl refl covered keyed

  -- in a body all other calls are safe
  pub body_calls : (knows : KnowsNames (around_of m constants listed owner d lab)
      (context_of m constants listed owner d)) (parts : Parts Step)
      → GoodEval (around_of m constants listed owner d lab) (context_of m constants listed owner d) parts.eval
      → ((e : Expr) → Evaluates (place_of e) (parts.eval e))
      → ((o : Owner) (f : FuncDef) (l : Labelled m constants listed o f) → GoodExec (around_of m constants listed o f l)
      (context_of m constants listed o f) m (return_type m f) parts.exec)
      → OtherCalls (around_of m constants listed owner d lab) (context_of m constants listed owner d) parts
  body_calls knows parts good evaluates runs = record {
    safe =
        λ env want p c args kws k unreserved no_test law covered keyed. others_safe knows parts good evaluates runs env
        want p c args kws k unreserved no_test law covered keyed;
  }
