-- Calls in initializers: of classes that are defined earlier; any other callee has an E03, whose place is evaluated
-- first.
use Rattle.std.proofs.Common.{◌≡◌, ℕ, List, [], ◌∷◌, refl, sym, ap, ◌∙◌, subst, inl, inr, arith, Contains}
use Rattle.std.specs.Prelude.{Bool as Test, true, false, if◌then◌else◌, nat_lt, Option, None, slice_get}
use Rattle.std.proofs.lemmas.Option.{none-some}
use Rattle.pc_source.specs.declared.place.Place.{Place}
use Rattle.pc_tree.specs.declared.code.Code.TheVariants.{E03}
use Rattle.pc_tree.specs.Code.{finding}
use Rattle.pc_tree.specs.Tree.{Name, Expr, name, number, text, truth, nothing, tuple, list, dict, negative, negation}
use Rattle.pc_tree.specs.Tree.{binary, compare, is_none, is_not_none, conjunction, disjunction, attribute, index, call}
use Rattle.pc_tree.specs.Tree.{Exprs, Keywords, FuncDef, Module}
use Rattle.pc_tree.specs.Depth.{place_of}
use Rattle.pc_scope.specs.declared.resolution.NameMeaning.{NameMeaning}
use Rattle.pc_scope.specs.declared.resolution.NameMeaning.TheVariants as meaning
use Rattle.pc_scope.specs.Expressions.{is_name, is_instance_test}
use Rattle.pc_scope.specs.Bindings.{classes_in}
use Rattle.pc_types.specs.Tree.{Tree}
use Rattle.pc_class.specs.Bases.{bases_of}
use Rattle.pc_class.specs.Facts.{classes_of, class_facts_at}
use Rattle.pc_annotations.proofs.Earlier.{smaller}
use Rattle.pc_flow.specs.Environment.{Env}
use Rattle.pc_rules.specs.Operations.{in_error}
use Rattle.pc_rules.specs.Context.{Context, name_label}
use Rattle.pc_rules.specs.Signatures.{initializer_context}
use Rattle.pc_rules.specs.Calls.{arguments_given, CalleeLabel, member_rule, signature_offer, class_signature}
use Rattle.pc_rules.specs.Calls.{good_callee, value_callee, name_callee, value_offers, call_label, positional_seat}
use Rattle.pc_rules.specs.Calls.{named_seat}
use Rattle.pc_rules.specs.Labels.{Labels, whole_label, type_of, with_label, item_types, Finds, ItemsFind}
use Rattle.pc_rules.specs.Lawful.{Lawful, LawfulItems, LawfulKeywords, callee_of}
use Rattle.pc_value.specs.Value.{Gives}
use Rattle.pc_machine.specs.Calls.{calls_value}
use Rattle.pc_machine.specs.Steps.{Parts}
use Rattle.pc_machine.specs.Free.{Step, ◌>>=◌, comes, Emits, free}
use Rattle.pc_machine.specs.Evaluation.{ordinary, eval_all, eval_keywords, call_callee, eval_call, eval_node}
use Rattle.pc_sound.specs.Silent.{IsSilentCode}
use Rattle.pc_sound.specs.Values.{HasType}
use Rattle.pc_sound.proofs.Lists.{not_empty}
use Rattle.pc_sound.proofs.Steps.Judgment.{Around, IsSafe, IsContextOf}
use Rattle.pc_sound.proofs.Steps.SafeSteps.{bind_safe, may_stop_safe, emits_safe, weaken}
use Rattle.pc_sound.proofs.Regular.RegularParts.{tests_in_time, Regular}
use Rattle.pc_sound.proofs.Regular.RegularCalls.{ParametersRegular}
use Rattle.pc_sound.proofs.Regular.RegularModules.{initializer_regular}
use Rattle.pc_sound.proofs.Regular.OwnTypes.{own_regular, with_own_regular}
use Rattle.pc_sound.proofs.Regular.OwnCodes.{heard_code, own_heard}
use Rattle.pc_sound.proofs.Regular.KeyedLabels.{Keyed}
use Rattle.pc_sound.proofs.Statements.LocalBinding.{evaluated_safe}
use Rattle.pc_sound.proofs.Expressions.SimpleExpressions.{Covered, GoodEval, part}
use Rattle.pc_rules.proofs.Saying.{found_here, own_label}
use Rattle.pc_sound.proofs.Values.Flows.{Evaluates}
use Rattle.pc_sound.proofs.Heap.Fields.{Inherits}
use Rattle.pc_sound.proofs.Expressions.NameReads.{KnowsNames, means_a_class}
use Rattle.pc_sound.proofs.Expressions.Forms.{NotReserved, OtherCalls}
use Rattle.pc_sound.proofs.Calls.EnteredFunctions.{module_local}
use Rattle.pc_sound.proofs.Calls.FilledParameters.{Distinct}
use Rattle.pc_sound.proofs.Modules.ModuleNames.{class_named}
use Rattle.pc_sound.proofs.Modules.ModuleOrder.{BoundSoFar, bound_later, around_items}
use Rattle.pc_sound.proofs.Calls.BuiltIns.{callee_found_call_safe}
use Rattle.pc_sound.proofs.Calls.CallNodes.{class_node_safe}
use Rattle.pc_sound.proofs.Calls.CallRules.{ordinary_label}
use Rattle.pc_sound.proofs.Calls.ValueCalls.{ordinary_call, values_quiet, fails_safe, named_value_safe}
use Rattle.pc_sound.proofs.Calls.ValueCalls.{arguments_covered, finds_under}
use Rattle.pc_sound.proofs.Calls.OrdinaryCalls.{impossible_safe}

module _ (m : Module) (listed : Place → Type 0) (types : List Tree) (defs : List FuncDef) (n : ℕ)
    (names : List (List ℕ)) where
  abbrev Here : Around
  Here = around_items m listed types defs n names

  abbrev Ctx : Context
  Ctx = initializer_context m types n

  -- the surroundings of an initializer fit its context
  pub items_fit : IsContextOf (around_items m listed types defs n names) (initializer_context m types n)
  items_fit = record {
    bases = refl;
    classes = refl;
    smaller = smaller m;
    local = λ word x e. absurd (module_local m word x e);
    named = λ word x e. absurd (none-some _ e);
  }

  module _ (inherits : Inherits (bases_of m) (classes_of m)) (distinct_fields : (c : ℕ)
      → Distinct [] (class_facts_at (classes_of m) c).fields) (knows : KnowsNames
      (around_items m listed types defs n names) (initializer_context m types n)) (parts : Parts Step)
      (good : GoodEval (around_items m listed types defs n names) (initializer_context m types n) parts.eval)
      (evaluates : (e : Expr) → Evaluates (place_of e) (parts.eval e)) (env : Env) where
    fields_keyed : (c : ℕ) → ParametersRegular tests_in_time (class_facts_at (classes_of m) c).fields
    fields_keyed c = (initializer_regular tests_in_time m (λ word d e. tt) [] n
        (λ i t e. absurd (none-some _ e))).fields c

    abbrev CallSafe : (p : Place) (c : Expr) (args : Exprs) (kws : Keywords) → Labels (call p c args kws) → Type 0
    CallSafe p c args kws k = IsSafe Here env (λ j. Unit {0}) (eval_node Step free parts (call p c args kws))
        (λ j v. HasType (bases_of m) j k.here.type v)

    -- a callee that is no name is listed, with E03
    listed_callee : (want : Option Tree) (p : Place) (c : Expr) (args : Exprs) (kws : Keywords)
        (k : Labels (call p c args kws)) (law : Lawful Ctx [] env want (call p c args kws) k)
        → callee_of Ctx env (arguments_given args kws) c law.value ≡ value_callee (in_error E03)
        → Covered Here (Finds (call p c args kws) k) → listed (place_of c)
    listed_callee want p c args kws k law is covered =
        let own : whole_label c k.callee ≡ in_error E03 = ap (whole_label c)
        (law.callee ∙ ap (λ x. with_label c law.value x.label) is) ∙ own_label c law.value (in_error E03) in
        (covered (finding (place_of c) E03)
        (inr (inl (found_here c k.callee (finding (place_of c) E03)
        (record {
          code = E03;
          among = subst (λ l. Contains l E03) (ap (λ x. x.codes) (sym own))
              (0, omega arith, refl);
          is = refl;
        }))))).0

    -- a callee that may not be named yet is evaluated before anything is called
    late_callee : (want : Option Tree) (p : Place) (c : Expr) (args : Exprs) (kws : Keywords)
        (k : Labels (call p c args kws)) (law : Lawful Ctx [] env want (call p c args kws) k) → is_name c ≡ false
        → callee_of Ctx env (arguments_given args kws) c law.value ≡ value_callee (in_error E03)
        → Covered Here (Finds (call p c args kws) k) → Keyed (call p c args kws) k
        → IsSafe Here env (λ j. Unit {0}) ((parts.eval c >>= λ v. comes (Gives (calls_value v))) >>= λ callee.
        eval_all Step free parts.eval args >>= λ values. eval_keywords Step free parts.eval kws >>= λ more.
        Emits p >>= λ u. call_callee Step free parts callee values more)
        (λ j v. HasType (bases_of m) j k.here.type v)
    late_callee want p c args kws k law other is covered keyed =
        let here = listed_callee want p c args kws k law is covered in
        let callee : k.callee ≡ with_label c law.value (in_error E03) = law.callee
        ∙ ap (λ x. with_label c law.value x.label) is in
        let under = subst (λ x. Regular tests_in_time c x) callee keyed.1.0 in
        let keys = with_own_regular tests_in_time Ctx [] refl (λ word d e. tt) fields_keyed env c law.value
        (in_error E03) under (own_regular tests_in_time Ctx [] refl (λ word d e. tt) fields_keyed env None tt c other
        law.value law.lawful (in_error E03) under) in
        let found : Covered Here (Finds c law.value) = finds_under (λ f. listed f.place × (¬ (IsSilentCode f.code))) c
        law.value (in_error E03) (λ f h. (
          subst (λ x. listed x.place) (sym h.is) here,
          subst (λ x. ¬ (IsSilentCode x.code)) (sym h.is) (heard_code (whole_label c law.value).codes h.code
              (own_heard Ctx refl [] env None c other law.value law.lawful) h.among),
        )) (subst (λ x. Covered Here (Finds c x)) callee (λ f h. covered f (inr (inl h)))) in
        bind_safe Here env _ _ _ (λ j x. ⊥) _ (λ j j' x h. tt)
        (bind_safe Here env _ _ _ (λ j v. HasType (bases_of m) j (type_of c law.value) v × (E03 ∷ [] ≡ [])) _
        (λ j j' x h. tt)
        (evaluated_safe Here env _ (place_of c) (parts.eval c)
        (λ j v. HasType (bases_of m) j (type_of c law.value) v) (E03 ∷ []) here (evaluates c)
        (part Here Ctx parts good env _ None c law.value law.lawful found keys))
        λ v. impossible_safe Here env _ _ _ λ j h. not_empty h.1.1)
        λ x. impossible_safe Here env _ _ _ λ j h. h.1

    -- an attribute: its object is evaluated, and then its place
    late_attribute : (want : Option Tree) (p q : Place) (e : Expr) (w : Name) (args : Exprs) (kws : Keywords)
        (k : Labels (call p (attribute q e w) args kws)) → Lawful Ctx [] env want (call p (attribute q e w) args kws) k
        → Covered Here (Finds (call p (attribute q e w) args kws) k) → Keyed (call p (attribute q e w) args kws) k
        → CallSafe p (attribute q e w) args kws k
    late_attribute want p q e w args kws k law covered keyed =
        let here = listed_callee want p (attribute q e w) args kws k law refl covered in
        let found = subst (λ x. Covered Here (Finds (attribute q e w) x)) law.callee (λ f h. covered f (inr (inl h))) in
        let keys = subst (λ x. Keyed (attribute q e w) x) law.callee keyed.1.0 in
        bind_safe Here env _ _ _ (λ j x. ⊥) _ (λ j j' x h. tt)
        (bind_safe Here env _ _ _ (λ j u. Unit {0}) _ (λ j j' x h. tt) (may_stop_safe Here env _)
        λ u. bind_safe Here env _ _ _ (λ j v. Unit {0}) _ (λ j j' x h. (tt, tt))
        (weaken Here env _ _ _ _ _ (λ j h. h) (λ j v h. tt)
        (part Here Ctx parts good env _ None e law.value.object law.lawful.object (λ f h. found f (inr h)) keys.1))
        λ v. bind_safe Here env _ _ _ (λ j u. E03 ∷ [] ≡ []) _ (λ j j' x h. ((tt, tt), tt))
        (emits_safe Here env _ q (E03 ∷ []) here)
        λ u. impossible_safe Here env _ _ _ λ j h. not_empty h.1)
        λ x. impossible_safe Here env _ _ _ λ j h. h.1

    module _ (want : Option Tree) (p : Place) (w : Name) (args : Exprs) (kws : Keywords)
        (k : Labels (call p (name w) args kws)) (law : Lawful Ctx [] env want (call p (name w) args kws) k)
        (no_test : is_instance_test (name w) args kws ≡ false) (covered : Covered Here
        (Finds (call p (name w) args kws) k)) (keyed : Keyed (call p (name w) args kws) k) where
      found_args : Covered Here (ItemsFind args k.arguments)
      found_args = arguments_covered Here (name w) args kws k.arguments no_test
          (λ f h. covered f (inr (inr (inr (inl h)))))

      offers_are : (c : CalleeLabel) → name_callee Ctx env (arguments_given args kws) (Ctx.resolve w.text) ≡ c
          → c.rule ≡ member_rule → k.here ≡ call_label (bases_of m) c.offers
      offers_are c e member = ordinary_label Ctx env (name_callee Ctx env (arguments_given args kws)
          (Ctx.resolve w.text)) args (item_types args k.arguments) k.here (ap (λ x. x.rule) e ∙ member) law.here
          ∙ ap (λ x. call_label (bases_of m) x.offers) e

      as_ordinary : IsSafe Here env (λ j. Unit {0}) (eval_call Step free parts p (name w) args kws ordinary)
          (λ j v. HasType (bases_of m) j k.here.type v) → CallSafe p (name w) args kws k
      as_ordinary h = subst (λ form. IsSafe Here env (λ j. Unit {0})
          (eval_call Step free parts p (name w) args kws form) (λ j v. HasType (bases_of m) j k.here.type v))
          (sym (ordinary_call w args kws no_test)) h

      -- a name in error
      late_name : name_callee Ctx env (arguments_given args kws) (Ctx.resolve w.text) ≡ value_callee (in_error E03)
          → CallSafe p (name w) args kws k
      late_name is = callee_found_call_safe Here Ctx items_fit knows parts good evaluates env p w args kws k no_test
          covered E03 [] (ap (λ x. x.codes) (law.callee ∙ ap (λ x. x.label) is))

      -- a class
      class_node : (c : ℕ) → Ctx.resolve w.text ≡ meaning.Class c → CallSafe p (name w) args kws k
      class_node c e = go (nat_lt c n) refl
        where
          go : (b : Test) → nat_lt c n ≡ b → CallSafe p (name w) args kws k
          go false t = late_name (ap (name_callee Ctx env (arguments_given args kws)) e
              ∙ ap (λ x. if x then good_callee (signature_offer (arguments_given args kws)
              (class_signature (classes_of m) c) ∷ []) else value_callee (in_error E03)) t)
          go true t =
              let is : name_callee Ctx env (arguments_given args kws) (Ctx.resolve w.text) ≡ good_callee
              (signature_offer (arguments_given args kws) (class_signature (classes_of m) c) ∷ []) =
              ap (name_callee Ctx env (arguments_given args kws)) e
              ∙ ap (λ x. if x then good_callee (signature_offer (arguments_given args kws)
              (class_signature (classes_of m) c) ∷ []) else value_callee (in_error E03)) t in
              let h = class_named m w.text c e in
              let b = h.behind in
              let at : c ≡ h.at = omega arith in
              as_ordinary
              (class_node_safe m inherits listed [] [] (BoundSoFar m types defs n names)
              (λ j j' made globals grows x. bound_later m types defs n names j j' made globals grows x) Ctx
              items_fit parts good evaluates env
              p w args kws k.arguments k.keywords k.here c (λ j st stands. means_a_class Here Ctx items_fit knows env
              w.text c e t j st stands) (λ j made globals x. x.classes c h.class t
              (ap (slice_get (classes_in m.items)) at ∙ h.is))
              (offers_are (good_callee (signature_offer (arguments_given args kws) (class_signature (classes_of m) c)
              ∷ [])) is refl) (distinct_fields c)
              (subst (λ x. LawfulItems Ctx [] env (positional_seat x.offers) args k.arguments) is law.arguments)
              (subst (λ x. LawfulKeywords Ctx [] env (named_seat x.offers) [] kws k.keywords) is law.keywords)
              found_args (λ f h. covered f (inr (inr (inr (inr h))))) (λ f h. covered f (inl h)) keyed.1.1.0
              keyed.1.1.1)

      -- a value
      named_node : (r : NameMeaning) → Ctx.resolve w.text ≡ r → name_callee Ctx env (arguments_given args kws)
          (Ctx.resolve w.text) ≡ value_callee (name_label Ctx env (Ctx.resolve w.text)) → CallSafe p (name w) args kws k
      named_node r e is =
          let own : k.callee ≡ name_label Ctx env (Ctx.resolve w.text) = law.callee ∙ ap (λ x. x.label) is in
          let same : value_offers (name_label Ctx env (Ctx.resolve w.text)).type ≡ value_offers k.callee.type =
          ap (λ x. value_offers x.type) (sym own) in
          as_ordinary
          (fails_safe Here Ctx items_fit parts good evaluates env p _ (value_offers k.callee.type)
          (values_quiet k.callee.type)
          (named_value_safe Here Ctx items_fit knows env parts w k.callee own (λ f h. covered f (inr (inl h))))
          args k.arguments kws k.keywords k.here
          (offers_are (value_callee (name_label Ctx env (Ctx.resolve w.text))) is refl
          ∙ ap (call_label (bases_of m)) same)
          (subst (λ x. LawfulItems Ctx [] env (positional_seat x) args k.arguments) (ap (λ x. x.offers) is ∙ same)
          law.arguments) (subst (λ x. LawfulKeywords Ctx [] env (named_seat x) [] kws k.keywords)
          (ap (λ x. x.offers) is ∙ same) law.keywords)
          found_args (λ f h. covered f (inr (inr (inr (inr h))))) (λ f h. covered f (inl h)) keyed.1.1.0 keyed.1.1.1)

      name_node : NotReserved Ctx (name w) → CallSafe p (name w) args kws k
      name_node unreserved = go (Ctx.resolve w.text) refl
        where
          go : (r : NameMeaning) → Ctx.resolve w.text ≡ r → CallSafe p (name w) args kws k
          go (meaning.Local x) e = absurd (module_local m w.text x e)
          go (meaning.Const i) e = named_node (meaning.Const i) e (ap (name_callee Ctx env (arguments_given args kws)) e
              ∙ ap (λ r. value_callee (name_label Ctx env r)) (sym e))
          go (meaning.Func i) e = late_name (ap (name_callee Ctx env (arguments_given args kws)) e)
          go (meaning.Class c) e = class_node c e
          go (meaning.Builtin b) e = absurd (unreserved b e)
          go meaning.None e = named_node meaning.None e (ap (name_callee Ctx env (arguments_given args kws)) e
              ∙ ap (λ r. value_callee (name_label Ctx env r)) (sym e))

    others_safe : (want : Option Tree) (p : Place) (c : Expr) (args : Exprs) (kws : Keywords)
        (k : Labels (call p c args kws)) → NotReserved Ctx c → is_instance_test c args kws ≡ false
        → Lawful Ctx [] env want (call p c args kws) k → Covered Here (Finds (call p c args kws) k)
        → Keyed (call p c args kws) k → CallSafe p c args kws k
    others_safe want p (name w) args kws k unreserved no_test law covered keyed = name_node want p w args kws k law
        no_test covered keyed unreserved
    others_safe want p (attribute q e f) args kws k unreserved no_test law covered keyed =
        late_attribute want p q e f args kws k law covered keyed
    others_safe want p (number q x) args kws k unreserved no_test law covered keyed =
        late_callee want p (number q x) args kws k law refl refl covered keyed
    others_safe want p (text q x) args kws k unreserved no_test law covered keyed =
        late_callee want p (text q x) args kws k law refl refl covered keyed
    others_safe want p (truth q x) args kws k unreserved no_test law covered keyed =
        late_callee want p (truth q x) args kws k law refl refl covered keyed
    others_safe want p (nothing q) args kws k unreserved no_test law covered keyed =
        late_callee want p (nothing q) args kws k law refl refl covered keyed
    others_safe want p (tuple q x) args kws k unreserved no_test law covered keyed =
        late_callee want p (tuple q x) args kws k law refl refl covered keyed
    others_safe want p (list q x) args kws k unreserved no_test law covered keyed =
        late_callee want p (list q x) args kws k law refl refl covered keyed
    others_safe want p (dict q x) args kws k unreserved no_test law covered keyed =
        late_callee want p (dict q x) args kws k law refl refl covered keyed
    others_safe want p (negative q x) args kws k unreserved no_test law covered keyed =
        late_callee want p (negative q x) args kws k law refl refl covered keyed
    others_safe want p (negation q x) args kws k unreserved no_test law covered keyed =
        late_callee want p (negation q x) args kws k law refl refl covered keyed
    others_safe want p (binary q o x y) args kws k unreserved no_test law covered keyed =
        late_callee want p (binary q o x y) args kws k law refl refl covered keyed
    others_safe want p (compare q o x y) args kws k unreserved no_test law covered keyed =
        late_callee want p (compare q o x y) args kws k law refl refl covered keyed
    others_safe want p (is_none q x) args kws k unreserved no_test law covered keyed =
        late_callee want p (is_none q x) args kws k law refl refl covered keyed
    others_safe want p (is_not_none q x) args kws k unreserved no_test law covered keyed =
        late_callee want p (is_not_none q x) args kws k law refl refl covered keyed
    others_safe want p (conjunction q x y) args kws k unreserved no_test law covered keyed =
        late_callee want p (conjunction q x y) args kws k law refl refl covered keyed
    others_safe want p (disjunction q x y) args kws k unreserved no_test law covered keyed =
        late_callee want p (disjunction q x y) args kws k law refl refl covered keyed
    others_safe want p (index q x y) args kws k unreserved no_test law covered keyed =
        late_callee want p (index q x y) args kws k law refl refl covered keyed
    others_safe want p (call q x y z) args kws k unreserved no_test law covered keyed =
        late_callee want p (call q x y z) args kws k law refl refl covered keyed

  -- in an initializer all other calls are safe
  pub initializer_calls : Inherits (bases_of m) (classes_of m)
      → ((c : ℕ) → Distinct [] (class_facts_at (classes_of m) c).fields)
      → KnowsNames (around_items m listed types defs n names) (initializer_context m types n) → (parts : Parts Step)
      → GoodEval (around_items m listed types defs n names) (initializer_context m types n) parts.eval
      → ((e : Expr) → Evaluates (place_of e) (parts.eval e)) → OtherCalls (around_items m listed types defs n names)
      (initializer_context m types n) parts
  initializer_calls inherits distinct_fields knows parts good evaluates =
      record {
        safe = λ env want p c args kws k unreserved no_test law covered keyed. others_safe inherits
            distinct_fields knows parts good evaluates env want p c args kws k unreserved no_test law covered keyed;
      }
