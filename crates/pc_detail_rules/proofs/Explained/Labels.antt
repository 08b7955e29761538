-- The rules of the codes at the label of an expression give details.
use Rattle.std.proofs.Common.{◌≡◌, ℕ, List, [], ◌∷◌, ◌++◌, Bool as Test, true, false, refl, sym, ap, ◌∙◌, subst, map}
use Rattle.std.proofs.Common.{Contains}
use Rattle.std.proofs.lemmas.List.Folds.{flat_map-map}
use Rattle.std.specs.List.{AllByRecursion}
use Rattle.std.specs.Option.{option_map}
use Rattle.std.proofs.lemmas.Grind.{flat_map-append}
use Rattle.std.specs.Prelude.{if◌then◌else◌, nat_lt, flat_map, slice_get, take, bytes_eq, codes, Option, Some, None}
use Rattle.pc_tree.specs.declared.code.Code.{Code}
use Rattle.pc_tree.specs.declared.code.Code.TheVariants.{A6, E02, E03, E04, E14, E15}
use Rattle.pc_tree.specs.declared.code.Code.TheVariants.{E20, E23, E27}
use Rattle.pc_source.specs.declared.place.Place.{Place}
use Rattle.pc_tree.specs.Depth.{place_of}
use Rattle.pc_tree.specs.Stopping.{bound_by}
use Rattle.pc_tree.specs.Tree.{Name, Expr, Exprs, Keywords, name, number, text, truth, nothing, tuple, list, dict}
use Rattle.pc_tree.specs.Tree.{negative, negation, binary, compare, is_none, is_not_none, conjunction, disjunction}
use Rattle.pc_tree.specs.Tree.{attribute, index, call, FuncDef, Module}
use Rattle.pc_scope.specs.declared.resolution.Builtin.{Builtin}
use Rattle.pc_scope.specs.declared.resolution.Builtin.TheVariants as builtin
use Rattle.pc_scope.specs.declared.resolution.NameMeaning.{NameMeaning}
use Rattle.pc_scope.specs.declared.resolution.NameMeaning.TheVariants as meaning
use Rattle.pc_scope.specs.declared.resolution.Owner.{Owner}
use Rattle.pc_scope.specs.Expressions.{is_instance_test}
use Rattle.pc_scope.specs.Resolution.{resolve, function_of}
use Rattle.pc_types.specs.Tree.{Tree, Any, Int, Bool, Str, NoneType, Class, ListOf, DictOf, TupleOf}
use Rattle.pc_types.specs.Shape.{members, trees}
use Rattle.pc_class.specs.Facts as facts
use Rattle.pc_class.specs.Facts.{TypedParameter, Method, classes_of, class_facts_at, field_by_name, method_by_name}
use Rattle.pc_flow.specs.Environment.{Env, current, join_or_object}
use Rattle.pc_rules.specs.Operations.{Label, clean, in_error, Offer, attribute_found, attribute_member}
use Rattle.pc_rules.specs.Operations.{store_found, store_attribute_member}
use Rattle.pc_rules.specs.Context.{Context, Signature, local_label, constant_label, name_label}
use Rattle.pc_rules.specs.Calls.{GivenArguments, arguments_given, CallOffer, class_offers, method_offers}
use Rattle.pc_rules.specs.Calls.{function_offer, signature_offer, class_signature, value_callee, good_callee}
use Rattle.pc_rules.specs.Calls.{own_callee, builtin_callee, name_callee, method_callee, is_one, is_two, length_rule}
use Rattle.pc_rules.specs.Calls.{test_rule, fails_at_call, fails_at_callee, CalleeLabel, value_offer, is_suited}
use Rattle.pc_rules.specs.Calls.{method_signature, builtin_signature}
use Rattle.pc_rules.specs.Labels.{Labels, whole_label, type_of, with_label, item_types, key_types}
use Rattle.pc_rules.specs.Labels.{value_types}
use Rattle.pc_rules.specs.Lawful.{int_literal, list_item, dict_parts, members_of_expected, callee_of, whole_call_label, Lawful}
use Rattle.pc_module_rules.specs.TypesOfExpressions.{TypeAt, type_here, callee_here, types_inside, types_in_arguments}
use Rattle.pc_module_rules.specs.TypesOfExpressions.{types_in_keywords}
use Rattle.pc_module_rules.proofs.PlainCodes.{all_append, in_both}
use Rattle.pc_detail_texts.specs.Details.{Detail, not_a_value, means_method, unassigned as left, range_elsewhere, called_value}
use Rattle.pc_detail_texts.specs.Details.{not_callable, call as call_of}
use Rattle.pc_detail_rules.specs.Calls.{is_length, calls_length, length_of_first}
use Rattle.pc_detail_rules.specs.Explains.{is_callee_at}
use Rattle.pc_detail_rules.specs.Facts.{Known}
use Rattle.pc_detail_rules.specs.Laws.{HasOwnPlaces}
use Rattle.pc_detail_rules.specs.Names.{places_named}
use Rattle.pc_detail_rules.specs.Nodes.{owned}
use Rattle.pc_detail_rules.specs.Operations.{method_or, method_of, method_name, attribute_here, meaning_of_name}
use Rattle.pc_detail_rules.proofs.CallMisfits.{is_wrong}
use Rattle.pc_detail_rules.proofs.Explained.Calls.{IsContext, IsObjectTyped, callee_misfit, callee_codes, is_length_called}
use Rattle.pc_detail_rules.proofs.Explained.Calls.{called_length, first_measured, whole_codes}
use Rattle.pc_detail_rules.proofs.Explained.Codes.{AtLabel, all_joined, indexed_codes, negated_codes, binary_codes, compare_codes}
use Rattle.pc_detail_rules.proofs.Explained.Codes.{display_codes, list_codes, dict_codes}
use Rattle.pc_detail_rules.proofs.Explained.Lists.{IsThere, there_mapped, all_left, all_right, all_pick, all_weaker}
use Rattle.pc_detail_rules.proofs.Explained.Told.{Asked, expr_rule}

-- ---- methods read from objects

there_method : (a b : Option Method) → IsThere b → IsThere (method_or a b)
there_method None b h = h
there_method (Some f) b h = refl

-- where a name of several members is found as a method that is no value, one of them has a method of the name
module _ (classes : List facts.ClassFacts) (word : List ℕ) (bad : Code) where
  -- a code is another one, or there is a method
  abbrev Method20 : List Tree → Code → Type 0
  Method20 ts c = c ≡ bad → IsThere (method_of classes word ts)

  method_or_rest : (a : Option Method) (ts : List Tree) (cs : List Code) → AllByRecursion (Method20 ts) cs
      → AllByRecursion (λ c. c ≡ bad → IsThere (method_or a (method_of classes word ts))) cs
  method_or_rest a ts cs h = all_weaker (Method20 ts) (λ c. c ≡ bad → IsThere (method_or a (method_of classes word ts)))
      (λ c k e. there_method a (method_of classes word ts) (k e)) cs h

  -- of each code that is found on members, if those on one are other codes, or it has a method
  pub methods_read : (found : Tree → List Code) → ((c : ℕ) → AllByRecursion
      (λ x. x ≡ bad → IsThere (method_by_name (class_facts_at classes c).methods word)) (found (Class c)))
      → ((t : Tree) → ((c : ℕ) → t ≡ Class c → ⊥) → AllByRecursion (λ x. x ≡ bad → ⊥) (found t)) → (ts : List Tree)
      → AllByRecursion (Method20 ts) (flat_map found ts)
  methods_read found h k [] = tt
  methods_read found h k (Class c ∷ ts) =
      let here = method_by_name (class_facts_at classes c).methods word in
      all_append (Method20 (Class c ∷ ts)) (found (Class c)) (flat_map found ts)
      (all_weaker (λ x. x ≡ bad → IsThere here) (Method20 (Class c ∷ ts))
      (λ x g e. first_method here (method_of classes word ts) (g e)) (found (Class c)) (h c))
      (method_or_rest here ts (flat_map found ts) (methods_read found h k ts))
    where
      first_method : (a b : Option Method) → IsThere a → IsThere (method_or a b)
      first_method None b g = absurd (cc g)
      first_method (Some f) b g = refl
  methods_read found h k (t ∷ ts) =
      all_append (Method20 (t ∷ ts)) (found t) (flat_map found ts)
      (all_weaker (λ x. x ≡ bad → ⊥) (Method20 (t ∷ ts)) (λ x g e. absurd (g e)) (found t)
      (k t (λ c e. absurd (cc e)))) (methods_read found h k ts)

-- the codes of a read
abbrev pub read_codes : List facts.ClassFacts → List ℕ → Tree → List Code
read_codes classes word t = (attribute_member classes word t).found

pub methods_of_reads : (classes : List facts.ClassFacts) (word : List ℕ) (ts : List Tree)
    → AllByRecursion (λ c. c ≡ E20 → IsThere (method_of classes word ts)) (flat_map (read_codes classes word) ts)
methods_of_reads classes word ts = methods_read classes word E20 (read_codes classes word)
    (λ c. in_class (field_by_name (class_facts_at classes c).fields word)
    (method_by_name (class_facts_at classes c).methods word)) of_other ts
  where
    in_class : (f : Option TypedParameter) (x : Option Method)
        → AllByRecursion (λ c. c ≡ E20 → IsThere x) (attribute_found f x).found
    in_class (Some f) x = tt
    in_class None (Some x) = (λ e. refl, tt)
    in_class None None = (λ e. absurd (cc e), tt)

    of_other : (t : Tree) → ((c : ℕ) → t ≡ Class c → ⊥) → AllByRecursion (λ x. x ≡ E20 → ⊥) (read_codes classes word t)
    of_other (Class c) h = absurd (h c refl)
    of_other Any h = (λ e. cc e, tt)
    of_other _ h = (λ e. cc e, tt)

-- the codes of a store
abbrev pub stored_codes : List facts.ClassFacts → List ℕ → Tree → List Code
stored_codes classes word t = (store_attribute_member classes word t).found

pub methods_of_stores : (classes : List facts.ClassFacts) (word : List ℕ) (ts : List Tree)
    → AllByRecursion (λ c. c ≡ E23 → IsThere (method_of classes word ts)) (flat_map (stored_codes classes word) ts)
methods_of_stores classes word ts = methods_read classes word E23 (stored_codes classes word)
    (λ c. in_class (field_by_name (class_facts_at classes c).fields word)
    (method_by_name (class_facts_at classes c).methods word)) of_other ts
  where
    in_class : (f : Option TypedParameter) (x : Option Method)
        → AllByRecursion (λ c. c ≡ E23 → IsThere x) (store_found f x).found
    in_class (Some f) x = tt
    in_class None (Some x) = (λ e. refl, tt)
    in_class None None = (λ e. absurd (cc e), tt)

    of_other : (t : Tree) → ((c : ℕ) → t ≡ Class c → ⊥)
        → AllByRecursion (λ x. x ≡ E23 → ⊥) (stored_codes classes word t)
    of_other (Class c) h = absurd (h c refl)
    of_other Any h = (λ e. cc e, tt)
    of_other _ h = (λ e. cc e, tt)

-- ---- replaced labels of callees

pub with_type : (c : Expr) (value : Labels c) (here : Label) → type_of c (with_label c value here) ≡ here.type
with_type (name n) value here = refl
with_type _ value here = refl

pub with_inside : (c : Expr) (value : Labels c) (here : Label) → types_inside true c (with_label c value here)
    ≡ types_inside true c value
with_inside (name n) value here = refl
with_inside _ value here = refl

module _ (m : Module) (known : Known) where
  -- the type of an expression is known at its place, if there is at most one expression at each place
  abbrev pub IsTyped : TypeAt → Type 0
  IsTyped t = HasOwnPlaces m → known.types t.place ≡ t.type

  -- the type of a callee
  pub callee_typed : (c : Expr) (k : Labels c)
      → AllByRecursion IsTyped (types_inside true c k ++ callee_here true c k)
      → IsTyped (record { place = place_of c; type = type_of c k })
  callee_typed (name n) k h = h.0
  callee_typed (attribute p e field) k h = (all_right IsTyped (types_inside true (attribute p e field) k)
      (type_here (attribute p e field) k) h).0
  callee_typed c k h = (all_right IsTyped (types_inside true c k) (type_here c k) h).0

  -- the type of the object of a callee that is an attribute
  pub object_typed : HasOwnPlaces m → (c : Expr) (value : Labels c) → AllByRecursion IsTyped (types_inside true c value)
      → IsObjectTyped known c value
  object_typed own (attribute p e field) value h =
      (all_right IsTyped (types_inside true e value.object) (type_here e value.object) h).0 own
  object_typed own c value h = tt

-- ---- the codes of labels

module _ (m : Module) (known : Known) (owner : Owner) (ctx : Context) (is : IsContext m owner ctx) where
  -- the rule of a code gives a detail for an expression, if it is asked
  abbrev pub IsGiven : Expr → Code → Type 0
  IsGiven e c = Asked m c → IsThere (expr_rule m known c (owned owner e))

  unknown : (e : Expr) → IsGiven e E02
  unknown e a = absurd (cc a.own)

  early : (e : Expr) → IsGiven e E03
  early e a = absurd (cc a.own)

  by_label : (e : Expr) (k l : Label) → k ≡ l → AtLabel (IsGiven e) l → (c : Code) → Contains k.codes c → IsGiven e c
  by_label e k l same all c h =
      all_pick (IsGiven e) k.codes c (subst (λ (x : Label). AtLabel (IsGiven e) x) (sym same) all) h

  -- names
  not_value : (n : Name) (r : NameMeaning) → ctx.resolve n.text ≡ r → IsThere (meaning_of_name n.text r)
      → IsGiven (name n) E20
  not_value n r e h a = there_mapped not_a_value (meaning_of_name n.text (resolve m owner n.text))
      (subst (λ (x : NameMeaning). IsThere (meaning_of_name n.text x)) (sym (is.resolves n.text ∙ e)) h)

  unassigned : (n : Name) (x : ℕ) → ctx.resolve n.text ≡ meaning.Local x → IsGiven (name n) E04
  unassigned n x e a = go (function_of m owner) (is.local n.text x e)
    where
      go : (o : Option FuncDef) → IsThere o
          → IsThere {A = Detail Tree} (option_map (λ (f : FuncDef). left n.text (take 3 (places_named n.text (bound_by f.body)))) o)
      go None h = absurd (cc h)
      go (Some f) h = refl

  named_codes : (env : Env) (n : Name) (r : NameMeaning) → ctx.resolve n.text ≡ r
      → AtLabel (IsGiven (name n)) (name_label ctx env r)
  named_codes env n (meaning.Local x) e = go (current env x)
    where
      go : (o : Option Tree) → AtLabel (IsGiven (name n)) (local_label o)
      go None = (unassigned n x e, tt)
      go (Some t) = tt
  named_codes env n (meaning.Const i) e = go (slice_get ctx.constants i)
    where
      go : (o : Option Tree) → AtLabel (IsGiven (name n)) (constant_label o)
      go None = (early (name n), tt)
      go (Some t) = tt
  named_codes env n (meaning.Func i) e = in_both (AtLabel (IsGiven (name n))) ctx.in_body (in_error E20) (in_error E03)
      (not_value n (meaning.Func i) e refl, tt) (early (name n), tt)
  named_codes env n (meaning.Class c) e = in_both (AtLabel (IsGiven (name n))) (nat_lt c ctx.known) (in_error E20)
      (in_error E03) (not_value n (meaning.Class c) e refl, tt) (early (name n), tt)
  named_codes env n (meaning.Builtin b) e = (not_value n (meaning.Builtin b) e refl, tt)
  named_codes env n meaning.None e = (unknown (name n), tt)

  -- names that are called
  good_codes : (n : Name) (b : Test) (x : CalleeLabel) → AtLabel (IsGiven (name n)) x.label
      → AtLabel (IsGiven (name n)) (if b then x else value_callee (in_error E03)).label
  good_codes n true x h = h
  good_codes n false x h = (early (name n), tt)

  built_codes : (g : GivenArguments) (n : Name) (b : Builtin) → ctx.resolve n.text ≡ meaning.Builtin b
      → AtLabel (IsGiven (name n)) (builtin_callee g b).label
  built_codes g n builtin.Print e = tt
  built_codes g n builtin.Str e = tt
  built_codes g n builtin.Len e = in_both (λ (x : CalleeLabel). AtLabel (IsGiven (name n)) x.label) (is_one g)
      (own_callee length_rule) (good_callee (fails_at_call E14 ∷ [])) tt tt
  built_codes g n builtin.IsInstance e = in_both (λ (x : CalleeLabel). AtLabel (IsGiven (name n)) x.label) (is_two g)
      (own_callee test_rule) (good_callee (fails_at_call E14 ∷ [])) tt tt
  built_codes g n builtin.Range e = tt
  built_codes g n b e = (not_value n (meaning.Builtin b) e refl, tt)

  called_codes : (env : Env) (g : GivenArguments) (n : Name) (r : NameMeaning) → ctx.resolve n.text ≡ r
      → AtLabel (IsGiven (name n)) (name_callee ctx env g r).label
  called_codes env g n (meaning.Func i) e =
      good_codes n ctx.in_body (good_callee (function_offer g (slice_get ctx.functions i) ∷ [])) tt
  called_codes env g n (meaning.Class c) e = good_codes n (nat_lt c ctx.known)
      (good_callee (signature_offer g (class_signature ctx.classes c) ∷ [])) tt
  called_codes env g n (meaning.Builtin b) e = built_codes g n b e
  called_codes env g n (meaning.Local x) e = named_codes env n (meaning.Local x) e
  called_codes env g n (meaning.Const i) e = named_codes env n (meaning.Const i) e
  called_codes env g n meaning.None e = named_codes env n meaning.None e

  -- attributes
  attribute_given : (p : Place) (e : Expr) (field : Name) → IsThere
      (attribute_here m known (is_callee_at m p) (attribute p e field))
  attribute_given p e field = go (is_callee_at m p)
    where
      go : (b : Test) → IsThere (attribute_here m known b (attribute p e field))
      go true = refl
      go false = refl

  module _ (p : Place) (e : Expr) (field : Name) where
    abbrev Here : Expr
    Here = attribute p e field

    -- a code is given, if E20 is
    abbrev Unless20 : Code → Type 0
    Unless20 c = (c ≡ E20 → IsGiven Here E20) → IsGiven Here c

    read_found : (f : Option TypedParameter) (x : Option Method) → AllByRecursion Unless20 (attribute_found f x).found
    read_found (Some f) x = tt
    read_found None (Some x) = (λ h. h refl, tt)
    read_found None None = (λ h a. attribute_given p e field, tt)

    read_one : (t : Tree) → AllByRecursion Unless20 (read_codes ctx.classes field.text t)
    read_one (Class c) = read_found (field_by_name (class_facts_at ctx.classes c).fields field.text)
        (method_by_name (class_facts_at ctx.classes c).methods field.text)
    read_one Any = (λ h a. attribute_given p e field, tt)
    read_one _ = (λ h a. attribute_given p e field, tt)

    read_all : (ts : List Tree) → AllByRecursion Unless20 (flat_map (read_codes ctx.classes field.text) ts)
    read_all ts = all_joined Unless20 (read_codes ctx.classes field.text) read_one ts

    method_given : (t : Tree) → IsTyped m known (record { place = place_of e; type = t })
        → IsThere (method_of ctx.classes field.text (members t)) → IsGiven Here E20
    method_given t typed h a =
        there_mapped not_a_value (option_map (λ f. means_method (method_name m f))
        (method_of (classes_of m) field.text (members (known.types (place_of e)))))
        (there_mapped (λ f. means_method (method_name m f))
        (method_of (classes_of m) field.text (members (known.types (place_of e))))
        (subst (λ (s : Tree). IsThere (method_of (classes_of m) field.text (members s))) (sym (typed a.fit))
        (subst (λ (cs : List facts.ClassFacts). IsThere (method_of cs field.text (members t))) is.classes h)))

    read_given : (t : Tree) → IsTyped m known (record { place = place_of e; type = t }) → (c : Code)
        → Contains (flat_map (λ (o : Offer). o.found) (map (attribute_member ctx.classes field.text) (members t))) c
        → IsGiven Here c
    read_given t typed c h =
        let codes = flat_map (read_codes ctx.classes field.text) (members t) in
        let same : flat_map (λ (o : Offer). o.found) (map (attribute_member ctx.classes field.text) (members t)) ≡ codes =
        flat_map-map (λ (o : Offer). o.found) (attribute_member ctx.classes field.text) (members t) in
        let k : Contains codes c = subst (λ (cs : List Code). Contains cs c) same h in
        all_pick Unless20 codes c (read_all (members t)) k
        (λ d. method_given t typed (all_pick (λ (x : Code). x ≡ E20 → IsThere (method_of ctx.classes field.text (members t)))
        codes c (methods_of_reads ctx.classes field.text (members t)) k d))

    -- methods that are called
    abbrev AtCallees : List CallOffer → Type 0
    AtCallees os = AllByRecursion (IsGiven Here) (flat_map (λ (o : CallOffer). o.at_callee) os)

    no_codes : (ts : List Tree) → AtCallees (map value_offer ts)
    no_codes [] = tt
    no_codes (Any ∷ ts) = no_codes ts
    no_codes (_ ∷ ts) = no_codes ts

    suited_codes : (g : GivenArguments) (s : Signature) → AtCallees (signature_offer g s ∷ [])
    suited_codes g s = go (is_suited g s)
      where
        go : (b : Test) → AtCallees ((if b then record { at_callee = []; at_call = []; gives = s.returns; calls = s ∷ [] }
            else fails_at_call E14) ∷ [])
        go true = tt
        go false = tt

    lacks : AtCallees (fails_at_callee E15 ∷ [])
    lacks = (λ a. attribute_given p e field, tt)

    class_codes : (g : GivenArguments) (f : Option Method) (x : Option TypedParameter) → AtCallees (class_offers g f x)
    class_codes g (Some f) x = suited_codes g (method_signature f)
    class_codes g None (Some x) = no_codes (members x.type)
    class_codes g None None = lacks

    method_codes : (g : GivenArguments) (t : Tree) → AtCallees (method_offers ctx g field.text t)
    method_codes g (Class c) = class_codes g (method_by_name (class_facts_at ctx.classes c).methods field.text)
        (field_by_name (class_facts_at ctx.classes c).fields field.text)
    method_codes g (ListOf t) =
        in_both AtCallees (bytes_eq field.text (codes "append"))
        (signature_offer g (builtin_signature (t ∷ []) NoneType) ∷ []) _
        (suited_codes g (builtin_signature (t ∷ []) NoneType))
        (in_both AtCallees (bytes_eq field.text (codes "pop")) (signature_offer g (builtin_signature [] t) ∷ [])
        (fails_at_callee E15 ∷ []) (suited_codes g (builtin_signature [] t)) lacks)
    method_codes g (DictOf k v) =
        let got = builtin_signature (k ∷ []) (join_or_object ctx.bases v NoneType) in
        in_both AtCallees (bytes_eq field.text (codes "get")) (signature_offer g got ∷ []) (fails_at_callee E15 ∷ [])
        (suited_codes g got) lacks
    method_codes g Any = (λ a. attribute_given p e field, tt)
    method_codes g _ = lacks

    methods_codes : (g : GivenArguments) (ts : List Tree)
        → AtCallees (flat_map (method_offers ctx g field.text) ts)
    methods_codes g [] = tt
    methods_codes g (t ∷ ts) =
        subst (AllByRecursion (IsGiven Here)) (sym (flat_map-append (λ (o : CallOffer). o.at_callee)
        (method_offers ctx g field.text t) (flat_map (method_offers ctx g field.text) ts)))
        (all_append (IsGiven Here) (flat_map (λ (o : CallOffer). o.at_callee) (method_offers ctx g field.text t))
        (flat_map (λ (o : CallOffer). o.at_callee) (flat_map (method_offers ctx g field.text) ts)) (method_codes g t)
        (methods_codes g ts))

    attribute_called : (g : GivenArguments) (b : Test) (t : Tree)
        → AtLabel (IsGiven Here) (if b then method_callee ctx g field.text t else value_callee (in_error E03)).label
    attribute_called g true t = methods_codes g (members t)
    attribute_called g false t = (early Here, tt)

  -- ---- calls

  calls_same : (c : Expr) → calls_length m known (resolve m owner) c ≡ is_length_called ctx c
  calls_same (name n) = ap is_length (is.resolves n.text)
  calls_same _ = refl

  module _ (env : Env) (p : Place) (callee : Expr) (args : Exprs) (kws : Keywords) (value : Labels callee) where
    abbrev Call : Expr
    Call = call p callee args kws

    abbrev given : GivenArguments
    given = arguments_given args kws

    abbrev as_callee : CalleeLabel
    as_callee = callee_of ctx env given callee value

    -- the types in the callee and of it
    abbrev pub CalleeTyped : Labels callee → Type 0
    CalleeTyped k = AllByRecursion (IsTyped m known) (types_inside true callee k ++ callee_here true callee k)

    wrong_given : (k : Labels callee) → k ≡ with_label callee value as_callee.label → CalleeTyped k
        → is_wrong as_callee.offers ≡ true → IsGiven Call E14
    wrong_given k same typed w a =
        let replaced = with_label callee value as_callee.label in
        let types : CalleeTyped replaced = subst CalleeTyped same typed in
        let inside : AllByRecursion (IsTyped m known) (types_inside true callee value) =
        subst (AllByRecursion (IsTyped m known)) (with_inside callee value as_callee.label)
        (all_left (IsTyped m known) (types_inside true callee replaced) (callee_here true callee replaced) types) in
        callee_misfit m known owner ctx is env given callee value
        (callee_typed m known callee replaced types a.fit ∙ with_type callee value as_callee.label)
        (object_typed m known a.fit callee value inside) w

    other_given : is_length_called ctx callee ≡ false → IsGiven Call A6 × IsGiven Call E27
    other_given e = (
      λ a. subst (λ (b : Test). IsThere (if b then length_of_first m known (resolve m owner) args
          else Some (call_of (called_value Any) not_callable))) (sym (calls_same callee ∙ e)) refl,
      λ a. subst (λ (b : Test). IsThere (if b then length_of_first m known (resolve m owner) args
          else Some range_elsewhere)) (sym (calls_same callee ∙ e)) refl,
    )

    length_given : as_callee.rule ≡ length_rule → IsGiven Call A6 × IsGiven Call E27
    length_given e =
        let one = first_measured m known (resolve m owner) args given.named (called_length ctx env given callee value e) in (
          λ a. in_both IsThere (calls_length m known (resolve m owner) callee)
              (length_of_first m known (resolve m owner) args) (Some (call_of (called_value Any) not_callable)) one refl,
          λ a. in_both IsThere (calls_length m known (resolve m owner) callee)
              (length_of_first m known (resolve m owner) args) (Some range_elsewhere) one refl,
        )

    pub call_given : (k : Labels callee) → k ≡ with_label callee value as_callee.label → CalleeTyped k
        → (types : List Tree) (c : Code)
        → Contains (whole_call_label ctx env as_callee.rule as_callee.offers args types).codes c → IsGiven Call c
    call_given k same typed types c h =
        whole_codes (IsGiven Call) known ctx env args types as_callee.rule as_callee.offers (wrong_given k same typed)
        (callee_codes (λ x. (x ≡ E14 → IsGiven Call E14) → IsGiven Call x) ctx env given (λ g. g refl) callee value
        (λ e. (λ g. (other_given e).0, λ g. (other_given e).1))) length_given (λ t a. t) c h

  -- ---- all forms

  module _ (declared : List Tree) where
    pub label_given : (env : Env) (want : Option Tree) (e : Expr) (labels : Labels e)
        → Lawful ctx declared env want e labels → AllByRecursion (IsTyped m known) (types_inside true e labels)
        → (c : Code) → Contains (whole_label e labels).codes c → IsGiven e c
    label_given env want (name n) labels law typed c h =
        by_label (name n) labels (name_label ctx env (ctx.resolve n.text)) law
        (named_codes env n (ctx.resolve n.text) refl) c h
    label_given env want (number p d) labels law typed c h = by_label (number p d) labels (clean Int) law tt c h
    label_given env want (text p d) labels law typed c h = by_label (text p d) labels (clean Str) law tt c h
    label_given env want (truth p b) labels law typed c h = by_label (truth p b) labels (clean Bool) law tt c h
    label_given env want (nothing p) labels law typed c h = by_label (nothing p) labels (clean NoneType) law tt c h
    label_given env want (tuple p es) labels law typed c h =
        by_label (tuple p es) labels.here _ law.here (display_codes (IsGiven (tuple p es)) (λ a. refl)
        (TupleOf (trees (item_types es labels.items)))) c h
    label_given env want (list p es) labels law typed c h =
        by_label (list p es) labels.here _ law.here (list_codes (IsGiven (list p es)) (λ a. refl) ctx.bases
        (list_item (members_of_expected want)) (item_types es labels.items)) c h
    label_given env want (dict p es) labels law typed c h =
        all_pick (IsGiven (dict p es)) labels.here.codes c
        (dict_codes (IsGiven (dict p es)) (λ a. refl) (λ a. refl) ctx.bases (dict_parts (members_of_expected want))
        (key_types es labels.entries) (value_types es labels.entries) labels.here law.here) h
    label_given env want (negative p e) labels law typed c h =
        by_label (negative p e) labels.here _ law.here (negated_codes (IsGiven (negative p e)) (λ a. refl) (λ a. refl)
        ctx.bases (members (type_of e labels.operand))) c h
    label_given env want (negation p e) labels law typed c h =
        by_label (negation p e) labels.here (clean Bool) law.here tt c h
    label_given env want (binary p o l r) labels law typed c h =
        by_label (binary p o l r) labels.here _ law.here (binary_codes (IsGiven (binary p o l r)) (λ a. refl)
        (λ a. refl) ctx.bases o (type_of l labels.left) (type_of r labels.right)) c h
    label_given env want (compare p o l r) labels law typed c h =
        by_label (compare p o l r) labels.here _ law.here (compare_codes (IsGiven (compare p o l r)) (λ a. refl)
        (λ a. refl) (λ a. refl) ctx.bases o (type_of l labels.left) (type_of r labels.right)) c h
    label_given env want (is_none p e) labels law typed c h =
        by_label (is_none p e) labels.here (clean Bool) law.here tt c h
    label_given env want (is_not_none p e) labels law typed c h =
        by_label (is_not_none p e) labels.here (clean Bool) law.here tt c h
    label_given env want (conjunction p l r) labels law typed c h =
        by_label (conjunction p l r) labels.here (clean _) law.here tt c h
    label_given env want (disjunction p l r) labels law typed c h =
        by_label (disjunction p l r) labels.here (clean _) law.here tt c h
    label_given env want (attribute p e field) labels law typed c h =
        read_given p e field (type_of e labels.object)
        (all_right (IsTyped m known) (types_inside true e labels.object) (type_here e labels.object) typed).0 c
        (subst (λ (x : Label). Contains x.codes c) law.here h)
    label_given env want (index p e i) labels law typed c h =
        by_label (index p e i) labels.here _ law.here (indexed_codes (IsGiven (index p e i)) (λ a. refl) (λ a. refl)
        ctx.bases (int_literal i) (members (type_of e labels.object))) c h
    label_given env want (call p callee args kws) labels law typed c h =
        let is_test = is_instance_test callee args kws in
        call_given env p callee args kws law.value labels.callee law.callee
        (all_left (IsTyped m known) (types_inside true callee labels.callee ++ callee_here true callee labels.callee)
        (types_in_arguments true is_test args labels.arguments ++ types_in_keywords true kws labels.keywords) typed)
        (item_types args labels.arguments) c (subst (λ (x : Label). Contains x.codes c) law.here h)

    -- the codes of a callee
    other_called : (e : Expr) (env : Env) (value : Labels e) → Lawful ctx declared env None e value
        → AllByRecursion (IsTyped m known) (types_inside true e value) → (b : Test) (c : Code)
        → Contains (if b then value_callee (whole_label e value) else value_callee (in_error E03)).label.codes c
        → IsGiven e c
    other_called e env value law typed true c h = label_given env None e value law typed c h
    other_called e env value law typed false c h =
        by_label e (in_error E03) (in_error E03) refl (early e, tt) c h

    pub called_given : (env : Env) (g : GivenArguments) (e : Expr) (value : Labels e)
        → Lawful ctx declared env None e value → AllByRecursion (IsTyped m known) (types_inside true e value)
        → (c : Code) → Contains (callee_of ctx env g e value).label.codes c → IsGiven e c
    called_given env g (name n) value law typed c h =
        let label = (name_callee ctx env g (ctx.resolve n.text)).label in
        by_label (name n) label label refl (called_codes env g n (ctx.resolve n.text) refl) c h
    called_given env g (attribute p e field) value law typed c h =
        all_pick (IsGiven (attribute p e field)) (callee_of ctx env g (attribute p e field) value).label.codes c
        (attribute_called p e field g ctx.in_body (type_of e value.object)) h
    called_given env g e value law typed c h = other_called e env value law typed ctx.in_body c h
