-- A call with E14 has a misfit, and the rules of the other codes of calls give details.
use Rattle.std.proofs.Common.{◌≡◌, ℕ, List, [], ◌∷◌, ◌++◌, length, Bool as Test, true, false, refl, sym, ap}
use Rattle.std.proofs.Common.{◌∙◌, subst, inl, inr, map, Contains}
use Rattle.std.proofs.Math.Dec.{eqb-zero-suc}
use Rattle.std.proofs.lemmas.Grind.{flat_map-append}
use Rattle.std.proofs.lemmas.List.Folds.{list_any-append}
use Rattle.std.specs.List.{AllByRecursion, list_any}
use Rattle.std.specs.Option.{option_and_then}
use Rattle.std.specs.Prelude.{◌||◌, ◌&&◌, if◌then◌else◌, nat_lt, flat_map, slice_get, Option, Some, None, is_some}
use Rattle.std.specs.Prelude.{bytes_eq, codes}
use Rattle.pc_tree.proofs.Among.{none_among, among_first}
use Rattle.pc_tree.specs.declared.code.Code.{Code}
use Rattle.pc_tree.specs.declared.code.Code.TheVariants.{A6, A7, E03, E14, E15, E27}
use Rattle.pc_tree.specs.Code.{text_of}
use Rattle.pc_tree.specs.Depth.{place_of}
use Rattle.pc_tree.specs.Stopping.{has_none}
use Rattle.pc_tree.specs.Tree.{Expr, Exprs, name, attribute, no_exprs, more_exprs, Module}
use Rattle.pc_scope.specs.declared.resolution.Builtin.{Builtin}
use Rattle.pc_scope.specs.declared.resolution.Builtin.TheVariants as builtin
use Rattle.pc_scope.specs.declared.resolution.NameMeaning.{NameMeaning}
use Rattle.pc_scope.specs.declared.resolution.NameMeaning.TheVariants as meaning
use Rattle.pc_scope.specs.declared.resolution.Owner.{Owner}
use Rattle.pc_scope.specs.Resolution.{resolve, function_of}
use Rattle.pc_types.specs.Tree.{Tree, Any, NoneType, Class, ListOf, DictOf}
use Rattle.pc_types.specs.Below.{Bases}
use Rattle.pc_types.specs.Shape.{members}
use Rattle.pc_annotations.specs.Bases.{bases_of}
use Rattle.pc_annotations.specs.Text.{class_text}
use Rattle.pc_class.specs.Facts as facts
use Rattle.pc_class.specs.Facts.{TypedParameter, Method, classes_of, class_facts_at, field_by_name, method_by_name}
use Rattle.pc_flow.specs.Environment.{Env, join_or_object}
use Rattle.pc_flow.specs.Narrowing.{Tested, for_none, for_type, for_list, local_named, local_of_argument, first_argument}
use Rattle.pc_flow.specs.Narrowing.{test_of_argument, second_argument}
use Rattle.pc_notes.proofs.SameCode.{text_same}
use Rattle.pc_rules.specs.Operations.{Label, in_error, offers_label, length_member}
use Rattle.pc_rules.specs.Context.{Context, Signature, name_label}
use Rattle.pc_rules.specs.Calls.{GivenArguments, CallOffer, signature_offer, fails_at_call, value_offer}
use Rattle.pc_rules.specs.Calls.{fails_at_callee}
use Rattle.pc_rules.specs.Calls.{value_offers, class_signature, class_offers, dict_offers, method_offers}
use Rattle.pc_rules.specs.Calls.{is_one, is_two, is_suited, function_offer, CallRule, member_rule, length_rule, test_rule}
use Rattle.pc_rules.specs.Calls.{CalleeLabel, value_callee, good_callee, own_callee, builtin_callee, name_callee}
use Rattle.pc_rules.specs.Calls.{method_callee, call_codes, first_type, any_list_codes, current_of, test_codes}
use Rattle.pc_rules.specs.Calls.{is_object_or_any, count_exprs, method_signature, builtin_signature}
use Rattle.pc_rules.specs.Labels.{Labels, whole_label, type_of}
use Rattle.pc_rules.specs.Lawful.{callee_of, whole_call_label}
use Rattle.pc_rules.specs.Signatures.{signatures_of, body_context}
use Rattle.pc_rules.specs.Computed.Findings.{has_code}
use Rattle.pc_module_rules.proofs.PlainCodes.{all_append, in_both}
use Rattle.pc_detail_texts.specs.Details.{Detail, called_class}
use Rattle.pc_detail_rules.specs.Calls.{Called, value_called, called_on, named_callees, misfits_of, first_detail}
use Rattle.pc_detail_rules.specs.Calls.{misfit_with, is_length, callees_of, length_of_first}
use Rattle.pc_detail_rules.specs.Facts.{Known}
use Rattle.pc_detail_rules.specs.Statements.{tested_local}
use Rattle.pc_detail_rules.specs.Written.{field_annotations}
use Rattle.pc_detail_rules.proofs.CallMisfits.{is_wrong, have_misfit, one_exact, values_exact, method_exact}
use Rattle.pc_detail_rules.proofs.NameMisfits.{name_exact}
use Rattle.pc_detail_rules.proofs.Explained.Codes.{measured_codes}
use Rattle.pc_detail_rules.proofs.Explained.Lists.{IsThere, all_pick}

-- the context of an expression of this owner: what the module has, and the meanings of names to the owner
pub record IsContext (m : Module) (owner : Owner) (ctx : Context) : Type 0 where
  pub resolves : (word : List ℕ) → resolve m owner word ≡ ctx.resolve word
  pub bases : ctx.bases ≡ bases_of m
  pub classes : ctx.classes ≡ classes_of m
  pub functions : ctx.functions ≡ signatures_of m
  pub local : (word : List ℕ) (x : ℕ) → ctx.resolve word ≡ meaning.Local x → IsThere (function_of m owner)

-- ---- a code among others

or_true : (b : Test) → (b || true) ≡ true
or_true true = refl
or_true false = refl

true_or : (a b : Test) → a ≡ true → (a || b) ≡ true
true_or true b h = refl
true_or false b h = absurd (cc h)

or_right : (a b : Test) → b ≡ true → (a || b) ≡ true
or_right true b h = refl
or_right false b h = h

pub code_among : (cs : List Code) (c : Code) → Contains cs c → has_code cs c ≡ true
code_among [] c h = absurd (none_among c h)
code_among (d ∷ cs) c h = elim (among_first d cs c h) [
  | inl e ↦ true_or (bytes_eq (text_of c) (text_of d)) (has_code cs c) (text_same c d (sym e))
  | inr r ↦ or_right (bytes_eq (text_of c) (text_of d)) (has_code cs c) (code_among cs c r)
]

-- ---- misfits of several members

first_append : (xs ys : List (Detail Tree))
    → is_some (first_detail (xs ++ ys)) ≡ (is_some (first_detail xs) || is_some (first_detail ys))
first_append [] ys = refl
first_append (x ∷ xs) ys = refl

misfit_append : (g : GivenArguments) (cs ds : List Called) → have_misfit g (cs ++ ds)
    ≡ (have_misfit g cs || have_misfit g ds)
misfit_append g cs ds = ap (λ xs. is_some (first_detail xs)) (flat_map-append (misfit_with g) cs ds)
    ∙ first_append (misfits_of g cs) (misfits_of g ds)

wrong_append : (xs ys : List CallOffer) → is_wrong (xs ++ ys) ≡ (is_wrong xs || is_wrong ys)
wrong_append xs ys = ap (λ cs. has_code cs E14) (flat_map-append (λ (o : CallOffer). o.at_call) xs ys)
    ∙ list_any-append (λ (d : Code). bytes_eq (text_of E14) (text_of d)) (flat_map (λ (o : CallOffer). o.at_call) xs)
    (flat_map (λ (o : CallOffer). o.at_call) ys)

both_or : (a b c d : Test) → a ≡ b → c ≡ d → (a || c) ≡ (b || d)
both_or a b c d h k = λ i. h i || k i

module _ (m : Module) (ctx : Context) (classes : ctx.classes ≡ classes_of m) (bases : ctx.bases ≡ bases_of m)
    (g : GivenArguments) (word : List ℕ) where
  -- the results of a method call depend on the classes and their bases alone
  same_offers : (t : Tree) → method_offers ctx g word t ≡ method_offers (body_context m [] []) g word t
  same_offers (Class c) = ap (λ (cs : List facts.ClassFacts). class_offers g
      (method_by_name (class_facts_at cs c).methods word) (field_by_name (class_facts_at cs c).fields word)) classes
  same_offers (DictOf k v) = ap (λ (b : Bases). dict_offers b g word k v) bases
  same_offers _ = refl

  -- a method call on several members is wrong exactly if there is a misfit
  methods_exact : (ts : List Tree) → is_wrong (flat_map (method_offers ctx g word) ts)
      ≡ have_misfit g (flat_map (called_on m word) ts)
  methods_exact [] = refl
  methods_exact (t ∷ ts) = wrong_append (method_offers ctx g word t) (flat_map (method_offers ctx g word) ts)
      ∙ both_or (is_wrong (method_offers ctx g word t)) (have_misfit g (called_on m word t))
      (is_wrong (flat_map (method_offers ctx g word) ts)) (have_misfit g (flat_map (called_on m word) ts))
      (ap is_wrong (same_offers t) ∙ method_exact m g word t) (methods_exact ts)
      ∙ sym (misfit_append g (called_on m word t) (flat_map (called_on m word) ts))

-- ---- a callee of each form

-- a value of type Any is not wrong to call
any_right : is_wrong (value_offers Any) ≡ true → {X : Type 0} → X
any_right h = absurd (cc h)

module _ (m : Module) (ctx : Context) (g : GivenArguments) where
  -- a value
  value_misfit : (here : Tree) (t : Tree) → here ≡ t → is_wrong (value_offers t) ≡ true
      → have_misfit g (flat_map value_called (members here)) ≡ true
  value_misfit here t e h = subst (λ (s : Tree). have_misfit g (flat_map value_called (members s)) ≡ true) (sym e)
      (sym (values_exact g (members t)) ∙ h)

  other_misfit : (b : Test) (label : Label) (here : Tree)
      → here ≡ (if b then value_callee label else value_callee (in_error E03)).label.type
      → is_wrong (if b then value_callee label else value_callee (in_error E03)).offers ≡ true
      → have_misfit g (flat_map value_called (members here)) ≡ true
  other_misfit true label here e h = value_misfit here label.type e h
  other_misfit false label here e h = any_right h

  -- a name
  function_misfit : (functions : ctx.functions ≡ signatures_of m) (env : Env) (i : ℕ) (b : Test) (here : Tree)
      → is_wrong (if b then good_callee (function_offer g (slice_get ctx.functions i) ∷ [])
      else value_callee (in_error E03)).offers ≡ true
      → have_misfit g (named_callees m g.positional here (meaning.Func i)) ≡ true
  function_misfit functions env i true here h = sym (name_exact m [] [] env g (meaning.Func i) refl)
      ∙ subst (λ (fs : List Signature). is_wrong (function_offer g (slice_get fs i) ∷ []) ≡ true) functions h
  function_misfit functions env i false here h = any_right h

  class_misfit : (classes : ctx.classes ≡ classes_of m) (c : ℕ) (b : Test) (here : Tree)
      → is_wrong (if b then good_callee (signature_offer g (class_signature ctx.classes c) ∷ [])
      else value_callee (in_error E03)).offers ≡ true
      → have_misfit g (named_callees m g.positional here (meaning.Class c)) ≡ true
  class_misfit classes c true here h =
      let s = class_signature (classes_of m) c in
      sym (one_exact g s s (called_class (class_text m c)) (field_annotations m c s.parameters) refl)
      ∙ subst (λ (cs : List facts.ClassFacts). is_wrong (signature_offer g (class_signature cs c) ∷ []) ≡ true) classes h
  class_misfit classes c false here h = any_right h

  name_misfit : ctx.functions ≡ signatures_of m → ctx.classes ≡ classes_of m → (env : Env) (r : NameMeaning) (here : Tree)
      → here ≡ (name_callee ctx env g r).label.type → is_wrong (name_callee ctx env g r).offers ≡ true
      → have_misfit g (named_callees m g.positional here r) ≡ true
  name_misfit fs cs env (meaning.Func i) here e h = function_misfit fs env i ctx.in_body here h
  name_misfit fs cs env (meaning.Class c) here e h = class_misfit cs c (nat_lt c ctx.known) here h
  name_misfit fs cs env (meaning.Builtin b) here e h = sym (name_exact m [] [] env g (meaning.Builtin b) refl) ∙ h
  name_misfit fs cs env (meaning.Local x) here e h = value_misfit here (name_label ctx env (meaning.Local x)).type e h
  name_misfit fs cs env (meaning.Const i) here e h = value_misfit here (name_label ctx env (meaning.Const i)).type e h
  name_misfit fs cs env meaning.None here e h = value_misfit here (name_label ctx env meaning.None).type e h

  -- a method
  method_misfit : ctx.classes ≡ classes_of m → ctx.bases ≡ bases_of m → (word : List ℕ) (b : Test) (here t : Tree)
      → here ≡ t
      → is_wrong (if b then method_callee ctx g word t else value_callee (in_error E03)).offers ≡ true
      → have_misfit g (flat_map (called_on m word) (members here)) ≡ true
  method_misfit cs bs word true here t e h =
      subst (λ (s : Tree). have_misfit g (flat_map (called_on m word) (members s)) ≡ true) (sym e)
      (sym (methods_exact m ctx cs bs g word (members t)) ∙ h)
  method_misfit cs bs word false here t e h = any_right h

-- the object of a callee that is an attribute has its type at its place
abbrev pub IsObjectTyped : Known → (c : Expr) → Labels c → Type 0
IsObjectTyped known (attribute p e field) value = known.types (place_of e) ≡ type_of e value.object
IsObjectTyped known _ value = Unit {0}

module _ (m : Module) (known : Known) (owner : Owner) (ctx : Context) (is : IsContext m owner ctx) (env : Env)
    (g : GivenArguments) where
  -- a wrong call of any callee has a misfit
  pub callee_misfit : (c : Expr) (value : Labels c)
      → known.types (place_of c) ≡ (callee_of ctx env g c value).label.type → IsObjectTyped known c value
      → is_wrong (callee_of ctx env g c value).offers ≡ true
      → have_misfit g (callees_of m known (resolve m owner) g.positional c) ≡ true
  callee_misfit (name n) value e o h =
      subst (λ (r : NameMeaning). have_misfit g (named_callees m g.positional (known.types n.place) r) ≡ true)
      (sym (is.resolves n.text))
      (name_misfit m ctx g is.functions is.classes env (ctx.resolve n.text) (known.types n.place) e h)
  callee_misfit (attribute p q field) value e o h = method_misfit m ctx g is.classes is.bases field.text ctx.in_body
      (known.types (place_of q)) (type_of q value.object) o h
  callee_misfit c value e o h = other_misfit m ctx g ctx.in_body (whole_label c value) (known.types (place_of c)) e h

-- ---- the codes at a call

module _ (P : Code → Type 0) where
  -- a fact of each code that is found at the call on each member
  abbrev AtCalls : List CallOffer → Type 0
  AtCalls os = AllByRecursion P (flat_map (λ (o : CallOffer). o.at_call) os)

  one_call : (o : CallOffer) → AllByRecursion P o.at_call → AtCalls (o ∷ [])
  one_call o h = all_append P o.at_call [] h tt

  pub signature_codes : P E14 → (g : GivenArguments) (s : Signature) → AtCalls (signature_offer g s ∷ [])
  signature_codes e g s = one_call (signature_offer g s) (in_both (λ (o : CallOffer). AllByRecursion P o.at_call)
      (is_suited g s) (record { at_callee = []; at_call = []; gives = s.returns; calls = s ∷ [] }) (fails_at_call E14) tt
      (e, tt))

  value_codes : P E14 → P A6 → (t : Tree) → AllByRecursion P (value_offer t).at_call
  value_codes e a Any = (a, tt)
  value_codes e a _ = (e, tt)

  values_codes : P E14 → P A6 → (ts : List Tree) → AtCalls (map value_offer ts)
  values_codes e a [] = tt
  values_codes e a (t ∷ ts) = all_append P (value_offer t).at_call
      (flat_map (λ (o : CallOffer). o.at_call) (map value_offer ts)) (value_codes e a t) (values_codes e a ts)

  other_codes : P E14 → P A6 → (b : Test) (label : Label)
      → AtCalls (if b then value_callee label else value_callee (in_error E03)).offers
  other_codes e a true label = values_codes e a (members label.type)
  other_codes e a false label = (a, tt)

  -- methods
  class_codes : P E14 → P A6 → (g : GivenArguments) (f : Option Method) (p : Option TypedParameter)
      → AtCalls (class_offers g f p)
  class_codes e a g (Some f) p = signature_codes e g (method_signature f)
  class_codes e a g None (Some p) = values_codes e a (members p.type)
  class_codes e a g None None = tt

  method_codes : P E14 → P A6 → (ctx : Context) (g : GivenArguments) (word : List ℕ) (t : Tree)
      → AtCalls (method_offers ctx g word t)
  method_codes e a ctx g word (Class c) = class_codes e a g (method_by_name (class_facts_at ctx.classes c).methods word)
      (field_by_name (class_facts_at ctx.classes c).fields word)
  method_codes e a ctx g word (ListOf t) =
      let appended = builtin_signature (t ∷ []) NoneType in
      let popped = builtin_signature [] t in
      in_both AtCalls (bytes_eq word (codes "append")) (signature_offer g appended ∷ [])
      (if bytes_eq word (codes "pop") then signature_offer g popped ∷ [] else fails_at_callee E15 ∷ [])
      (signature_codes e g appended)
      (in_both AtCalls (bytes_eq word (codes "pop")) (signature_offer g popped ∷ []) (fails_at_callee E15 ∷ [])
      (signature_codes e g popped) tt)
  method_codes e a ctx g word (DictOf k v) =
      let got = builtin_signature (k ∷ []) (join_or_object ctx.bases v NoneType) in
      in_both AtCalls (bytes_eq word (codes "get")) (signature_offer g got ∷ []) (fails_at_callee E15 ∷ [])
      (signature_codes e g got) tt
  method_codes e a ctx g word Any = tt
  method_codes e a ctx g word _ = tt

  methods_codes : P E14 → P A6 → (ctx : Context) (g : GivenArguments) (word : List ℕ) (ts : List Tree)
      → AtCalls (flat_map (method_offers ctx g word) ts)
  methods_codes e a ctx g word [] = tt
  methods_codes e a ctx g word (t ∷ ts) =
      subst (AllByRecursion P) (sym (flat_map-append (λ (o : CallOffer). o.at_call) (method_offers ctx g word t)
      (flat_map (method_offers ctx g word) ts)))
      (all_append P (flat_map (λ (o : CallOffer). o.at_call) (method_offers ctx g word t))
      (flat_map (λ (o : CallOffer). o.at_call) (flat_map (method_offers ctx g word) ts))
      (method_codes e a ctx g word t) (methods_codes e a ctx g word ts))

  attribute_codes : P E14 → P A6 → (ctx : Context) (g : GivenArguments) (word : List ℕ) (b : Test) (t : Tree)
      → AtCalls (if b then method_callee ctx g word t else value_callee (in_error E03)).offers
  attribute_codes e a ctx g word true t = methods_codes e a ctx g word (members t)
  attribute_codes e a ctx g word false t = (a, tt)

  -- names
  function_codes : P E14 → P A6 → (g : GivenArguments) (s : Option Signature) → AtCalls (function_offer g s ∷ [])
  function_codes e a g None = (a, tt)
  function_codes e a g (Some s) = signature_codes e g s

  good_or_early : P A6 → (b : Test) (o : CallOffer) → AtCalls (o ∷ [])
      → AtCalls (if b then good_callee (o ∷ []) else value_callee (in_error E03)).offers
  good_or_early a true o h = h
  good_or_early a false o h = (a, tt)

  two_ways : (b : Test) (x y : CallOffer) → AtCalls (x ∷ []) → AtCalls (y ∷ [])
      → AtCalls ((if b then x else y) ∷ [])
  two_ways true x y h k = h
  two_ways false x y h k = k

  own_or_wrong : P E14 → (b : Test) (rule : CallRule)
      → AtCalls (if b then own_callee rule else good_callee (fails_at_call E14 ∷ [])).offers
  own_or_wrong e true rule = tt
  own_or_wrong e false rule = (e, tt)

  -- of `len` only E14
  builtin_codes : P E14 → (g : GivenArguments) (b : Builtin) → (is_length (meaning.Builtin b) ≡ false → P A6 × P E27)
      → AtCalls (builtin_callee g b).offers
  builtin_codes e g builtin.Print h = two_ways (has_none g.named) _ (fails_at_call E14) tt (e, tt)
  builtin_codes e g builtin.Str h = two_ways (is_one g) _ (fails_at_call E14) tt (e, tt)
  builtin_codes e g builtin.Len h = own_or_wrong e (is_one g) length_rule
  builtin_codes e g builtin.IsInstance h = own_or_wrong e (is_two g) test_rule
  builtin_codes e g builtin.Range h = two_ways (is_one g) (fails_at_call E27) (fails_at_call E14) ((h refl).1, tt)
      (e, tt)
  builtin_codes e g builtin.Any h = ((h refl).0, tt)
  builtin_codes e g builtin.Annotations h = ((h refl).0, tt)
  builtin_codes e g builtin.Bool h = ((h refl).0, tt)
  builtin_codes e g builtin.Dataclass h = ((h refl).0, tt)
  builtin_codes e g builtin.Dict h = ((h refl).0, tt)
  builtin_codes e g builtin.Int h = ((h refl).0, tt)
  builtin_codes e g builtin.List h = ((h refl).0, tt)
  builtin_codes e g builtin.Object h = ((h refl).0, tt)
  builtin_codes e g builtin.Tuple h = ((h refl).0, tt)

  name_codes : P E14 → (ctx : Context) (env : Env) (g : GivenArguments) (r : NameMeaning)
      → (is_length r ≡ false → P A6 × P E27) → AtCalls (name_callee ctx env g r).offers
  name_codes e ctx env g (meaning.Func i) h = good_or_early (h refl).0 ctx.in_body
      (function_offer g (slice_get ctx.functions i)) (function_codes e (h refl).0 g (slice_get ctx.functions i))
  name_codes e ctx env g (meaning.Class c) h = good_or_early (h refl).0 (nat_lt c ctx.known)
      (signature_offer g (class_signature ctx.classes c)) (signature_codes e g (class_signature ctx.classes c))
  name_codes e ctx env g (meaning.Builtin b) h = builtin_codes e g b h
  name_codes e ctx env g (meaning.Local x) h = values_codes e (h refl).0
      (members (name_label ctx env (meaning.Local x)).type)
  name_codes e ctx env g (meaning.Const i) h = values_codes e (h refl).0
      (members (name_label ctx env (meaning.Const i)).type)
  name_codes e ctx env g meaning.None h = values_codes e (h refl).0 (members (name_label ctx env meaning.None).type)

-- whether a callee is the name `len`
abbrev pub is_length_called : Context → Expr → Test
is_length_called ctx (name n) = is_length (ctx.resolve n.text)
is_length_called ctx _ = false

module _ (P : Code → Type 0) (ctx : Context) (env : Env) (g : GivenArguments) where
  pub callee_codes : P E14 → (c : Expr) (value : Labels c) → (is_length_called ctx c ≡ false → P A6 × P E27)
      → AllByRecursion P (flat_map (λ (o : CallOffer). o.at_call) (callee_of ctx env g c value).offers)
  callee_codes e (name n) value h = name_codes P e ctx env g (ctx.resolve n.text) h
  callee_codes e (attribute p q field) value h = attribute_codes P e (h refl).0 ctx g field.text ctx.in_body
      (type_of q value.object)
  callee_codes e c value h = other_codes P e (h refl).0 ctx.in_body (whole_label c value)

-- ---- the rule of a call

-- either callee has another rule than `len`
neither_length : (b : Test) (x y : CalleeLabel) {X : Type 0} → (x.rule ≡ length_rule → X) → (y.rule ≡ length_rule → X)
    → (if b then x else y).rule ≡ length_rule → X
neither_length true x y h k e = h e
neither_length false x y h k e = k e

built_length : (g : GivenArguments) (b : Builtin) → (builtin_callee g b).rule ≡ length_rule → is_one g ≡ true
built_length g builtin.Len e = go (is_one g) e
  where
    go : (c : Test) → (if c then own_callee length_rule else good_callee (fails_at_call E14 ∷ [])).rule ≡ length_rule
        → c ≡ true
    go true e = refl
    go false e = absurd (cc e)
built_length g builtin.IsInstance e = neither_length (is_two g) (own_callee test_rule)
    (good_callee (fails_at_call E14 ∷ [])) (λ k. absurd (cc k)) (λ k. absurd (cc k)) e
built_length g _ e = absurd (cc e)

named_length : (ctx : Context) (env : Env) (g : GivenArguments) (r : NameMeaning)
    → (name_callee ctx env g r).rule ≡ length_rule → is_one g ≡ true
named_length ctx env g (meaning.Func i) e = neither_length ctx.in_body
    (good_callee (function_offer g (slice_get ctx.functions i) ∷ [])) (value_callee (in_error E03))
    (λ k. absurd (cc k)) (λ k. absurd (cc k)) e
named_length ctx env g (meaning.Class c) e = neither_length (nat_lt c ctx.known)
    (good_callee (signature_offer g (class_signature ctx.classes c) ∷ [])) (value_callee (in_error E03))
    (λ k. absurd (cc k)) (λ k. absurd (cc k)) e
named_length ctx env g (meaning.Builtin b) e = built_length g b e
named_length ctx env g (meaning.Local x) e = absurd (cc e)
named_length ctx env g (meaning.Const i) e = absurd (cc e)
named_length ctx env g meaning.None e = absurd (cc e)

-- a call by the rule of `len` has one argument
pub called_length : (ctx : Context) (env : Env) (g : GivenArguments) (c : Expr) (value : Labels c)
    → (callee_of ctx env g c value).rule ≡ length_rule → is_one g ≡ true
called_length ctx env g (name n) value e = named_length ctx env g (ctx.resolve n.text) e
called_length ctx env g (attribute p q field) value e = neither_length ctx.in_body
    (method_callee ctx g field.text (type_of q value.object)) (value_callee (in_error E03)) (λ k. absurd (cc k))
    (λ k. absurd (cc k)) e
called_length ctx env g c value e = neither_length ctx.in_body (value_callee (whole_label c value))
    (value_callee (in_error E03)) (λ k. absurd (cc k)) (λ k. absurd (cc k)) e

module _ (m : Module) (known : Known) (resolve : List ℕ → NameMeaning) where
  -- of one argument there is a first
  pub first_measured : (args : Exprs) (named : List (List ℕ))
      → is_one (record { positional = count_exprs args; named = named }) ≡ true
      → IsThere (length_of_first m known resolve args)
  first_measured no_exprs named h = none_is_one named h
    where
      none_is_one : (named : List (List ℕ)) → is_one (record { positional = 0; named = named }) ≡ true
          → IsThere (length_of_first m known resolve no_exprs)
      none_is_one named h = absurd (cc (sym h ∙ ap (λ (b : Test). b && has_none named) (eqb-zero-suc 0)))
  first_measured (more_exprs e rest) named h = refl

-- ---- the codes of the whole call

-- the code of a test of an instance has a detail, if the first argument is a local
tested_codes : (Q : Code → Type 0) (known : Known) (ctx : Context) (env : Env) (o : Option Expr) (test : Option Tested)
    → (IsThere (option_and_then (tested_local known) o) → Q A7)
    → AllByRecursion Q (test_codes env (local_of_argument ctx.resolve o) test)
tested_codes Q known ctx env o None h = tt
tested_codes Q known ctx env o (Some for_none) h = tt
tested_codes Q known ctx env o (Some (for_type t)) h = tt
tested_codes Q known ctx env None (Some for_list) h = tt
tested_codes Q known ctx env (Some (name n)) (Some for_list) h = go (current_of env (local_named ctx.resolve (name n)))
  where
    go : (t : Option Tree) → AllByRecursion Q (any_list_codes t)
    go None = tt
    go (Some t) = in_both (AllByRecursion Q) (list_any is_object_or_any (members t)) (A7 ∷ []) [] (h refl, tt) tt
tested_codes Q known ctx env (Some e) (Some for_list) h = tt

module _ (Q : Code → Type 0) (known : Known) (ctx : Context) (env : Env) (arguments : Exprs) (types : List Tree) where
  -- a fact of a code, if it holds of E14 wherever a call is wrong
  abbrev Unless14 : Code → Type 0
  Unless14 c = (c ≡ E14 → Q E14) → Q c

  by_members : (os : List CallOffer) → (is_wrong os ≡ true → Q E14)
      → AllByRecursion Unless14 (flat_map (λ (o : CallOffer). o.at_call) os) → (c : Code) → Contains (call_codes os) c
      → Q c
  by_members os wrong each c h = go (has_none (flat_map (λ (o : CallOffer). o.at_callee) os)) h
    where
      go : (b : Test) → Contains (if b then flat_map (λ (o : CallOffer). o.at_call) os else []) c → Q c
      go true h = all_pick Unless14 (flat_map (λ (o : CallOffer). o.at_call) os) c each h
          (λ e. wrong (code_among (flat_map (λ (o : CallOffer). o.at_call) os) E14
          (subst (Contains (flat_map (λ (o : CallOffer). o.at_call) os)) e h)))
      go false h = absurd (none_among c h)

  pub whole_codes : (rule : CallRule) (os : List CallOffer) → (is_wrong os ≡ true → Q E14)
      → AllByRecursion Unless14 (flat_map (λ (o : CallOffer). o.at_call) os) → (rule ≡ length_rule → Q A6 × Q E27)
      → (IsThere (option_and_then (tested_local known) (first_argument arguments)) → Q A7) → (c : Code)
      → Contains (whole_call_label ctx env rule os arguments types).codes c → Q c
  whole_codes member_rule os wrong each length tested c h = by_members os wrong each c h
  whole_codes length_rule os wrong each length tested c h =
      let codes = (offers_label ctx.bases (map length_member (members (first_type types)))).codes in
      all_pick Q codes c (measured_codes Q (length refl).0 (length refl).1 ctx.bases (members (first_type types))) h
  whole_codes test_rule os wrong each length tested c h =
      let test = test_of_argument ctx.resolve (second_argument arguments) in
      all_pick Q (test_codes env (local_of_argument ctx.resolve (first_argument arguments)) test) c
      (tested_codes Q known ctx env (first_argument arguments) test tested) h
