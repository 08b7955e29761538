-- The types that calls give, and that their arguments flow into, are well-formed.
use Rattle.std.proofs.Common.{◌++◌, ℕ, zero, suc, Bool as Test, true, false, List, [], ◌∷◌, Option, Some, None}
use Rattle.std.proofs.lemmas.Bool.{cond_both}
use Rattle.std.specs.Prelude.{if◌then◌else◌, nat_lt, slice_get, map, flat_map, codes, bytes_eq}
use Rattle.pc_tree.specs.declared.code.Code.{Code}
use Rattle.pc_tree.specs.declared.code.Code.TheVariants.{A4, A6, E03, E14, E15, E27}
use Rattle.pc_tree.specs.Tree.{Name, Expr, Exprs, name, attribute}
use Rattle.pc_tree.specs.Stopping.{has_none}
use Rattle.pc_scope.specs.declared.resolution.Builtin.{Builtin}
use Rattle.pc_scope.specs.declared.resolution.Builtin.TheVariants as builtin
use Rattle.pc_scope.specs.declared.resolution.NameMeaning.{NameMeaning}
use Rattle.pc_scope.specs.declared.resolution.NameMeaning.TheVariants as meaning
use Rattle.pc_scope.specs.Resolution.{is_one_of}
use Rattle.pc_types.specs.Tree.{Tree, Any, Str, NoneType, Class, ListOf, DictOf}
use Rattle.pc_types.specs.Below.{Bases, AreSmaller}
use Rattle.pc_types.specs.Shape.{members}
use Rattle.pc_class.specs.Facts as facts
use Rattle.pc_class.specs.Facts.{TypedParameter, Method, field_by_name, method_by_name, class_facts_at}
use Rattle.pc_flow.specs.Environment.{Env, join_or_object}
use Rattle.pc_rules.specs.Operations.{Label, in_error, has_error, length_member}
use Rattle.pc_rules.specs.Context.{Context, Signature, name_label}
use Rattle.pc_rules.specs.Calls.{GivenArguments, is_suited, CallOffer, fails_at_call, fails_at_callee, signature_offer}
use Rattle.pc_rules.specs.Calls.{value_offer, value_offers, class_signature, method_signature, unnamed_parameter}
use Rattle.pc_rules.specs.Calls.{builtin_signature, class_offers, list_offers, dict_offers, method_offers, is_one}
use Rattle.pc_rules.specs.Calls.{builtin_callee, is_two, CallRule, member_rule, length_rule, test_rule, own_callee}
use Rattle.pc_rules.specs.Calls.{first_type, CalleeLabel, function_offer, value_callee, good_callee, name_callee}
use Rattle.pc_rules.specs.Calls.{method_callee, all_codes, call_label, signatures, Seat, only_member, expected_type}
use Rattle.pc_rules.specs.Calls.{parameter_type, positional_seat, named_seat, nowhere, length_label, plain_call}
use Rattle.pc_rules.specs.Labels.{Labels, whole_label, type_of}
use Rattle.pc_rules.specs.Lawful.{callee_of, whole_call_label, keyword_seat}
use Rattle.pc_types.specs.WellFormed.{IsWellFormed}
use Rattle.pc_flow.specs.WellFormed.{IsWellFormedIfAny, IsWellFormedEnv, AreWellFormed}
use Rattle.pc_flow.proofs.Conditions.{join_object_well_formed}
use Rattle.pc_rules.proofs.WellFormed.{any_well_formed, never_well_formed, bool_well_formed, str_well_formed}
use Rattle.pc_rules.proofs.WellFormed.{none_well_formed, class_well_formed, item_well_formed, key_well_formed}
use Rattle.pc_rules.proofs.WellFormed.{value_well_formed, members_well_formed, append_well_formed, if_any}
use Rattle.pc_rules.proofs.WellFormed.{all_well_formed}
use Rattle.pc_rules.proofs.Names.{name_well_formed}
use Rattle.pc_rules.proofs.OfferedTypes.{ParameterWellFormed, FoundMethodWellFormed, field_well_formed}
use Rattle.pc_rules.proofs.OfferedTypes.{method_well_formed, each_well_formed, length_well_formed, offers_well_formed}
use Rattle.pc_class.specs.WellFormed.{ParametersWellFormed, ClassesWellFormed}
use Rattle.pc_class.proofs.WellFormed.{class_at_well_formed}
use Rattle.pc_rules.specs.Laws.WellFormed.{SignatureWellFormed, SignaturesWellFormed, ContextWellFormed}

-- the result of a call on one member has well-formed types
pub record CallWellFormed (bases : Bases) (o : CallOffer) : Type 0 where
  pub gives : IsWellFormed bases o.gives
  pub calls : SignaturesWellFormed bases o.calls

-- likewise on each
abbrev pub CallsWellFormed : Bases → List CallOffer → Type 0
CallsWellFormed bases [] = Unit {0}
CallsWellFormed bases (o ∷ os) = CallWellFormed bases o × CallsWellFormed bases os

-- the expected type of a seat, and the types that it flows into, are well-formed
pub record SeatWellFormed (bases : Bases) (s : Seat) : Type 0 where
  pub want : IsWellFormedIfAny bases s.want
  pub into : AreWellFormed bases s.into

module _ (bases : Bases) where
  -- ---- offers of a call
  plain : {o : CallOffer} → IsWellFormed bases o.gives → SignaturesWellFormed bases o.calls → CallWellFormed bases o
  plain g t = record { gives = g; calls = t }

  pub called_well_formed : (g : GivenArguments) (s : Signature) → SignatureWellFormed bases s
      → CallWellFormed bases (signature_offer g s)
  called_well_formed g s h = cond_both (is_suited g s) (record {
    at_callee = [];
    at_call = [];
    gives = s.returns;
    calls = s ∷ [];
  }) (fails_at_call E14) (CallWellFormed bases) (λ e. plain h.returns (h, tt))
      (λ e. plain (any_well_formed bases) tt)

  value_kept_by : (t : Tree) → CallWellFormed bases (value_offer t)
  value_kept_by Any = plain (any_well_formed bases) tt
  value_kept_by _ = plain (any_well_formed bases) tt

  values_well_formed : (ts : List Tree) → CallsWellFormed bases (map value_offer ts)
  values_well_formed [] = tt
  values_well_formed (t ∷ ts) = (value_kept_by t, values_well_formed ts)

  called_value : (t : Tree) → CallsWellFormed bases (value_offers t)
  called_value t = values_well_formed (members t)

  class_signature_well_formed : (cs : List facts.ClassFacts) → ClassesWellFormed bases cs → (c : ℕ)
      → SignatureWellFormed bases (class_signature cs c)
  class_signature_well_formed cs h c = record {
    parameters = (class_at_well_formed bases cs c h).fields;
    returns =
        class_well_formed bases c;
  }

  unnamed_well_formed : (ts : List Tree) → AreWellFormed bases ts
      → ParametersWellFormed bases (map unnamed_parameter ts)
  unnamed_well_formed [] h = tt
  unnamed_well_formed (t ∷ ts) h = (h.0, unnamed_well_formed ts h.1)

  pub builtin_well_formed : (ts : List Tree) (t : Tree) → AreWellFormed bases ts → IsWellFormed bases t
      → SignatureWellFormed bases (builtin_signature ts t)
  builtin_well_formed ts t h k = record { parameters = unnamed_well_formed ts h; returns = k }

  class_calls : (g : GivenArguments) (m : Option Method) (f : Option TypedParameter) → FoundMethodWellFormed bases m
      → CallsWellFormed bases (class_offers g m f)
  class_calls g (Some m) f h = (
    called_well_formed g (method_signature m)
        (record { parameters = h.parameters; returns = h.returns }),
    tt,
  )
  class_calls g None (Some f) h = called_value f.type
  class_calls g None None h = (plain (any_well_formed bases) tt, tt)

  if_calls : (b : Test) (os ps : List CallOffer) → CallsWellFormed bases os → CallsWellFormed bases ps
      → CallsWellFormed bases (if b then os else ps)
  if_calls true os ps h k = h
  if_calls false os ps h k = k

  fails_well_formed : (code : Code) → CallsWellFormed bases (fails_at_callee code ∷ [])
  fails_well_formed code = (plain (any_well_formed bases) tt, tt)

  list_calls : (g : GivenArguments) (word : List ℕ) (t : Tree) → IsWellFormed bases t
      → CallsWellFormed bases (list_offers g word t)
  list_calls g word t h =
      if_calls (bytes_eq word (codes "append")) _ _ (
        called_well_formed g (builtin_signature (t ∷ []) NoneType)
            (builtin_well_formed (t ∷ []) NoneType (h, tt) (none_well_formed bases)),
        tt,
      )
      (if_calls (bytes_eq word (codes "pop")) _ _ (
        called_well_formed g (builtin_signature [] t)
            (builtin_well_formed [] t tt h),
        tt,
      ) (fails_well_formed E15))

  if_call : (b : Test) (o p : CallOffer) → CallWellFormed bases o → CallWellFormed bases p
      → CallWellFormed bases (if b then o else p)
  if_call true o p h k = h
  if_call false o p h k = k

  call_fails : (code : Code) → CallWellFormed bases (fails_at_call code)
  call_fails code = plain (any_well_formed bases) tt

  if_offers : (b : Test) (c d : CalleeLabel) → CallsWellFormed bases c.offers → CallsWellFormed bases d.offers
      → CallsWellFormed bases (if b then c else d).offers
  if_offers true c d h k = h
  if_offers false c d h k = k

  -- of a built-in
  built_in : (g : GivenArguments) (b : Builtin) → CallsWellFormed bases (builtin_callee g b).offers
  built_in g builtin.Print = (
    if_call (has_none g.named) (plain_call NoneType) (fails_at_call E14)
        (plain (none_well_formed bases) tt) (call_fails E14),
    tt,
  )
  built_in g builtin.Str = (
    if_call (is_one g) (plain_call Str) (fails_at_call E14) (plain (str_well_formed bases) tt)
        (call_fails E14),
    tt,
  )
  built_in g builtin.Len = if_offers (is_one g) (own_callee length_rule) (good_callee (fails_at_call E14 ∷ [])) tt
      (call_fails E14, tt)
  built_in g builtin.IsInstance = if_offers (is_two g) (own_callee test_rule) (good_callee (fails_at_call E14 ∷ [])) tt
      (call_fails E14, tt)
  built_in g builtin.Range = (
    if_call (is_one g) (fails_at_call E27) (fails_at_call E14) (call_fails E27)
        (call_fails E14),
    tt,
  )
  built_in g _ = called_value Any

  append_calls : (os ps : List CallOffer) → CallsWellFormed bases os → CallsWellFormed bases ps
      → CallsWellFormed bases (os ++ ps)
  append_calls [] ps h k = k
  append_calls (o ∷ os) ps h k = (h.0, append_calls os ps h.1 k)

  -- ---- types that arguments flow into
  signatures_append : (ss ts : List Signature) → SignaturesWellFormed bases ss → SignaturesWellFormed bases ts
      → SignaturesWellFormed bases (ss ++ ts)
  signatures_append [] ts h k = k
  signatures_append (s ∷ ss) ts h k = (h.0, signatures_append ss ts h.1 k)

  all_calls : (os : List CallOffer) → CallsWellFormed bases os → SignaturesWellFormed bases (flat_map (λ o. o.calls) os)
  all_calls [] h = tt
  all_calls (o ∷ os) h = signatures_append o.calls _ h.0.calls (all_calls os h.1)

  if_signatures : (b : Test) (ss : List Signature) → SignaturesWellFormed bases ss
      → SignaturesWellFormed bases (if b then [] else ss)
  if_signatures true ss h = tt
  if_signatures false ss h = h

  called_signatures : (os : List CallOffer) → CallsWellFormed bases os → SignaturesWellFormed bases (signatures os)
  called_signatures os h = if_signatures (has_error (all_codes os)) _ (all_calls os h)

  parameter_at : (ps : List TypedParameter) (k : ℕ) → ParametersWellFormed bases ps
      → ParameterWellFormed bases (slice_get ps k)
  parameter_at [] k h = tt
  parameter_at (p ∷ ps) zero h = h.0
  parameter_at (p ∷ ps) (suc k) h = parameter_at ps k h.1

  type_at_well_formed : (p : Option TypedParameter) → ParameterWellFormed bases p → AreWellFormed bases (parameter_type p)
  type_at_well_formed None h = tt
  type_at_well_formed (Some p) h = (h, tt)

  types_well_formed : (f : Signature → Option TypedParameter) → ((s : Signature) → SignatureWellFormed bases s
      → ParameterWellFormed bases (f s)) → (ss : List Signature) → SignaturesWellFormed bases ss
      → AreWellFormed bases (flat_map (λ s. parameter_type (f s)) ss)
  types_well_formed f g [] h = tt
  types_well_formed f g (s ∷ ss) h = append_well_formed bases (parameter_type (f s)) _ (type_at_well_formed (f s) (g s h.0))
      (types_well_formed f g ss h.1)

  wanted_well_formed : (b : Test) (ts : List Tree) → AreWellFormed bases ts
      → IsWellFormedIfAny bases (expected_type b ts)
  wanted_well_formed true [] h = tt
  wanted_well_formed true (t ∷ []) h = h.0
  wanted_well_formed true (t ∷ u ∷ ts) h = tt
  wanted_well_formed false ts h = tt

  seat_of : (os : List CallOffer) (ts : List Tree) → AreWellFormed bases ts
      → SeatWellFormed bases (record { want = expected_type (only_member os) ts; into = ts })
  seat_of os ts h = record { want = wanted_well_formed (only_member os) ts h; into = h }

  pub positional_well_formed : (os : List CallOffer) → CallsWellFormed bases os → (k : ℕ)
      → SeatWellFormed bases (positional_seat os k)
  positional_well_formed os h k = seat_of os _ (types_well_formed (λ s. slice_get s.parameters k)
      (λ s g. parameter_at s.parameters k g.parameters) (signatures os) (called_signatures os h))

  pub named_well_formed : (os : List CallOffer) → CallsWellFormed bases os → (word : List ℕ)
      → SeatWellFormed bases (named_seat os word)
  named_well_formed os h word = seat_of os _ (types_well_formed (λ s. field_by_name s.parameters word)
      (λ s g. field_well_formed bases s.parameters word g.parameters) (signatures os) (called_signatures os h))

  pub nowhere_well_formed : SeatWellFormed bases nowhere
  nowhere_well_formed = record { want = tt; into = tt }

  if_seat : (b : Test) (s t : Seat) → SeatWellFormed bases s → SeatWellFormed bases t
      → SeatWellFormed bases (if b then s else t)
  if_seat true s t h k = h
  if_seat false s t h k = k

  pub keyword_well_formed : (seat : List ℕ → Seat) → ((word : List ℕ) → SeatWellFormed bases (seat word))
      → (before : List (List ℕ)) (n : Name) → SeatWellFormed bases (keyword_seat seat before n)
  keyword_well_formed seat h before n = if_seat (is_one_of n.text before) nowhere (seat n.text) nowhere_well_formed
      (h n.text)

  call_gives : (os : List CallOffer) → CallsWellFormed bases os → AreWellFormed bases (map (λ o. o.gives) os)
  call_gives [] h = tt
  call_gives (o ∷ os) h = (h.0.gives, call_gives os h.1)

  module _ (o : AreSmaller bases) where
    dict_calls : (g : GivenArguments) (word : List ℕ) (k v : Tree) → IsWellFormed bases k → IsWellFormed bases v
        → CallsWellFormed bases (dict_offers bases g word k v)
    dict_calls g word k v h j =
        if_calls (bytes_eq word (codes "get")) _ _ (
          called_well_formed g
              (builtin_signature (k ∷ []) (join_or_object bases v NoneType))
              (builtin_well_formed (k ∷ []) (join_or_object bases v NoneType) (h, tt)
              (join_object_well_formed bases v NoneType o j (none_well_formed bases))),
          tt,
        ) (fails_well_formed E15)

    call_well_formed : (os : List CallOffer) → CallsWellFormed bases os → IsWellFormed bases (call_label bases os).type
    call_well_formed os h = if_any bases (has_error (all_codes os)) _ (all_well_formed bases o _ (call_gives os h))

    first_well_formed : (ts : List Tree) → AreWellFormed bases ts → IsWellFormed bases (first_type ts)
    first_well_formed [] h = never_well_formed bases
    first_well_formed (t ∷ ts) h = h.0

    length_label_well_formed : (ts : List Tree) → AreWellFormed bases ts
        → IsWellFormed bases (length_label bases ts).type
    length_label_well_formed ts h = offers_well_formed bases o _
        (each_well_formed bases length_member (length_well_formed bases) (first_type ts) (first_well_formed ts h))

module _ (ctx : Context) (ck : ContextWellFormed ctx) where
  pub whole_call_well_formed : (env : Env) (rule : CallRule) (os : List CallOffer) (args : Exprs) (ts : List Tree)
      → CallsWellFormed ctx.bases os → AreWellFormed ctx.bases ts
      → IsWellFormed ctx.bases (whole_call_label ctx env rule os args ts).type
  whole_call_well_formed env member_rule os args ts h k = call_well_formed ctx.bases ck.smaller os h
  whole_call_well_formed env length_rule os args ts h k = length_label_well_formed ctx.bases ck.smaller ts k
  whole_call_well_formed env test_rule os args ts h k = bool_well_formed ctx.bases

  method_calls : (g : GivenArguments) (word : List ℕ) (t : Tree) → IsWellFormed ctx.bases t
      → CallsWellFormed ctx.bases (method_offers ctx g word t)
  method_calls g word (Class c) h = class_calls ctx.bases g (method_by_name (class_facts_at ctx.classes c).methods word)
      (field_by_name (class_facts_at ctx.classes c).fields word)
      (method_well_formed ctx.bases (class_facts_at ctx.classes c).methods word
      (class_at_well_formed ctx.bases ctx.classes c ck.classes).methods)
  method_calls g word (ListOf t) h = list_calls ctx.bases g word t (item_well_formed ctx.bases t h)
  method_calls g word (DictOf k v) h = dict_calls ctx.bases ck.smaller g word k v (key_well_formed ctx.bases k v h)
      (value_well_formed ctx.bases k v h)
  method_calls g word Any h = fails_well_formed ctx.bases A4
  method_calls g word _ h = fails_well_formed ctx.bases E15

  each_method : (g : GivenArguments) (word : List ℕ) (ts : List Tree) → AreWellFormed ctx.bases ts
      → CallsWellFormed ctx.bases (flat_map (method_offers ctx g word) ts)
  each_method g word [] h = tt
  each_method g word (t ∷ ts) h = append_calls ctx.bases (method_offers ctx g word t) _ (method_calls g word t h.0)
      (each_method g word ts h.1)

  function_well_formed : (g : GivenArguments) (ss : List Signature) (i : ℕ) → SignaturesWellFormed ctx.bases ss
      → CallWellFormed ctx.bases (function_offer g (slice_get ss i))
  function_well_formed g [] i h = call_fails ctx.bases A6
  function_well_formed g (s ∷ ss) zero h = called_well_formed ctx.bases g s h.0
  function_well_formed g (s ∷ ss) (suc i) h = function_well_formed g ss i h.1

  name_calls : (env : Env) (g : GivenArguments) (r : NameMeaning) → CallsWellFormed ctx.bases (name_callee ctx env g r).offers
  name_calls env g (meaning.Func i) = if_offers ctx.bases ctx.in_body
      (good_callee (function_offer g (slice_get ctx.functions i) ∷ [])) (value_callee (in_error E03))
      (function_well_formed g ctx.functions i ck.functions, tt) (called_value ctx.bases Any)
  name_calls env g (meaning.Class c) = if_offers ctx.bases (nat_lt c ctx.known)
      (good_callee (signature_offer g (class_signature ctx.classes c) ∷ [])) (value_callee (in_error E03)) (
        called_well_formed ctx.bases g (class_signature ctx.classes c)
            (class_signature_well_formed ctx.bases ctx.classes ck.classes c),
        tt,
      ) (called_value ctx.bases Any)
  name_calls env g (meaning.Builtin b) = built_in ctx.bases g b
  name_calls env g (meaning.Local x) = called_value ctx.bases (name_label ctx env (meaning.Local x)).type
  name_calls env g (meaning.Const i) = called_value ctx.bases (name_label ctx env (meaning.Const i)).type
  name_calls env g meaning.None = called_value ctx.bases Any

  value_calls : (m : Label) → CallsWellFormed ctx.bases (if ctx.in_body then value_callee m else value_callee
      (in_error E03)).offers
  value_calls m = if_offers ctx.bases ctx.in_body (value_callee m) (value_callee (in_error E03))
      (called_value ctx.bases m.type) (called_value ctx.bases Any)

  -- of a callee that is an attribute its object's type is well-formed
  abbrev pub ObjectWellFormed : (e : Expr) → Labels e → Type 0
  ObjectWellFormed (attribute p e f) m = IsWellFormed ctx.bases (type_of e m.object)
  ObjectWellFormed _ m = Unit {0}

  pub callee_well_formed : (env : Env) (g : GivenArguments) (e : Expr) (m : Labels e) → ObjectWellFormed e m
      → CallsWellFormed ctx.bases (callee_of ctx env g e m).offers
  callee_well_formed env g (name n) m h = name_calls env g (ctx.resolve n.text)
  callee_well_formed env g (attribute p e f) m h = if_offers ctx.bases ctx.in_body
      (method_callee ctx g f.text (type_of e m.object)) (value_callee (in_error E03))
      (each_method g f.text (members (type_of e m.object)) (members_well_formed ctx.bases (type_of e m.object) h))
      (called_value ctx.bases Any)
  callee_well_formed env g e m h = value_calls (whole_label e m)

  -- ---- the label of a callee

  if_label : (b : Test) (c d : CalleeLabel) → IsWellFormed ctx.bases c.label.type → IsWellFormed ctx.bases d.label.type
      → IsWellFormed ctx.bases (if b then c else d).label.type
  if_label true c d h k = h
  if_label false c d h k = k

  built_in_label : (g : GivenArguments) (b : Builtin) → IsWellFormed ctx.bases (builtin_callee g b).label.type
  built_in_label g builtin.Len = if_label (is_one g) (own_callee length_rule) (good_callee (fails_at_call E14 ∷ []))
      (any_well_formed ctx.bases) (any_well_formed ctx.bases)
  built_in_label g builtin.IsInstance = if_label (is_two g) (own_callee test_rule)
      (good_callee (fails_at_call E14 ∷ [])) (any_well_formed ctx.bases) (any_well_formed ctx.bases)
  built_in_label g _ = any_well_formed ctx.bases

  name_callee_label : (env : Env) → IsWellFormedEnv ctx.bases env → (g : GivenArguments) (r : NameMeaning)
      → IsWellFormed ctx.bases (name_callee ctx env g r).label.type
  name_callee_label env k g (meaning.Func i) = if_label ctx.in_body
      (good_callee (function_offer g (slice_get ctx.functions i) ∷ [])) (value_callee (in_error E03))
      (any_well_formed ctx.bases) (any_well_formed ctx.bases)
  name_callee_label env k g (meaning.Class c) = if_label (nat_lt c ctx.known)
      (good_callee (signature_offer g (class_signature ctx.classes c) ∷ [])) (value_callee (in_error E03))
      (any_well_formed ctx.bases) (any_well_formed ctx.bases)
  name_callee_label env k g (meaning.Builtin b) = built_in_label g b
  name_callee_label env k g (meaning.Local x) = name_well_formed ctx ck env k (meaning.Local x)
  name_callee_label env k g (meaning.Const i) = name_well_formed ctx ck env k (meaning.Const i)
  name_callee_label env k g meaning.None = name_well_formed ctx ck env k meaning.None

  pub callee_label_well_formed : (env : Env) → IsWellFormedEnv ctx.bases env
      → (g : GivenArguments) (e : Expr) (m : Labels e) → IsWellFormed ctx.bases (type_of e m)
      → IsWellFormed ctx.bases (callee_of ctx env g e m).label.type
  callee_label_well_formed env k g (name n) m h = name_callee_label env k g (ctx.resolve n.text)
  callee_label_well_formed env k g (attribute p e f) m h = if_label ctx.in_body
      (method_callee ctx g f.text (type_of e m.object)) (value_callee (in_error E03)) (any_well_formed ctx.bases)
      (any_well_formed ctx.bases)
  callee_label_well_formed env k g e m h = if_label ctx.in_body (value_callee (whole_label e m))
      (value_callee (in_error E03)) h (any_well_formed ctx.bases)
