-- The codes of the label of an expression that is no name, in an initializer: none of them is silent everywhere.
use Rattle.std.proofs.Common.{◌≡◌, ℕ, List, [], ◌∷◌, ◌++◌, map, sym, subst, inl, inr, arith}
use Rattle.std.specs.Prelude.{Bool as Test, true, false, ◌||◌, if◌then◌else◌, nat_le, nat_lt, Option, Some, None}
use Rattle.std.specs.Prelude.{slice_get, flat_map, Contains}
use Rattle.std.specs.List.{list_any}
use Rattle.pc_tree.proofs.Among.{none_among, among_first}
use Rattle.pc_tree.specs.declared.code.Code.{Code}
use Rattle.pc_tree.specs.declared.code.Code.TheVariants.{A2, A7, E03, E13, E14, E26, E27}
use Rattle.pc_tree.specs.declared.tree.ComparisonOperator.{ComparisonOperator}
use Rattle.pc_tree.specs.declared.tree.ComparisonOperator.TheVariants.{Equal, NotEqual, In, NotIn}
use Rattle.pc_tree.specs.Tree.{Expr, Exprs, name, number, text, truth, nothing, tuple, list, dict, negative, negation}
use Rattle.pc_tree.specs.Tree.{binary, compare, is_none, is_not_none, conjunction, disjunction, attribute, index, call}
use Rattle.pc_tree.specs.Stopping.{has_none}
use Rattle.pc_scope.specs.declared.resolution.Builtin.{Builtin}
use Rattle.pc_scope.specs.declared.resolution.Builtin.TheVariants as builtin
use Rattle.pc_scope.specs.declared.resolution.NameMeaning.{NameMeaning}
use Rattle.pc_scope.specs.declared.resolution.NameMeaning.TheVariants as meaning
use Rattle.pc_scope.specs.Expressions.{is_name}
use Rattle.pc_types.specs.Tree.{Tree, Any, Never, Int, Bool, Str, NoneType, Class, ListOf, DictOf, TupleOf}
use Rattle.pc_types.specs.Below.{Bases}
use Rattle.pc_types.specs.Shape.{members, nodes, node_limit, trees}
use Rattle.pc_class.specs.Facts.{TypedParameter, Method, field_by_name, method_by_name, class_facts_at}
use Rattle.pc_flow.specs.Environment.{Env}
use Rattle.pc_flow.specs.Narrowing.{Tested, for_list, test_of_argument, local_of_argument, first_argument}
use Rattle.pc_flow.specs.Narrowing.{second_argument}
use Rattle.pc_rules.specs.Operations.{Label, clean, in_error, Offer, found_of, offers_label, index_member}
use Rattle.pc_rules.specs.Operations.{attribute_found, attribute_member}
use Rattle.pc_rules.specs.Operations.{contain_member}
use Rattle.pc_rules.specs.Operations.{length_member, negative_member, Kind, kind_of, kind_type, row_of_kinds}
use Rattle.pc_rules.specs.Operations.{pair_found, pair_offers, pairs_label, takes_kind, is_never, is_any, is_dynamic}
use Rattle.pc_rules.specs.Operations.{display_label}
use Rattle.pc_rules.specs.Context.{Context, Signature, name_label}
use Rattle.pc_rules.specs.Calls.{GivenArguments, arguments_given, CallOffer, signature_offer, is_suited, plain_call}
use Rattle.pc_rules.specs.Calls.{fails_at_call, value_offer, class_signature}
use Rattle.pc_rules.specs.Calls.{CallRule}
use Rattle.pc_rules.specs.Calls.{member_rule, length_rule, test_rule, own_callee, builtin_callee, function_offer}
use Rattle.pc_rules.specs.Calls.{name_callee, method_callee, value_callee, good_callee, is_one, is_two, call_codes}
use Rattle.pc_rules.specs.Calls.{length_label, first_type, test_codes, any_list_codes, current_of, is_object_or_any}
use Rattle.pc_rules.specs.Labels.{Labels, whole_label, type_of, item_types}
use Rattle.pc_rules.specs.Lawful.{Lawful, KeyValue, list_item, dict_parts, members_of_expected, list_label, DictLabel}
use Rattle.pc_rules.specs.Lawful.{no_keys, int_keys, str_keys, other_keys, DictRule, int_literal, compare_label}
use Rattle.pc_rules.specs.Lawful.{callee_of, whole_call_label}
use Rattle.pc_sound.specs.Silent.{IsSilentCode}

-- none of these codes is silent everywhere
abbrev pub Heard : List Code → Type 0
Heard [] = Unit {0}
Heard (c ∷ cs) = (¬ (IsSilentCode c)) × Heard cs

no : ⊥ → ⊥
no h = h

-- none of the codes in such a list is silent everywhere
pub heard_code : (cs : List Code) (c : Code) → Heard cs → Contains cs c → ¬ (IsSilentCode c)
heard_code [] c h among = absurd (none_among c among)
heard_code (d ∷ cs) c h among = elim (among_first d cs c among) [
  | inl e ↦ subst (λ x. ¬ (IsSilentCode x)) e h.0
  | inr r ↦ heard_code cs c h.1 r
]

append_heard : (cs ds : List Code) → Heard cs → Heard ds → Heard (cs ++ ds)
append_heard [] ds h k = k
append_heard (c ∷ cs) ds h k = (h.0, append_heard cs ds h.1 k)

display_heard : (t : Tree) → Heard (display_label t).codes
display_heard t = go (nat_le (nodes t) node_limit)
  where
    go : (x : Test) → Heard (if x then clean t else in_error E26).codes
    go true = tt
    go false = (no, tt)

-- ---- operations

abbrev AllFound : List Offer → Type 0
AllFound [] = Unit {0}
AllFound (o ∷ os) = Heard o.found × AllFound os

found_heard : (os : List Offer) → AllFound os → Heard (found_of os)
found_heard [] h = tt
found_heard (o ∷ os) h = append_heard o.found (found_of os) h.0 (found_heard os h.1)

each_found : (offer : Tree → Offer) → ((t : Tree) → Heard (offer t).found) → (ms : List Tree) → AllFound (map offer ms)
each_found offer each [] = tt
each_found offer each (t ∷ ms) = (each t, each_found offer each ms)

operation_heard : (bases : Bases) (offer : Tree → Offer) → ((t : Tree) → Heard (offer t).found) → (t : Tree)
    → Heard (offers_label bases (map offer (members t))).codes
operation_heard bases offer each t = found_heard (map offer (members t)) (each_found offer each (members t))

index_heard : (bases : Bases) (literal : Option ℕ) (t : Tree) → Heard (index_member bases literal t).found
index_heard bases literal (ListOf t) = tt
index_heard bases literal Str = tt
index_heard bases literal (TupleOf ts) = tt
index_heard bases literal (DictOf k v) = tt
index_heard bases literal Any = (no, tt)
index_heard bases literal _ = (no, tt)

attribute_heard : (f : Option TypedParameter) (m : Option Method) → Heard (attribute_found f m).found
attribute_heard (Some f) m = tt
attribute_heard None (Some m) = (no, tt)
attribute_heard None None = (no, tt)

contain_heard : (t : Tree) → Heard (contain_member t).found
contain_heard Str = tt
contain_heard (DictOf k v) = tt
contain_heard (ListOf t) = tt
contain_heard (TupleOf ts) = tt
contain_heard Any = (no, tt)
contain_heard _ = (no, tt)

length_heard : (t : Tree) → Heard (length_member t).found
length_heard Str = tt
length_heard (DictOf k v) = tt
length_heard (ListOf t) = tt
length_heard (TupleOf ts) = tt
length_heard Any = (no, tt)
length_heard _ = (no, tt)

negative_heard : (t : Tree) → Heard (negative_member t).found
negative_heard Int = tt
negative_heard Bool = tt
negative_heard Any = (no, tt)
negative_heard _ = (no, tt)

pair_heard : (o : Option Tree) → Heard (pair_found o).found
pair_heard None = (no, tt)
pair_heard (Some t) = tt

all_append : (os ps : List Offer) → AllFound os → AllFound ps → AllFound (os ++ ps)
all_append [] ps h k = k
all_append (o ∷ os) ps h k = (h.0, all_append os ps h.1 k)

module _ (takes : Kind → Test) (gives : Kind → Tree) where
  row_heard : (m : Tree) (ns : List Tree)
      → AllFound (map (λ n. pair_found (row_of_kinds takes gives (kind_of m) (kind_of n))) ns)
  row_heard m [] = tt
  row_heard m (n ∷ ns) = (pair_heard (row_of_kinds takes gives (kind_of m) (kind_of n)), row_heard m ns)

  rows_heard : (ms ns : List Tree) → AllFound (pair_offers takes gives ms ns)
  rows_heard [] ns = tt
  rows_heard (m ∷ ms) ns = all_append (map (λ n. pair_found (row_of_kinds takes gives (kind_of m) (kind_of n))) ns)
      (pair_offers takes gives ms ns) (row_heard m ns) (rows_heard ms ns)

  pairs_heard : (bases : Bases) (dynamic s t : Tree) → Heard (pairs_label bases takes gives dynamic s t).codes
  pairs_heard bases dynamic s t = go (is_never s || is_never t) (is_dynamic takes s t) (is_any s || is_any t)
    where
      go : (x y z : Test) → Heard (if x then clean Never else (if y then record { type = dynamic; codes = A2 ∷ [] }
          else (if z then in_error E13 else offers_label bases (pair_offers takes gives (members s)
          (members t))))).codes
      go true y z = tt
      go false true z = (no, tt)
      go false false true = (no, tt)
      go false false false = found_heard (pair_offers takes gives (members s) (members t))
          (rows_heard (members s) (members t))

compare_heard : (bases : Bases) (operator : ComparisonOperator) (s t : Tree)
    → Heard (compare_label bases operator s t).codes
compare_heard bases Equal s t = tt
compare_heard bases NotEqual s t = tt
compare_heard bases In s t = operation_heard bases contain_member contain_heard t
compare_heard bases NotIn s t = operation_heard bases contain_member contain_heard t
compare_heard bases _ s t = pairs_heard (λ k. true) (λ k. Bool) bases Bool s t

list_heard : (bases : Bases) (o : Option Tree) (ts : List Tree) → Heard (list_label bases o ts).codes
list_heard bases (Some t) ts = tt
list_heard bases None [] = display_heard (ListOf Any)
list_heard bases None (t ∷ ts) = display_heard (ListOf _)

keys_heard : (bases : Bases) (values keys : List Tree) (m : Label) → DictLabel bases values keys m → Heard m.codes
keys_heard bases values _ _ no_keys = (no, tt)
keys_heard bases values _ _ (int_keys all) = display_heard (DictOf Int _)
keys_heard bases values _ _ (str_keys apart all) = display_heard (DictOf Str _)
keys_heard bases values _ _ (other_keys apart others) = (no, tt)

dict_heard : (bases : Bases) (o : Option KeyValue) (keys values : List Tree) (m : Label)
    → DictRule bases o keys values m → Heard m.codes
dict_heard bases (Some kv) keys values m is = subst (λ x. Heard x.codes) (sym is) tt
dict_heard bases None keys values m rule = keys_heard bases values keys m rule

-- ---- calls

abbrev HeardOffer : CallOffer → Type 0
HeardOffer o = Heard o.at_callee × Heard o.at_call

abbrev AllCalls : List CallOffer → Type 0
AllCalls [] = Unit {0}
AllCalls (o ∷ os) = HeardOffer o × AllCalls os

each_heard : (os : List CallOffer) → AllCalls os → Heard (flat_map (λ o. o.at_call) os)
each_heard [] h = tt
each_heard (o ∷ os) h = append_heard o.at_call (flat_map (λ p. p.at_call) os) h.0.1 (each_heard os h.1)

calls_heard : (os : List CallOffer) → AllCalls os → Heard (call_codes os)
calls_heard os h = go (has_none (flat_map (λ o. o.at_callee) os))
  where
    go : (quiet : Test) → Heard (if quiet then flat_map (λ o. o.at_call) os else [])
    go true = each_heard os h
    go false = tt

calls_append : (os ps : List CallOffer) → AllCalls os → AllCalls ps → AllCalls (os ++ ps)
calls_append [] ps h k = k
calls_append (o ∷ os) ps h k = (h.0, calls_append os ps h.1 k)

called_heard : (g : GivenArguments) (s : Signature) → AllCalls (signature_offer g s ∷ [])
called_heard g s = go (is_suited g s)
  where
    go : (x : Test) → AllCalls ((if x then record { at_callee = []; at_call = []; gives = s.returns; calls = s ∷ [] }
        else fails_at_call E14) ∷ [])
    go true = ((tt, tt), tt)
    go false = ((tt, (no, tt)), tt)

value_heard : (ms : List Tree) → AllCalls (map value_offer ms)
value_heard [] = tt
value_heard (Any ∷ ms) = ((tt, (no, tt)), value_heard ms)
value_heard (m ∷ ms) = (one m, value_heard ms)
  where
    one : (m : Tree) → HeardOffer (value_offer m)
    one Any = (tt, (no, tt))
    one _ = (tt, (no, tt))

own_or_error : (x : Test) (rule : CallRule) → AllCalls (if x then own_callee rule else good_callee
    (fails_at_call E14 ∷ [])).offers
own_or_error true rule = tt
own_or_error false rule = ((tt, (no, tt)), tt)

tested_call : (x : Test) (a b : CallOffer) → HeardOffer a → HeardOffer b → AllCalls ((if x then a else b) ∷ [])
tested_call true a b h k = (h, tt)
tested_call false a b h k = (k, tt)

builtin_heard : (g : GivenArguments) (b : Builtin) → AllCalls (builtin_callee g b).offers
builtin_heard g builtin.Print = tested_call (has_none g.named) (plain_call NoneType) (fails_at_call E14) (tt, tt)
    (tt, (no, tt))
builtin_heard g builtin.Str = tested_call (is_one g) (plain_call Str) (fails_at_call E14) (tt, tt) (tt, (no, tt))
builtin_heard g builtin.Len = own_or_error (is_one g) length_rule
builtin_heard g builtin.IsInstance = own_or_error (is_two g) test_rule
builtin_heard g builtin.Range = tested_call (is_one g) (fails_at_call E27) (fails_at_call E14) (tt, (no, tt))
    (tt, (no, tt))
builtin_heard g _ = ((tt, (no, tt)), tt)

test_codes_heard : (env : Env) (x : Option ℕ) (test : Option Tested) → Heard (test_codes env x test)
test_codes_heard env x (Some for_list) = go (current_of env x)
  where
    go : (o : Option Tree) → Heard (any_list_codes o)
    go None = tt
    go (Some t) = one (list_any is_object_or_any (members t))
      where
        one : (b : Test) → Heard (if b then A7 ∷ [] else [])
        one true = (no, tt)
        one false = tt
test_codes_heard env x _ = tt

length_label_heard : (bases : Bases) (ts : List Tree) → Heard (length_label bases ts).codes
length_label_heard bases ts = operation_heard bases length_member length_heard (first_type ts)

so_heard : {m n : Label} → m ≡ n → Heard n.codes → Heard m.codes
so_heard e h = subst (λ x. Heard x.codes) (sym e) h

module _ (ctx : Context) (early : ctx.in_body ≡ false) where
  -- an attribute of a value of any type is found on time
  field_heard : (word : List ℕ) (t : Tree) → Heard (attribute_member ctx.classes word t).found
  field_heard word (Class c) = attribute_heard (field_by_name (class_facts_at ctx.classes c).fields word)
      (method_by_name (class_facts_at ctx.classes c).methods word)
  field_heard word Any = (no, tt)
  field_heard word _ = (no, tt)

  name_callee_heard : (env : Env) (g : GivenArguments) (r : NameMeaning) → AllCalls (name_callee ctx env g r).offers
  name_callee_heard env g (meaning.Func i) = subst (λ x. AllCalls (if x then good_callee (function_offer g
      (slice_get ctx.functions i) ∷ []) else value_callee (in_error E03)).offers) (sym early) ((tt, (no, tt)), tt)
  name_callee_heard env g (meaning.Class c) = go (nat_lt c ctx.known)
    where
      go : (x : Test) → AllCalls (if x then good_callee (signature_offer g (class_signature ctx.classes c) ∷ [])
          else value_callee (in_error E03)).offers
      go true = called_heard g (class_signature ctx.classes c)
      go false = ((tt, (no, tt)), tt)
  name_callee_heard env g (meaning.Builtin b) = builtin_heard g b
  name_callee_heard env g (meaning.Local x) = value_heard (members (name_label ctx env (meaning.Local x)).type)
  name_callee_heard env g (meaning.Const i) = value_heard (members (name_label ctx env (meaning.Const i)).type)
  name_callee_heard env g meaning.None = ((tt, (no, tt)), tt)

  callee_heard : (env : Env) (g : GivenArguments) (e : Expr) (m : Labels e) → AllCalls (callee_of ctx env g e m).offers
  callee_heard env g (name n) m = name_callee_heard env g (ctx.resolve n.text)
  callee_heard env g (attribute p e field) m = subst (λ x. AllCalls (if x then method_callee ctx g field.text
      (type_of e m.object) else value_callee (in_error E03)).offers) (sym early) ((tt, (no, tt)), tt)
  callee_heard env g e m = subst (λ x. AllCalls (if x then value_callee (whole_label e m) else value_callee
      (in_error E03)).offers) (sym early) ((tt, (no, tt)), tt)

  whole_call_heard : (env : Env) (rule : CallRule) (offers : List CallOffer) → AllCalls offers
      → (args : Exprs) (ts : List Tree) → Heard (whole_call_label ctx env rule offers args ts).codes
  whole_call_heard env member_rule offers h args ts = calls_heard offers h
  whole_call_heard env length_rule offers h args ts = length_label_heard ctx.bases ts
  whole_call_heard env test_rule offers h args ts = test_codes_heard env
      (local_of_argument ctx.resolve (first_argument args)) (test_of_argument ctx.resolve (second_argument args))

  -- the label of an expression that is no name
  pub own_heard : (declared : List Tree) (env : Env) (want : Option Tree) (e : Expr) → is_name e ≡ false
      → (m : Labels e) → Lawful ctx declared env want e m → Heard (whole_label e m).codes
  own_heard declared env want (name n) other m law = absurd (grind (arith, other))
  own_heard declared env want (number p d) other m law = so_heard law tt
  own_heard declared env want (text p d) other m law = so_heard law tt
  own_heard declared env want (truth p b) other m law = so_heard law tt
  own_heard declared env want (nothing p) other m law = so_heard law tt
  own_heard declared env want (tuple p es) other m law = so_heard law.here
      (display_heard (TupleOf (trees (item_types es m.items))))
  own_heard declared env want (list p es) other m law = so_heard law.here
      (list_heard ctx.bases (list_item (members_of_expected want)) (item_types es m.items))
  own_heard declared env want (dict p es) other m law = dict_heard ctx.bases (dict_parts (members_of_expected want)) _
      _ m.here law.here
  own_heard declared env want (negative p e) other m law = so_heard law.here
      (operation_heard ctx.bases negative_member negative_heard (type_of e m.operand))
  own_heard declared env want (negation p e) other m law = so_heard law.here tt
  own_heard declared env want (binary p o l r) other m law = so_heard law.here
      (pairs_heard (takes_kind o) kind_type ctx.bases Any (type_of l m.left) (type_of r m.right))
  own_heard declared env want (compare p o l r) other m law =
      so_heard law.here (compare_heard ctx.bases o (type_of l m.left) (type_of r m.right))
  own_heard declared env want (is_none p e) other m law = so_heard law.here tt
  own_heard declared env want (is_not_none p e) other m law = so_heard law.here tt
  own_heard declared env want (conjunction p l r) other m law = so_heard law.here tt
  own_heard declared env want (disjunction p l r) other m law = so_heard law.here tt
  own_heard declared env want (attribute p e n) other m law =
      so_heard law.here (operation_heard ctx.bases (attribute_member ctx.classes n.text) (field_heard n.text)
      (type_of e m.object))
  own_heard declared env want (index p e i) other m law = so_heard law.here
      (operation_heard ctx.bases (index_member ctx.bases (int_literal i)) (index_heard ctx.bases (int_literal i))
      (type_of e m.object))
  own_heard declared env want (call p c args kws) other m law =
      let callee = callee_of ctx env (arguments_given args kws) c law.value in
      so_heard law.here (whole_call_heard env callee.rule callee.offers
      (callee_heard env (arguments_given args kws) c law.value) args (item_types args m.arguments))
