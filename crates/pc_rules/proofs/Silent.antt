-- Labels have E02 and E03 only at names and callees: no operation, display or call has them.
use Rattle.std.proofs.Common.{◌≡◌, ℕ, List, [], ◌∷◌, ◌++◌, map, refl, sym, subst, arith}
use Rattle.std.specs.Prelude.{Bool as Test, true, false, ◌||◌, if◌then◌else◌, nat_le, nat_lt, Option, Some, None}
use Rattle.std.specs.Prelude.{slice_get, flat_map, bytes_eq, codes}
use Rattle.std.specs.List.{list_any}
use Rattle.pc_tree.specs.declared.code.Code.{Code}
use Rattle.pc_tree.specs.declared.code.Code.TheVariants.{A2, A7, E03, E13, E14, E15, E26, E27}
use Rattle.pc_tree.specs.declared.tree.ComparisonOperator.{ComparisonOperator}
use Rattle.pc_tree.specs.declared.tree.ComparisonOperator.TheVariants.{Equal, NotEqual, In, NotIn}
use Rattle.pc_tree.specs.Tree.{Expr, Exprs, name, number, text, truth, nothing, tuple, list, dict, negative, negation}
use Rattle.pc_tree.specs.Tree.{binary, compare, is_none, is_not_none, conjunction, disjunction, attribute, index, call}
use Rattle.pc_tree.specs.Stopping.{has_none}
use Rattle.pc_scope.specs.declared.resolution.Builtin.{Builtin}
use Rattle.pc_scope.specs.declared.resolution.Builtin.TheVariants as builtin
use Rattle.pc_scope.specs.declared.resolution.NameMeaning.{NameMeaning}
use Rattle.pc_scope.specs.declared.resolution.NameMeaning.TheVariants as meaning
use Rattle.pc_scope.specs.Expressions.{is_name}
use Rattle.pc_types.specs.Tree.{Tree, Any, Never, Int, Bool, Str, NoneType, Class, ListOf, DictOf, TupleOf}
use Rattle.pc_types.specs.Below.{Bases}
use Rattle.pc_types.specs.Shape.{members, nodes, node_limit, trees}
use Rattle.pc_class.specs.Facts.{TypedParameter, Method, field_by_name, method_by_name, class_facts_at}
use Rattle.pc_flow.specs.Environment.{Env, join_or_object}
use Rattle.pc_flow.specs.Narrowing.{Tested, for_list, test_of_argument, local_of_argument, first_argument}
use Rattle.pc_flow.specs.Narrowing.{second_argument}
use Rattle.pc_rules.specs.Operations.{Label, clean, in_error, Offer, found_of, offers_label, index_member}
use Rattle.pc_rules.specs.Operations.{attribute_found, attribute_member, StoreOffer, store_codes, store_found}
use Rattle.pc_rules.specs.Operations.{store_attribute_member, store_index_member, iterate_member, contain_member}
use Rattle.pc_rules.specs.Operations.{length_member, negative_member, Kind, kind_of, kind_type, row_of_kinds}
use Rattle.pc_rules.specs.Operations.{pair_found, pair_offers, pairs_label, takes_kind, is_never, is_any, is_dynamic}
use Rattle.pc_rules.specs.Operations.{display_label}
use Rattle.pc_rules.specs.Context.{Context, Signature, name_label, is_early}
use Rattle.pc_rules.specs.Calls.{GivenArguments, arguments_given, CallOffer, signature_offer, is_suited, plain_call}
use Rattle.pc_rules.specs.Calls.{fails_at_call, fails_at_callee, value_offer, class_signature, method_signature}
use Rattle.pc_rules.specs.Calls.{builtin_signature, class_offers, list_offers, dict_offers, method_offers, CallRule}
use Rattle.pc_rules.specs.Calls.{member_rule, length_rule, test_rule, own_callee, builtin_callee, function_offer}
use Rattle.pc_rules.specs.Calls.{name_callee, method_callee, value_callee, good_callee, is_one, is_two, call_codes}
use Rattle.pc_rules.specs.Calls.{length_label, first_type, test_codes, any_list_codes, current_of, is_object_or_any}
use Rattle.pc_rules.specs.Labels.{Labels, whole_label, type_of, item_types, is_of_scopes}
use Rattle.pc_rules.specs.Lawful.{Lawful, KeyValue, list_item, dict_parts, members_of_expected, list_label, DictLabel}
use Rattle.pc_rules.specs.Lawful.{no_keys, int_keys, str_keys, other_keys, DictRule, int_literal, compare_label}
use Rattle.pc_rules.specs.Lawful.{callee_of, whole_call_label}

-- none of these codes is found of scopes
abbrev pub Silent : List Code → Type 0
Silent [] = Unit {0}
Silent (c ∷ cs) = (is_of_scopes c ≡ false) × Silent cs

-- silent codes have no E03 among them
pub silent_punctual : (cs : List Code) → Silent cs → is_early cs ≡ false
silent_punctual [] h = refl
silent_punctual (E03 ∷ cs) h = h.0
silent_punctual (c ∷ cs) h = refl

append_silent : (cs ds : List Code) → Silent cs → Silent ds → Silent (cs ++ ds)
append_silent [] ds h k = k
append_silent (c ∷ cs) ds h k = (h.0, append_silent cs ds h.1 k)

display_silent : (t : Tree) → Silent (display_label t).codes
display_silent t = go (nat_le (nodes t) node_limit)
  where
    go : (x : Test) → Silent (if x then clean t else in_error E26).codes
    go true = tt
    go false = (refl, tt)

-- ---- operations

abbrev AllFound : List Offer → Type 0
AllFound [] = Unit {0}
AllFound (o ∷ os) = Silent o.found × AllFound os

found_silent : (os : List Offer) → AllFound os → Silent (found_of os)
found_silent [] h = tt
found_silent (o ∷ os) h = append_silent o.found (found_of os) h.0 (found_silent os h.1)

each_found : (offer : Tree → Offer) → ((t : Tree) → Silent (offer t).found) → (ms : List Tree) → AllFound (map offer ms)
each_found offer each [] = tt
each_found offer each (t ∷ ms) = (each t, each_found offer each ms)

operation_silent : (bases : Bases) (offer : Tree → Offer) → ((t : Tree) → Silent (offer t).found) → (t : Tree)
    → Silent (offers_label bases (map offer (members t))).codes
operation_silent bases offer each t = found_silent (map offer (members t)) (each_found offer each (members t))

index_silent : (bases : Bases) (literal : Option ℕ) (t : Tree) → Silent (index_member bases literal t).found
index_silent bases literal (ListOf t) = tt
index_silent bases literal Str = tt
index_silent bases literal (TupleOf ts) = tt
index_silent bases literal (DictOf k v) = tt
index_silent bases literal Any = (refl, tt)
index_silent bases literal _ = (refl, tt)

attribute_silent : (f : Option TypedParameter) (m : Option Method) → Silent (attribute_found f m).found
attribute_silent (Some f) m = tt
attribute_silent None (Some m) = (refl, tt)
attribute_silent None None = (refl, tt)

contain_silent : (t : Tree) → Silent (contain_member t).found
contain_silent Str = tt
contain_silent (DictOf k v) = tt
contain_silent (ListOf t) = tt
contain_silent (TupleOf ts) = tt
contain_silent Any = (refl, tt)
contain_silent _ = (refl, tt)

length_silent : (t : Tree) → Silent (length_member t).found
length_silent Str = tt
length_silent (DictOf k v) = tt
length_silent (ListOf t) = tt
length_silent (TupleOf ts) = tt
length_silent Any = (refl, tt)
length_silent _ = (refl, tt)

negative_silent : (t : Tree) → Silent (negative_member t).found
negative_silent Int = tt
negative_silent Bool = tt
negative_silent Any = (refl, tt)
negative_silent _ = (refl, tt)

iterate_silent : (bases : Bases) (t : Tree) → Silent (iterate_member bases t).found
iterate_silent bases (ListOf t) = tt
iterate_silent bases (DictOf k v) = tt
iterate_silent bases Str = tt
iterate_silent bases (TupleOf ts) = tt
iterate_silent bases Any = (refl, tt)
iterate_silent bases _ = (refl, tt)

pub items_silent : (bases : Bases) (t : Tree)
    → Silent (offers_label bases (map (iterate_member bases) (members t))).codes
items_silent bases t = operation_silent bases (iterate_member bases) (iterate_silent bases) t

each_store : (offer : Tree → StoreOffer) → ((t : Tree) → Silent (offer t).found) → (ms : List Tree)
    → Silent (store_codes (map offer ms))
each_store offer each [] = tt
each_store offer each (t ∷ ms) = append_silent (offer t).found (store_codes (map offer ms)) (each t)
    (each_store offer each ms)

store_index_silent : (t : Tree) → Silent (store_index_member t).found
store_index_silent (ListOf t) = tt
store_index_silent (DictOf k v) = tt
store_index_silent Any = (refl, tt)
store_index_silent _ = (refl, tt)

pub stored_items_silent : (ms : List Tree) → Silent (store_codes (map store_index_member ms))
stored_items_silent ms = each_store store_index_member store_index_silent ms

pair_silent : (o : Option Tree) → Silent (pair_found o).found
pair_silent None = (refl, tt)
pair_silent (Some t) = tt

all_append : (os ps : List Offer) → AllFound os → AllFound ps → AllFound (os ++ ps)
all_append [] ps h k = k
all_append (o ∷ os) ps h k = (h.0, all_append os ps h.1 k)

module _ (takes : Kind → Test) (gives : Kind → Tree) where
  row_silent : (m : Tree) (ns : List Tree)
      → AllFound (map (λ n. pair_found (row_of_kinds takes gives (kind_of m) (kind_of n))) ns)
  row_silent m [] = tt
  row_silent m (n ∷ ns) = (pair_silent (row_of_kinds takes gives (kind_of m) (kind_of n)), row_silent m ns)

  rows_silent : (ms ns : List Tree) → AllFound (pair_offers takes gives ms ns)
  rows_silent [] ns = tt
  rows_silent (m ∷ ms) ns = all_append (map (λ n. pair_found (row_of_kinds takes gives (kind_of m) (kind_of n))) ns)
      (pair_offers takes gives ms ns) (row_silent m ns) (rows_silent ms ns)

  pairs_silent : (bases : Bases) (dynamic s t : Tree) → Silent (pairs_label bases takes gives dynamic s t).codes
  pairs_silent bases dynamic s t = go (is_never s || is_never t) (is_dynamic takes s t) (is_any s || is_any t)
    where
      go : (x y z : Test) → Silent (if x then clean Never else (if y then record { type = dynamic; codes = A2 ∷ [] }
          else (if z then in_error E13 else offers_label bases (pair_offers takes gives (members s)
          (members t))))).codes
      go true y z = tt
      go false true z = (refl, tt)
      go false false true = (refl, tt)
      go false false false = found_silent (pair_offers takes gives (members s) (members t))
          (rows_silent (members s) (members t))

compare_silent : (bases : Bases) (operator : ComparisonOperator) (s t : Tree)
    → Silent (compare_label bases operator s t).codes
compare_silent bases Equal s t = tt
compare_silent bases NotEqual s t = tt
compare_silent bases In s t = operation_silent bases contain_member contain_silent t
compare_silent bases NotIn s t = operation_silent bases contain_member contain_silent t
compare_silent bases _ s t = pairs_silent (λ k. true) (λ k. Bool) bases Bool s t

list_silent : (bases : Bases) (o : Option Tree) (ts : List Tree) → Silent (list_label bases o ts).codes
list_silent bases (Some t) ts = tt
list_silent bases None [] = display_silent (ListOf Any)
list_silent bases None (t ∷ ts) = display_silent (ListOf _)

keys_silent : (bases : Bases) (values keys : List Tree) (m : Label) → DictLabel bases values keys m → Silent m.codes
keys_silent bases values _ _ no_keys = (refl, tt)
keys_silent bases values _ _ (int_keys all) = display_silent (DictOf Int _)
keys_silent bases values _ _ (str_keys apart all) = display_silent (DictOf Str _)
keys_silent bases values _ _ (other_keys apart others) = (refl, tt)

dict_silent : (bases : Bases) (o : Option KeyValue) (keys values : List Tree) (m : Label)
    → DictRule bases o keys values m → Silent m.codes
dict_silent bases (Some kv) keys values m is = subst (λ x. Silent x.codes) (sym is) tt
dict_silent bases None keys values m rule = keys_silent bases values keys m rule

-- ---- calls

abbrev SilentOffer : CallOffer → Type 0
SilentOffer o = Silent o.at_callee × Silent o.at_call

abbrev pub AllCalls : List CallOffer → Type 0
AllCalls [] = Unit {0}
AllCalls (o ∷ os) = SilentOffer o × AllCalls os

each_silent : (os : List CallOffer) → AllCalls os → Silent (flat_map (λ o. o.at_call) os)
each_silent [] h = tt
each_silent (o ∷ os) h = append_silent o.at_call (flat_map (λ p. p.at_call) os) h.0.1 (each_silent os h.1)

callees_silent : (os : List CallOffer) → AllCalls os → Silent (flat_map (λ o. o.at_callee) os)
callees_silent [] h = tt
callees_silent (o ∷ os) h = append_silent o.at_callee (flat_map (λ p. p.at_callee) os) h.0.0 (callees_silent os h.1)

pub calls_silent : (os : List CallOffer) → AllCalls os → Silent (call_codes os)
calls_silent os h = go (has_none (flat_map (λ o. o.at_callee) os))
  where
    go : (quiet : Test) → Silent (if quiet then flat_map (λ o. o.at_call) os else [])
    go true = each_silent os h
    go false = tt

calls_append : (os ps : List CallOffer) → AllCalls os → AllCalls ps → AllCalls (os ++ ps)
calls_append [] ps h k = k
calls_append (o ∷ os) ps h k = (h.0, calls_append os ps h.1 k)

pub called_silent : (g : GivenArguments) (s : Signature) → AllCalls (signature_offer g s ∷ [])
called_silent g s = go (is_suited g s)
  where
    go : (x : Test) → AllCalls ((if x then record { at_callee = []; at_call = []; gives = s.returns; calls = s ∷ [] }
        else fails_at_call E14) ∷ [])
    go true = ((tt, tt), tt)
    go false = ((tt, (refl, tt)), tt)

value_silent : (ms : List Tree) → AllCalls (map value_offer ms)
value_silent [] = tt
value_silent (Any ∷ ms) = ((tt, (refl, tt)), value_silent ms)
value_silent (m ∷ ms) = (one m, value_silent ms)
  where
    one : (m : Tree) → SilentOffer (value_offer m)
    one Any = (tt, (refl, tt))
    one _ = (tt, (refl, tt))

class_silent : (g : GivenArguments) (m : Option Method) (f : Option TypedParameter) → AllCalls (class_offers g m f)
class_silent g (Some m) f = called_silent g (method_signature m)
class_silent g None (Some f) = value_silent (members f.type)
class_silent g None None = (((refl, tt), tt), tt)

list_call_silent : (g : GivenArguments) (word : List ℕ) (t : Tree) → AllCalls (list_offers g word t)
list_call_silent g word t = go (bytes_eq word (codes "append")) (bytes_eq word (codes "pop"))
  where
    go : (x y : Test) → AllCalls (if x then signature_offer g (builtin_signature (t ∷ []) NoneType) ∷ []
        else (if y then signature_offer g (builtin_signature [] t) ∷ [] else fails_at_callee E15 ∷ []))
    go true y = called_silent g (builtin_signature (t ∷ []) NoneType)
    go false true = called_silent g (builtin_signature [] t)
    go false false = (((refl, tt), tt), tt)

dict_call_silent : (bases : Bases) (g : GivenArguments) (word : List ℕ) (k v : Tree)
    → AllCalls (dict_offers bases g word k v)
dict_call_silent bases g word k v = go (bytes_eq word (codes "get"))
  where
    go : (x : Test)
        → AllCalls (if x then signature_offer g (builtin_signature (k ∷ []) (join_or_object bases v NoneType)) ∷ []
        else fails_at_callee E15 ∷ [])
    go true = called_silent g (builtin_signature (k ∷ []) (join_or_object bases v NoneType))
    go false = (((refl, tt), tt), tt)

own_or_error : (x : Test) (rule : CallRule) → AllCalls (if x then own_callee rule else good_callee
    (fails_at_call E14 ∷ [])).offers
own_or_error true rule = tt
own_or_error false rule = ((tt, (refl, tt)), tt)

tested_call : (x : Test) (a b : CallOffer) → SilentOffer a → SilentOffer b → AllCalls ((if x then a else b) ∷ [])
tested_call true a b h k = (h, tt)
tested_call false a b h k = (k, tt)

builtin_silent : (g : GivenArguments) (b : Builtin) → AllCalls (builtin_callee g b).offers
builtin_silent g builtin.Print = tested_call (has_none g.named) (plain_call NoneType) (fails_at_call E14) (tt, tt)
    (tt, (refl, tt))
builtin_silent g builtin.Str = tested_call (is_one g) (plain_call Str) (fails_at_call E14) (tt, tt) (tt, (refl, tt))
builtin_silent g builtin.Len = own_or_error (is_one g) length_rule
builtin_silent g builtin.IsInstance = own_or_error (is_two g) test_rule
builtin_silent g builtin.Range = tested_call (is_one g) (fails_at_call E27) (fails_at_call E14) (tt, (refl, tt))
    (tt, (refl, tt))
builtin_silent g _ = ((tt, (refl, tt)), tt)

test_codes_silent : (env : Env) (x : Option ℕ) (test : Option Tested) → Silent (test_codes env x test)
test_codes_silent env x (Some for_list) = go (current_of env x)
  where
    go : (o : Option Tree) → Silent (any_list_codes o)
    go None = tt
    go (Some t) = one (list_any is_object_or_any (members t))
      where
        one : (b : Test) → Silent (if b then A7 ∷ [] else [])
        one true = (refl, tt)
        one false = tt
test_codes_silent env x _ = tt

length_label_silent : (bases : Bases) (ts : List Tree) → Silent (length_label bases ts).codes
length_label_silent bases ts = operation_silent bases length_member length_silent (first_type ts)

so_silent : {m n : Label} → m ≡ n → Silent n.codes → Silent m.codes
so_silent e h = subst (λ x. Silent x.codes) (sym e) h

module _ (ctx : Context) where
  -- an attribute of a value of any type is found on time
  field_silent : (word : List ℕ) (t : Tree) → Silent (attribute_member ctx.classes word t).found
  field_silent word (Class c) = attribute_silent (field_by_name (class_facts_at ctx.classes c).fields word)
      (method_by_name (class_facts_at ctx.classes c).methods word)
  field_silent word Any = (refl, tt)
  field_silent word _ = (refl, tt)

  store_name_silent : (f : Option TypedParameter) (m : Option Method) → Silent (store_found f m).found
  store_name_silent (Some f) m = tt
  store_name_silent None (Some m) = (refl, tt)
  store_name_silent None None = (refl, tt)

  store_field_silent : (word : List ℕ) (t : Tree) → Silent (store_attribute_member ctx.classes word t).found
  store_field_silent word (Class c) = store_name_silent (field_by_name (class_facts_at ctx.classes c).fields word)
      (method_by_name (class_facts_at ctx.classes c).methods word)
  store_field_silent word Any = (refl, tt)
  store_field_silent word _ = (refl, tt)

  pub stored_fields_silent : (word : List ℕ) (ms : List Tree) → Silent
      (store_codes (map (store_attribute_member ctx.classes word) ms))
  stored_fields_silent word ms = each_store (store_attribute_member ctx.classes word) (store_field_silent word) ms

  method_silent : (g : GivenArguments) (word : List ℕ) (t : Tree) → AllCalls (method_offers ctx g word t)
  method_silent g word (Class c) = class_silent g (method_by_name (class_facts_at ctx.classes c).methods word)
      (field_by_name (class_facts_at ctx.classes c).fields word)
  method_silent g word (ListOf t) = list_call_silent g word t
  method_silent g word (DictOf k v) = dict_call_silent ctx.bases g word k v
  method_silent g word Any = (((refl, tt), tt), tt)
  method_silent g word _ = (((refl, tt), tt), tt)

  methods_silent : (g : GivenArguments) (word : List ℕ) (ms : List Tree)
      → AllCalls (flat_map (method_offers ctx g word) ms)
  methods_silent g word [] = tt
  methods_silent g word (t ∷ ms) = calls_append (method_offers ctx g word t) (flat_map (method_offers ctx g word) ms)
      (method_silent g word t) (methods_silent g word ms)

  function_silent : (g : GivenArguments) (o : Option Signature) → AllCalls (function_offer g o ∷ [])
  function_silent g None = ((tt, (refl, tt)), tt)
  function_silent g (Some s) = called_silent g s

  name_callee_silent : (env : Env) (g : GivenArguments) (r : NameMeaning) → AllCalls (name_callee ctx env g r).offers
  name_callee_silent env g (meaning.Func i) = go ctx.in_body
    where
      go : (x : Test) → AllCalls (if x then good_callee (function_offer g (slice_get ctx.functions i) ∷ [])
          else value_callee (in_error E03)).offers
      go true = function_silent g (slice_get ctx.functions i)
      go false = ((tt, (refl, tt)), tt)
  name_callee_silent env g (meaning.Class c) = go (nat_lt c ctx.known)
    where
      go : (x : Test) → AllCalls (if x then good_callee (signature_offer g (class_signature ctx.classes c) ∷ [])
          else value_callee (in_error E03)).offers
      go true = called_silent g (class_signature ctx.classes c)
      go false = ((tt, (refl, tt)), tt)
  name_callee_silent env g (meaning.Builtin b) = builtin_silent g b
  name_callee_silent env g (meaning.Local x) = value_silent (members (name_label ctx env (meaning.Local x)).type)
  name_callee_silent env g (meaning.Const i) = value_silent (members (name_label ctx env (meaning.Const i)).type)
  name_callee_silent env g meaning.None = ((tt, (refl, tt)), tt)

  value_callee_silent : (m : Label) (x : Test) → AllCalls (if x then value_callee m else value_callee
      (in_error E03)).offers
  value_callee_silent m true = value_silent (members m.type)
  value_callee_silent m false = ((tt, (refl, tt)), tt)

  callee_silent : (env : Env) (g : GivenArguments) (e : Expr) (m : Labels e) → AllCalls (callee_of ctx env g e m).offers
  callee_silent env g (name n) m = name_callee_silent env g (ctx.resolve n.text)
  callee_silent env g (attribute p e field) m = go ctx.in_body
    where
      go : (x : Test) → AllCalls (if x then method_callee ctx g field.text (type_of e m.object) else value_callee
          (in_error E03)).offers
      go true = methods_silent g field.text (members (type_of e m.object))
      go false = ((tt, (refl, tt)), tt)
  callee_silent env g e m = value_callee_silent (whole_label e m) ctx.in_body

  whole_call_silent : (env : Env) (rule : CallRule) (offers : List CallOffer) → AllCalls offers
      → (args : Exprs) (ts : List Tree) → Silent (whole_call_label ctx env rule offers args ts).codes
  whole_call_silent env member_rule offers h args ts = calls_silent offers h
  whole_call_silent env length_rule offers h args ts = length_label_silent ctx.bases ts
  whole_call_silent env test_rule offers h args ts = test_codes_silent env
      (local_of_argument ctx.resolve (first_argument args)) (test_of_argument ctx.resolve (second_argument args))

  -- the findings at the callee `e.m`
  pub method_callee_silent : (g : GivenArguments) (word : List ℕ) (t : Tree)
      → Silent (method_callee ctx g word t).label.codes
  method_callee_silent g word t = callees_silent (flat_map (method_offers ctx g word) (members t))
      (methods_silent g word (members t))

  -- the label of an expression that is no name
  pub own_silent : (declared : List Tree) (env : Env) (want : Option Tree) (e : Expr) → is_name e ≡ false
      → (m : Labels e) → Lawful ctx declared env want e m → Silent (whole_label e m).codes
  own_silent declared env want (name n) other m law = absurd (grind (arith, other))
  own_silent declared env want (number p d) other m law = so_silent law tt
  own_silent declared env want (text p d) other m law = so_silent law tt
  own_silent declared env want (truth p b) other m law = so_silent law tt
  own_silent declared env want (nothing p) other m law = so_silent law tt
  own_silent declared env want (tuple p es) other m law = so_silent law.here
      (display_silent (TupleOf (trees (item_types es m.items))))
  own_silent declared env want (list p es) other m law = so_silent law.here
      (list_silent ctx.bases (list_item (members_of_expected want)) (item_types es m.items))
  own_silent declared env want (dict p es) other m law = dict_silent ctx.bases (dict_parts (members_of_expected want)) _
      _ m.here law.here
  own_silent declared env want (negative p e) other m law = so_silent law.here
      (operation_silent ctx.bases negative_member negative_silent (type_of e m.operand))
  own_silent declared env want (negation p e) other m law = so_silent law.here tt
  own_silent declared env want (binary p o l r) other m law = so_silent law.here
      (pairs_silent (takes_kind o) kind_type ctx.bases Any (type_of l m.left) (type_of r m.right))
  own_silent declared env want (compare p o l r) other m law =
      so_silent law.here (compare_silent ctx.bases o (type_of l m.left) (type_of r m.right))
  own_silent declared env want (is_none p e) other m law = so_silent law.here tt
  own_silent declared env want (is_not_none p e) other m law = so_silent law.here tt
  own_silent declared env want (conjunction p l r) other m law = so_silent law.here tt
  own_silent declared env want (disjunction p l r) other m law = so_silent law.here tt
  own_silent declared env want (attribute p e n) other m law =
      so_silent law.here (operation_silent ctx.bases (attribute_member ctx.classes n.text) (field_silent n.text)
      (type_of e m.object))
  own_silent declared env want (index p e i) other m law = so_silent law.here
      (operation_silent ctx.bases (index_member ctx.bases (int_literal i)) (index_silent ctx.bases (int_literal i))
      (type_of e m.object))
  own_silent declared env want (call p c args kws) other m law =
      let callee = callee_of ctx env (arguments_given args kws) c law.value in
      so_silent law.here (whole_call_silent env callee.rule callee.offers
      (callee_silent env (arguments_given args kws) c law.value) args (item_types args m.arguments))
