-- No label has a code of flows, which only flows have; nor has a store.
use Rattle.std.proofs.Common.{◌≡◌, ℕ, Bool as Test, true, false, List, [], ◌∷◌, ◌++◌, Option, Some, None, refl, map}
use Rattle.std.specs.Prelude.{◌||◌, if◌then◌else◌, nat_le, nat_lt, flat_map, slice_get, codes, bytes_eq}
use Rattle.std.specs.List.{AllByRecursion, list_any, list_all}
use Rattle.pc_tree.specs.declared.tree.BinaryOperator.{BinaryOperator}
use Rattle.pc_tree.specs.declared.tree.ComparisonOperator.{ComparisonOperator}
use Rattle.pc_tree.specs.declared.tree.ComparisonOperator.TheVariants.{Equal, NotEqual, In, NotIn}
use Rattle.pc_tree.specs.declared.code.Code.{Code}
use Rattle.pc_tree.specs.declared.code.Code.TheVariants.{A1, A2, A5, A7, E03, E12, E13, E14, E20, E26, E27}
use Rattle.pc_tree.specs.Tree.{Expr, Exprs, name, number, text, truth, nothing, tuple, list, dict, negative, negation}
use Rattle.pc_tree.specs.Tree.{binary, compare, is_none, is_not_none, conjunction, disjunction, attribute, index, call}
use Rattle.pc_tree.specs.Stopping.{has_none}
use Rattle.pc_scope.specs.declared.resolution.Builtin.{Builtin}
use Rattle.pc_scope.specs.declared.resolution.Builtin.TheVariants as builtin
use Rattle.pc_scope.specs.declared.resolution.NameMeaning.{NameMeaning}
use Rattle.pc_scope.specs.declared.resolution.NameMeaning.TheVariants as meaning
use Rattle.pc_types.specs.Tree.{Tree, Any, Never, Int, Bool, Str, NoneType, Class, ListOf, DictOf, TupleOf}
use Rattle.pc_types.specs.Below.{Bases}
use Rattle.pc_types.specs.Shape.{members, nodes, node_limit}
use Rattle.pc_class.specs.Facts as facts
use Rattle.pc_class.specs.Facts.{TypedParameter, Method, field_by_name, method_by_name, class_facts_at}
use Rattle.pc_flow.specs.Environment.{Env, current, join_or_object, join_all}
use Rattle.pc_flow.specs.Narrowing.{Tested, for_none, for_type, for_list, test_of_argument, local_of_argument}
use Rattle.pc_flow.specs.Narrowing.{first_argument, second_argument}
use Rattle.pc_rules.specs.Operations.{Label, clean, in_error, Offer, offers_label, index_member, attribute_found}
use Rattle.pc_rules.specs.Operations.{attribute_member, StoreOffer, store_found, store_attribute_member}
use Rattle.pc_rules.specs.Operations.{store_index_member, store_codes, iterate_member, contain_member, length_member}
use Rattle.pc_rules.specs.Operations.{negative_member, Kind, kind_of, row_of_kinds, pair_found, pair_offers, is_never}
use Rattle.pc_rules.specs.Operations.{is_any, is_dynamic, pairs_label, takes_kind, kind_type, binary_label, order_label}
use Rattle.pc_rules.specs.Operations.{display_label}
use Rattle.pc_rules.specs.Context.{Context, Signature, local_label, constant_label, name_label}
use Rattle.pc_rules.specs.Calls.{GivenArguments, is_suited, CallOffer, plain_call, fails_at_call, signature_offer}
use Rattle.pc_rules.specs.Calls.{value_offer, value_offers, class_signature, method_signature, builtin_signature}
use Rattle.pc_rules.specs.Calls.{class_offers, list_offers, dict_offers, method_offers, is_one, is_two, CallRule}
use Rattle.pc_rules.specs.Calls.{member_rule, length_rule, test_rule, CalleeLabel, function_offer, value_callee}
use Rattle.pc_rules.specs.Calls.{good_callee, own_callee, builtin_callee, name_callee, method_callee, call_label}
use Rattle.pc_rules.specs.Calls.{length_label, first_type, is_object_or_any, any_list_codes, current_of, test_codes}
use Rattle.pc_rules.specs.Calls.{test_label, second_code, range_signature, range_offers, range_item}
use Rattle.pc_rules.specs.Labels.{Labels, ItemsLabels, whole_label, type_of}
use Rattle.pc_rules.specs.Lawful.{KeyValue, list_label, compare_label, callee_of, whole_call_label, early_second}
use Rattle.pc_rules.specs.Lawful.{whole_second_code}
use Rattle.pc_rules.specs.Computed.Expressions.{keys_label, dict_label}

-- ---- lists

pub all_append : {A : Type 0} (P : A → Type 0) (xs ys : List A) → AllByRecursion P xs → AllByRecursion P ys
    → AllByRecursion P (xs ++ ys)
all_append P [] ys h k = k
all_append P (x ∷ xs) ys h k = (h.0, all_append P xs ys h.1 k)

pub all_map : {A B : Type 0} (P : B → Type 0) (f : A → B) → ((x : A) → P (f x)) → (xs : List A)
    → AllByRecursion P (map f xs)
all_map P f h [] = tt
all_map P f h (x ∷ xs) = (h x, all_map P f h xs)

pub all_flat : {A B : Type 0} (Q : A → Type 0) (P : B → Type 0) (f : A → List B)
    → ((x : A) → Q x → AllByRecursion P (f x)) → (xs : List A) → AllByRecursion Q xs → AllByRecursion P (flat_map f xs)
all_flat Q P f h [] k = tt
all_flat Q P f h (x ∷ xs) k = all_append P (f x) (flat_map f xs) (h x k.0) (all_flat Q P f h xs k.1)

all_flat_any : {A B : Type 0} (P : B → Type 0) (f : A → List B) → ((x : A) → AllByRecursion P (f x)) → (xs : List A)
    → AllByRecursion P (flat_map f xs)
all_flat_any P f h [] = tt
all_flat_any P f h (x ∷ xs) = all_append P (f x) (flat_map f xs) (h x) (all_flat_any P f h xs)

-- a fact of both branches of a test is a fact of its result
pub in_both : {A : Type 0} (P : A → Type 0) (b : Test) (x y : A) → P x → P y → P (if b then x else y)
in_both P true x y h k = h
in_both P false x y h k = k

-- ---- codes

-- a code is one of flows
abbrev pub tells_flow : Code → Test
tells_flow A1 = true
tells_flow E12 = true
tells_flow _ = false

-- a code is another one
abbrev pub IsPlain : Code → Type 0
IsPlain c = tells_flow c ≡ false

-- each code is another one
abbrev pub ArePlain : List Code → Type 0
ArePlain cs = AllByRecursion IsPlain cs

-- likewise at a label
abbrev pub LabelPlain : Label → Type 0
LabelPlain m = ArePlain m.codes

-- ---- operations on members

-- likewise of an offer
abbrev OfferPlain : Offer → Type 0
OfferPlain o = ArePlain o.found

offers_plain : (bases : Bases) (os : List Offer) → AllByRecursion OfferPlain os → LabelPlain (offers_label bases os)
offers_plain bases os h = all_flat OfferPlain IsPlain (λ o. o.found) (λ o k. k) os h

-- on each member
pub mapped_plain : (bases : Bases) (f : Tree → Offer) → ((t : Tree) → OfferPlain (f t)) → (ts : List Tree)
    → LabelPlain (offers_label bases (map f ts))
mapped_plain bases f h ts = offers_plain bases (map f ts) (all_map OfferPlain f h ts)

pub index_plain : (bases : Bases) (i : Option ℕ) (t : Tree) → OfferPlain (index_member bases i t)
index_plain bases i (ListOf t) = tt
index_plain bases i Str = tt
index_plain bases i (TupleOf ts) = tt
index_plain bases i (DictOf k v) = tt
index_plain bases i Any = (refl, tt)
index_plain bases i _ = (refl, tt)

attribute_found_plain : (f : Option TypedParameter) (m : Option Method) → OfferPlain (attribute_found f m)
attribute_found_plain (Some f) m = tt
attribute_found_plain None (Some m) = (refl, tt)
attribute_found_plain None None = (refl, tt)

pub attribute_plain : (cs : List facts.ClassFacts) (word : List ℕ) (t : Tree) → OfferPlain (attribute_member cs word t)
attribute_plain cs word (Class c) = attribute_found_plain (field_by_name (class_facts_at cs c).fields word)
    (method_by_name (class_facts_at cs c).methods word)
attribute_plain cs word Any = (refl, tt)
attribute_plain cs word _ = (refl, tt)

pub iterate_plain : (bases : Bases) (t : Tree) → OfferPlain (iterate_member bases t)
iterate_plain bases (ListOf t) = tt
iterate_plain bases (DictOf k v) = tt
iterate_plain bases Str = tt
iterate_plain bases (TupleOf ts) = tt
iterate_plain bases Any = (refl, tt)
iterate_plain bases _ = (refl, tt)

contain_plain : (t : Tree) → OfferPlain (contain_member t)
contain_plain Str = tt
contain_plain (DictOf k v) = tt
contain_plain (ListOf t) = tt
contain_plain (TupleOf ts) = tt
contain_plain Any = (refl, tt)
contain_plain _ = (refl, tt)

length_plain : (t : Tree) → OfferPlain (length_member t)
length_plain Str = tt
length_plain (ListOf t) = tt
length_plain (DictOf k v) = tt
length_plain (TupleOf ts) = tt
length_plain Any = (refl, tt)
length_plain _ = (refl, tt)

pub negative_plain : (t : Tree) → OfferPlain (negative_member t)
negative_plain Int = tt
negative_plain Bool = tt
negative_plain Any = (refl, tt)
negative_plain _ = (refl, tt)

-- ---- stores

-- likewise of what a store comes to
abbrev StorePlain : StoreOffer → Type 0
StorePlain o = ArePlain o.found

store_found_plain : (f : Option TypedParameter) (m : Option Method) → StorePlain (store_found f m)
store_found_plain (Some f) m = tt
store_found_plain None (Some m) = (refl, tt)
store_found_plain None None = (refl, tt)

attribute_store_plain : (cs : List facts.ClassFacts) (word : List ℕ) (t : Tree)
    → StorePlain (store_attribute_member cs word t)
attribute_store_plain cs word (Class c) = store_found_plain (field_by_name (class_facts_at cs c).fields word)
    (method_by_name (class_facts_at cs c).methods word)
attribute_store_plain cs word Any = (refl, tt)
attribute_store_plain cs word _ = (refl, tt)

index_store_plain : (t : Tree) → StorePlain (store_index_member t)
index_store_plain (ListOf t) = tt
index_store_plain (DictOf k v) = tt
index_store_plain Any = (refl, tt)
index_store_plain _ = (refl, tt)

stores_plain : (f : Tree → StoreOffer) → ((t : Tree) → StorePlain (f t)) → (ts : List Tree)
    → ArePlain (store_codes (map f ts))
stores_plain f h ts = all_flat StorePlain IsPlain (λ o. o.found) (λ o k. k) (map f ts) (all_map StorePlain f h ts)

pub attribute_stores_plain : (cs : List facts.ClassFacts) (word : List ℕ) (ts : List Tree)
    → ArePlain (store_codes (map (store_attribute_member cs word) ts))
attribute_stores_plain cs word ts = stores_plain (store_attribute_member cs word) (attribute_store_plain cs word) ts

pub index_stores_plain : (ts : List Tree) → ArePlain (store_codes (map store_index_member ts))
index_stores_plain ts = stores_plain store_index_member index_store_plain ts

-- ---- operators and displays

pair_plain : (o : Option Tree) → OfferPlain (pair_found o)
pair_plain (Some t) = tt
pair_plain None = (refl, tt)

pairs_plain : (bases : Bases) (takes : Kind → Test) (gives : Kind → Tree) (dynamic s t : Tree)
    → LabelPlain (pairs_label bases takes gives dynamic s t)
pairs_plain bases takes gives dynamic s t =
    let offers = pair_offers takes gives (members s) (members t) in
    let each : AllByRecursion OfferPlain offers =
    all_flat_any OfferPlain (λ m. map (λ n. pair_found (row_of_kinds takes gives (kind_of m) (kind_of n))) (members t))
    (λ m. all_map OfferPlain (λ n. pair_found (row_of_kinds takes gives (kind_of m) (kind_of n)))
    (λ n. pair_plain (row_of_kinds takes gives (kind_of m) (kind_of n))) (members t)) (members s) in
    let others : Label = if is_any s || is_any t then in_error E13 else offers_label bases offers in
    let least : LabelPlain others = in_both LabelPlain (is_any s || is_any t) (in_error E13) (offers_label bases offers)
    (refl, tt) (offers_plain bases offers each) in
    let sure : Label = if is_dynamic takes s t then record { type = dynamic; codes = A2 ∷ [] } else others in
    in_both LabelPlain (is_never s || is_never t) (clean Never) sure tt
    (in_both LabelPlain (is_dynamic takes s t) (record { type = dynamic; codes = A2 ∷ [] }) others (refl, tt) least)

pub binary_plain : (bases : Bases) (operator : BinaryOperator) (s t : Tree)
    → LabelPlain (binary_label bases operator s t)
binary_plain bases operator s t = pairs_plain bases (takes_kind operator) kind_type Any s t

order_plain : (bases : Bases) (s t : Tree) → LabelPlain (order_label bases s t)
order_plain bases s t = pairs_plain bases (λ k. true) (λ k. Bool) Bool s t

pub compare_plain : (bases : Bases) (operator : ComparisonOperator) (s t : Tree)
    → LabelPlain (compare_label bases operator s t)
compare_plain bases Equal s t = tt
compare_plain bases NotEqual s t = tt
compare_plain bases In s t = mapped_plain bases contain_member contain_plain (members t)
compare_plain bases NotIn s t = mapped_plain bases contain_member contain_plain (members t)
compare_plain bases _ s t = order_plain bases s t

pub display_plain : (t : Tree) → LabelPlain (display_label t)
display_plain t = in_both LabelPlain (nat_le (nodes t) node_limit) (clean t) (in_error E26) tt (refl, tt)

pub list_plain : (bases : Bases) (item : Option Tree) (types : List Tree) → LabelPlain (list_label bases item types)
list_plain bases (Some t) types = tt
list_plain bases None [] = display_plain (ListOf Any)
list_plain bases None (t ∷ ts) = display_plain (ListOf (join_all bases (t ∷ ts)))

module _ (ctx : Context) (declared : List Tree) (static assignable : Tree → Tree → Test) where
  keys_plain : (int str : Test) (values : List Tree) → LabelPlain
      (keys_label ctx declared static assignable int str values)
  keys_plain true str values = display_plain (DictOf Int (join_all ctx.bases values))
  keys_plain false true values = display_plain (DictOf Str (join_all ctx.bases values))
  keys_plain false false values = (refl, tt)

  pub dict_plain : (parts : Option KeyValue) (keys values : List Tree)
      → LabelPlain (dict_label ctx declared static assignable parts keys values)
  dict_plain (Some kv) keys values = tt
  dict_plain None [] values = (refl, tt)
  dict_plain None (k ∷ ks) values = keys_plain (list_all (λ t. static t Int) (k ∷ ks))
      (list_all (λ t. static t Str) (k ∷ ks)) values

-- ---- names

local_plain : (o : Option Tree) → LabelPlain (local_label o)
local_plain None = (refl, tt)
local_plain (Some t) = tt

constant_plain : (o : Option Tree) → LabelPlain (constant_label o)
constant_plain None = (refl, tt)
constant_plain (Some t) = tt

pub name_plain : (ctx : Context) (env : Env) (r : NameMeaning) → LabelPlain (name_label ctx env r)
name_plain ctx env (meaning.Local x) = local_plain (current env x)
name_plain ctx env (meaning.Const i) = constant_plain (slice_get ctx.constants i)
name_plain ctx env (meaning.Func i) = in_both LabelPlain ctx.in_body (in_error E20) (in_error E03) (refl, tt) (refl, tt)
name_plain ctx env (meaning.Class c) = in_both LabelPlain (nat_lt c ctx.known) (in_error E20) (in_error E03) (refl, tt)
    (refl, tt)
name_plain ctx env (meaning.Builtin b) = (refl, tt)
name_plain ctx env meaning.None = (refl, tt)

-- ---- calls

-- likewise of what a call comes to on a member
record CallPlain (o : CallOffer) : Type 0 where
  at_callee : ArePlain o.at_callee
  at_call : ArePlain o.at_call

-- on each member
abbrev CallsPlain : List CallOffer → Type 0
CallsPlain os = AllByRecursion CallPlain os

-- nothing is found, or one code
good : {o : CallOffer} → ArePlain o.at_callee → ArePlain o.at_call → CallPlain o
good h k = record { at_callee = h; at_call = k }

called_plain : (g : GivenArguments) (s : Signature) → CallPlain (signature_offer g s)
called_plain g s = in_both CallPlain (is_suited g s) (record {
  at_callee = [];
  at_call = [];
  gives = s.returns;
  calls =
      s ∷ [];
}) (fails_at_call E14) (good tt tt) (good tt (refl, tt))

value_plain : (t : Tree) → CallPlain (value_offer t)
value_plain Any = good tt (refl, tt)
value_plain _ = good tt (refl, tt)

values_plain : (t : Tree) → CallsPlain (value_offers t)
values_plain t = all_map CallPlain value_offer value_plain (members t)

class_plain : (g : GivenArguments) (m : Option Method) (f : Option TypedParameter) → CallsPlain (class_offers g m f)
class_plain g (Some m) f = (called_plain g (method_signature m), tt)
class_plain g None (Some f) = values_plain f.type
class_plain g None None = (good (refl, tt) tt, tt)

list_offers_plain : (g : GivenArguments) (word : List ℕ) (t : Tree) → CallsPlain (list_offers g word t)
list_offers_plain g word t =
    in_both CallsPlain (bytes_eq word (codes "append")) _ _ (called_plain g (builtin_signature (t ∷ []) NoneType), tt)
    (in_both CallsPlain (bytes_eq word (codes "pop")) _ _ (called_plain g (builtin_signature [] t), tt)
    (good (refl, tt) tt, tt))

dict_offers_plain : (bases : Bases) (g : GivenArguments) (word : List ℕ) (k v : Tree)
    → CallsPlain (dict_offers bases g word k v)
dict_offers_plain bases g word k v =
    in_both CallsPlain (bytes_eq word (codes "get")) _ _ (
      called_plain g
          (builtin_signature (k ∷ []) (join_or_object bases v NoneType)),
      tt,
    ) (good (refl, tt) tt, tt)

method_plain : (ctx : Context) (g : GivenArguments) (word : List ℕ) (t : Tree) → CallsPlain (method_offers ctx g word t)
method_plain ctx g word (Class c) = class_plain g (method_by_name (class_facts_at ctx.classes c).methods word)
    (field_by_name (class_facts_at ctx.classes c).fields word)
method_plain ctx g word (ListOf t) = list_offers_plain g word t
method_plain ctx g word (DictOf k v) = dict_offers_plain ctx.bases g word k v
method_plain ctx g word Any = (good (refl, tt) tt, tt)
method_plain ctx g word _ = (good (refl, tt) tt, tt)

function_plain : (g : GivenArguments) (s : Option Signature) → CallPlain (function_offer g s)
function_plain g None = good tt (refl, tt)
function_plain g (Some s) = called_plain g s

-- likewise of a callee: at its label, and of what its call comes to
record CalleePlain (c : CalleeLabel) : Type 0 where
  label : LabelPlain c.label
  offers : CallsPlain c.offers

called_value : (m : Label) → LabelPlain m → CalleePlain (value_callee m)
called_value m h = record { label = h; offers = values_plain m.type }

one_offer : (o : CallOffer) → CallPlain o → CalleePlain (good_callee (o ∷ []))
one_offer o h = record { label = tt; offers = (h, tt) }

own_plain : (rule : CallRule) → CalleePlain (own_callee rule)
own_plain rule = record { label = tt; offers = tt }

builtin_plain : (g : GivenArguments) (b : Builtin) → CalleePlain (builtin_callee g b)
builtin_plain g builtin.Print = one_offer _ (in_both CallPlain (has_none g.named) (plain_call NoneType)
    (fails_at_call E14) (good tt tt) (good tt (refl, tt)))
builtin_plain g builtin.Str = one_offer _ (in_both CallPlain (is_one g) (plain_call Str) (fails_at_call E14)
    (good tt tt) (good tt (refl, tt)))
builtin_plain g builtin.Len = in_both CalleePlain (is_one g) (own_callee length_rule)
    (good_callee (fails_at_call E14 ∷ [])) (own_plain length_rule) (one_offer (fails_at_call E14) (good tt (refl, tt)))
builtin_plain g builtin.IsInstance = in_both CalleePlain (is_two g) (own_callee test_rule)
    (good_callee (fails_at_call E14 ∷ [])) (own_plain test_rule) (one_offer (fails_at_call E14) (good tt (refl, tt)))
builtin_plain g builtin.Range = one_offer _ (in_both CallPlain (is_one g) (fails_at_call E27) (fails_at_call E14)
    (good tt (refl, tt)) (good tt (refl, tt)))
builtin_plain g _ = called_value (in_error E20) (refl, tt)

name_callee_plain : (ctx : Context) (env : Env) (g : GivenArguments) (r : NameMeaning)
    → CalleePlain (name_callee ctx env g r)
name_callee_plain ctx env g (meaning.Func i) =
    in_both CalleePlain ctx.in_body (good_callee (function_offer g (slice_get ctx.functions i) ∷ []))
    (value_callee (in_error E03)) (one_offer (function_offer g (slice_get ctx.functions i))
    (function_plain g (slice_get ctx.functions i))) (called_value (in_error E03) (refl, tt))
name_callee_plain ctx env g (meaning.Class c) =
    in_both CalleePlain (nat_lt c ctx.known) (good_callee (signature_offer g (class_signature ctx.classes c) ∷ []))
    (value_callee (in_error E03)) (one_offer (signature_offer g (class_signature ctx.classes c))
    (called_plain g (class_signature ctx.classes c))) (called_value (in_error E03) (refl, tt))
name_callee_plain ctx env g (meaning.Builtin b) = builtin_plain g b
name_callee_plain ctx env g (meaning.Local x) = called_value (name_label ctx env (meaning.Local x))
    (name_plain ctx env (meaning.Local x))
name_callee_plain ctx env g (meaning.Const i) = called_value (name_label ctx env (meaning.Const i))
    (name_plain ctx env (meaning.Const i))
name_callee_plain ctx env g meaning.None = called_value (name_label ctx env meaning.None) (name_plain ctx env meaning.None)

method_callee_plain : (ctx : Context) (g : GivenArguments) (word : List ℕ) (t : Tree)
    → CalleePlain (method_callee ctx g word t)
method_callee_plain ctx g word t =
    let offers = flat_map (method_offers ctx g word) (members t) in
    let each : CallsPlain offers = all_flat_any CallPlain (method_offers ctx g word) (method_plain ctx g word)
    (members t) in
    record { label = all_flat CallPlain IsPlain (λ o. o.at_callee) (λ o h. h.at_callee) offers each; offers = each }

-- a callee that is neither a name nor an attribute
other_callee_plain : (in_body : Test) (m : Label) → LabelPlain m
    → CalleePlain (if in_body then value_callee m else value_callee (in_error E03))
other_callee_plain b m h = in_both CalleePlain b (value_callee m) (value_callee (in_error E03)) (called_value m h)
    (called_value (in_error E03) (refl, tt))

callee_plain : (ctx : Context) (env : Env) (g : GivenArguments) (e : Expr) (m : Labels e) → LabelPlain (whole_label e m)
    → CalleePlain (callee_of ctx env g e m)
callee_plain ctx env g (name n) m h = name_callee_plain ctx env g (ctx.resolve n.text)
callee_plain ctx env g (attribute p e field) m h =
    in_both CalleePlain ctx.in_body (method_callee ctx g field.text (type_of e m.object)) (value_callee (in_error E03))
    (method_callee_plain ctx g field.text (type_of e m.object)) (called_value (in_error E03) (refl, tt))
callee_plain ctx env g (number p digits) m h = other_callee_plain ctx.in_body m h
callee_plain ctx env g (text p characters) m h = other_callee_plain ctx.in_body m h
callee_plain ctx env g (truth p value) m h = other_callee_plain ctx.in_body m h
callee_plain ctx env g (nothing p) m h = other_callee_plain ctx.in_body m h
callee_plain ctx env g (tuple p es) m h = other_callee_plain ctx.in_body m.here h
callee_plain ctx env g (list p es) m h = other_callee_plain ctx.in_body m.here h
callee_plain ctx env g (dict p es) m h = other_callee_plain ctx.in_body m.here h
callee_plain ctx env g (negative p e) m h = other_callee_plain ctx.in_body m.here h
callee_plain ctx env g (negation p e) m h = other_callee_plain ctx.in_body m.here h
callee_plain ctx env g (binary p o l r) m h = other_callee_plain ctx.in_body m.here h
callee_plain ctx env g (compare p o l r) m h = other_callee_plain ctx.in_body m.here h
callee_plain ctx env g (is_none p e) m h = other_callee_plain ctx.in_body m.here h
callee_plain ctx env g (is_not_none p e) m h = other_callee_plain ctx.in_body m.here h
callee_plain ctx env g (conjunction p l r) m h = other_callee_plain ctx.in_body m.here h
callee_plain ctx env g (disjunction p l r) m h = other_callee_plain ctx.in_body m.here h
callee_plain ctx env g (index p e i) m h = other_callee_plain ctx.in_body m.here h
callee_plain ctx env g (call p c args kws) m h = other_callee_plain ctx.in_body m.here h

pub callee_label_plain : (ctx : Context) (env : Env) (g : GivenArguments) (e : Expr) (m : Labels e)
    → LabelPlain (whole_label e m) → LabelPlain (callee_of ctx env g e m).label
callee_label_plain ctx env g e m h = (callee_plain ctx env g e m h).label

call_plain : (bases : Bases) (os : List CallOffer) → CallsPlain os → LabelPlain (call_label bases os)
call_plain bases os h =
    in_both ArePlain (has_none (flat_map (λ o. o.at_callee) os)) (flat_map (λ o. o.at_call) os) []
    (all_flat CallPlain IsPlain (λ o. o.at_call) (λ o k. k.at_call) os h) tt

length_label_plain : (bases : Bases) (types : List Tree) → LabelPlain (length_label bases types)
length_label_plain bases types = mapped_plain bases length_member length_plain (members (first_type types))

any_list_plain : (o : Option Tree) → ArePlain (any_list_codes o)
any_list_plain None = tt
any_list_plain (Some t) = in_both ArePlain (list_any is_object_or_any (members t)) (A7 ∷ []) [] (refl, tt) tt

test_codes_plain : (env : Env) (x : Option ℕ) (test : Option Tested) → ArePlain (test_codes env x test)
test_codes_plain env x None = tt
test_codes_plain env x (Some for_none) = tt
test_codes_plain env x (Some (for_type t)) = tt
test_codes_plain env x (Some for_list) = any_list_plain (current_of env x)

test_plain : (ctx : Context) (env : Env) (arguments : Exprs) → LabelPlain (test_label ctx env arguments)
test_plain ctx env arguments = test_codes_plain env (local_of_argument ctx.resolve (first_argument arguments))
    (test_of_argument ctx.resolve (second_argument arguments))

whole_plain : (ctx : Context) (env : Env) (rule : CallRule) (os : List CallOffer) (arguments : Exprs)
    (types : List Tree) → CallsPlain os → LabelPlain (whole_call_label ctx env rule os arguments types)
whole_plain ctx env member_rule os arguments types h = call_plain ctx.bases os h
whole_plain ctx env length_rule os arguments types h = length_label_plain ctx.bases types
whole_plain ctx env test_rule os arguments types h = test_plain ctx env arguments

-- the label of a call of this callee
pub whole_call_plain : (ctx : Context) (env : Env) (g : GivenArguments) (e : Expr) (m : Labels e)
    → LabelPlain (whole_label e m) → (arguments : Exprs) (types : List Tree)
    → LabelPlain (whole_call_label ctx env (callee_of ctx env g e m).rule (callee_of ctx env g e m).offers arguments
    types)
whole_call_plain ctx env g e m h arguments types = whole_plain ctx env (callee_of ctx env g e m).rule
    (callee_of ctx env g e m).offers arguments types (callee_plain ctx env g e m h).offers

-- likewise of a code that there may be
abbrev pub IsPlainIfAny : Option Code → Type 0
IsPlainIfAny None = Unit {0}
IsPlainIfAny (Some c) = IsPlain c

second_plain : (test : Option Tested) (early : Test) → IsPlainIfAny (second_code test early)
second_plain (Some test) early = tt
second_plain None true = tt
second_plain None false = refl

pub whole_second_plain : (ctx : Context) (rule : CallRule) (arguments : Exprs) (m : ItemsLabels arguments)
    → IsPlainIfAny (whole_second_code ctx rule arguments m)
whole_second_plain ctx member_rule arguments m = tt
whole_second_plain ctx length_rule arguments m = tt
whole_second_plain ctx test_rule arguments m = second_plain (test_of_argument ctx.resolve (second_argument arguments))
    (early_second arguments m)

-- ---- `range` as what a `for` goes over

pub range_plain : (bases : Bases) (g : GivenArguments) → LabelPlain (call_label bases (range_offers g))
range_plain bases g = call_plain bases (range_offers g) (called_plain g range_signature, tt)

pub range_item_plain : (g : GivenArguments) → LabelPlain (range_item g)
range_item_plain g = in_both LabelPlain (is_suited g range_signature) (clean Int)
    (record { type = Any; codes = A5 ∷ [] }) tt (refl, tt)
