-- A call on the members of a type is an error exactly if there is a misfit.
use Rattle.std.proofs.Common.{◌≡◌, ℕ, List, [], ◌∷◌, ◌++◌, Bool as Test, true, false, refl, ◌∙◌}
use Rattle.std.specs.Prelude.{not, if◌then◌else◌, Option, Some, None, is_some, flat_map, map, codes, bytes_eq}
use Rattle.std.specs.Prelude.{option_to_list}
use Rattle.std.specs.Option.{option_map}
use Rattle.pc_tree.specs.declared.code.Code.TheVariants.{E14, E15}
use Rattle.pc_tree.specs.Tree.{Ann, Module}
use Rattle.pc_types.specs.Tree.{Tree, Any, Object, Never, Int, Bool, Str, NoneType, Class, ListOf, DictOf, TupleOf}
use Rattle.pc_types.specs.Tree.{Union}
use Rattle.pc_types.specs.Below.{Bases}
use Rattle.pc_types.specs.Shape.{members}
use Rattle.pc_annotations.specs.Bases.{bases_of}
use Rattle.pc_class.specs.Facts.{TypedParameter, Method, classes_of, class_facts_at, field_by_name, method_by_name}
use Rattle.pc_flow.specs.Environment.{join_or_object}
use Rattle.pc_rules.specs.Context.{Signature}
use Rattle.pc_rules.specs.Calls.{GivenArguments, CallOffer, is_suited, signature_offer, fails_at_call, value_offer}
use Rattle.pc_rules.specs.Calls.{class_offers, list_offers, dict_offers, builtin_signature, fails_at_callee}
use Rattle.pc_rules.specs.Calls.{method_signature}
use Rattle.pc_rules.specs.Computed.Findings.{has_code}
use Rattle.pc_detail_texts.specs.Details.{Callable, called_function, called_member, Misfit, call}
use Rattle.pc_detail_rules.specs.Operations.{method_name}
use Rattle.pc_detail_rules.specs.Calls.{Called, misfit, misfits_of, first_detail, value_called, member_called, list_called}
use Rattle.pc_detail_rules.specs.Calls.{dict_called, container_called}
use Rattle.pc_detail_rules.specs.CallLaws.{MethodMisfitsAreExact, ValueMisfitsAreExact}
use Rattle.pc_detail_rules.specs.Written.{method_annotations}
use Rattle.pc_detail_rules.proofs.Misfits.{misfits_exact}

-- offers have E14 at the call
abbrev pub is_wrong : List CallOffer → Test
is_wrong offers = has_code (flat_map (λ (o : CallOffer). o.at_call) offers) E14

-- callees have a misfit
abbrev pub have_misfit : GivenArguments → List Called → Test
have_misfit g cs = is_some (first_detail (misfits_of g cs))

-- an offer of a call that suits
abbrev pub suited_offer : Tree → List Signature → CallOffer
suited_offer t signatures = record { at_callee = []; at_call = []; gives = t; calls = signatures }

pub offer_step : (suited : Test) (o : Option Misfit) (t : Tree) (signatures : List Signature) (what : Callable Tree)
    → suited ≡ not (is_some o)
    → is_wrong ((if suited then suited_offer t signatures else fails_at_call E14) ∷ [])
    ≡ is_some (first_detail (option_to_list (option_map (call what) o) ++ []))
offer_step suited None t signatures what h = rw h refl
offer_step suited (Some x) t signatures what h = rw h refl

-- a call of one signature, where another has the same parameters
pub one_exact : (g : GivenArguments) (s t : Signature) (what : Callable Tree) (annotations : List (Option Ann))
    → is_suited g s ≡ is_suited g t → is_wrong (signature_offer g s ∷ [])
    ≡ have_misfit g (record { what = what; signature = Some t; annotations = annotations } ∷ [])
one_exact g s t what annotations same = offer_step (is_suited g s) (misfit g t) s.returns (s ∷ []) what (same ∙ misfits_exact g t)

-- ---- values

pub values_exact : (g : GivenArguments) (ts : List Tree)
    → is_wrong (map value_offer ts) ≡ have_misfit g (flat_map value_called ts)
values_exact g [] = refl
values_exact g (Any ∷ ts) = values_exact g ts
values_exact g (Object ∷ ts) = refl
values_exact g (Never ∷ ts) = refl
values_exact g (Int ∷ ts) = refl
values_exact g (Bool ∷ ts) = refl
values_exact g (Str ∷ ts) = refl
values_exact g (NoneType ∷ ts) = refl
values_exact g (Class c ∷ ts) = refl
values_exact g (ListOf t ∷ ts) = refl
values_exact g (DictOf k v ∷ ts) = refl
values_exact g (TupleOf parts ∷ ts) = refl
values_exact g (Union s t ∷ ts) = refl

pub value_exact : ValueMisfitsAreExact
value_exact g t = values_exact g (members t)

-- ---- methods

member_exact : (m : Module) (g : GivenArguments) (f : Option Method) (p : Option TypedParameter)
    → is_wrong (class_offers g f p) ≡ have_misfit g (member_called m f p)
member_exact m g (Some f) p =
    one_exact g (method_signature f) (method_signature f) (called_function (method_name m f))
    (method_annotations m f) refl
member_exact m g None (Some p) = values_exact g (members p.type)
member_exact m g None None = refl

two_step : (g : GivenArguments) (first second : Test) (a b : List CallOffer) (c d : List Called)
    → is_wrong a ≡ have_misfit g c → is_wrong b ≡ have_misfit g d
    → is_wrong (if first then a else (if second then b else fails_at_callee E15 ∷ []))
    ≡ have_misfit g (if first then c else (if second then d else []))
two_step g true second a b c d h k = h
two_step g false true a b c d h k = k
two_step g false false a b c d h k = refl

one_step : (g : GivenArguments) (first : Test) (a : List CallOffer) (c : List Called) → is_wrong a ≡ have_misfit g c
    → is_wrong (if first then a else fails_at_callee E15 ∷ []) ≡ have_misfit g (if first then c else [])
one_step g true a c h = h
one_step g false a c h = refl

list_exact : (g : GivenArguments) (word : List ℕ) (t : Tree)
    → is_wrong (list_offers g word t) ≡ have_misfit g (list_called t word)
list_exact g word t =
    let appended = builtin_signature (t ∷ []) NoneType in
    let popped = builtin_signature [] t in
    two_step g (bytes_eq word (codes "append")) (bytes_eq word (codes "pop")) (signature_offer g appended ∷ [])
    (signature_offer g popped ∷ []) (container_called (ListOf t) word (t ∷ []) ∷ [])
    (container_called (ListOf t) word [] ∷ [])
    (one_exact g appended (builtin_signature (t ∷ []) Any) (called_member (ListOf t) word) [] refl)
    (one_exact g popped (builtin_signature [] Any) (called_member (ListOf t) word) [] refl)

dict_exact : (bases : Bases) (g : GivenArguments) (word : List ℕ) (k v : Tree)
    → is_wrong (dict_offers bases g word k v) ≡ have_misfit g (dict_called k v word)
dict_exact bases g word k v =
    let got = builtin_signature (k ∷ []) (join_or_object bases v NoneType) in
    one_step g (bytes_eq word (codes "get")) (signature_offer g got ∷ [])
    (container_called (DictOf k v) word (k ∷ []) ∷ [])
    (one_exact g got (builtin_signature (k ∷ []) Any) (called_member (DictOf k v) word) [] refl)

pub method_exact : MethodMisfitsAreExact
method_exact m g word Any = refl
method_exact m g word Object = refl
method_exact m g word Never = refl
method_exact m g word Int = refl
method_exact m g word Bool = refl
method_exact m g word Str = refl
method_exact m g word NoneType = refl
method_exact m g word (Class c) =
    let facts = class_facts_at (classes_of m) c in
    member_exact m g (method_by_name facts.methods word) (field_by_name facts.fields word)
method_exact m g word (ListOf t) = list_exact g word t
method_exact m g word (DictOf k v) = dict_exact (bases_of m) g word k v
method_exact m g word (TupleOf parts) = refl
method_exact m g word (Union s t) = refl
