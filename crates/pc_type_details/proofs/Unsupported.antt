-- The members that the program takes as those that lack an operation or an attribute are those on which its rule finds an
-- error.
use Rattle.std.proofs.Common.{◌≡◌, ◌&&◌, ℕ, List, [], ◌∷◌, refl, ap, true, false, Option, Some, None, codes}
use Rattle.std.proofs.Math.Path.{fun_ext}
use Rattle.std.specs.Prelude.{Bool as Test, filter, flat_map, map, not, is_some, ◌||◌, bytes_eq, if◌then◌else◌}
use Rattle.pc_tree.specs.declared.code.Code.{Code}
use Rattle.pc_tree.specs.declared.code.Code.TheVariants.{E14, E15}
use Rattle.pc_tree.specs.Tree.{Module}
use Rattle.pc_types.specs.Below.{Bases}
use Rattle.pc_types.specs.Tree.{Tree, Any, Object, Never, Int, Bool, Str, NoneType, Class, ListOf, DictOf, TupleOf}
use Rattle.pc_types.specs.Tree.{Union}
use Rattle.pc_types.specs.Shape.{members}
use Rattle.pc_class.specs.Facts.{TypedParameter, Method, classes_of, class_facts_at, field_by_name, method_by_name}
use Rattle.pc_annotations.specs.Bases.{bases_of}
use Rattle.pc_flow.specs.Environment.{join_or_object}
use Rattle.pc_rules.specs.Context.{Signature}
use Rattle.pc_rules.specs.Calls.{CallOffer, GivenArguments, signature_offer, value_offer, class_offers}
use Rattle.pc_rules.specs.Calls.{builtin_signature, fails_at_call, fails_at_callee, is_suited, method_signature}
use Rattle.pc_rules.specs.Computed.Findings.{has_code}
use Rattle.pc_rules.specs.Operations.{attribute_found, store_found}
use Rattle.pc_detail_texts.specs.Details as detail
use Rattle.pc_detail_texts.specs.Details.{AttributeHint, Detail}
use Rattle.pc_detail_texts.specs.Sentences.{Words}
use Rattle.pc_type_details.specs.declared.operations.ItemOperation.{ItemOperation}
use Rattle.pc_type_details.specs.declared.operations.ItemOperation.TheVariants as operation
use Rattle.pc_type_details.specs.declared.operations.Use.{Use}
use Rattle.pc_type_details.specs.declared.operations.Use.TheVariants as used
use Rattle.pc_detail_rules.specs.Operations.{lacking, no_arguments}
use Rattle.pc_type_details.specs.Unsupported.{error_code, found_by, found_for, lacking_by, lacks, lacks_name}

-- the test of a member is that of the rule
lacks_exact : (bases : Bases) (o : ItemOperation) (t : Tree) → lacks o t ≡ has_code (found_by bases o t) (error_code o)
lacks_exact bases operation.Contain Any = refl
lacks_exact bases operation.Contain Object = refl
lacks_exact bases operation.Contain Never = refl
lacks_exact bases operation.Contain Int = refl
lacks_exact bases operation.Contain Bool = refl
lacks_exact bases operation.Contain Str = refl
lacks_exact bases operation.Contain NoneType = refl
lacks_exact bases operation.Contain (Class c) = refl
lacks_exact bases operation.Contain (ListOf t) = refl
lacks_exact bases operation.Contain (DictOf k v) = refl
lacks_exact bases operation.Contain (TupleOf ts) = refl
lacks_exact bases operation.Contain (Union a b) = refl
lacks_exact bases operation.Length Any = refl
lacks_exact bases operation.Length Object = refl
lacks_exact bases operation.Length Never = refl
lacks_exact bases operation.Length Int = refl
lacks_exact bases operation.Length Bool = refl
lacks_exact bases operation.Length Str = refl
lacks_exact bases operation.Length NoneType = refl
lacks_exact bases operation.Length (Class c) = refl
lacks_exact bases operation.Length (ListOf t) = refl
lacks_exact bases operation.Length (DictOf k v) = refl
lacks_exact bases operation.Length (TupleOf ts) = refl
lacks_exact bases operation.Length (Union a b) = refl
lacks_exact bases operation.Index Any = refl
lacks_exact bases operation.Index Object = refl
lacks_exact bases operation.Index Never = refl
lacks_exact bases operation.Index Int = refl
lacks_exact bases operation.Index Bool = refl
lacks_exact bases operation.Index Str = refl
lacks_exact bases operation.Index NoneType = refl
lacks_exact bases operation.Index (Class c) = refl
lacks_exact bases operation.Index (ListOf t) = refl
lacks_exact bases operation.Index (DictOf k v) = refl
lacks_exact bases operation.Index (TupleOf ts) = refl
lacks_exact bases operation.Index (Union a b) = refl
lacks_exact bases operation.Store Any = refl
lacks_exact bases operation.Store Object = refl
lacks_exact bases operation.Store Never = refl
lacks_exact bases operation.Store Int = refl
lacks_exact bases operation.Store Bool = refl
lacks_exact bases operation.Store Str = refl
lacks_exact bases operation.Store NoneType = refl
lacks_exact bases operation.Store (Class c) = refl
lacks_exact bases operation.Store (ListOf t) = refl
lacks_exact bases operation.Store (DictOf k v) = refl
lacks_exact bases operation.Store (TupleOf ts) = refl
lacks_exact bases operation.Store (Union a b) = refl
lacks_exact bases operation.Iterate Any = refl
lacks_exact bases operation.Iterate Object = refl
lacks_exact bases operation.Iterate Never = refl
lacks_exact bases operation.Iterate Int = refl
lacks_exact bases operation.Iterate Bool = refl
lacks_exact bases operation.Iterate Str = refl
lacks_exact bases operation.Iterate NoneType = refl
lacks_exact bases operation.Iterate (Class c) = refl
lacks_exact bases operation.Iterate (ListOf t) = refl
lacks_exact bases operation.Iterate (DictOf k v) = refl
lacks_exact bases operation.Iterate (TupleOf ts) = refl
lacks_exact bases operation.Iterate (Union a b) = refl

-- the members that lack an operation are those of its rule
pub lacking_exact_by : (bases : Bases) (o : ItemOperation) (t : Tree) → filter (lacks o) (members t) ≡ lacking_by bases o t
lacking_exact_by bases o t = ap (λ (p : Tree → Test). filter p (members t)) (fun_ext (lacks_exact bases o))

-- ---- attributes

-- the codes at a callee on the offers of a call
abbrev at_callees : List CallOffer → List Code
at_callees offers = flat_map (λ (o : CallOffer). o.at_callee) offers

-- a call of a signature has no code at its callee
none_at_signature : (g : GivenArguments) (s : Signature) → (signature_offer g s).at_callee ≡ []
none_at_signature g s = go (is_suited g s)
  where
    go : (b : Test) → (if b then record { at_callee = []; at_call = []; gives = s.returns; calls = s ∷ [] }
        else fails_at_call E14).at_callee ≡ []
    go true = refl
    go false = refl

-- nor has a call of a value
none_at_value : (t : Tree) → (value_offer t).at_callee ≡ []
none_at_value Any = refl
none_at_value Object = refl
none_at_value Never = refl
none_at_value Int = refl
none_at_value Bool = refl
none_at_value Str = refl
none_at_value NoneType = refl
none_at_value (Class c) = refl
none_at_value (ListOf t) = refl
none_at_value (DictOf k v) = refl
none_at_value (TupleOf ts) = refl
none_at_value (Union a b) = refl

none_at_values : (ts : List Tree) → at_callees (map value_offer ts) ≡ []
none_at_values [] = refl
none_at_values (t ∷ ts) = rw (none_at_value t) (none_at_values ts)

-- a member is lacked exactly if there is neither a field nor a method
value_lacked : (f : Option TypedParameter) (x : Option Method)
    → not (is_some f || is_some x) ≡ has_code (attribute_found f x).found E15
value_lacked (Some f) x = refl
value_lacked None (Some x) = refl
value_lacked None None = refl

target_lacked : (f : Option TypedParameter) (x : Option Method)
    → not (is_some f || is_some x) ≡ has_code (store_found f x).found E15
target_lacked (Some f) x = refl
target_lacked None (Some x) = refl
target_lacked None None = refl

callee_lacked : (g : GivenArguments) (f : Option TypedParameter) (x : Option Method)
    → not (is_some f || is_some x) ≡ has_code (at_callees (class_offers g x f)) E15
callee_lacked g (Some f) (Some x) = rw (none_at_signature g (method_signature x)) refl
callee_lacked g None (Some x) = rw (none_at_signature g (method_signature x)) refl
callee_lacked g (Some f) None = rw (none_at_values (members f.type)) refl
callee_lacked g None None = refl

-- a method of a list is lacked exactly if it is neither `append` nor `pop`
list_lacked : (g : GivenArguments) (s : Signature) (r : Signature) (a b : Test) → (not a && not b)
    ≡ has_code (at_callees (if a then signature_offer g s ∷ [] else (if b then signature_offer g r ∷ []
    else fails_at_callee E15 ∷ []))) E15
list_lacked g s r true b = rw (none_at_signature g s) refl
list_lacked g s r false true = rw (none_at_signature g r) refl
list_lacked g s r false false = refl

-- a method of a dict is lacked exactly if it is not `get`
dict_lacked : (g : GivenArguments) (s : Signature) (a : Test) → not a
    ≡ has_code (at_callees (if a then signature_offer g s ∷ [] else fails_at_callee E15 ∷ [])) E15
dict_lacked g s true = rw (none_at_signature g s) refl
dict_lacked g s false = refl

-- the test of a member is that of the rule
lacks_name_exact : (m : Module) (u : Use) (word : List ℕ) (t : Tree)
    → lacks_name m u word t ≡ has_code (found_for m u word t) E15
lacks_name_exact m used.Read word Any = refl
lacks_name_exact m used.Read word Object = refl
lacks_name_exact m used.Read word Never = refl
lacks_name_exact m used.Read word Int = refl
lacks_name_exact m used.Read word Bool = refl
lacks_name_exact m used.Read word Str = refl
lacks_name_exact m used.Read word NoneType = refl
lacks_name_exact m used.Read word (Class c) = value_lacked (field_by_name (class_facts_at (classes_of m) c).fields word)
    (method_by_name (class_facts_at (classes_of m) c).methods word)
lacks_name_exact m used.Read word (ListOf t) = refl
lacks_name_exact m used.Read word (DictOf k v) = refl
lacks_name_exact m used.Read word (TupleOf ts) = refl
lacks_name_exact m used.Read word (Union a b) = refl
lacks_name_exact m used.Called word Any = refl
lacks_name_exact m used.Called word Object = refl
lacks_name_exact m used.Called word Never = refl
lacks_name_exact m used.Called word Int = refl
lacks_name_exact m used.Called word Bool = refl
lacks_name_exact m used.Called word Str = refl
lacks_name_exact m used.Called word NoneType = refl
lacks_name_exact m used.Called word (Class c) = callee_lacked no_arguments (field_by_name (class_facts_at (classes_of m) c).fields word)
    (method_by_name (class_facts_at (classes_of m) c).methods word)
lacks_name_exact m used.Called word (ListOf t) = list_lacked no_arguments
    (builtin_signature (t ∷ []) NoneType) (builtin_signature [] t) (bytes_eq word (codes "append"))
    (bytes_eq word (codes "pop"))
lacks_name_exact m used.Called word (DictOf k v) = dict_lacked no_arguments
    (builtin_signature (k ∷ []) (join_or_object (bases_of m) v NoneType)) (bytes_eq word (codes "get"))
lacks_name_exact m used.Called word (TupleOf ts) = refl
lacks_name_exact m used.Called word (Union a b) = refl
lacks_name_exact m used.Assigned word Any = refl
lacks_name_exact m used.Assigned word Object = refl
lacks_name_exact m used.Assigned word Never = refl
lacks_name_exact m used.Assigned word Int = refl
lacks_name_exact m used.Assigned word Bool = refl
lacks_name_exact m used.Assigned word Str = refl
lacks_name_exact m used.Assigned word NoneType = refl
lacks_name_exact m used.Assigned word (Class c) = target_lacked (field_by_name (class_facts_at (classes_of m) c).fields word)
    (method_by_name (class_facts_at (classes_of m) c).methods word)
lacks_name_exact m used.Assigned word (ListOf t) = refl
lacks_name_exact m used.Assigned word (DictOf k v) = refl
lacks_name_exact m used.Assigned word (TupleOf ts) = refl
lacks_name_exact m used.Assigned word (Union a b) = refl

-- the members that lack an attribute are those of its rule
pub lacking_name_exact : (m : Module) (u : Use) (word : List ℕ) (t : Tree)
    → filter (lacks_name m u word) (members t) ≡ lacking (found_for m u word) E15 t
lacking_name_exact m u word t = ap (λ (p : Tree → Test). filter p (members t)) (fun_ext (lacks_name_exact m u word))

-- an attribute's detail, by its parts
pub same_attribute : (o p : Words) (l k : List Words) (n w : Words) (h g : AttributeHint) → o ≡ p → l ≡ k → n ≡ w
    → h ≡ g → ◌≡◌ {A = Detail Words} (detail.attribute o l n h) (detail.attribute p k w g)
same_attribute o p l k n w h g e f i j = rw (e, f, i, j) refl
