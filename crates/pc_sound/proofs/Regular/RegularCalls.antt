-- The types that an expression's label is computed from, and the results of calls, are regular.
use Rattle.std.proofs.Common.{◌≡◌, ℕ, zero, suc, List, [], ◌∷◌, ◌++◌, map}
use Rattle.std.specs.Prelude.{Bool as Test, true, false, if◌then◌else◌, Option, Some, None, slice_get, flat_map}
use Rattle.std.specs.Prelude.{bytes_eq, codes}
use Rattle.pc_tree.specs.declared.code.Code.TheVariants.{E14, E15, E27}
use Rattle.pc_tree.specs.Tree.{Name}
use Rattle.pc_tree.specs.Stopping.{has_none}
use Rattle.pc_scope.specs.declared.resolution.Builtin.{Builtin}
use Rattle.pc_scope.specs.declared.resolution.Builtin.TheVariants as builtin
use Rattle.pc_scope.specs.Resolution.{is_one_of}
use Rattle.pc_types.specs.Tree.{Tree, Any, Str, NoneType}
use Rattle.pc_types.specs.Below.{Bases}
use Rattle.pc_types.specs.Normal.{IsKey}
use Rattle.pc_types.specs.Shape.{members}
use Rattle.pc_class.specs.Facts.{TypedParameter, Method, field_by_name, method_by_name, class_facts_at}
use Rattle.pc_flow.specs.Environment.{join_or_object, join_all}
use Rattle.pc_rules.specs.Operations.{has_error, attribute_found}
use Rattle.pc_rules.specs.Context.{Context, Signature}
use Rattle.pc_rules.specs.Calls.{GivenArguments, plain_call, fails_at_call, fails_at_callee, CallOffer, CalleeLabel}
use Rattle.pc_rules.specs.Calls.{signature_offer, is_suited, value_offer, method_signature, builtin_signature}
use Rattle.pc_rules.specs.Calls.{class_offers, list_offers, dict_offers, CallRule, length_rule, test_rule, own_callee}
use Rattle.pc_rules.specs.Calls.{builtin_callee, good_callee, is_one, is_two, call_label, all_codes, signatures}
use Rattle.pc_rules.specs.Calls.{only_member, expected_type, parameter_type, positional_seat, named_seat, nowhere}
use Rattle.pc_rules.specs.Lawful.{keyword_seat}
use Rattle.pc_sound.proofs.Regular.RegularParts.{Asked, IsRegular, NamesAsked}
use Rattle.pc_sound.proofs.Regular.RegularTypes.{OptionRegular, either_regular, all_regular, EachRegular}
use Rattle.pc_sound.proofs.Regular.RegularOperations.{append_regular, key_regular}

module _ (asked : Asked) where
  -- ---- regular contexts

  abbrev pub ParametersRegular : List TypedParameter → Type 0
  ParametersRegular [] = Unit {0}
  ParametersRegular (p ∷ ps) = IsRegular asked p.type × ParametersRegular ps

  abbrev pub SignatureRegular : Signature → Type 0
  SignatureRegular s = ParametersRegular s.parameters × IsRegular asked s.returns

  abbrev pub MethodsRegular : List Method → Type 0
  MethodsRegular [] = Unit {0}
  MethodsRegular (m ∷ ms) = (ParametersRegular m.parameters × IsRegular asked m.returns) × MethodsRegular ms

  pub record ContextRegular (ctx : Context) : Type 0 where
    pub names : NamesAsked asked ctx.resolve
    pub constants : (i : ℕ) (t : Tree) → slice_get ctx.constants i ≡ Some t → IsRegular asked t
    pub functions : (i : ℕ) (s : Signature) → slice_get ctx.functions i ≡ Some s → SignatureRegular s
    pub fields : (c : ℕ) → ParametersRegular (class_facts_at ctx.classes c).fields
    pub methods : (c : ℕ) → MethodsRegular (class_facts_at ctx.classes c).methods

  -- ---- fields and methods

  abbrev pub FieldRegular : Option TypedParameter → Type 0
  FieldRegular None = Unit {0}
  FieldRegular (Some p) = IsRegular asked p.type

  abbrev pub MethodRegular : Option Method → Type 0
  MethodRegular None = Unit {0}
  MethodRegular (Some m) = ParametersRegular m.parameters × IsRegular asked m.returns

  pub field_regular : (ps : List TypedParameter) (word : List ℕ) → ParametersRegular ps
      → FieldRegular (field_by_name ps word)
  field_regular [] word h = tt
  field_regular (p ∷ ps) word h = go (bytes_eq word p.name) (field_regular ps word h.1)
    where
      go : (x : Test) → FieldRegular (field_by_name ps word) → FieldRegular
          (if x then Some p else field_by_name ps word)
      go true k = h.0
      go false k = k

  pub method_regular : (ms : List Method) (word : List ℕ) → MethodsRegular ms → MethodRegular (method_by_name ms word)
  method_regular [] word h = tt
  method_regular (m ∷ ms) word h = go (bytes_eq word m.name) (method_regular ms word h.1)
    where
      go : (x : Test) → MethodRegular (method_by_name ms word) → MethodRegular
          (if x then Some m else method_by_name ms word)
      go true k = h.0
      go false k = k

  pub attribute_regular : (f : Option TypedParameter) (m : Option Method) → FieldRegular f
      → IsRegular asked (attribute_found f m).gives
  attribute_regular (Some f) m h = h
  attribute_regular None (Some m) h = tt
  attribute_regular None None h = tt

  -- ---- calls

  abbrev pub CallsRegular : List Signature → Type 0
  CallsRegular [] = Unit {0}
  CallsRegular (s ∷ ss) = SignatureRegular s × CallsRegular ss

  abbrev pub OffersRegular : List CallOffer → Type 0
  OffersRegular [] = Unit {0}
  OffersRegular (o ∷ os) = (IsRegular asked o.gives × CallsRegular o.calls) × OffersRegular os

  calls_append : (ss ts : List Signature) → CallsRegular ss → CallsRegular ts → CallsRegular (ss ++ ts)
  calls_append [] ts h k = k
  calls_append (s ∷ ss) ts h k = (h.0, calls_append ss ts h.1 k)

  pub offers_append : (os ps : List CallOffer) → OffersRegular os → OffersRegular ps → OffersRegular (os ++ ps)
  offers_append [] ps h k = k
  offers_append (o ∷ os) ps h k = (h.0, offers_append os ps h.1 k)

  pub called_regular : (g : GivenArguments) (s : Signature) → SignatureRegular s
      → OffersRegular (signature_offer g s ∷ [])
  called_regular g s h = go (is_suited g s)
    where
      go : (x : Test)
          → OffersRegular ((if x then record { at_callee = []; at_call = []; gives = s.returns; calls = s ∷ [] }
          else fails_at_call E14) ∷ [])
      go true = ((h.1, (h, tt)), tt)
      go false = ((tt, tt), tt)

  value_offer_regular : (t : Tree) → IsRegular asked (value_offer t).gives × CallsRegular (value_offer t).calls
  value_offer_regular Any = (tt, tt)
  value_offer_regular _ = (tt, tt)

  pub values_regular : (ms : List Tree) → OffersRegular (map value_offer ms)
  values_regular [] = tt
  values_regular (m ∷ ms) = (value_offer_regular m, values_regular ms)

  pub class_offers_regular : (g : GivenArguments) (m : Option Method) (f : Option TypedParameter) → MethodRegular m
      → OffersRegular (class_offers g m f)
  class_offers_regular g (Some m) f h = called_regular g (method_signature m) h
  class_offers_regular g None (Some f) h = values_regular (members f.type)
  class_offers_regular g None None h = ((tt, tt), tt)

  pub list_offers_regular : (g : GivenArguments) (word : List ℕ) (t : Tree) → IsRegular asked t
      → OffersRegular (list_offers g word t)
  list_offers_regular g word t h = go (bytes_eq word (codes "append")) (bytes_eq word (codes "pop"))
    where
      go : (x y : Test) → OffersRegular (if x then signature_offer g (builtin_signature (t ∷ []) NoneType) ∷ []
          else (if y then signature_offer g (builtin_signature [] t) ∷ [] else fails_at_callee E15 ∷ []))
      go true y = called_regular g (builtin_signature (t ∷ []) NoneType) ((h, tt), tt)
      go false true = called_regular g (builtin_signature [] t) (tt, h)
      go false false = ((tt, tt), tt)

  pub dict_offers_regular : (bases : Bases) (g : GivenArguments) (word : List ℕ) (k v : Tree) → IsKey k
      → IsRegular asked v → OffersRegular (dict_offers bases g word k v)
  dict_offers_regular bases g word k v key h = go (bytes_eq word (codes "get"))
    where
      go : (x : Test) → OffersRegular (if x then signature_offer g
          (builtin_signature (k ∷ []) (join_or_object bases v NoneType)) ∷ [] else fails_at_callee E15 ∷ [])
      go true = called_regular g (builtin_signature (k ∷ []) (join_or_object bases v NoneType))
          ((key_regular asked k key, tt), either_regular asked bases v NoneType h tt)
      go false = ((tt, tt), tt)

  abbrev pub CalleeRegular : CalleeLabel → Type 0
  CalleeRegular c = IsRegular asked c.label.type × OffersRegular c.offers

  own_or_error : (rule : CallRule) (x : Test) → CalleeRegular (if x then own_callee rule else good_callee
      (fails_at_call E14 ∷ []))
  own_or_error rule true = (tt, tt)
  own_or_error rule false = (tt, ((tt, tt), tt))

  pub builtin_regular : (g : GivenArguments) (b : Builtin) → CalleeRegular (builtin_callee g b)
  builtin_regular g builtin.Print = (tt, go (has_none g.named))
    where
      go : (x : Test) → OffersRegular ((if x then plain_call NoneType else fails_at_call E14) ∷ [])
      go true = ((tt, tt), tt)
      go false = ((tt, tt), tt)
  builtin_regular g builtin.Str = (tt, go (is_one g))
    where
      go : (x : Test) → OffersRegular ((if x then plain_call Str else fails_at_call E14) ∷ [])
      go true = ((tt, tt), tt)
      go false = ((tt, tt), tt)
  builtin_regular g builtin.Len = own_or_error length_rule (is_one g)
  builtin_regular g builtin.IsInstance = own_or_error test_rule (is_two g)
  builtin_regular g builtin.Range = (tt, go (is_one g))
    where
      go : (x : Test) → OffersRegular ((if x then fails_at_call E27 else fails_at_call E14) ∷ [])
      go true = ((tt, tt), tt)
      go false = ((tt, tt), tt)
  builtin_regular g _ = (tt, ((tt, tt), tt))

  -- the offers of a call: its type, and what is expected of its arguments
  module _ (offers : List CallOffer) (regular : OffersRegular offers) where
    gives_of : (os : List CallOffer) → OffersRegular os → EachRegular asked (map (λ o. o.gives) os)
    gives_of [] h = tt
    gives_of (o ∷ os) h = (h.0.0, gives_of os h.1)

    pub call_regular : (bases : Bases) → IsRegular asked (call_label bases offers).type
    call_regular bases = go (has_error (all_codes offers))
      where
        go : (x : Test) → IsRegular asked (if x then Any else join_all bases (map (λ o. o.gives) offers))
        go true = tt
        go false = all_regular asked bases (map (λ o. o.gives) offers) (gives_of offers regular)

    calls_of : (os : List CallOffer) → OffersRegular os → CallsRegular (flat_map (λ o. o.calls) os)
    calls_of [] h = tt
    calls_of (o ∷ os) h = calls_append o.calls (flat_map (λ o. o.calls) os) h.0.1 (calls_of os h.1)

    signatures_regular : CallsRegular (signatures offers)
    signatures_regular = go (has_error (all_codes offers))
      where
        go : (x : Test) → CallsRegular (if x then [] else flat_map (λ o. o.calls) offers)
        go true = tt
        go false = calls_of offers regular

    type_at_regular : (p : Option TypedParameter) → FieldRegular p → EachRegular asked (parameter_type p)
    type_at_regular None h = tt
    type_at_regular (Some p) h = (h, tt)

    parameter_regular : (ps : List TypedParameter) (i : ℕ) → ParametersRegular ps → FieldRegular (slice_get ps i)
    parameter_regular [] i h = tt
    parameter_regular (p ∷ ps) zero h = h.0
    parameter_regular (p ∷ ps) (suc i) h = parameter_regular ps i h.1

    types_regular : (f : Signature → Option TypedParameter) → ((s : Signature) → SignatureRegular s
        → FieldRegular (f s)) → (ss : List Signature) → CallsRegular ss
        → EachRegular asked (flat_map (λ s. parameter_type (f s)) ss)
    types_regular f each [] h = tt
    types_regular f each (s ∷ ss) h = append_regular asked (parameter_type (f s)) (flat_map (λ s. parameter_type (f s)) ss)
        (type_at_regular (f s) (each s h.0)) (types_regular f each ss h.1)

    wanted_regular : (x : Test) (ts : List Tree) → EachRegular asked ts → OptionRegular asked (expected_type x ts)
    wanted_regular true [] h = tt
    wanted_regular true (t ∷ []) h = h.0
    wanted_regular true (t ∷ (s ∷ ts)) h = tt
    wanted_regular false ts h = tt

    pub positional_regular : (i : ℕ) → OptionRegular asked (positional_seat offers i).want
    positional_regular i = wanted_regular (only_member offers) (flat_map (λ s. parameter_type (slice_get s.parameters i))
        (signatures offers)) (types_regular (λ s. slice_get s.parameters i)
        (λ s h. parameter_regular s.parameters i h.0) (signatures offers) signatures_regular)

    named_regular : (word : List ℕ) → OptionRegular asked (named_seat offers word).want
    named_regular word = wanted_regular (only_member offers) (flat_map (λ s. parameter_type (field_by_name s.parameters word))
        (signatures offers)) (types_regular (λ s. field_by_name s.parameters word)
        (λ s h. field_regular s.parameters word h.0) (signatures offers) signatures_regular)

    pub keyword_regular : (before : List (List ℕ)) (n : Name) → OptionRegular asked
        (keyword_seat (named_seat offers) before n).want
    keyword_regular before n = go (is_one_of n.text before)
      where
        go : (x : Test) → OptionRegular asked (if x then nowhere else named_seat offers n.text).want
        go true = tt
        go false = named_regular n.text
