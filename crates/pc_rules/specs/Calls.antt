-- Calls: callees, the calls that suit them, and the types that each argument flows into. Language Reference 3.12, 6.3.4
-- "Calls"; typing specification, "Dataclasses"; own rules of the profile.
use Rattle.std.specs.Prelude.{ℕ, zero, suc, List, [], ◌∷◌, ◌++◌, map, flat_map, length, take, drop, Bool as Test, true}
use Rattle.std.specs.Prelude.{false, ◌&&◌, ◌||◌, not, if◌then◌else◌, nat_le, nat_lt, nat_eq, Option, Some, None}
use Rattle.std.specs.Prelude.{slice_get, codes, bytes_eq}
use Rattle.std.specs.List.{list_any, list_all}
use Rattle.std.specs.Option.{option_map}
use Rattle.pc_tree.specs.declared.code.Code.{Code}
use Rattle.pc_tree.specs.declared.code.Code.TheVariants.{A4, A5, A6, A7, E03, E14, E15, E20, E25, E27}
use Rattle.pc_tree.specs.Tree.{Name, Exprs, Keywords, no_exprs, more_exprs}
use Rattle.pc_tree.specs.Stopping.{has_none}
use Rattle.pc_scope.specs.declared.resolution.Builtin.{Builtin}
use Rattle.pc_scope.specs.declared.resolution.Builtin.TheVariants as builtin
use Rattle.pc_scope.specs.declared.resolution.NameMeaning.{NameMeaning}
use Rattle.pc_scope.specs.declared.resolution.NameMeaning.TheVariants as meaning
use Rattle.pc_scope.specs.Resolution.{is_one_of}
use Rattle.pc_scope.specs.Expressions.{keyword_names}
use Rattle.pc_types.specs.Tree.{Tree, Any, Object, Never, Int, Bool, Str, NoneType, Class, ListOf, DictOf}
use Rattle.pc_types.specs.Below.{Bases}
use Rattle.pc_types.specs.Shape.{members}
use Rattle.pc_class.specs.Facts as facts
use Rattle.pc_class.specs.Facts.{TypedParameter, Method, field_by_name, method_by_name, class_facts_at}
use Rattle.pc_flow.specs.Environment.{Env, current, join_or_object, join_all}
use Rattle.pc_flow.specs.Narrowing.{Tested, for_list, test_of_argument, local_of_argument, first_argument}
use Rattle.pc_flow.specs.Narrowing.{second_argument}
use Rattle.pc_rules.specs.Operations.{Label, clean, in_error, has_error, offers_label, length_member}
use Rattle.pc_rules.specs.Context.{Context, Signature, name_label}

-- ---- the arguments of a call

-- the number of arguments that a call gives by position, and the names of those given by name, each once
pub record GivenArguments : Type 0 where
  pub positional : ℕ
  pub named : List (List ℕ)

-- the number of expressions in a list
abbrev pub count_exprs : Exprs → ℕ
count_exprs no_exprs = zero
count_exprs (more_exprs e rest) = suc (count_exprs rest)

-- the names, each once and none of those before; a name given again fills nothing
abbrev pub once_each : List (List ℕ) → List Name → List (List ℕ)
once_each before [] = []
once_each before (n ∷ rest) = if is_one_of n.text before then once_each before rest
    else n.text ∷ once_each (n.text ∷ before) rest

-- the arguments that a call gives, by position and by name
abbrev pub arguments_given : Exprs → Keywords → GivenArguments
arguments_given arguments keywords = record {
  positional = count_exprs arguments;
  named = once_each [] (keyword_names keywords);
}

-- the position of the first parameter with a name
abbrev pub index_of_parameter : List TypedParameter → List ℕ → Option ℕ
index_of_parameter [] word = None
index_of_parameter (p ∷ ps) word = if bytes_eq word p.name then Some zero else option_map suc (index_of_parameter ps word)

-- whether no argument by position fills the parameter of an argument by name
abbrev pub is_free : ℕ → Option ℕ → Test
is_free n None = false
is_free n (Some i) = nat_le n i

-- whether each further parameter has a default or an argument by name; only the first parameter of a name takes it
abbrev pub are_filled : List (List ℕ) → List (List ℕ) → List TypedParameter → Test
are_filled named before [] = true
are_filled named before (p ∷ ps) = (p.has_default || (is_one_of p.name named && not (is_one_of p.name before)))
    && are_filled named (p.name ∷ before) ps

-- the names of parameters, in order
abbrev pub parameter_names : List TypedParameter → List (List ℕ)
parameter_names ps = map (λ p. p.name) ps

-- whether a call suits: not too many arguments by position, each by name for a free parameter, no parameter left
-- unfilled
abbrev pub is_suited : GivenArguments → Signature → Test
is_suited g s =
    nat_le g.positional (length s.parameters)
    && ((s.takes_names || has_none g.named)
    && (list_all (λ word. is_free g.positional (index_of_parameter s.parameters word)) g.named
    && are_filled g.named (parameter_names (take g.positional s.parameters)) (drop g.positional s.parameters)))

-- ---- the result of a call

-- the result of a call on one member: the codes at the callee and at the call, the type, and the signature called, if
-- any
pub record CallOffer : Type 0 where
  pub at_callee : List Code
  pub at_call : List Code
  pub gives : Tree
  pub calls : List Signature

-- a call that gives this type, without codes, whose arguments flow nowhere
abbrev pub plain_call : Tree → CallOffer
plain_call t = record { at_callee = []; at_call = []; gives = t; calls = [] }

-- a call with this code at the call, which gives Any
abbrev pub fails_at_call : Code → CallOffer
fails_at_call code = record { at_callee = []; at_call = code ∷ []; gives = Any; calls = [] }

-- a call with this code at the callee, which gives Any
abbrev pub fails_at_callee : Code → CallOffer
fails_at_callee code = record { at_callee = code ∷ []; at_call = []; gives = Any; calls = [] }

-- a call of a signature: E14 if the arguments do not suit it
abbrev pub signature_offer : GivenArguments → Signature → CallOffer
signature_offer g s = if is_suited g s then record { at_callee = []; at_call = []; gives = s.returns; calls = s ∷ [] }
    else fails_at_call E14

-- a call of a value of one member type
abbrev pub value_offer : Tree → CallOffer
value_offer Any = fails_at_call A6
value_offer _ = fails_at_call E14

-- the results of a call of a value of this type, member by member
abbrev pub value_offers : Tree → List CallOffer
value_offers t = map value_offer (members t)

-- the signature of a class's constructor: it takes the class's fields
abbrev pub class_signature : List facts.ClassFacts → ℕ → Signature
class_signature classes c = record {
  parameters = (class_facts_at classes c).fields;
  returns = Class c;
  takes_names = true;
}

-- the signature of a method: its parameters without `self`, and its return type
abbrev pub method_signature : Method → Signature
method_signature m = record { parameters = m.parameters; returns = m.returns; takes_names = true }

-- a parameter that cannot be given by name
abbrev pub unnamed_parameter : Tree → TypedParameter
unnamed_parameter t = record { name = []; type = t; has_default = false }

-- the signature of a built-in: arguments of these types, by position only, and this return type
abbrev pub builtin_signature : List Tree → Tree → Signature
builtin_signature types returns = record {
  parameters = map unnamed_parameter types;
  returns = returns;
  takes_names = false;
}

-- the result of calling a member of an instance: a method, or a field, whose value is called
abbrev pub class_offers : GivenArguments → Option Method → Option TypedParameter → List CallOffer
class_offers g (Some m) f = signature_offer g (method_signature m) ∷ []
class_offers g None (Some f) = value_offers f.type
class_offers g None None = fails_at_callee E15 ∷ []

-- `append(T)` gives None, `pop()` gives T
abbrev pub list_offers : GivenArguments → List ℕ → Tree → List CallOffer
list_offers g word t =
    if bytes_eq word (codes "append")
    then signature_offer g (builtin_signature (t ∷ []) NoneType) ∷ []
    else (if bytes_eq word (codes "pop") then signature_offer g (builtin_signature [] t) ∷ []
    else fails_at_callee E15 ∷ [])

-- `get(K)` gives the join of V and None
abbrev pub dict_offers : Bases → GivenArguments → List ℕ → Tree → Tree → List CallOffer
dict_offers bases g word k v =
    if bytes_eq word (codes "get")
    then signature_offer g (builtin_signature (k ∷ []) (join_or_object bases v NoneType)) ∷ []
    else fails_at_callee E15 ∷ []

-- the results of a method call on one member
abbrev pub method_offers : Context → GivenArguments → List ℕ → Tree → List CallOffer
method_offers ctx g word (Class c) =
    class_offers g (method_by_name (class_facts_at ctx.classes c).methods word)
    (field_by_name (class_facts_at ctx.classes c).fields word)
method_offers ctx g word (ListOf t) = list_offers g word t
method_offers ctx g word (DictOf k v) = dict_offers ctx.bases g word k v
method_offers ctx g word Any = fails_at_callee A4 ∷ []
method_offers ctx g word _ = fails_at_callee E15 ∷ []

-- whether there is exactly one argument, by position
abbrev pub is_one : GivenArguments → Test
is_one g = nat_eq g.positional 1 && has_none g.named

-- whether there are exactly two arguments, by position
abbrev pub is_two : GivenArguments → Test
is_two g = nat_eq g.positional 2 && has_none g.named

-- a call of a callee in error: a value of type Any
abbrev pub error_offer : CallOffer
error_offer = fails_at_call A6

-- the rule of a call: by the members of the callee, as `len`, or as an instance test
pub data CallRule : Type 0 where
  member_rule length_rule test_rule : CallRule

-- a callee: its label, the rule of its call, and the result of the call on each member, none for a rule of its own
pub record CalleeLabel : Type 0 where
  pub label : Label
  pub rule : CallRule
  pub offers : List CallOffer

-- a call of the function with this signature; without one it is a value of type Any
abbrev pub function_offer : GivenArguments → Option Signature → CallOffer
function_offer g None = error_offer
function_offer g (Some s) = signature_offer g s

-- a callee that is a value with this label, called on each member of its type
abbrev pub value_callee : Label → CalleeLabel
value_callee m = record { label = m; rule = member_rule; offers = value_offers m.type }

-- a callee without codes, and the results of its call
abbrev pub good_callee : List CallOffer → CalleeLabel
good_callee offers = record { label = clean Any; rule = member_rule; offers = offers }

-- a callee whose call has its own rule; the arguments flow nowhere
abbrev pub own_callee : CallRule → CalleeLabel
own_callee rule = record { label = clean Any; rule = rule; offers = [] }

-- the built-ins: `print`, `str`, `len`, `isinstance`, `range`; any other reserved name is in error as a value and as a
-- callee
abbrev pub builtin_callee : GivenArguments → Builtin → CalleeLabel
builtin_callee g builtin.Print =
    good_callee ((if has_none g.named then plain_call NoneType else fails_at_call E14) ∷ [])
builtin_callee g builtin.Str = good_callee ((if is_one g then plain_call Str else fails_at_call E14) ∷ [])
builtin_callee g builtin.Len = if is_one g then own_callee length_rule else good_callee (fails_at_call E14 ∷ [])
builtin_callee g builtin.IsInstance = if is_two g then own_callee test_rule else good_callee (fails_at_call E14 ∷ [])
builtin_callee g builtin.Range = good_callee ((if is_one g then fails_at_call E27 else fails_at_call E14) ∷ [])
builtin_callee g _ = value_callee (in_error E20)

-- a name as a callee: a function, a class or a built-in, and otherwise a value
abbrev pub name_callee : Context → Env → GivenArguments → NameMeaning → CalleeLabel
name_callee ctx env g (meaning.Func i) = if ctx.in_body then good_callee (function_offer g (slice_get ctx.functions i) ∷ [])
    else value_callee (in_error E03)
name_callee ctx env g (meaning.Class c) = if nat_lt c ctx.known
    then good_callee (signature_offer g (class_signature ctx.classes c) ∷ []) else value_callee (in_error E03)
name_callee ctx env g (meaning.Builtin b) = builtin_callee g b
name_callee ctx env g r = value_callee (name_label ctx env r)

-- the callee `e.m`, where e has this type
abbrev pub method_callee : Context → GivenArguments → List ℕ → Tree → CalleeLabel
method_callee ctx g word t =
    let offers = flat_map (method_offers ctx g word) (members t) in
    record {
      label = record { type = Any; codes = flat_map (λ o. o.at_callee) offers };
      rule = member_rule;
      offers = offers;
    }

-- ---- the call as a whole

-- the codes at a call on all members; none if there is a code at the callee
abbrev pub call_codes : List CallOffer → List Code
call_codes offers = if has_none (flat_map (λ o. o.at_callee) offers) then flat_map (λ o. o.at_call) offers else []

-- all codes of a call, at its callee and at the call itself
abbrev pub all_codes : List CallOffer → List Code
all_codes offers = flat_map (λ o. o.at_callee ++ o.at_call) offers

-- the label of a call by the members of its callee: the join of their results, Any if there is an error
abbrev pub call_label : Bases → List CallOffer → Label
call_label bases offers = record {
  type = if has_error (all_codes offers) then Any else join_all bases (map (λ o. o.gives) offers);
  codes = call_codes offers;
}

-- the signatures called on all members; none if there is an error, so that the arguments flow nowhere
abbrev pub signatures : List CallOffer → List Signature
signatures offers = if has_error (all_codes offers) then [] else flat_map (λ o. o.calls) offers

-- the seat of an argument or an item: its expected type, and the types that it flows into
pub record Seat : Type 0 where
  pub want : Option Tree
  pub into : List Tree

-- whether exactly one member is called
abbrev pub only_member : List CallOffer → Test
only_member (o ∷ []) = true
only_member _ = false

-- the expected type of an argument: the type that it flows into, if one member is called and there is one such type
abbrev pub expected_type : Test → List Tree → Option Tree
expected_type true (t ∷ []) = Some t
expected_type _ _ = None

-- the type of a parameter, if there is one
abbrev pub parameter_type : Option TypedParameter → List Tree
parameter_type None = []
parameter_type (Some p) = p.type ∷ []

-- the seat of an argument by position: the parameter at its position of each signature called
abbrev pub positional_seat : List CallOffer → ℕ → Seat
positional_seat offers k =
    let types = flat_map (λ s. parameter_type (slice_get s.parameters k)) (signatures offers) in
    record { want = expected_type (only_member offers) types; into = types }

-- the seat of an argument by name: the first parameter of that name of each member called
abbrev pub named_seat : List CallOffer → List ℕ → Seat
named_seat offers word =
    let types = flat_map (λ s. parameter_type (field_by_name s.parameters word)) (signatures offers) in
    record { want = expected_type (only_member offers) types; into = types }

-- the seat without expected type and without flows
abbrev pub nowhere : Seat
nowhere = record { want = None; into = [] }

-- ---- `len`, and instance tests

-- the type of the first argument
abbrev pub first_type : List Tree → Tree
first_type [] = Never
first_type (t ∷ ts) = t

-- the label of a call of `len`, by the type of its one argument
abbrev pub length_label : Bases → List Tree → Label
length_label bases types = offers_label bases (map length_member (members (first_type types)))

-- whether the type is Any or object
abbrev pub is_object_or_any : Tree → Test
is_object_or_any Any = true
is_object_or_any Object = true
is_object_or_any _ = false

-- A7 if a member of a local's current type is Any or object, else no code
abbrev pub any_list_codes : Option Tree → List Code
any_list_codes None = []
any_list_codes (Some t) = if list_any is_object_or_any (members t) then A7 ∷ [] else []

-- the current type of a local, if there is a local and it is assigned
abbrev pub current_of : Env → Option ℕ → Option Tree
current_of env None = None
current_of env (Some x) = current env x

-- the codes of an instance test: A7 if a local whose current type has a member Any or object is tested for a list
abbrev pub test_codes : Env → Option ℕ → Option Tested → List Code
test_codes env x (Some for_list) = any_list_codes (current_of env x)
test_codes env x _ = []

-- the label of an instance test: bool
abbrev pub test_label : Context → Env → Exprs → Label
test_label ctx env arguments = record {
  type = Bool;
  codes = test_codes env (local_of_argument ctx.resolve (first_argument arguments))
      (test_of_argument ctx.resolve (second_argument arguments));
}

-- the code at the second argument: E25 if it names no type that can be tested, none if E03 is found there
abbrev pub second_code : Option Tested → (early : Test) → Option Code
second_code (Some test) early = None
second_code None true = None
second_code None false = Some E25

-- ---- `range` as the iterable of a `for`

-- whether the name means the built-in `range`
abbrev pub is_range : NameMeaning → Test
is_range (meaning.Builtin builtin.Range) = true
is_range _ = false

-- `range` takes one int. Its result is used only as the iterable of a `for`, so no rule reads its type: there is no
-- type of ranges, and the label has object, the type of every value
abbrev pub range_signature : Signature
range_signature = builtin_signature (Int ∷ []) Object

-- the result of a call of `range` as the iterable of a `for`
abbrev pub range_offers : GivenArguments → List CallOffer
range_offers g = signature_offer g range_signature ∷ []

-- the label of an item of `range`: int, or Any if the call does not suit
abbrev pub range_item : GivenArguments → Label
range_item g = if is_suited g range_signature then clean Int else record { type = Any; codes = A5 ∷ [] }
