-- The inputs and results of the programs that type calls, in terms of the definitions. Own rule of the profile.
use Rattle.std.specs.Prelude.{◌≡◌, ◌||◌, ◌&&◌, not, ℕ, List, [], ◌∷◌, if◌then◌else◌, map, flat_map, Bool as Test, true}
use Rattle.std.specs.Prelude.{false, nat_eq, Option, Some, None, All, option_to_list, slice_get, bytes_eq}
use Rattle.std.specs.Option.{option_map}
use Rattle.std.specs.Borrow.{Bor}
use Rattle.indexmap.specs.IndexSet.{IndexSet}
use Rattle.pc_tree.specs.declared.code.Code.{Code}
use Rattle.pc_tree.specs.declared.code.Code.TheVariants.{A4, E15}
use Rattle.pc_tree.specs.Tree.{Exprs}
use Rattle.pc_scope.specs.declared.resolution.NameMeaning.{NameMeaning}
use Rattle.pc_scope.specs.Resolution.{is_one_of, index_of}
use Rattle.pc_types.specs.Tree.{Tree, Any, ListOf, DictOf}
use Rattle.pc_types.specs.Below.{Bases}
use Rattle.pc_types.specs.declared.head.Head.{Head}
use Rattle.pc_types.specs.declared.head.Head.TheVariants as heads
use Rattle.pc_class.specs.Facts.{field_by_name}
use Rattle.pc_class.specs.declared.table.Parameter.{Parameter as RustParameter}
use Rattle.pc_class.specs.Listings.{listed_in}
use Rattle.pc_class.specs.Parts.{parameter_name}
use Rattle.pc_class.specs.Tables.{HasParameter, parameters_with}
use Rattle.pc_flow.specs.Narrowing.{second_argument, test_of_argument}
use Rattle.pc_rules.specs.Context.{Signature}
use Rattle.pc_rules.specs.Calls.{GivenArguments, CallOffer, CallRule, member_rule, length_rule, test_rule, CalleeLabel}
use Rattle.pc_rules.specs.Calls.{Seat, positional_seat, named_seat, builtin_signature, parameter_type, list_offers}
use Rattle.pc_rules.specs.Calls.{dict_offers, fails_at_callee, second_code}
use Rattle.pc_rules.specs.Computed.Findings.{brief}
use Rattle.pc_rules.specs.Computed.Standing.{label_with, HasIfAny}
use Rattle.pc_calls.specs.declared.arguments.Given.{Given as RustGiven}
use Rattle.pc_calls.specs.declared.call_offers.Called.{Called}
use Rattle.pc_calls.specs.declared.call_offers.Called.TheVariants as called
use Rattle.pc_calls.specs.declared.call_offers.CallOffer.{CallOffer as RustCallOffer}
use Rattle.pc_calls.specs.declared.call_offers.CallRule.{CallRule as RustCallRule}
use Rattle.pc_calls.specs.declared.call_offers.CallRule.TheVariants as rule
use Rattle.pc_calls.specs.declared.callee.TypedCallee.{TypedCallee as RustCallee}
use Rattle.pc_calls.specs.declared.seats.Argument.{Argument}
use Rattle.pc_calls.specs.declared.seats.Argument.TheVariants as argument
use Rattle.pc_calls.specs.declared.seats.Seat.{Seat as RustSeat}

-- ---- arguments and parameters

-- the names of a set, in their order
abbrev pub names_in : {S : Type 0} → IndexSet (Bor (List ℕ)) S → List (List ℕ)
names_in s = map (λ k. k.now) s.keys

-- the arguments that a program's call gives
abbrev pub given_with : RustGiven → GivenArguments
given_with g = record { positional = g.positional; named = names_in g.named }

-- whether each parameter has a default or an argument by name; only the first parameter of a name takes it
abbrev pub filled_listed : {Ty : Type 0} → List (List ℕ) → List (List ℕ) → List (RustParameter Ty) → Test
filled_listed named before [] = true
filled_listed named before (p ∷ ps) =
    (p.has_default || (is_one_of (parameter_name p) named && not (is_one_of (parameter_name p) before)))
    && filled_listed named (parameter_name p ∷ before) ps

-- whether there is a place, and it is this one
abbrev pub is_place : Option ℕ → ℕ → Test
is_place None i = false
is_place (Some j) i = nat_eq j i

-- whether an argument of these names is for the parameter at this place, the first of its name
abbrev pub fills_at : {Ty : Type 0} → List (List ℕ) → Option (RustParameter Ty) → ℕ → List (List ℕ) → Test
fills_at named None i names = false
fills_at named (Some p) i names = is_one_of (parameter_name p) named && is_place (index_of (parameter_name p) names) i

-- ---- the result of a call

module _ {Ty : Type 0} (tree : Ty → Tree) where
  -- the signature of a list of parameters with this return type
  abbrev pub signature_listed : (returns : Tree) → List (RustParameter Ty) → Signature
  signature_listed returns ps = record {
    parameters = parameters_with tree ps;
    returns = returns;
    takes_names = true;
  }

  -- the signature that a program's callable means, with this return type
  abbrev pub signature_called : (returns : Tree) → Called Ty → Signature
  signature_called returns (called.Listed params) = signature_listed returns (listed_in params)
  signature_called returns (called.Builtin types) = builtin_signature (map tree types.items) returns

  -- the call offer that a program's call offer means
  abbrev pub offer_called : RustCallOffer Ty → CallOffer
  offer_called o = record {
    at_callee = option_to_list o.at_callee;
    at_call = option_to_list o.at_call;
    gives = tree o.gives;
    calls = option_to_list (option_map (signature_called (tree o.gives)) o.calls);
  }

-- the codes at the callee, and at the call, on all members
abbrev pub found_at_callee : {Ty : Type 0} → List (RustCallOffer Ty) → List Code
found_at_callee os = flat_map (λ o. option_to_list o.at_callee) os

abbrev pub found_at_call : {Ty : Type 0} → List (RustCallOffer Ty) → List Code
found_at_call os = flat_map (λ o. option_to_list o.at_call) os

-- the rule that a program's rule means
abbrev pub rule_of : RustCallRule → CallRule
rule_of rule.Member = member_rule
rule_of rule.Length = length_rule
rule_of rule.Test = test_rule

module _ {Ty : Type 0} (has : Ty → Type 0) where
  -- the store gave the parameter types of a callable
  abbrev pub HasCalled : Called Ty → Type 0
  HasCalled (called.Listed params) = All (HasParameter has) (listed_in params)
  HasCalled (called.Builtin types) = All has types.items

  -- the store gave the parameter types of a callable, if there is one
  abbrev pub HasCalledIfAny : Option (Called Ty) → Type 0
  HasCalledIfAny None = Unit {0}
  HasCalledIfAny (Some c) = HasCalled c

  -- the store gave the types of a call offer
  pub record HasCallOffer (o : RustCallOffer Ty) : Type 0 where
    pub gives : has o.gives
    pub calls : HasCalledIfAny o.calls

-- ---- callees and seats

module _ {Store Ty : Type 0} (has : Store → Ty → Type 0) (tree : Ty → Tree) (store : Store) where
  -- a call offer with types of the store means this call offer
  pub record IsCallOffer (o : RustCallOffer Ty) (meant : CallOffer) : Type 0 where
    pub given : HasCallOffer (has store) o
    pub is : offer_called tree o ≡ meant

  -- a call offer with types of the store means the only one of these
  pub record IsOnlyOffer (o : RustCallOffer Ty) (meant : List CallOffer) : Type 0 where
    pub given : HasCallOffer (has store) o
    pub is : offer_called tree o ∷ [] ≡ meant

  -- call offers with types of the store mean these call offers
  pub record AreCallOffers (os : List (RustCallOffer Ty)) (meant : List CallOffer) : Type 0 where
    pub given : All (HasCallOffer (has store)) os
    pub is : map (offer_called tree) os ≡ meant

  -- a callee with types of the store means this callee, with each code once
  pub record IsCallee (c : RustCallee Ty) (callee : CalleeLabel) : Type 0 where
    pub given : has store c.label.ty
    pub held : All (HasCallOffer (has store)) c.offers.items
    pub label : label_with tree c.label ≡ brief callee.label
    pub rule : rule_of c.rule ≡ callee.rule
    pub offers : map (offer_called tree) c.offers.items ≡ callee.offers

  -- a seat with types of the store means this seat
  pub record IsSeat (seat : RustSeat Ty) (s : Seat) : Type 0 where
    pub want : HasIfAny (has store) seat.want
    pub into : All (has store) seat.into.items
    pub wants : option_map tree seat.want ≡ s.want
    pub flows : map tree seat.into.items ≡ s.into

-- the number of the parameter that an argument is for, among parameters of these names
abbrev pub number_for : Argument → List (List ℕ) → Option ℕ
number_for (argument.Position k) names = Some k
number_for (argument.Name word) names = index_of word.now names

-- the number of the parameter of a built-in that an argument is for, where each has the empty name
abbrev pub builtin_number : Argument → Option ℕ
builtin_number (argument.Position k) = Some k
builtin_number (argument.Name word) = if bytes_eq word.now [] then Some 0 else None

-- the types that an argument flows into in a signature: that of the parameter at its position, or of the first of its
-- name
abbrev pub types_at : Argument → Signature → List Tree
types_at (argument.Position k) s = parameter_type (slice_get s.parameters k)
types_at (argument.Name word) s = parameter_type (field_by_name s.parameters word.now)

-- whether a head is that of Any or object
abbrev pub is_head_of_any : Head → Test
is_head_of_any heads.Any = true
is_head_of_any heads.Object = true
is_head_of_any _ = false

-- the class whose instances have a head, if it is that of a class
abbrev pub class_in_head : Head → Option ℕ
class_in_head (heads.Class c) = Some c
class_in_head _ = None

-- the results of a method call on a member that is not an instance of a class
abbrev pub other_offers : Bases → GivenArguments → List ℕ → Tree → List CallOffer
other_offers bases g word (ListOf t) = list_offers g word t
other_offers bases g word (DictOf k v) = dict_offers bases g word k v
other_offers bases g word Any = fails_at_callee A4 ∷ []
other_offers bases g word _ = fails_at_callee E15 ∷ []

-- the code at the second argument of a call with this rule, which only an instance test has
abbrev pub second_code_of : (List ℕ → NameMeaning) → CallRule → Exprs → (early : Test) → Option Code
second_code_of resolve test_rule arguments early =
    second_code (test_of_argument resolve (second_argument arguments)) early
second_code_of resolve _ arguments early = None

-- the seat of an argument by position or by name
abbrev pub seat_of : List CallOffer → Argument → Seat
seat_of offers (argument.Position k) = positional_seat offers k
seat_of offers (argument.Name word) = named_seat offers word.now
