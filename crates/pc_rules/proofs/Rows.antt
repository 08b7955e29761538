-- Rows that test the definitions of operations, calls and narrowing.
use Rattle.std.proofs.Common.{◌≡◌, ℕ, List, [], ◌∷◌, refl}
use Rattle.std.specs.Prelude.{true, false, Option, Some, None, codes}
use Rattle.pc_tree.specs.declared.tree.BinaryOperator.TheVariants.{Add, Sub}
use Rattle.pc_tree.specs.declared.code.Code.TheVariants.{A2, A6, E13, E14, E16, E17}
use Rattle.pc_types.specs.Tree.{Any, Object, Never, Int, Bool, Str, NoneType, Class, ListOf, DictOf, TupleOf, Union}
use Rattle.pc_types.specs.Tree.{end, more}
use Rattle.pc_types.specs.Shape.{members}
use Rattle.pc_flow.specs.Environment.{join_or_object, join_all, assigned_type, loop_head}
use Rattle.pc_flow.specs.Narrowing.{for_none, for_type, for_list, type_where_true, type_where_false}
use Rattle.pc_rules.specs.Operations.{clean, in_error, offers_label, index_member, binary_label, order_label}
use Rattle.pc_rules.specs.Operations.{operand_types, store_index_member, store_codes, stored_types, found_of}
use Rattle.pc_rules.specs.Context.{Signature}
use Rattle.pc_rules.specs.Calls.{is_suited, value_offers, call_label, builtin_signature}
use Rattle.std.specs.Prelude.{map}

-- class 1 descends from class 0; class 2 stands alone
abbrev bases : List (Option ℕ)
bases = None ∷ Some 0 ∷ None ∷ []

-- ---- operators

whole_and_truth : binary_label bases Add Int Bool ≡ clean Int
whole_and_truth = refl

texts_joined : binary_label bases Add Str Str ≡ clean Str
texts_joined = refl

texts_not_subtracted : binary_label bases Sub Str Str ≡ in_error E13
texts_not_subtracted = refl

any_and_whole : binary_label bases Add Any Int ≡ record { type = Any; codes = A2 ∷ [] }
any_and_whole = refl

any_and_both : binary_label bases Add Any (Union Int Str) ≡ record { type = Any; codes = A2 ∷ [] }
any_and_both = refl

any_and_none : binary_label bases Add Any (Union Int NoneType) ≡ in_error E13
any_and_none = refl

both_and_whole : binary_label bases Add (Union Int Str) Int ≡ in_error E13
both_and_whole = refl

never_and_none : binary_label bases Add Never NoneType ≡ clean Never
never_and_none = refl

any_ordered : order_label bases Any Any ≡ record { type = Bool; codes = A2 ∷ [] }
any_ordered = refl

object_suits_nothing : binary_label bases Add Object Int ≡ in_error E13
object_suits_nothing = refl

-- ---- items

item_at_literal : offers_label bases (map (index_member bases (Some 1)) (members (TupleOf (more Int (more Str end)))))
    ≡ clean Str
item_at_literal = refl

item_past_the_end : offers_label bases (map (index_member bases (Some 2)) (members (TupleOf (more Int (more Str end)))))
    ≡ clean (Union Int Str)
item_past_the_end = refl

item_of_either : offers_label bases (map (index_member bases None) (members (Union Str (ListOf Int))))
    ≡ clean (Union Int Str)
item_of_either = refl

item_of_none : found_of (map (index_member bases None) (members (Union NoneType (ListOf Int)))) ≡ E16 ∷ []
item_of_none = refl

no_flow_in_error : operand_types (map (index_member bases None) (members (Union NoneType (ListOf Int)))) ≡ []
no_flow_in_error = refl

store_into_text : store_codes (map store_index_member (members (Union Str (ListOf Int)))) ≡ E17 ∷ []
store_into_text = refl

stored_in_either : stored_types (map store_index_member (members (Union (ListOf Int) (DictOf Str Bool)))) ≡ Int ∷ Bool
    ∷ []
stored_in_either = refl

-- ---- joins

lists_of_two_kinds : join_or_object bases (ListOf Int) (ListOf Str) ≡ Object
lists_of_two_kinds = refl

lists_then_any : join_all bases (ListOf Int ∷ ListOf Str ∷ Any ∷ []) ≡ Any
lists_then_any = refl

class_and_ancestor : join_or_object bases (Class 1) (Union NoneType (Class 0)) ≡ Union NoneType (Class 0)
class_and_ancestor = refl

-- ---- narrowing

not_none : type_where_false bases for_none (Union Int NoneType) ≡ Int
not_none = refl

none_alone : type_where_true bases for_none Any ≡ NoneType
none_alone = refl

descendant_of_ancestor : type_where_true bases (for_type (Class 1)) (Union NoneType (Class 0)) ≡ Class 1
descendant_of_ancestor = refl

descendant_stays : type_where_true bases (for_type (Class 0)) (Union (Class 1) (Class 2)) ≡ Class 1
descendant_stays = refl

unrelated_stays : type_where_false bases (for_type (Class 0)) (Union (Class 1) (Class 2)) ≡ Class 2
unrelated_stays = refl

truth_of_whole : type_where_true bases (for_type Bool) Int ≡ Bool
truth_of_whole = refl

whole_of_truth : type_where_true bases (for_type Int) (Union Bool Str) ≡ Bool
whole_of_truth = refl

no_list_left : type_where_false bases for_list (ListOf Int) ≡ Never
no_list_left = refl

list_of_object : type_where_true bases for_list Object ≡ ListOf Any
list_of_object = refl

-- ---- assignment and heads of loops

union_keeps_what_is_assigned : assigned_type (Union Int NoneType) NoneType None ≡ NoneType
union_keeps_what_is_assigned = refl

single_keeps_the_declared : assigned_type Int Bool None ≡ Int
single_keeps_the_declared = refl

bound_in_the_body : loop_head (λ x. true) (Union Int NoneType ∷ Int ∷ []) (Some Int ∷ None ∷ [])
    ≡ Some (Union Int NoneType) ∷ None ∷ []
bound_in_the_body = refl

-- ---- calls of `def f(a: int, b: int = 2)`

abbrev f : Signature
f = record {
  parameters = record { name = codes "a"; type = Int; has_default = false }
      ∷ record { name = codes "b"; type = Int; has_default = true } ∷ [];
  returns = Int;
  takes_names = true;
}

by_names : is_suited (record { positional = 0; named = codes "b" ∷ codes "a" ∷ [] }) f ≡ true
by_names = refl

nothing_given : is_suited (record { positional = 0; named = [] }) f ≡ false
nothing_given = refl

filled_twice : is_suited (record { positional = 1; named = codes "a" ∷ [] }) f ≡ false
filled_twice = refl

default_left : is_suited (record { positional = 1; named = [] }) f ≡ true
default_left = refl

too_many : is_suited (record { positional = 3; named = [] }) f ≡ false
too_many = refl

no_such_name : is_suited (record { positional = 1; named = codes "c" ∷ [] }) f ≡ false
no_such_name = refl

no_names_for_built_in : is_suited (record { positional = 0; named = codes "" ∷ [] })
    (builtin_signature (Int ∷ []) NoneType) ≡ false
no_names_for_built_in = refl

any_called : call_label bases (value_offers Any) ≡ record { type = Any; codes = A6 ∷ [] }
any_called = refl

never_called : call_label bases (value_offers Never) ≡ clean Never
never_called = refl

number_called : call_label bases (value_offers Int) ≡ in_error E14
number_called = refl
