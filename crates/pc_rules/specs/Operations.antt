-- The label of each operation, member by member; and the operators. Language Reference 6.3 "Primaries", 6.6 "Unary
-- arithmetic", 6.7 "Binary arithmetic operations", 6.10 "Comparisons"; own rules of the profile.
use Rattle.std.specs.Prelude.{ℕ, List, [], ◌∷◌, map, flat_map, Bool as Test, true, false, ◌&&◌, ◌||◌, if◌then◌else◌}
use Rattle.std.specs.Prelude.{nat_le, Option, Some, None, unwrap_or, slice_get}
use Rattle.std.specs.List.{list_any, list_all}
use Rattle.pc_tree.specs.declared.tree.BinaryOperator.{BinaryOperator}
use Rattle.pc_tree.specs.declared.tree.BinaryOperator.TheVariants.{Add}
use Rattle.pc_tree.specs.declared.code.Code.{Code}
use Rattle.pc_tree.specs.declared.code.Code.TheVariants.{A2, A3, A4, A5, A6, E13, E15, E16, E17, E18, E19, E20, E23}
use Rattle.pc_tree.specs.declared.code.Code.TheVariants.{E26, E27}
use Rattle.pc_tree.specs.Code.{is_error}
use Rattle.pc_types.specs.Tree.{Tree, Trees, Any, Never, Int, Bool, Str, NoneType, Class, ListOf, DictOf, TupleOf}
use Rattle.pc_types.specs.Tree.{Union}
use Rattle.pc_types.specs.Below.{Bases}
use Rattle.pc_types.specs.Shape.{members, list_of_trees, nodes, node_limit}
use Rattle.pc_class.specs.Facts as facts
use Rattle.pc_class.specs.Facts.{TypedParameter, Method, field_by_name, method_by_name, class_facts_at}
use Rattle.pc_flow.specs.Environment.{join_all}

-- the label of a node: its type, and the codes found at it
pub record Label : Type 0 where
  pub type : Tree
  pub codes : List Code

-- the label of a flow: the type that flows, the type that it flows into, and the code found, if any
pub record FlowLabel : Type 0 where
  pub from : Tree
  pub into : Tree
  pub code : Option Code

-- a label of this type without codes
abbrev pub clean : Tree → Label
clean t = record { type = t; codes = [] }

-- the label of an expression in error: Any, with the error's code
abbrev pub in_error : Code → Label
in_error code = record { type = Any; codes = code ∷ [] }

-- one of the codes is an error
abbrev pub has_error : List Code → Test
has_error codes = list_any is_error codes

-- the result of an operation on one member: the codes found, the result type, and the types that the other operand
-- flows into
pub record Offer : Type 0 where
  pub found : List Code
  pub gives : Tree
  pub takes : List Tree

-- an operation that a member supports: it gives this type, and its operand flows into these types
abbrev pub supported : Tree → List Tree → Offer
supported gives takes = record { found = []; gives = gives; takes = takes }

-- an operation on Any: a dynamic place with this code, which gives this type
abbrev pub unsure : Code → Tree → Offer
unsure code gives = record { found = code ∷ []; gives = gives; takes = [] }

-- an operation in error with this code, which gives Any
abbrev pub suits_not : Code → Offer
suits_not code = record { found = code ∷ []; gives = Any; takes = [] }

-- the codes found on all members, in order
abbrev pub found_of : List Offer → List Code
found_of offers = flat_map (λ o. o.found) offers

-- every member of a union must support the operation; the type is the join of the results, Never for Never
abbrev pub offers_label : Bases → List Offer → Label
offers_label bases offers = record {
  type = if has_error (found_of offers) then Any else join_all bases (map (λ o. o.gives) offers);
  codes = found_of offers;
}

-- the types that the operand flows into on all members, none if the operation is in error
abbrev pub operand_types : List Offer → List Tree
operand_types offers = if has_error (found_of offers) then [] else flat_map (λ o. o.takes) offers

-- ---- e[i]

-- the type of a tuple's item at an int literal below its length, else the join of all its items
abbrev pub tuple_item : Bases → Option ℕ → Trees → Tree
tuple_item bases None ts = join_all bases (list_of_trees ts)
tuple_item bases (Some i) ts = unwrap_or (slice_get (list_of_trees ts) i) (join_all bases (list_of_trees ts))

-- a list, a str and a tuple take an int; a dict takes a key and gives its value
abbrev pub index_member : Bases → Option ℕ → Tree → Offer
index_member bases literal (ListOf t) = supported t (Int ∷ [])
index_member bases literal Str = supported Str (Int ∷ [])
index_member bases literal (TupleOf ts) = supported (tuple_item bases literal ts) (Int ∷ [])
index_member bases literal (DictOf k v) = supported v (k ∷ [])
index_member bases literal Any = unsure A3 Any
index_member bases literal _ = suits_not E16

-- ---- e.f

-- the result of reading a name of an instance: a field, a method, or neither
abbrev pub attribute_found : Option TypedParameter → Option Method → Offer
attribute_found (Some f) m = supported f.type []
attribute_found None (Some m) = suits_not E20
attribute_found None None = suits_not E15

-- a field gives its type; a method read from an instance is no value
abbrev pub attribute_member : List facts.ClassFacts → List ℕ → Tree → Offer
attribute_member classes name (Class c) =
    attribute_found (field_by_name (class_facts_at classes c).fields name)
    (method_by_name (class_facts_at classes c).methods name)
attribute_member classes name Any = unsure A4 Any
attribute_member classes name _ = suits_not E15

-- ---- e.f = v, e[i] = v

-- the result of a store on one member: the codes found, the types that the index flows into, and the types that the
-- stored value flows into
pub record StoreOffer : Type 0 where
  pub found : List Code
  pub takes : List Tree
  pub stores : List Tree

-- a store that a member supports: its index flows into these types, the stored value into that one
abbrev pub store_suits : List Tree → Tree → StoreOffer
store_suits takes type = record { found = []; takes = takes; stores = type ∷ [] }

-- a store with this code, in which nothing flows
abbrev pub store_with : Code → StoreOffer
store_with code = record { found = code ∷ []; takes = []; stores = [] }

-- the result of a store to a name of an instance: a field, a method, or neither
abbrev pub store_found : Option TypedParameter → Option Method → StoreOffer
store_found (Some f) m = store_suits [] f.type
store_found None (Some m) = store_with E23
store_found None None = store_with E15

-- a field of an instance takes a value of its type; a method cannot be stored to
abbrev pub store_attribute_member : List facts.ClassFacts → List ℕ → Tree → StoreOffer
store_attribute_member classes name (Class c) =
    store_found (field_by_name (class_facts_at classes c).fields name)
    (method_by_name (class_facts_at classes c).methods name)
store_attribute_member classes name Any = store_with A4
store_attribute_member classes name _ = store_with E15

-- a list takes an int and an item, a dict a key and a value
abbrev pub store_index_member : Tree → StoreOffer
store_index_member (ListOf t) = store_suits (Int ∷ []) t
store_index_member (DictOf k v) = store_suits (k ∷ []) v
store_index_member Any = store_with A3
store_index_member _ = store_with E17

-- the codes of a store on all members, in order
abbrev pub store_codes : List StoreOffer → List Code
store_codes offers = flat_map (λ o. o.found) offers

-- the types that the index of a store flows into on all members, none if one of them is in error
abbrev pub store_index_types : List StoreOffer → List Tree
store_index_types offers = if has_error (store_codes offers) then [] else flat_map (λ o. o.takes) offers

-- the types that a stored value flows into on all members, none if one of them is in error
abbrev pub stored_types : List StoreOffer → List Tree
stored_types offers = if has_error (store_codes offers) then [] else flat_map (λ o. o.stores) offers

-- the expected type of a stored value: the type that it flows into, if there is one member
abbrev pub only_type : List StoreOffer → List Tree → Option Tree
only_type (o ∷ []) (t ∷ []) = Some t
only_type _ _ = None

-- ---- for x in e

-- a list gives its items, a dict its keys, a str strs, a tuple the join of its items
abbrev pub iterate_member : Bases → Tree → Offer
iterate_member bases (ListOf t) = supported t []
iterate_member bases (DictOf k v) = supported k []
iterate_member bases Str = supported Str []
iterate_member bases (TupleOf ts) = supported (join_all bases (list_of_trees ts)) []
iterate_member bases Any = unsure A5 Any
iterate_member bases _ = suits_not E18

-- ---- a in e

-- a str is searched for a str, a dict for an int, a str or None; a list and a tuple for anything
abbrev pub contain_member : Tree → Offer
contain_member Str = supported Bool (Str ∷ [])
contain_member (DictOf k v) = supported Bool (Union Int (Union Str NoneType) ∷ [])
contain_member (ListOf t) = supported Bool []
contain_member (TupleOf ts) = supported Bool []
contain_member Any = unsure A2 Bool
contain_member _ = suits_not E19

-- ---- len(e)

-- a str, a list, a dict and a tuple have a length
abbrev pub length_member : Tree → Offer
length_member Str = supported Int []
length_member (ListOf t) = supported Int []
length_member (DictOf k v) = supported Int []
length_member (TupleOf ts) = supported Int []
length_member Any = unsure A6 Int
length_member _ = suits_not E27

-- ---- operators

-- unary minus takes an int and gives int; bool counts as int
abbrev pub negative_member : Tree → Offer
negative_member Int = supported Int []
negative_member Bool = supported Int []
negative_member Any = unsure A2 Any
negative_member _ = suits_not E13

-- a kind of operand that operators take: int or str
pub data Kind : Type 0 where
  whole_kind text_kind : Kind

-- the kind of a type, if operators take it; bool counts as int
abbrev pub kind_of : Tree → Option Kind
kind_of Int = Some whole_kind
kind_of Bool = Some whole_kind
kind_of Str = Some text_kind
kind_of _ = None

-- `+` takes int and str, the others take int
abbrev pub takes_kind : BinaryOperator → Kind → Test
takes_kind operator whole_kind = true
takes_kind Add text_kind = true
takes_kind operator text_kind = false

-- the type of a kind
abbrev pub kind_type : Kind → Tree
kind_type whole_kind = Int
kind_type text_kind = Str

-- whether there is a kind that the operator takes
abbrev pub kind_taken : (Kind → Test) → Option Kind → Test
kind_taken takes None = false
kind_taken takes (Some k) = takes k

-- whether a member has a kind that the operator takes
abbrev pub has_side : (Kind → Test) → Tree → Test
has_side takes m = kind_taken takes (kind_of m)

-- the result type for operands of two kinds, none if the operator does not take them
abbrev pub row_of_kinds : (Kind → Test) → (Kind → Tree) → Option Kind → Option Kind → Option Tree
row_of_kinds takes gives (Some whole_kind) (Some whole_kind) = if takes whole_kind then Some (gives whole_kind)
    else None
row_of_kinds takes gives (Some text_kind) (Some text_kind) = if takes text_kind then Some (gives text_kind) else None
row_of_kinds takes gives _ _ = None

-- the result of an operator on one pair of members
abbrev pub pair_found : Option Tree → Offer
pair_found (Some t) = supported t []
pair_found None = suits_not E13

-- the results of an operator on each pair of a member of the left type and a member of the right type
abbrev pub pair_offers : (Kind → Test) → (Kind → Tree) → List Tree → List Tree → List Offer
pair_offers takes gives ms ns =
    flat_map (λ m. map (λ n. pair_found (row_of_kinds takes gives (kind_of m) (kind_of n))) ns) ms

-- the type is Never
abbrev pub is_never : Tree → Test
is_never Never = true
is_never _ = false

-- the type is Any
abbrev pub is_any : Tree → Test
is_any Any = true
is_any _ = false

-- whether one operand is Any, and each member of the other is Any or has a kind that the operator takes
abbrev pub is_dynamic : (Kind → Test) → Tree → Tree → Test
is_dynamic takes s t =
    (is_any s && list_all (λ n. is_any n || has_side takes n) (members t))
    || (is_any t && list_all (λ m. is_any m || has_side takes m) (members s))

-- each pair of members must be taken; the type is Never if an operand is Never; an operand Any is a dynamic place
abbrev pub pairs_label : Bases → (Kind → Test) → (Kind → Tree) → (dynamic : Tree) → Tree → Tree → Label
pairs_label bases takes gives dynamic s t =
    if is_never s || is_never t
    then clean Never
    else (if is_dynamic takes s t
    then record { type = dynamic; codes = A2 ∷ [] }
    else (if is_any s || is_any t then in_error E13
    else offers_label bases (pair_offers takes gives (members s) (members t))))

-- the label of `+ - * // %`
abbrev pub binary_label : Bases → BinaryOperator → Tree → Tree → Label
binary_label bases operator s t = pairs_label bases (takes_kind operator) kind_type Any s t

-- the label of `< <= > >=`
abbrev pub order_label : Bases → Tree → Tree → Label
order_label bases s t = pairs_label bases (λ k. true) (λ k. Bool) Bool s t

-- ---- displays

-- the label of a display, in error if its type has too many nodes
abbrev pub display_label : Tree → Label
display_label t = if nat_le (nodes t) node_limit then clean t else in_error E26
