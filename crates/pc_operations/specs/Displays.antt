-- The inputs and results of the program that labels displays, and the types that may be parts of a display. Own rule of
-- the profile.
use Rattle.std.specs.Prelude.{◌≡◌, ◌≤◌, ℕ, List, [], ◌∷◌, Bool as Test, true, false, nat_eq, Option, Some, None}
use Rattle.std.specs.List.{list_all}
use Rattle.std.specs.Option.{option_map}
use Rattle.pc_types.specs.Tree.{Tree, Int, Str, ListOf, DictOf, TupleOf}
use Rattle.pc_types.specs.Below.{Bases}
use Rattle.pc_types.specs.Computed.{static_test}
use Rattle.pc_flow.specs.Environment.{join_all}
use Rattle.pc_tree.specs.declared.code.Code.TheVariants.{E22}
use Rattle.pc_rules.specs.Operations.{Label, in_error, display_label}
use Rattle.pc_types.specs.Shape.{nodes, node_limit, count}
use Rattle.pc_types.specs.Normal.{IsKey}
use Rattle.pc_rules.specs.Lawful.{KeyValue}
use Rattle.pc_rules.specs.Computed.Standing.{HasIfAny}
use Rattle.pc_operations.specs.declared.display.KeyValue.{KeyValue as RustKeyValue}

-- a list of these items is within the limit of nodes, if there are any
abbrev pub IsListItem : Option Tree → Type 0
IsListItem None = Unit {0}
IsListItem (Some t) = nodes (ListOf t) ≤ node_limit

-- a dict of these keys and values is allowed and within the limit of nodes, if there are any
abbrev pub IsDictParts : Option KeyValue → Type 0
IsDictParts None = Unit {0}
IsDictParts (Some kv) = IsKey kv.key × (nodes (DictOf kv.key kv.value) ≤ node_limit)

-- the key and value types that a program's key and value types mean
abbrev pub key_value_with : {Ty : Type 0} → (tree : Ty → Tree) → RustKeyValue Ty → KeyValue
key_value_with tree kv = record { key = tree kv.key; value = tree kv.value }

-- the store gave the types of keys and values, if there are any
abbrev pub HasKeyValueIfAny : {Ty : Type 0} → (has : Ty → Type 0) → Option (RustKeyValue Ty) → Type 0
HasKeyValueIfAny has None = Unit {0}
HasKeyValueIfAny has (Some kv) = has kv.key × has kv.value

-- the type is a tuple of this length
abbrev pub is_tuple : ℕ → Tree → Test
is_tuple n (TupleOf ts) = nat_eq (count ts) n
is_tuple n _ = false

-- the label of a dict display, given whether all keys are int and whether all are str
abbrev pub keyed_label : Bases → (int str : Test) → (values : List Tree) → Label
keyed_label bases true str values = display_label (DictOf Int (join_all bases values))
keyed_label bases false true values = display_label (DictOf Str (join_all bases values))
keyed_label bases false false values = in_error E22

-- the label of a dict display without an expected dict, by the test of static subtyping
abbrev pub own_dict_label : Bases → (keys values : List Tree) → Label
own_dict_label bases [] values = in_error E22
own_dict_label bases (k ∷ ks) values =
    keyed_label bases (list_all (λ t. static_test bases t Int) (k ∷ ks))
    (list_all (λ t. static_test bases t Str) (k ∷ ks)) values

module _ {Store Ty : Type 0} (has : Store → Ty → Type 0) (tree : Ty → Tree) where
  -- an item type of the store means this type, and a list of it is within the limit
  pub record IsItem (store : Store) (ty : Option Ty) (t : Option Tree) : Type 0 where
    pub given : HasIfAny (has store) ty
    pub is : option_map tree ty ≡ t
    pub small : IsListItem t

  -- key and value types of the store mean these, and a dict of them is allowed and within the limit
  pub record IsEntry (store : Store) (kv : Option (RustKeyValue Ty)) (t : Option KeyValue) : Type 0 where
    pub given : HasKeyValueIfAny (has store) kv
    pub is : option_map (key_value_with tree) kv ≡ t
    pub small : IsDictParts t
