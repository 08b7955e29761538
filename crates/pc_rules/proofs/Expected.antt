-- The expected types of the parts of a display, and the display's type, are well-formed.
use Rattle.std.proofs.Common.{ℕ, List, [], ◌∷◌, Option, Some, None}
use Rattle.std.proofs.lemmas.Bool.{cond_both}
use Rattle.std.specs.Prelude.{nat_eq}
use Rattle.pc_tree.specs.declared.tree.ComparisonOperator.{ComparisonOperator}
use Rattle.pc_tree.specs.declared.tree.ComparisonOperator.TheVariants.{Equal, NotEqual, In, NotIn}
use Rattle.pc_types.specs.Tree.{Tree, Any, Int, Str, ListOf, DictOf, TupleOf}
use Rattle.pc_types.specs.Below.{Bases, AreSmaller}
use Rattle.pc_types.specs.Shape.{count, list_of_trees, trees}
use Rattle.pc_flow.specs.Environment.{join_all}
use Rattle.pc_rules.specs.Operations.{display_label, contain_member}
use Rattle.pc_rules.specs.Lawful.{list_item, KeyValue, dict_parts, tuple_parts, members_of_expected, item_seat}
use Rattle.pc_rules.specs.Lawful.{part_seat, list_label, key_seat, value_seat, contain_offers, compare_label}
use Rattle.pc_rules.specs.Lawful.{compare_types}
use Rattle.pc_types.specs.WellFormed.{IsWellFormed}
use Rattle.pc_flow.specs.WellFormed.{IsWellFormedIfAny, AreWellFormed}
use Rattle.pc_rules.proofs.WellFormed.{bool_well_formed, item_well_formed, key_well_formed, value_well_formed}
use Rattle.pc_rules.proofs.WellFormed.{parts_well_formed, members_well_formed, at_well_formed, trees_normal}
use Rattle.pc_rules.proofs.WellFormed.{all_well_formed}
use Rattle.pc_rules.proofs.OfferedTypes.{OffersWellFormed, each_well_formed, contain_well_formed, operands_well_formed}
use Rattle.pc_rules.proofs.OfferedTypes.{offers_well_formed, order_well_formed, display_well_formed}
use Rattle.pc_rules.proofs.Called.{SeatWellFormed, nowhere_well_formed}

module _ (bases : Bases) where
  pub wanted_members : (want : Option Tree) → IsWellFormedIfAny bases want
      → AreWellFormed bases (members_of_expected want)
  wanted_members None h = tt
  wanted_members (Some t) h = members_well_formed bases t h

  pub item_seat_well_formed : (t : Option Tree) → IsWellFormedIfAny bases t → SeatWellFormed bases (item_seat t)
  item_seat_well_formed None h = record { want = tt; into = tt }
  item_seat_well_formed (Some t) h = record { want = h; into = (h, tt) }

  -- ---- lists
  -- the list of an expected item
  abbrev pub ListWellFormed : Option Tree → Type 0
  ListWellFormed None = Unit {0}
  ListWellFormed (Some t) = IsWellFormed bases (ListOf t)

  pub list_item_well_formed : (ts : List Tree) → AreWellFormed bases ts → ListWellFormed (list_item ts)
  list_item_well_formed [] h = tt
  list_item_well_formed (ListOf t ∷ ts) h = h.0
  list_item_well_formed (t ∷ ts) h = list_item_well_formed ts h.1

  pub list_seat_well_formed : (t : Option Tree) → ListWellFormed t → SeatWellFormed bases (item_seat t)
  list_seat_well_formed None h = item_seat_well_formed None tt
  list_seat_well_formed (Some t) h = item_seat_well_formed (Some t) (item_well_formed bases t h)

  pub list_well_formed : AreSmaller bases → (item : Option Tree) (ts : List Tree) → ListWellFormed item
      → AreWellFormed bases ts → IsWellFormed bases (list_label bases item ts).type
  list_well_formed o (Some t) ts h k = h
  list_well_formed o None [] h k = display_well_formed bases (ListOf Any) tt tt
  list_well_formed o None (t ∷ ts) h k = let j = all_well_formed bases o (t ∷ ts) k in
      display_well_formed bases (ListOf (join_all bases (t ∷ ts))) j.0 j.1

  -- ---- tuples
  pub tuple_parts_well_formed : (n : ℕ) (ts : List Tree) → AreWellFormed bases ts
      → AreWellFormed bases (tuple_parts n ts)
  tuple_parts_well_formed n [] h = tt
  tuple_parts_well_formed n (TupleOf us ∷ ts) h = cond_both (nat_eq (count us) n) (list_of_trees us) (tuple_parts n ts)
      (AreWellFormed bases) (λ e. parts_well_formed bases us h.0) (λ e. tuple_parts_well_formed n ts h.1)
  tuple_parts_well_formed n (t ∷ ts) h = tuple_parts_well_formed n ts h.1

  pub part_seat_well_formed : (ts : List Tree) → AreWellFormed bases ts → (i : ℕ)
      → SeatWellFormed bases (part_seat ts i)
  part_seat_well_formed ts h i = record { want = at_well_formed bases ts i h; into = tt }

  pub tuple_well_formed : (ts : List Tree) → AreWellFormed bases ts
      → IsWellFormed bases (display_label (TupleOf (trees ts))).type
  tuple_well_formed ts h = let r = trees_normal bases ts h in display_well_formed bases (TupleOf (trees ts)) r.0 r.1

  -- ---- dicts
  abbrev pub DictWellFormed : Option KeyValue → Type 0
  DictWellFormed None = Unit {0}
  DictWellFormed (Some kv) = IsWellFormed bases (DictOf kv.key kv.value)

  pub dict_parts_well_formed : (ts : List Tree) → AreWellFormed bases ts → DictWellFormed (dict_parts ts)
  dict_parts_well_formed [] h = tt
  dict_parts_well_formed (DictOf k v ∷ ts) h = h.0
  dict_parts_well_formed (t ∷ ts) h = dict_parts_well_formed ts h.1

  pub key_seat_well_formed : (kv : Option KeyValue) → DictWellFormed kv → SeatWellFormed bases (key_seat kv)
  key_seat_well_formed None h = nowhere_well_formed bases
  key_seat_well_formed (Some kv) h = item_seat_well_formed (Some kv.key) (key_well_formed bases kv.key kv.value h)

  pub value_seat_well_formed : (kv : Option KeyValue) → DictWellFormed kv → SeatWellFormed bases (value_seat kv)
  value_seat_well_formed None h = nowhere_well_formed bases
  value_seat_well_formed (Some kv) h = item_seat_well_formed (Some kv.value) (value_well_formed bases kv.key kv.value h)

  module _ (o : AreSmaller bases) where
    pub int_dict : (v : Tree) → IsWellFormed bases v → IsWellFormed bases (display_label (DictOf Int v)).type
    int_dict v h = display_well_formed bases (DictOf Int v) (tt, tt, h.0) h.1

    pub str_dict : (v : Tree) → IsWellFormed bases v → IsWellFormed bases (display_label (DictOf Str v)).type
    str_dict v h = display_well_formed bases (DictOf Str v) (tt, tt, h.0) h.1

    -- ---- comparisons
    contain_offers_well_formed : (t : Tree) → IsWellFormed bases t → OffersWellFormed bases (contain_offers t)
    contain_offers_well_formed t h = each_well_formed bases contain_member (contain_well_formed bases) t h

    pub compare_well_formed : (operator : ComparisonOperator) (s t : Tree) → IsWellFormed bases t
        → IsWellFormed bases (compare_label bases operator s t).type
    compare_well_formed Equal s t h = bool_well_formed bases
    compare_well_formed NotEqual s t h = bool_well_formed bases
    compare_well_formed In s t h = offers_well_formed bases o (contain_offers t) (contain_offers_well_formed t h)
    compare_well_formed NotIn s t h = offers_well_formed bases o (contain_offers t) (contain_offers_well_formed t h)
    compare_well_formed _ s t h = order_well_formed bases o s t

  pub compare_types_well_formed : (operator : ComparisonOperator) (t : Tree) → IsWellFormed bases t
      → AreWellFormed bases (compare_types operator t)
  compare_types_well_formed In t h = operands_well_formed bases (contain_offers t)
      (each_well_formed bases contain_member (contain_well_formed bases) t h)
  compare_types_well_formed NotIn t h = operands_well_formed bases (contain_offers t)
      (each_well_formed bases contain_member (contain_well_formed bases) t h)
  compare_types_well_formed _ t h = tt
