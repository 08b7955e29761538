-- The expected types of the parts of a display, and the types of displays, lengths and comparisons, are regular.
use Rattle.std.proofs.Common.{ℕ, List, [], ◌∷◌, sym, subst}
use Rattle.std.specs.Prelude.{Bool as Test, true, false, if◌then◌else◌, nat_eq, Option, Some, None}
use Rattle.pc_tree.specs.declared.tree.ComparisonOperator.{ComparisonOperator}
use Rattle.pc_tree.specs.declared.tree.ComparisonOperator.TheVariants.{Equal, NotEqual, In, NotIn}
use Rattle.pc_types.specs.Tree.{Tree, Any, Int, Bool, Str, ListOf, DictOf, TupleOf}
use Rattle.pc_types.specs.Below.{Bases}
use Rattle.pc_types.specs.Normal.{IsKey}
use Rattle.pc_types.specs.Shape.{list_of_trees, count}
use Rattle.pc_flow.specs.Environment.{join_all}
use Rattle.pc_rules.specs.Operations.{Label, contain_member, length_member, Kind, whole_kind, text_kind, kind_type}
use Rattle.pc_rules.specs.Calls.{first_type, length_label}
use Rattle.pc_rules.specs.Lawful.{KeyValue, list_item, dict_parts, tuple_parts, members_of_expected, item_seat}
use Rattle.pc_rules.specs.Lawful.{list_label, DictLabel, no_keys, int_keys, str_keys, other_keys, DictRule, key_seat}
use Rattle.pc_rules.specs.Lawful.{value_seat, compare_label}
use Rattle.pc_sound.proofs.Regular.RegularParts.{Asked, IsRegular, regular_members}
use Rattle.pc_sound.proofs.Regular.RegularTypes.{OptionRegular, all_regular, EachRegular}
use Rattle.pc_sound.proofs.Regular.RegularOperations.{listed_regular, key_regular, display_regular, operation_regular}
use Rattle.pc_sound.proofs.Regular.RegularOperations.{contain_regular, length_regular, pairs_regular}

module _ (asked : Asked) where
  -- ---- expected types of the parts of a display

  pub list_item_regular : (ms : List Tree) → EachRegular asked ms → OptionRegular asked (list_item ms)
  list_item_regular [] h = tt
  list_item_regular (ListOf t ∷ ms) h = h.0
  list_item_regular (m ∷ ms) h = list_item_regular ms h.1

  abbrev pub PartsRegular : Option KeyValue → Type 0
  PartsRegular None = Unit {0}
  PartsRegular (Some kv) = IsKey kv.key × IsRegular asked kv.value

  pub dict_parts_regular : (ms : List Tree) → EachRegular asked ms → PartsRegular (dict_parts ms)
  dict_parts_regular [] h = tt
  dict_parts_regular (DictOf k v ∷ ms) h = h.0
  dict_parts_regular (m ∷ ms) h = dict_parts_regular ms h.1

  pub tuple_parts_regular : (n : ℕ) (ms : List Tree) → EachRegular asked ms → EachRegular asked (tuple_parts n ms)
  tuple_parts_regular n [] h = tt
  tuple_parts_regular n (TupleOf ts ∷ ms) h = go (nat_eq (count ts) n) (tuple_parts_regular n ms h.1)
    where
      go : (x : Test) → EachRegular asked (tuple_parts n ms) → EachRegular asked
          (if x then list_of_trees ts else tuple_parts n ms)
      go true k = listed_regular asked ts h.0
      go false k = k
  tuple_parts_regular n (m ∷ ms) h = tuple_parts_regular n ms h.1

  pub wanted_members : (want : Option Tree) → OptionRegular asked want → EachRegular asked (members_of_expected want)
  wanted_members None h = tt
  wanted_members (Some t) h = regular_members asked t h

  pub item_seat_regular : (o : Option Tree) → OptionRegular asked o → OptionRegular asked (item_seat o).want
  item_seat_regular None h = tt
  item_seat_regular (Some t) h = h

  pub key_seat_regular : (o : Option KeyValue) → PartsRegular o → OptionRegular asked (key_seat o).want
  key_seat_regular None h = tt
  key_seat_regular (Some kv) h = key_regular asked kv.key h.0

  pub value_seat_regular : (o : Option KeyValue) → PartsRegular o → OptionRegular asked (value_seat o).want
  value_seat_regular None h = tt
  value_seat_regular (Some kv) h = h.1

  module _ (bases : Bases) where
    pub list_label_regular : (o : Option Tree) (ts : List Tree) → OptionRegular asked o → EachRegular asked ts
        → IsRegular asked (list_label bases o ts).type
    list_label_regular (Some t) ts h k = h
    list_label_regular None [] h k = display_regular asked (ListOf Any) tt
    list_label_regular None (t ∷ ts) h k = display_regular asked (ListOf (join_all bases (t ∷ ts)))
        (all_regular asked bases (t ∷ ts) k)

    by_keys_regular : (values keys : List Tree) (m : Label) → EachRegular asked values → DictLabel bases values keys m
        → IsRegular asked m.type
    by_keys_regular values _ _ h no_keys = tt
    by_keys_regular values _ _ h (int_keys all) = display_regular asked (DictOf Int (join_all bases values))
        (tt, all_regular asked bases values h)
    by_keys_regular values _ _ h (str_keys apart all) = display_regular asked (DictOf Str (join_all bases values))
        (tt, all_regular asked bases values h)
    by_keys_regular values _ _ h (other_keys apart others) = tt

    pub dict_rule_regular : (o : Option KeyValue) (keys values : List Tree) (m : Label) → PartsRegular o
        → EachRegular asked values → DictRule bases o keys values m → IsRegular asked m.type
    dict_rule_regular (Some kv) keys values m h k is = subst (λ x. IsRegular asked x.type) (sym is) h
    dict_rule_regular None keys values m h k rule = by_keys_regular values keys m k rule

    first_regular : (ts : List Tree) → EachRegular asked ts → IsRegular asked (first_type ts)
    first_regular [] h = tt
    first_regular (t ∷ ts) h = h.0

    pub length_label_regular : (ts : List Tree) → EachRegular asked ts → IsRegular asked (length_label bases ts).type
    length_label_regular ts h = operation_regular asked bases length_member (length_regular asked bases) (first_type ts)
        (first_regular ts h)

    pub kinds_regular : (x : Kind) → IsRegular asked (kind_type x)
    kinds_regular whole_kind = tt
    kinds_regular text_kind = tt

    pub compare_regular : (operator : ComparisonOperator) (s t : Tree) → IsRegular asked t
        → IsRegular asked (compare_label bases operator s t).type
    compare_regular Equal s t h = tt
    compare_regular NotEqual s t h = tt
    compare_regular In s t h = operation_regular asked bases contain_member (contain_regular asked bases) t h
    compare_regular NotIn s t h = operation_regular asked bases contain_member (contain_regular asked bases) t h
    compare_regular _ s t h = pairs_regular asked bases (λ k. true) (λ k. Bool) (λ k. tt) Bool s t tt
