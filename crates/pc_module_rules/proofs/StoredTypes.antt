-- The types that a stored value and its index flow into, and the item type of a `for`, are well-formed if the object's
-- type is.
use Rattle.std.proofs.Common.{ℕ, List, [], ◌∷◌, map, arith}
use Rattle.std.specs.Prelude.{flat_map, Option, Some, None}
use Rattle.pc_types.specs.Tree.{Tree, Class, ListOf, DictOf, TupleOf}
use Rattle.pc_types.specs.Below.{Bases, AreSmaller}
use Rattle.pc_types.specs.Shape.{members, list_of_trees}
use Rattle.pc_types.specs.WellFormed.{IsWellFormed}
use Rattle.pc_class.specs.Facts as facts
use Rattle.pc_class.specs.Facts.{TypedParameter, Method, field_by_name, method_by_name, class_facts_at}
use Rattle.pc_class.specs.WellFormed.{ClassesWellFormed}
use Rattle.pc_class.proofs.WellFormed.{class_at_well_formed}
use Rattle.pc_flow.specs.WellFormed.{AreWellFormed, IsWellFormedIfAny}
use Rattle.pc_rules.specs.Operations.{StoreOffer, store_codes, store_index_types, stored_types, only_type, store_found}
use Rattle.pc_rules.specs.Operations.{store_attribute_member, store_index_member, has_error, offers_label}
use Rattle.pc_rules.specs.Operations.{iterate_member}
use Rattle.pc_rules.proofs.WellFormed.{int_well_formed, item_well_formed, key_well_formed, value_well_formed}
use Rattle.pc_rules.proofs.WellFormed.{parts_well_formed, members_well_formed, append_well_formed, if_none}
use Rattle.pc_rules.proofs.WellFormed.{all_well_formed}
use Rattle.pc_rules.proofs.OfferedTypes.{OfferWellFormed, ParameterWellFormed, plain, field_well_formed}
use Rattle.pc_rules.proofs.OfferedTypes.{each_well_formed, offers_well_formed}

-- the types that the index and the stored value flow into are well-formed
record StoreWellFormed (bases : Bases) (o : StoreOffer) : Type 0 where
  takes : AreWellFormed bases o.takes
  stores : AreWellFormed bases o.stores

-- likewise of several stores
abbrev StoresWellFormed : Bases → List StoreOffer → Type 0
StoresWellFormed bases [] = Unit {0}
StoresWellFormed bases (o ∷ os) = StoreWellFormed bases o × StoresWellFormed bases os

module _ (bases : Bases) where
  all_takes : (os : List StoreOffer) → StoresWellFormed bases os → AreWellFormed bases (flat_map (λ o. o.takes) os)
  all_takes [] h = tt
  all_takes (o ∷ os) h = append_well_formed bases o.takes _ h.0.takes (all_takes os h.1)

  all_stores : (os : List StoreOffer) → StoresWellFormed bases os → AreWellFormed bases (flat_map (λ o. o.stores) os)
  all_stores [] h = tt
  all_stores (o ∷ os) h = append_well_formed bases o.stores _ h.0.stores (all_stores os h.1)

  index_types_well_formed : (os : List StoreOffer) → StoresWellFormed bases os
      → AreWellFormed bases (store_index_types os)
  index_types_well_formed os h = if_none bases (has_error (store_codes os)) _ (all_takes os h)

  stored_types_well_formed : (os : List StoreOffer) → StoresWellFormed bases os → AreWellFormed bases (stored_types os)
  stored_types_well_formed os h = if_none bases (has_error (store_codes os)) _ (all_stores os h)

  each_store : (f : Tree → StoreOffer) → ((t : Tree) → IsWellFormed bases t → StoreWellFormed bases (f t))
      → (ts : List Tree) → AreWellFormed bases ts → StoresWellFormed bases (map f ts)
  each_store f g [] h = tt
  each_store f g (t ∷ ts) h = (g t h.0, each_store f g ts h.1)

  -- ---- the operations

  store_index_well_formed : (t : Tree) → IsWellFormed bases t → StoreWellFormed bases (store_index_member t)
  store_index_well_formed (ListOf t) k = record {
    takes = (int_well_formed bases, tt);
    stores =
        (item_well_formed bases t k, tt);
  }
  store_index_well_formed (DictOf s t) k = record {
    takes = (key_well_formed bases s t k, tt);
    stores =
        (value_well_formed bases s t k, tt);
  }
  store_index_well_formed t k = record { takes = tt; stores = tt }

  found_well_formed : (p : Option TypedParameter) (x : Option Method) → ParameterWellFormed bases p
      → StoreWellFormed bases (store_found p x)
  found_well_formed (Some p) x k = record { takes = tt; stores = (k, tt) }
  found_well_formed None (Some x) k = record { takes = tt; stores = tt }
  found_well_formed None None k = record { takes = tt; stores = tt }

  store_attribute_well_formed : (classes : List facts.ClassFacts) → ClassesWellFormed bases classes
      → (field : List ℕ) (t : Tree) → IsWellFormed bases t → StoreWellFormed bases
      (store_attribute_member classes field t)
  store_attribute_well_formed classes h field (Class c) k = found_well_formed
      (field_by_name (class_facts_at classes c).fields field) (method_by_name (class_facts_at classes c).methods field)
      (field_well_formed bases (class_facts_at classes c).fields field (class_at_well_formed bases classes c h).fields)
  store_attribute_well_formed classes h field t k = record { takes = tt; stores = tt }

  iterate_well_formed : AreSmaller bases → (t : Tree) → IsWellFormed bases t
      → OfferWellFormed bases (iterate_member bases t)
  iterate_well_formed o (ListOf t) k = plain bases (item_well_formed bases t k) tt
  iterate_well_formed o (DictOf s t) k = plain bases (key_well_formed bases s t k) tt
  iterate_well_formed o (TupleOf ts) k = plain bases (all_well_formed bases o (list_of_trees ts)
      (parts_well_formed bases ts k)) tt
  iterate_well_formed o t k = plain bases (tt, tt, omega arith) tt

  -- ---- on all members of a type

  pub fields_stored : (classes : List facts.ClassFacts) → ClassesWellFormed bases classes → (field : List ℕ) (t : Tree)
      → IsWellFormed bases t → AreWellFormed bases (stored_types
      (map (store_attribute_member classes field) (members t)))
  fields_stored classes h field t k = stored_types_well_formed _
      (each_store (store_attribute_member classes field) (store_attribute_well_formed classes h field) (members t)
      (members_well_formed bases t k))

  pub items_stored : (t : Tree) → IsWellFormed bases t → AreWellFormed bases
      (stored_types (map store_index_member (members t)))
  items_stored t k = stored_types_well_formed _ (each_store store_index_member store_index_well_formed (members t)
      (members_well_formed bases t k))

  pub keys_stored : (t : Tree) → IsWellFormed bases t → AreWellFormed bases
      (store_index_types (map store_index_member (members t)))
  keys_stored t k = index_types_well_formed _ (each_store store_index_member store_index_well_formed (members t)
      (members_well_formed bases t k))

  -- the type expected of a stored value is well-formed
  pub only_well_formed : (os : List StoreOffer) (ts : List Tree) → AreWellFormed bases ts
      → IsWellFormedIfAny bases (only_type os ts)
  only_well_formed (o ∷ []) (t ∷ []) k = k.0
  only_well_formed [] ts k = tt
  only_well_formed (o ∷ []) [] k = tt
  only_well_formed (o ∷ []) (t ∷ u ∷ ts) k = tt
  only_well_formed (o ∷ p ∷ os) ts k = tt

  pub turns_well_formed : AreSmaller bases → (t : Tree) → IsWellFormed bases t
      → IsWellFormed bases (offers_label bases (map (iterate_member bases) (members t))).type
  turns_well_formed o t k = offers_well_formed bases o _ (each_well_formed bases (iterate_member bases)
      (iterate_well_formed o) t k)
