-- The inputs and results of the program for stores to attributes and items, in terms of the tables of operations. Own
-- rule of the profile.
use Rattle.std.specs.Prelude.{◌≡◌, List, option_to_list}
use Rattle.std.specs.Option.{option_map}
use Rattle.pc_types.specs.Tree.{Tree}
use Rattle.pc_class.specs.Facts as facts
use Rattle.pc_rules.specs.Operations.{StoreOffer, store_attribute_member, store_index_member}
use Rattle.pc_rules.specs.Computed.Standing.{HasIfAny}
use Rattle.pc_statements.specs.declared.store_offers.StoreOffer.{StoreOffer as RustStoreOffer}
use Rattle.pc_statements.specs.declared.store_offers.StoreTarget.{StoreTarget}
use Rattle.pc_statements.specs.declared.store_offers.StoreTarget.TheVariants as targets

-- the result of a store on one member
abbrev pub store_on : List facts.ClassFacts → StoreTarget → Tree → StoreOffer
store_on classes (targets.Attribute name) t = store_attribute_member classes name.now t
store_on classes targets.Index t = store_index_member t

-- the store offer that a program's store offer means
abbrev pub store_offer_with : {Ty : Type 0} → (tree : Ty → Tree) → RustStoreOffer Ty → StoreOffer
store_offer_with tree o = record {
  found = option_to_list o.found;
  takes = option_to_list (option_map tree o.takes);
  stores = option_to_list (option_map tree o.stores);
}

-- the store gave the types of a store offer
pub record HasStoreOffer {Ty : Type 0} (has : Ty → Type 0) (o : RustStoreOffer Ty) : Type 0 where
  pub takes : HasIfAny has o.takes
  pub stores : HasIfAny has o.stores

module _ {Store Ty : Type 0} (has : Store → Ty → Type 0) (tree : Ty → Tree) where
  -- a store offer with types of the store means this store offer
  pub record IsStoreOffer (store : Store) (o : RustStoreOffer Ty) (offer : StoreOffer) : Type 0 where
    pub given : HasStoreOffer (has store) o
    pub is : store_offer_with tree o ≡ offer
