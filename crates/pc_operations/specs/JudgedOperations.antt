-- The results of the program's operations on members of types, in terms of the tables of operations. Own rule of the
-- profile.
use Rattle.std.specs.Prelude.{◌≡◌, ℕ, List, Option, Some, None, unwrap_or, slice_get}
use Rattle.pc_types.specs.Tree.{Tree}
use Rattle.pc_types.specs.Below.{Bases}
use Rattle.pc_class.specs.Facts as facts
use Rattle.pc_flow.specs.Environment.{join_all}
use Rattle.pc_rules.specs.Operations.{Offer, negative_member, attribute_member, index_member, iterate_member}
use Rattle.pc_rules.specs.Operations.{contain_member, length_member}
use Rattle.pc_rules.specs.Computed.Standing.{HasOffer, offer_with}
use Rattle.pc_rules.specs.declared.label.Offer.{Offer as RustOffer}
use Rattle.pc_operations.specs.declared.offers.Operation.{Operation}
use Rattle.pc_operations.specs.declared.offers.Operation.TheVariants as operations

-- the result of an operation on one member
abbrev pub offer_on : Bases → List facts.ClassFacts → Operation → Tree → Offer
offer_on bases classes operations.Negative t = negative_member t
offer_on bases classes (operations.Attribute name) t = attribute_member classes name.now t
offer_on bases classes (operations.Index literal) t = index_member bases literal t
offer_on bases classes operations.Iterate t = iterate_member bases t
offer_on bases classes operations.Contain t = contain_member t
offer_on bases classes operations.Length t = length_member t

-- the type of an item of a tuple of these types: the one at a number below its length, else the join of all
abbrev pub item_at : Bases → Option ℕ → List Tree → Tree
item_at bases None ts = join_all bases ts
item_at bases (Some i) ts = unwrap_or (slice_get ts i) (join_all bases ts)

module _ {Store Ty : Type 0} (has : Store → Ty → Type 0) (tree : Ty → Tree) where
  -- an offer with types of the store means this offer
  pub record IsOffer (store : Store) (o : RustOffer Ty) (offer : Offer) : Type 0 where
    pub given : HasOffer (has store) o
    pub is : offer_with tree o ≡ offer
