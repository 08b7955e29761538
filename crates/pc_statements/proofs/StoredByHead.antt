-- The result of a store on a member, by its head and its parts.
use Rattle.std.proofs.Common.{◌≡◌, List, [], ◌∷◌, refl}
use Rattle.pc_tree.specs.declared.code.Code.TheVariants.{A3, E17}
use Rattle.pc_types.specs.declared.head.Head.{Head}
use Rattle.pc_types.specs.declared.head.Head.TheVariants as heads
use Rattle.pc_types.specs.Tree.{Tree, Any, Int}
use Rattle.pc_types.specs.Head.{head_of}
use Rattle.pc_types.specs.Shape.{parts}
use Rattle.pc_rules.specs.Operations.{StoreOffer, store_suits, store_with, store_index_member}
use Rattle.pc_operations.proofs.ByHead.{part_at}

abbrev pub store_at : Head → List Tree → StoreOffer
store_at heads.List ps = store_suits (Int ∷ []) (part_at ps 0)
store_at heads.Dict ps = store_suits (part_at ps 0 ∷ []) (part_at ps 1)
store_at heads.Any ps = store_with A3
store_at _ ps = store_with E17

pub store_is : (t : Tree) → store_index_member t ≡ store_at (head_of t) (parts t)
store_is Any = refl
store_is _ = refl

pub ruleset stored_by_head = (store_is)
