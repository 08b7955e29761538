-- The promises of a store of types, in terms of the tree that each of its types means.
-- Own rule of the profile.
use Rattle.std.specs.Prelude.{◌≡◌, ◌<◌, ◌≤◌, Option, Some, None, MatchOption}
use Rattle.pc_types.specs.Tree.{Tree}
use Rattle.pc_types.specs.Shape.{nodes, node_limit}

module _ {Store Ty : Type 0} (has : Store → Ty → Type 0) where
  -- each type of the old store is a type of the new one
  abbrev pub KeepsTypes : Store → Store → Type 0
  KeepsTypes old new = (ty : Ty) → has old ty → has new ty

module _ {Store Ty : Type 0} (has : Store → Ty → Type 0) (tree : Ty → Tree) where
  -- the store gave the type, and it means this tree
  abbrev pub Means : Store → Ty → Tree → Type 0
  Means store ty t = has store ty × (tree ty ≡ t)

  -- the type of the store with this tree if it has at most `node_limit` nodes, none if it has more
  abbrev pub MeansWithin : Store → Option Ty → Tree → Type 0
  MeansWithin store answer t =
      MatchOption answer (node_limit < nodes t) (λ ty. has store ty × (tree ty ≡ t) × (nodes t ≤ node_limit))

  -- a type of the store with the tree that was found, none if none was found
  abbrev pub MeansAny : Store → Option Ty → Option Tree → Type 0
  MeansAny store answer found = MatchOption answer (found ≡ None) (λ ty. has store ty × (found ≡ Some (tree ty)))
