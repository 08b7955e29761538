-- The tree of a boxed type.
use Rattle.std.specs.Prelude.{◌≤◌, List, map}
use Rattle.pc_types.specs.Tree.{Tree, Trees, end, more, ListOf, DictOf, TupleOf}
use Rattle.pc_types.specs.Tree as tree
use Rattle.pc_types.specs.Shape.{trees, nodes, node_limit}
use Rattle.pc_types.specs.Normal.{IsNormal}
use Rattle.pc_types.specs.declared.boxed.BoxType.{BoxType, Row_of-BoxType, end_of-BoxType, more_of-BoxType}
use Rattle.pc_types.specs.declared.boxed.BoxType.TheVariants.{Any, Object, Never, Int, Bool, Str, NoneType, Class}
use Rattle.pc_types.specs.declared.boxed.BoxType.TheVariants.{List', Dict', Tuple', Union'}

-- the trees of boxed types, and of their parts
abbrev mutual
  -- the tree of a boxed type
  pub tree_of : BoxType → Tree
  tree_of Any = tree.Any
  tree_of Object = tree.Object
  tree_of Never = tree.Never
  tree_of Int = tree.Int
  tree_of Bool = tree.Bool
  tree_of Str = tree.Str
  tree_of NoneType = tree.NoneType
  tree_of (Class c) = tree.Class c
  tree_of (List' p t) = ListOf (tree_of t)
  tree_of (Dict' p k q v) = DictOf (tree_of k) (tree_of v)
  tree_of (Tuple' shape parts) = TupleOf (trees_of parts)
  tree_of (Union' p a q b) = tree.Union (tree_of a) (tree_of b)

  -- the trees of a row of boxed types, as the parts of a tuple
  pub trees_of : {m : _} → Row_of-BoxType m → Trees
  trees_of end_of-BoxType = end
  trees_of (more_of-BoxType t rest) = more (tree_of t) (trees_of rest)

-- the trees of several boxed types, as the parts of a tuple
abbrev pub trees_in : List BoxType → Trees
trees_in ts = trees (map tree_of ts)

-- the type is not a union
abbrev pub IsNoUnion : BoxType → Type 0
IsNoUnion (Union' p a q b) = ⊥
IsNoUnion _ = Unit {0}

-- a boxed type that the store may give: of at most 256 nodes, in normal form
pub record IsGiven (t : BoxType) : Type 0 where
  pub small : nodes (tree_of t) ≤ node_limit
  pub normal : IsNormal (tree_of t)
