-- The table of an interned store: the meaning of its numbers, and its invariant.
-- Own rule of the profile.
use Rattle.std.specs.Prelude.{◌≡◌, ℕ, List, [], ◌∷◌, ◌++◌, map, slice_get, Option, Some}
use Rattle.std.specs.Map.{values_of}
use Rattle.pc_types.specs.Tree.{Tree, Any, Object, Never, Int, Bool, Str, NoneType}
use Rattle.pc_types.specs.Shape.{parts}
use Rattle.pc_types.specs.Head.{head_of}
use Rattle.pc_types.specs.Boxed.{tree_of, IsGiven}
use Rattle.pc_types.specs.declared.boxed.BoxType.{BoxType}
use Rattle.pc_intern.specs.declared.table.TypeNode.{TypeNode}

-- the tree of the type with this number, none past the end
abbrev pub tree_at : List BoxType → ℕ → Option Tree
tree_at types n = slice_get (map tree_of types) n

-- the node identifies the tree: it has the tree's head and the numbers of the tree's parts
pub record IsNode (types : List BoxType) (node : TypeNode) (t : Tree) : Type 0 where
  pub head : node.head ≡ head_of t
  pub parts : map (tree_at types) node.parts.items ≡ map Some (parts t)

-- the node identifies the tree of the type with this number
pub record IsNodeAt (types : List BoxType) (node : TypeNode) (n : ℕ) : Type 0 where
  pub ty : BoxType
  pub at : slice_get types n ≡ Some ty
  pub given : IsGiven ty
  pub told : IsNode types node (tree_of ty)

-- the second has the types of the first, followed by others
pub record Grows (old new : List BoxType) : Type 0 where
  pub added : List BoxType
  pub is : new ≡ old ++ added

-- each type is one that a store may give and is identified by its node; no tree has two numbers
pub record IsTable (entries : List (TypeNode × BoxType)) : Type 0 where
  pub given : (n : ℕ) (b : BoxType) → slice_get (values_of entries) n ≡ Some b → IsGiven b
  pub told : (n : ℕ) (e : TypeNode × BoxType) → slice_get entries n ≡ Some e → IsNode (values_of entries) e.0 (tree_of e.1)
  pub once : (m n : ℕ) (t : Tree) → tree_at (values_of entries) m ≡ Some t → tree_at (values_of entries) n ≡ Some t
      → m ≡ n

-- the basic types, which have no parts and are not classes, in the order of their places
abbrev pub basic_types : List Tree
basic_types = Any ∷ Object ∷ Never ∷ Int ∷ Bool ∷ Str ∷ NoneType ∷ []

-- each number kept at a place is that of the basic type of this place
abbrev pub AreBasic : List BoxType → List (Option ℕ) → Type 0
AreBasic types numbers = (place n : ℕ) (t : Tree) → slice_get numbers place ≡ Some (Some n)
    → slice_get basic_types place ≡ Some t → tree_at types n ≡ Some t
