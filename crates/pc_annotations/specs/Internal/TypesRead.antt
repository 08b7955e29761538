-- The types that the reader of annotations has read: private to this crate.
use Rattle.std.specs.Prelude.{◌≡◌, ◌<◌, ◌==◌, ◌&&◌, not, ℕ, Bool as Test, true, false, List, [], ◌∷◌, ◌++◌, map, All}
use Rattle.std.specs.Prelude.{Option, Some, None, MatchOption, Vec, length}
use Rattle.std.specs.List.{list_all}
use Rattle.std.specs.declared.alloc.Global.{Global}
use Rattle.pc_types.specs.Tree.{Tree}
use Rattle.pc_types.specs.Below.{Bases}
use Rattle.pc_types.specs.Shape.{nodes_of, node_limit, trees}
use Rattle.pc_types.specs.Join.{reaches}
use Rattle.pc_types.specs.Head.{head_of}
use Rattle.pc_types.specs.Store.{MeansWithin}
use Rattle.pc_types.specs.declared.head.Head.{Head}
use Rattle.pc_types.specs.declared.head.Head.TheVariants as heads

module _ {Store Ty : Type 0} (has : Store → Ty → Type 0) (tree : Ty → Tree) where
  -- the head of a tree and a stored type that means the tree, none if the tree has too many nodes
  pub record IsRead (store : Store) (head : Head) (type : Option Ty) (t : Tree) : Type 0 where
    pub head_is : head ≡ head_of t
    pub type_is : MeansWithin has tree store type t

  -- the heads of trees and stored types that mean the trees, none if they have too many nodes together
  pub record AreRead (store : Store) (kinds : List Head) (types : Option (Vec Ty Global))
      (ts : List Tree) : Type 0 where
    pub heads_are : kinds ≡ map head_of ts
    pub types_are : MatchOption types (node_limit < nodes_of (trees ts))
        (λ v. All (has store) v.items × (map tree v.items ≡ ts))

-- a head of a type that may be a member of a union
abbrev pub is_member_head : Head → Test
is_member_head heads.Any = false
is_member_head heads.Object = false
is_member_head heads.Never = false
is_member_head (heads.Union n) = false
is_member_head _ = true

-- the rank of a head among the members of a union
abbrev pub rank_of_head : Head → ℕ × ℕ
rank_of_head heads.Int = (1, 0)
rank_of_head heads.Bool = (2, 0)
rank_of_head heads.Str = (3, 0)
rank_of_head heads.None = (4, 0)
rank_of_head heads.List = (5, 0)
rank_of_head heads.Dict = (6, 0)
rank_of_head (heads.Tuple n) = (7, n)
rank_of_head (heads.Class c) = (8, c)
rank_of_head _ = (0, 0)

-- whether a member with the first head absorbs one with the second
abbrev pub head_absorbs : Bases → Head → Head → Test
head_absorbs bases heads.Int heads.Bool = true
head_absorbs bases (heads.Class d) (heads.Class c) = not (c == d) && reaches bases c c d
head_absorbs bases _ _ = false

-- types with these heads may be members of one union
abbrev pub heads_apart : Bases → Head → Head → Test
heads_apart bases h k =
    not (((rank_of_head h).0 == (rank_of_head k).0) && ((rank_of_head h).1 == (rank_of_head k).1))
    && (not (head_absorbs bases h k) && not (head_absorbs bases k h))

-- types with these heads make a union
abbrev pub heads_make_union : Bases → List Head → Test
heads_make_union bases [] = true
heads_make_union bases (h ∷ hs) = is_member_head h && (list_all (heads_apart bases h) hs && heads_make_union bases hs)

-- the head of the union of members with these heads
abbrev pub united_head : List Head → Head
united_head [] = heads.Never
united_head (h ∷ []) = h
united_head (h ∷ k ∷ rest) = heads.Union (length (h ∷ k ∷ rest))

-- types with one more, if none of them is missing
abbrev pub with_one : {Ty : Type 0} → Option (List Ty) → Option Ty → Option (List Ty)
with_one None type = None
with_one (Some types) None = None
with_one (Some types) (Some t) = Some (types ++ t ∷ [])

module _ {Store Ty : Type 0} (has : Store → Ty → Type 0) (tree : Ty → Tree) where
  -- the head and type of a tree, or none if there is no tree
  abbrev pub IsReadAny : Store → Option (Head × Option Ty) → Option Tree → Type 0
  IsReadAny store read None = MatchOption read (Unit {0}) (λ x. ⊥)
  IsReadAny store read (Some t) = MatchOption read ⊥ (λ x. IsRead has tree store x.0 x.1 t)
