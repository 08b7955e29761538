-- The numbers of a type's parts, and that each part of a type that a store may give is one too.
use Rattle.std.proofs.Common.{◌≡◌, ◌≤◌, ◌<◌, ◌+◌, ℕ, Box, Global, List, [], ◌∷◌, ◌++◌, length, map, get_or, All, Some}
use Rattle.std.proofs.Common.{refl, sym, ap, subst, ◌∙◌, arith}
use Rattle.std.proofs.lemmas.List.Elements.{All-nil, All-cons}
use Rattle.pc_types.specs.Tree.{Tree, DictOf, TupleOf}
use Rattle.pc_types.specs.Shape.{nodes, nodes_of, parts, members, node_limit}
use Rattle.pc_types.specs.Normal.{IsNormal, AreNormal}
use Rattle.pc_types.specs.Boxed.{tree_of, trees_in, IsGiven}
use Rattle.pc_types.specs.declared.boxed.BoxType.{BoxType, out-BoxType, roll-BoxType, roll-out-BoxType}
use Rattle.pc_types.specs.declared.boxed.BoxType.TheOpen.{BoxType-F}
use Rattle.pc_types.specs.declared.boxed.BoxType.TheOpen as open-ty
use Rattle.pc_types.specs.declared.boxed.BoxType.TheVariants as ty
use Rattle.pc_types.proofs.Nodes.{listed_trees}
use Rattle.pc_intern.specs.Table.{tree_at, Grows}
use Rattle.pc_intern.proofs.Places.{each_push}
use Rattle.pc_intern.proofs.InTable.{tree_stays, trees_stay, part_at}

-- an item of several types has no more nodes than these together
pub item_nodes : (items : List BoxType) (k : ℕ) (x : BoxType) → k < length items → x ≡ get_or items k x
    → nodes (tree_of x) ≤ nodes_of (trees_in items)
item_nodes items k x l read =
    let h : nodes (tree_of x) < 1 + nodes_of (trees_in items) = part_at items (TupleOf (trees_in items)) k x
    (sym (listed_trees (map tree_of items))) l read in
    omega (arith, h)

each_given : (ts : List BoxType) → AreNormal (trees_in ts) → nodes_of (trees_in ts) ≤ node_limit → All IsGiven ts
each_given [] n l = All-nil IsGiven
each_given (t ∷ ts) n l =
    All-cons IsGiven t ts (record { small = omega (arith, l); normal = n.0 }) (each_given ts n.1 (omega (arith, l)))

pub tuple_given : (t : BoxType) (ts : List BoxType) → IsGiven t → tree_of t ≡ TupleOf (trees_in ts) → All IsGiven ts
tuple_given t ts g e =
    let m : nodes (tree_of t) ≡ 1 + nodes_of (trees_in ts) = ap nodes e in
    let s = g.small in
    each_given ts (subst IsNormal e g.normal) (omega arith)

-- the numbers of a dict's key and value, and of a union's first member
pub dict_numbers : (old new : List BoxType) (ns : List ℕ) (m n : ℕ) (t u v : Tree) → Grows old new → ns ≡ m ∷ n ∷ []
    → t ≡ DictOf u v → tree_at old m ≡ Some u → tree_at new n ≡ Some v → map (tree_at new) ns ≡ map Some (parts t)
dict_numbers old new ns m n t u v g e f h k =
    let r : tree_at new m ≡ Some u = rw g.is (tree_stays old g.added m u h) in
    ap (map (tree_at new)) e ∙ (λ i. r i ∷ k i ∷ []) ∙ ap (λ x. map Some (parts x)) (sym f)

pub first_number : (types : List BoxType) (ns : List ℕ) (n : ℕ) (u : Tree) → ns ≡ n ∷ [] → tree_at types n ≡ Some u
    → map (tree_at types) ns ≡ map Some (u ∷ [])
first_number types ns n u e h = ap (map (tree_at types)) e ∙ ap (λ o. o ∷ []) h

-- one more member
pub member_pushed : (old new : List BoxType) (ns : List ℕ) (us : List Tree) (n : ℕ) (u : Tree) → Grows old new
    → map (tree_at old) ns ≡ map Some us → tree_at new n ≡ Some u → map (tree_at new) (ns ++ n ∷ [])
    ≡ map Some (us ++ u ∷ [])
member_pushed old new ns us n u g h k =
    let r : map (tree_at new) ns ≡ map Some us = rw g.is (trees_stay old g.added ns us h) in
    each_push (map tree_of new) ns n us u r k

-- a type in boxes that is neither Never nor a union is its one member
pub alone : (t : BoxType) → (t ≡ ty.Never → ⊥) → ((x y : Box BoxType Global) → t ≡ ty.Union x y → ⊥)
    → tree_of t ∷ [] ≡ members (tree_of t)
unfolding roll-BoxType denote.Hole.Carrier.roll
alone t f g = go (out-BoxType t) (roll-out-BoxType t) f g
  where
    go : (o : BoxType-F BoxType) → roll-BoxType o ≡ t → (t ≡ ty.Never → ⊥)
        → ((x y : Box BoxType Global) → t ≡ ty.Union x y → ⊥) → tree_of t ∷ [] ≡ members (tree_of t)
    go open-ty.Never e f g = absurd (f (sym e))
    go (open-ty.Union a b) e f g = absurd (g a b (sym e))
    go _ e f g = subst (λ x. tree_of x ∷ [] ≡ members (tree_of x)) e refl
