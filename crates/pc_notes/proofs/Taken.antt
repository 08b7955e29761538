-- Types that are taken from one store into another, one after another.
use Rattle.std.proofs.Common.{◌≡◌, ℕ, zero, suc, arith, ◌<◌, ◌≤◌, ◌+◌, List, [], ◌∷◌, ◌++◌, length, map, take, get_or}
use Rattle.std.proofs.Common.{All, Some, refl, sym, ap, subst, ◌∙◌}
use Rattle.std.proofs.lemmas.List.{map-append, take_more, take_all}
use Rattle.std.proofs.lemmas.List.Elements.{All-get_or, All-append}
use Rattle.std.proofs.lemmas.Option.{slice_get_read}
use Rattle.std.specs.List.{slice_get}
use Rattle.pc_types.specs.Tree.{Tree}
use Rattle.pc_types.specs.Shape.{parts, nodes}
use Rattle.pc_types.specs.Head.{head_of}
use Rattle.pc_types.specs.Normal.{IsNormal}
use Rattle.pc_types.specs.declared.head.Head.{Head}
use Rattle.pc_types.specs.Internal.Rebuilding.{rebuilt}
use Rattle.pc_types.proofs.Rebuilt.{rebuilt_is, part_fewer}

module _ {S : Type 0} (tree : S → Tree) where
  -- the tree of the type at an index is at that index among the trees
  pub tree_at : (items : List S) (k : ℕ) (x : S) → slice_get items k ≡ Some x → slice_get (map tree items) k
      ≡ Some (tree x)
  tree_at [] k x e = cc
  tree_at (y ∷ ys) zero x e = let q : y ≡ x = cc in ap (λ z. Some (tree z)) q
  tree_at (y ∷ ys) (suc k) x e = tree_at ys k x e

  -- a part that a loop comes to has fewer nodes than the whole
  pub part_at : (items : List S) (t : Tree) (k : ℕ) (x : S) → map tree items ≡ parts t → k < length items
      → x ≡ get_or items k x → nodes (tree x) < nodes t
  part_at items t k x e l read =
      part_fewer t k (tree x) (ap (λ ts. slice_get ts k) (sym e)
      ∙ tree_at items k x (slice_get_read items (length items) k x refl l read))

-- a type that a loop comes to is one that its store gave
pub held_at : {S : Type 0} (has : S → Type 0) (items held : List S) (k : ℕ) (x : S) → items ≡ held → All has held
    → k < length items → x ≡ get_or items k x → has x
held_at has items held k x e all l read = subst has (sym read)
    (All-get_or has items k x l (subst (All has) (sym e) all))

-- types that are kept, and one more after them
pub one_more : {S : Type 0} (old new : S → Type 0) (taken : List S) (y : S) → ((z : S) → old z → new z) → All old taken
    → new y → All new (taken ++ y ∷ [])
one_more old new taken y kept all h = All-append new taken (y ∷ []) (λ k d l. kept _ (all k d l)) (λ k d l. one k d l)
  where
    one : (k : ℕ) (d : _) → k < 1 → new (get_or (y ∷ []) k d)
    one zero d l = h
    one (suc k) d l = absurd (omega (arith, l))

-- the next type taken means the next one there
pub next_taken : {S T : Type 0} (of : S → Tree) (to : T → Tree) (items : List S) (taken : List T) (k : ℕ) (x : S)
    (y : T) → map to taken ≡ map of (take k items) → k < length items → x ≡ get_or items k x → to y ≡ of x
    → map to (taken ++ y ∷ []) ≡ map of (take (k + 1) items)
next_taken of to items taken k x y e l read same =
    map-append to taken (y ∷ []) ∙ (λ i. e i ++ same i ∷ [])
    ∙ sym (ap (map of) (take_more items k x l ∙ ap (λ z. take k items ++ z ∷ []) (sym read))
    ∙ map-append of (take k items) (x ∷ []))

-- all are taken
pub all_taken : {S T : Type 0} (of : S → Tree) (to : T → Tree) (items : List S) (taken : List T) (k : ℕ)
    → map to taken ≡ map of (take k items) → length items ≤ k → map to taken ≡ map of items
all_taken of to items taken k e l = e ∙ ap (map of) (take_all k items l)

-- the type with the head of a type and all its parts, taken, is that type
pub same_again : {S T : Type 0} (of : S → Tree) (to : T → Tree) (t : Tree) (h : Head) (items parts_there : List S)
    (taken given : List T) (k : ℕ) → IsNormal t → h ≡ head_of t → items ≡ parts_there → map of parts_there ≡ parts t
    → map to taken ≡ map of (take k items) → length items ≤ k → given ≡ taken → rebuilt h (map to given) ≡ t
same_again of to t h items there taken given k n eh ei ep et l eg =
    let e = ap (map to) eg ∙ all_taken of to items taken k et l ∙ ap (map of) ei ∙ ep in
    (λ i. rebuilt (eh i) (e i)) ∙ rebuilt_is t n
