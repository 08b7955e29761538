-- Types of a store with the same head are equal if their parts are.
use Rattle.std.proofs.Common.{◌≡◌, ◌∙◌, ◌<◌, ◌≤◌, ◌+◌, ◌∷◌, ◌++◌, [], ℕ, List, length, map, take, get_or, refl, sym, ap}
use Rattle.std.proofs.Common.{subst, Some, All, zero, suc, false, not, rules}
use Rattle.std.proofs.lemmas.List.{length-map, map-append, take_more, take_all}
use Rattle.std.proofs.lemmas.List.Elements.{All-get_or}
use Rattle.std.proofs.lemmas.Option.{slice_get_read}
use Rattle.std.specs.List.{slice_get}
use Rattle.pc_types.specs.Tree.{Tree}
use Rattle.pc_types.specs.Shape.{nodes, parts}
use Rattle.pc_types.specs.Head.{head_of, part_count}
use Rattle.pc_types.specs.Normal.{IsNormal}
use Rattle.pc_types.specs.contracts.head.HeadPartialEq.TheImpl as heads
use Rattle.pc_types.specs.declared.head.Head.{Head}
use Rattle.pc_types.proofs.Rebuilt.{told, part_fewer}

-- heads that do not differ are the same
pub same_heads : (h k : Head) → not ((heads.ghosts).eq h k) ≡ false → h ≡ k
same_heads h k e = search rules

pub given_at : {Ty : Type 0} (has : Ty → Type 0) (items : List Ty) (k : ℕ) (x : Ty) → All has items → k < length items
    → x ≡ get_or items k x → has x
given_at has items k x all l read = subst has (sym read) (All-get_or has items k x l all)

module _ {Ty : Type 0} (tree : Ty → Tree) where
  tree_at : (items : List Ty) (k : ℕ) (x : Ty) → slice_get items k ≡ Some x → slice_get (map tree items) k
      ≡ Some (tree x)
  tree_at [] k x e = cc
  tree_at (y ∷ ys) zero x e = let q : y ≡ x = cc in ap (λ z. Some (tree z)) q
  tree_at (y ∷ ys) (suc k) x e = tree_at ys k x e

  -- a part has fewer nodes than the whole
  pub fewer_at : (items : List Ty) (t : Tree) (k : ℕ) (x : Ty) → map tree items ≡ parts t → k < length items
      → x ≡ get_or items k x → nodes (tree x) < nodes t
  fewer_at items t k x e l read =
      part_fewer t k (tree x) (ap (λ ts. slice_get ts k) (sym e)
      ∙ tree_at items k x (slice_get_read items (length items) k x refl l read))

  module _ (left right : List Ty) (s t : Tree) (e : map tree left ≡ parts s) (f : map tree right ≡ parts t) where
    -- types of one head have as many parts
    pub as_many : (h k : Head) → length (parts s) ≡ part_count h → length (parts t) ≡ part_count k → h ≡ k
        → length left ≡ length right
    as_many h k p q r = sym (length-map left tree) ∙ ap length e ∙ p ∙ ap part_count r ∙ sym q ∙ sym (ap length f)
        ∙ length-map right tree

    pub all_same : (i : ℕ) → IsNormal s → IsNormal t → head_of s ≡ head_of t → length left ≡ length right
        → length left ≤ i → map tree (take i left) ≡ map tree (take i right) → s ≡ t
    all_same i m n h l d a =
        told s t m n h (sym e ∙ ap (map tree) (sym (take_all i left d)) ∙ a
        ∙ ap (map tree) (take_all i right (subst (λ x. x ≤ i) l d)) ∙ f)

  -- one part more
  pub one_more_same : (left right : List Ty) (i : ℕ) (x y : Ty) → i < length left → i < length right
      → x ≡ get_or left i x → y ≡ get_or right i y → tree x ≡ tree y
      → map tree (take i left) ≡ map tree (take i right) → map tree (take (i + 1) left) ≡ map tree (take (i + 1) right)
  one_more_same left right i x y l m p q e a =
      let before : (items : List Ty) (z : Ty) → i < length items → z ≡ get_or items i z
      → map tree (take (i + 1) items) ≡ map tree (take i items) ++ tree z ∷ [] =
      λ items z h r. ap (map tree) (take_more items i z h ∙ ap (λ w. take i items ++ w ∷ []) (sym r))
      ∙ map-append tree (take i items) (z ∷ []) in
      before left x l p ∙ (λ j. a j ++ e j ∷ []) ∙ sym (before right y m q)
