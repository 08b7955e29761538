-- A measure of types and of slices of types, for recursions that go from a type to its parts.
use Rattle.std.proofs.Common.{◌≡◌, ℕ, zero, suc, ◌+◌, ◌<◌, ◌≤◌, length, List, [], ◌∷◌, get_or, arith, Vec, Global, refl}
use Rattle.std.proofs.Common.{sym, ap, subst, ◌∙◌}
use mathlib.Core.Former.{Count}
use Rattle.pc_types.specs.Tree.{Tree, Trees, Never, ListOf, DictOf, TupleOf, Union, end, more}
use Rattle.pc_types.specs.Join.{IsSplit, parts_of}
use Rattle.pc_types.specs.Boxed.{tree_of, trees_in}
use Rattle.pc_types.specs.declared.boxed.BoxType.{BoxType, Row_of-BoxType, end_of-BoxType, more_of-BoxType}
use Rattle.pc_types.specs.declared.boxed.BoxType.{items-the_row-BoxType, items_hidden-the_row-BoxType-0}
use Rattle.pc_types.specs.declared.boxed.BoxType.TheVariants as ty

abbrev mutual
  pub weight : BoxType → ℕ
  weight (ty.List' p t) = 1 + weight t
  weight (ty.Dict' p k q v) = 1 + weight k + weight v
  weight (ty.Tuple' shape row) = 1 + weight_row row
  weight (ty.Union' p a q b) = 1 + weight a + weight b
  weight _ = 1

  weight_row : {n : _} → Row_of-BoxType n → ℕ
  weight_row end_of-BoxType = 0
  weight_row (more_of-BoxType t rest) = weight t + weight_row rest

abbrev pub weights : List BoxType → ℕ
weights [] = 0
weights (t ∷ ts) = weight t + weights ts

row_weight : (n : _) (row : Row_of-BoxType n) → weight_row row ≡ weights (items-the_row-BoxType n row)
row_weight n end_of-BoxType = refl
row_weight n (more_of-BoxType t rest) = ap (λ k. weight t + k) (row_weight _ rest)

abbrev row_in : BoxType → (n : Count) × Row_of-BoxType n
row_in (ty.Tuple' shape row) = (_, row)
row_in _ = (_, end_of-BoxType)

-- a tuple weighs one more than its parts
pub weight_tuple : (t : BoxType) (v : Vec BoxType Global) → t ≡ ty.Tuple v → weight t ≡ 1 + weights v.items
weight_tuple t v e =
    let r = row_in (ty.Tuple v) in ap weight e ∙ ap (λ k. 1 + k) (row_weight r.0 r.1)
    ∙ ap (λ l. 1 + weights l) (items_hidden-the_row-BoxType-0 v)

-- a part of a slice weighs no more than the slice
pub weight_item : (ts : List BoxType) (k : ℕ) (x : BoxType) → k < length ts → x ≡ get_or ts k x → weight x ≤ weights ts
weight_item ts k x h e = subst (λ y. weight y ≤ weights ts) (sym e) (go ts k x h)
  where
    go : (ts : List BoxType) (k : ℕ) (d : BoxType) → k < length ts → weight (get_or ts k d) ≤ weights ts
    go [] k d h = absurd (omega arith)
    go (t ∷ ts) zero d h = omega arith
    go (t ∷ ts) (suc k) d h = omega (arith, go ts k d (omega arith))

-- the same measure of trees, where Never, which has no members, weighs nothing
abbrev mutual
  pub tree_weight : Tree → ℕ
  tree_weight Never = 0
  tree_weight (ListOf t) = 1 + tree_weight t
  tree_weight (DictOf k v) = 1 + tree_weight k + tree_weight v
  tree_weight (TupleOf ts) = 1 + trees_weight ts
  tree_weight (Union a b) = 1 + tree_weight a + tree_weight b
  tree_weight _ = 1

  pub trees_weight : Trees → ℕ
  trees_weight end = 0
  trees_weight (more t ts) = tree_weight t + trees_weight ts

split_single : (t a rest : Tree) → 0 < tree_weight t → (a ≡ t) × (rest ≡ Never) → (tree_weight rest < tree_weight t)
    × (tree_weight a ≤ tree_weight t)
split_single t a rest h e =
    let f : tree_weight a ≡ tree_weight t = ap tree_weight e.0 in
    let g : tree_weight rest ≡ 0 = ap tree_weight e.1 in
    (omega arith, omega arith)

-- the other members of a type weigh less than the type, and the first one no more
pub split_weight : (t a rest : Tree) → IsSplit t a rest → (tree_weight rest < tree_weight t)
    × (tree_weight a ≤ tree_weight t)
split_weight Never a rest e = absurd e
split_weight (Union c d) a rest e =
    let f : tree_weight a ≡ tree_weight c = ap tree_weight e.0 in
    let g : tree_weight rest ≡ tree_weight d = ap tree_weight e.1 in
    (omega arith, omega arith)
split_weight (ListOf t) a rest e = split_single (ListOf t) a rest (omega arith) e
split_weight (DictOf k v) a rest e = split_single (DictOf k v) a rest (omega arith) e
split_weight (TupleOf ts) a rest e = split_single (TupleOf ts) a rest (omega arith) e
split_weight t a rest e = split_single t a rest (omega arith) e

pub parts_weight : (t : Tree) → trees_weight (parts_of t) ≤ tree_weight t
parts_weight (TupleOf ts) = omega arith
parts_weight Never = omega arith
parts_weight (ListOf t) = omega arith
parts_weight (DictOf k v) = omega arith
parts_weight (Union a b) = omega arith
parts_weight _ = omega arith

-- a part of several types weighs no more than they
pub tree_weight_item : (ts : List BoxType) (k : ℕ) (x : BoxType) → k < length ts → x ≡ get_or ts k x
    → tree_weight (tree_of x) ≤ trees_weight (trees_in ts)
tree_weight_item ts k x h e = subst (λ y. tree_weight (tree_of y) ≤ trees_weight (trees_in ts)) (sym e) (go ts k x h)
  where
    go : (ts : List BoxType) (k : ℕ) (d : BoxType) → k < length ts → tree_weight (tree_of (get_or ts k d)) ≤
        trees_weight (trees_in ts)
    go [] k d h = absurd (omega arith)
    go (t ∷ ts) zero d h = omega arith
    go (t ∷ ts) (suc k) d h = omega (arith, go ts k d (omega arith))
