-- The parts of a tuple type, as the items of its vector.
use Rattle.std.proofs.Common.{◌≡◌, ℕ, zero, suc, ◌+◌, ◌<◌, length, get_or, map, Bool as Test, true, false, ◌&&◌, List}
use Rattle.std.proofs.Common.{[], ◌∷◌, Vec, Global, refl, ap, ◌∙◌, subst₂, arith}
use Rattle.std.specs.List.{AllZip}
use mathlib.Core.Former.{Count}
use Rattle.pc_types.specs.Tree.{Tree, Trees, TupleOf, more}
use Rattle.pc_types.specs.Below.{Bases}
use Rattle.pc_types.specs.Shape.{count, trees}
use Rattle.pc_types.specs.Internal.HeadFlow.{FlowsBack, EachFlow, w_end, w_more, as_tested, seen_each}
use Rattle.pc_types.specs.Join.{same_tree, same_trees}
use Rattle.pc_types.specs.Boxed.{tree_of, trees_of, trees_in}
use Rattle.pc_types.specs.declared.boxed.BoxType.{BoxType, Row_of-BoxType, end_of-BoxType, more_of-BoxType}
use Rattle.pc_types.specs.declared.boxed.BoxType.{items-the_row-BoxType, items_hidden-the_row-BoxType-0}
use Rattle.pc_types.specs.declared.boxed.BoxType.TheVariants as ty

trees_row : (n : _) (row : Row_of-BoxType n) → trees_of row ≡ trees (map tree_of (items-the_row-BoxType n row))
trees_row n end_of-BoxType = refl
trees_row n (more_of-BoxType t rest) = ap (more (tree_of t)) (trees_row _ rest)

abbrev row_in : BoxType → (n : Count) × Row_of-BoxType n
row_in (ty.Tuple' shape row) = (_, row)
row_in _ = (_, end_of-BoxType)

-- a tuple in boxes means the tuple of what its items mean
pub tuple_tree : (v : Vec BoxType Global) → tree_of (ty.Tuple v) ≡ TupleOf (trees_in v.items)
tuple_tree v =
    let r = row_in (ty.Tuple v) in ap TupleOf (trees_row r.0 r.1)
    ∙ ap (λ l. TupleOf (trees_in l)) (items_hidden-the_row-BoxType-0 v)

pub count_seen : (g : Test) (ts : Trees) → count (seen_each g ts) ≡ count ts
count_seen g Rattle.pc_types.specs.Tree.end = refl
count_seen g (more t ts) = ap (λ n. n + 1) (count_seen g ts)

pub count_in : (ts : List BoxType) → count (trees_in ts) ≡ length ts
count_in [] = refl
count_in (t ∷ ts) = omega (arith, count_in ts)

module _ (bases : Bases) (g both : Test) where
  -- one part flows into the other
  abbrev pub PartFlows : BoxType → BoxType → Type 0
  PartFlows s t = FlowsBack bases both (as_tested g (tree_of s)) (as_tested g (tree_of t))

  pub each_zip : (xs ys : List BoxType) → EachFlow bases both (seen_each g (trees_in xs)) (seen_each g (trees_in ys))
      → AllZip PartFlows xs ys
  each_zip [] [] h = tt
  each_zip [] (y ∷ ys) h = elim h [ ]
  each_zip (x ∷ xs) [] h = elim h [ ]
  each_zip (x ∷ xs) (y ∷ ys) (w_more f c fs) = ((f, c), each_zip xs ys fs)

  pub zip_each : (xs ys : List BoxType) → AllZip PartFlows xs ys → EachFlow bases both (seen_each g (trees_in xs))
      (seen_each g (trees_in ys))
  zip_each [] [] h = w_end
  zip_each [] (y ∷ ys) h = absurd h
  zip_each (x ∷ xs) [] h = absurd h
  zip_each (x ∷ xs) (y ∷ ys) h = w_more h.0.0 h.0.1 (zip_each xs ys h.1)

  abbrev IsAt : List BoxType → List BoxType → Type 0
  IsAt xs ys = (k : ℕ) (d e : BoxType) → k < length xs → PartFlows (get_or xs k d) (get_or ys k e)

  pub zip_from : (xs ys : List BoxType) → length xs ≡ length ys → IsAt xs ys → AllZip PartFlows xs ys
  zip_from [] [] e h = tt
  zip_from [] (y ∷ ys) e h = absurd (omega arith)
  zip_from (x ∷ xs) [] e h = absurd (omega arith)
  zip_from (x ∷ xs) (y ∷ ys) e h = (
    h 0 x y (omega arith),
    zip_from xs ys (omega arith)
        (λ k a b l. h (suc k) a b (omega arith)),
  )

-- a boxed type that matches the tuple arm means the tuple of the types of its items
pub tuple_is : (t : BoxType) (v : Vec BoxType Global) → t ≡ ty.Tuple v → tree_of t ≡ TupleOf (trees_in v.items)
tuple_is t v e = ap tree_of e ∙ tuple_tree v

pub both_true : (x y : Test) → (x && y) ≡ true → (x ≡ true) × (y ≡ true)
both_true true y e = (refl, e)
both_true false y e = cc

-- two parts are equal
abbrev pub AreEqual : BoxType → BoxType → Type 0
AreEqual s t = same_tree (tree_of s) (tree_of t) ≡ true

pub same_zip : (xs ys : List BoxType) → same_trees (trees_in xs) (trees_in ys) ≡ true → AllZip AreEqual xs ys
same_zip [] [] e = tt
same_zip [] (y ∷ ys) e = cc
same_zip (x ∷ xs) [] e = cc
same_zip (x ∷ xs) (y ∷ ys) e = let r = both_true _ _ e in (r.0, same_zip xs ys r.1)

pub zip_same : (xs ys : List BoxType) → length xs ≡ length ys
    → ((k : ℕ) → k < length xs → (d e : BoxType) → AreEqual (get_or xs k d) (get_or ys k e))
    → same_trees (trees_in xs) (trees_in ys) ≡ true
zip_same [] [] e h = refl
zip_same [] (y ∷ ys) e h = absurd (omega arith)
zip_same (x ∷ xs) [] e h = absurd (omega arith)
zip_same (x ∷ xs) (y ∷ ys) e h =
    ap (λ b. b && same_trees (trees_in xs) (trees_in ys)) (h 0 (omega arith) x y)
    ∙ zip_same xs ys (omega arith) (λ k l. h (suc k) (omega arith))

-- a test that is not passed fails
pub not_true : (x : Test) → (x ≡ true → ⊥) → false ≡ x
not_true true h = absurd (h refl)
not_true false h = refl

same_default : (xs : List BoxType) (i : ℕ) (d e : BoxType) → i < length xs → get_or xs i d ≡ get_or xs i e
same_default [] i d e h = absurd (omega arith)
same_default (x ∷ xs) zero d e h = refl
same_default (x ∷ xs) (suc i) d e h = same_default xs i d e (omega arith)

-- a relation between two items that were read holds between the items at their index, whatever the defaults
pub at_index : (P : BoxType → BoxType → Type 0) (xs ys : List BoxType) (i : ℕ) (x y : BoxType) → i < length xs
    → i < length ys → x ≡ get_or xs i x → y ≡ get_or ys i y → P x y → (d e : BoxType)
    → P (get_or xs i d) (get_or ys i e)
at_index P xs ys i x y h k f g p d e = subst₂ P (f ∙ same_default xs i x d h) (g ∙ same_default ys i y e k) p
