-- The basic types, and the numbers that a table keeps of them.
use Rattle.std.proofs.Common.{◌≡◌, ℕ, zero, suc, List, [], ◌∷◌, ◌++◌, Option, Some, inl, inr}
use Rattle.std.proofs.Common.{refl, sym, ap, ◌∙◌}
use Rattle.std.specs.Prelude.{◌⊎◌, slice_set}
use Rattle.std.specs.List.{slice_get}
use Rattle.pc_types.specs.Tree.{Tree}
use Rattle.pc_types.specs.declared.boxed.BoxType.{BoxType}
use Rattle.pc_intern.specs.Table.{tree_at, basic_types, AreBasic}
use Rattle.pc_intern.proofs.InTable.{tree_stays}

-- kept numbers stay right where types are put after the others
pub basic_stays : (old more : List BoxType) (numbers : List (Option ℕ)) → AreBasic old numbers
    → AreBasic (old ++ more) numbers
basic_stays old more numbers basic place n t kept is = tree_stays old more n t (basic place n t kept is)

-- an item of a list with one item changed is that one, or stands in the list
set_at : {X : Type 0} (xs : List X) (i : ℕ) (y : X) (j : ℕ) (x : X) → slice_get (slice_set xs i y) j ≡ Some x
    → (slice_get xs j ≡ Some x) ⊎ ((j ≡ i) × (y ≡ x))
set_at [] i y j x h = inl h
set_at (z ∷ xs) zero y zero x h = inr (refl, cc)
set_at (z ∷ xs) zero y (suc j) x h = inl h
set_at (z ∷ xs) (suc i) y zero x h = inl h
set_at (z ∷ xs) (suc i) y (suc j) x h = elim (set_at xs i y j x h) [ inl a ↦ inl a | inr b ↦ inr (ap suc b.0, b.1) ]

-- the number of one more basic type is kept
pub basic_kept : (types : List BoxType) (numbers : List (Option ℕ)) (place n : ℕ) (t : Tree) → AreBasic types numbers
    → slice_get basic_types place ≡ Some t → tree_at types n ≡ Some t
    → AreBasic types (slice_set numbers place (Some n))
basic_kept types numbers place n t basic is at p m u kept at_p =
    elim (set_at numbers place (Some n) p (Some m) kept) [
      | inl a ↦ basic p m u a at_p
      | inr b ↦
          let e : m ≡ n = cc in
          let q : Some t ≡ Some u = sym is ∙ ap (slice_get basic_types) (sym b.0) ∙ at_p in
          ap (tree_at types) e ∙ at ∙ q
    ]
