-- Joins in the making.
use Rattle.std.proofs.Common.{◌≡◌, ◌<◌, ◌+◌, ◌⊎◌, inl, inr, ℕ, List, [], ◌∷◌, Some, unwrap_or, length, drop, map, get_or}
use Rattle.std.proofs.Common.{Contains, sym, ap, subst, ◌∙◌, arith}
use Rattle.pc_types.specs.Tree.{Tree, Object}
use Rattle.pc_types.specs.Below.{Bases}
use Rattle.pc_types.specs.Join.{join}
use Rattle.pc_types.specs.JoinedTypes.{joined_onto, types_joined}
use Rattle.pc_types.specs.declared.boxed.BoxType.{BoxType}
use Rattle.pc_types.proofs.Rest.{mapped_rest}
use Rattle.pc_intern.specs.declared.store.TypeId.{TypeId}
use Rattle.pc_intern.specs.Store.{tree_of_type, IsInterned, AddsNothing}

-- a type whose join with another leaves the other unchanged adds nothing to it
pub adds_nothing : (bases : Bases) (types : List BoxType) (s t : Tree) (x : TypeId) → IsInterned types x
    → t ≡ unwrap_or (join bases s (tree_of_type x)) Object → t ≡ s → AddsNothing bases types t x.number
adds_nothing bases types s t x h j e = λ u at.
    let q : Some u ≡ Some (tree_of_type x) = sym at ∙ h.at in
    let m : u ≡ tree_of_type x = cc in
    ap (λ v. unwrap_or (join bases t v) Object) m ∙ ap (λ r. unwrap_or (join bases r (tree_of_type x)) Object) e ∙ sym j

-- no number is among none
pub none_among : (ns : List ℕ) (n : ℕ) → ns ≡ [] → Contains ns n → ⊥
none_among ns n e m = omega (arith, m.1, ap length e)

-- one more that adds nothing is noted
pub noted : (bases : Bases) (types : List BoxType) (s t : Tree) (x : TypeId) (old new : List ℕ) → IsInterned types x
    → t ≡ unwrap_or (join bases s (tree_of_type x)) Object → t ≡ s
    → ((n : ℕ) → Contains old n → AddsNothing bases types s n)
    → ((n : ℕ) → Contains new n → Contains old n ⊎ (x.number ≡ n)) → (n : ℕ) → Contains new n
    → AddsNothing bases types t n
noted bases types s t x old new h j e f g n m =
    elim (g n m) [
      | inl o ↦ subst (λ r. AddsNothing bases types r n) (sym e) (f n o)
      | inr q ↦ subst (AddsNothing bases types t) q (adds_nothing bases types s t x h j e)
    ]

-- one more type is gathered
pub gathered_more : (bases : Bases) (tys : List TypeId) (k : ℕ) (x : TypeId) (s u : Tree) → k < length tys
    → x ≡ get_or tys k x → u ≡ unwrap_or (join bases s (tree_of_type x)) Object
    → joined_onto bases s (drop k (map tree_of_type tys)) ≡ types_joined bases (map tree_of_type tys)
    → joined_onto bases u (drop (k + 1) (map tree_of_type tys)) ≡ types_joined bases (map tree_of_type tys)
gathered_more bases tys k x s u l read g h =
    let r : drop k (map tree_of_type tys) ≡ tree_of_type x ∷ drop (k + 1) (map tree_of_type tys) = mapped_rest tree_of_type tys k x l
    read in
    ap (λ t. joined_onto bases t (drop (k + 1) (map tree_of_type tys))) g ∙ ap (joined_onto bases s) (sym r) ∙ h
