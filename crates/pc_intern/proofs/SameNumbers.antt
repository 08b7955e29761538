-- Several types of one number join to the type of that number.
use Rattle.std.proofs.Common.{◌≡◌, ◌<◌, ◌≤◌, ◌+◌, ◌∙◌, ℕ, List, [], ◌∷◌, ◌++◌, length, map, take, get_or, All}
use Rattle.std.proofs.Common.{Option, Some, refl, sym, ap, subst, arith}
use Rattle.std.specs.Prelude.{unwrap_or}
use Rattle.std.proofs.lemmas.List.{take_more}
use Rattle.std.proofs.lemmas.List.Elements.{All-head, All-tail, All-push}
use Rattle.pc_types.specs.Tree.{Tree, Never, Object}
use Rattle.pc_types.specs.Below.{Bases}
use Rattle.pc_types.specs.Shape.{nodes, node_limit}
use Rattle.pc_types.specs.Join.{join}
use Rattle.pc_types.specs.JoinedTypes.{joined_onto, types_joined}
use Rattle.pc_types.specs.declared.boxed.BoxType.{BoxType}
use Rattle.pc_intern.specs.declared.store.TypeId.{TypeId}
use Rattle.pc_intern.specs.Table.{tree_at}
use Rattle.pc_intern.specs.Store.{IsInterned, tree_of_type}
use Rattle.pc_intern.proofs.AtOnce.{never_join}
use Rattle.pc_intern.proofs.Held.{meant}
use Rattle.pc_types.proofs.JoinItself.{join_itself}

-- a type has this number
abbrev pub HasNumber : ℕ → TypeId → Type 0
HasNumber n ty = ty.number ≡ n

-- one more type of the number
pub numbered_so : (n : ℕ) (tys : List TypeId) (k : ℕ) (x : TypeId) → k < length tys → x ≡ get_or tys k x
    → x.number ≡ n → All (HasNumber n) (take k tys) → All (HasNumber n) (take (k + 1) tys)
numbered_so n tys k x l read e h =
    subst (All (HasNumber n)) (sym (take_more tys k x l ∙ ap (λ y. take k tys ++ y ∷ []) (sym read)))
    (All-push (HasNumber n) (take k tys) x h e)

module _ (bases : Bases) (types : List BoxType) (n : ℕ) (t : Tree) (at : tree_at types n ≡ Some t)
    (l : nodes t ≤ node_limit) where
  -- types of a number joined to the type of that number
  joined_so : (tys : List TypeId) → All (IsInterned types) tys → All (HasNumber n) tys
      → t ≡ joined_onto bases t (map tree_of_type tys)
  joined_so [] h e = refl
  joined_so (x ∷ xs) h e =
      let m = meant types x n t (All-head (IsInterned types) x xs h) (All-head (HasNumber n) x xs e) at in
      joined_so xs (All-tail (IsInterned types) x xs h) (All-tail (HasNumber n) x xs e)
      ∙ sym (ap (λ (o : Option Tree). joined_onto bases (unwrap_or o Object) (map tree_of_type xs))
      (join_itself bases t (tree_of_type x) (sym m) l))

  -- at least one type, and all of one number
  pub types_so : (tys : List TypeId) → 0 < length tys → All (IsInterned types) tys → All (HasNumber n) tys
      → t ≡ types_joined bases (map tree_of_type tys)
  types_so [] p h e = absurd (omega arith)
  types_so (x ∷ xs) p h e =
      let m = meant types x n t (All-head (IsInterned types) x xs h) (All-head (HasNumber n) x xs e) at in
      joined_so xs (All-tail (IsInterned types) x xs h) (All-tail (HasNumber n) x xs e)
      ∙ sym (ap (λ (o : Option Tree). joined_onto bases (unwrap_or o Object) (map tree_of_type xs))
      (ap (join bases Never) m ∙ never_join bases t l))
