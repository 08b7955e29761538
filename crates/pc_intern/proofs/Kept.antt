-- Joins that a store keeps.
use Rattle.std.proofs.Common.{◌≡◌, ◌≤◌, ◌<◌, List, [], ◌∷◌, All, Option, Some, None, MatchOption, map, length, unwrap_or}
use Rattle.std.proofs.Common.{sym, ap, subst, ◌∙◌}
use Rattle.pc_types.specs.Tree.{Tree, Object}
use Rattle.pc_types.specs.Below.{Bases}
use Rattle.pc_types.specs.Shape.{nodes, node_limit}
use Rattle.pc_types.specs.Join.{join}
use Rattle.pc_types.specs.JoinedTypes.{types_joined}
use Rattle.pc_types.specs.Boxed.{tree_of, IsGiven}
use Rattle.pc_types.specs.declared.boxed.BoxType.{BoxType}
use Rattle.pc_intern.specs.declared.memo.Joined.{Joined}
use Rattle.pc_intern.specs.declared.store.TypeId.{TypeId}
use Rattle.pc_intern.specs.Table.{tree_at}
use Rattle.pc_intern.specs.Store.{tree_of_type, number_of, IsInterned, IsJoined}
use Rattle.pc_intern.proofs.AtOnce.{never_join}
use Rattle.pc_intern.proofs.Held.{within, numbered, two_numbers}
use Rattle.pc_intern.proofs.Places.{same_items}

-- a kept join stays right if the numbers of its types and of its result are the same
pub same_types : (bases : Bases) (types : List BoxType) (j k : Joined) → j.types.items ≡ k.types.items
    → j.joined ≡ k.joined → IsJoined bases types j → IsJoined bases types k
same_types bases types j k e f h =
    record {
      trees = h.trees;
      at_types = subst (λ ns. map (tree_at types) ns ≡ map Some h.trees) e h.at_types;
      at_joined = subst (λ n. tree_at types n ≡ Some (types_joined bases h.trees)) f h.at_joined;
    }

-- the kept number stands in the table
pub kept_within : (bases : Bases) (types : List BoxType) (j : Joined) → IsJoined bases types j → j.joined < length types
kept_within bases types j h = within types j.joined (types_joined bases h.trees) h.at_joined

-- the kept number is that of the join
pub kept_is : (bases : Bases) (types : List BoxType) (j : Joined) (us : List Tree) → IsJoined bases types j
    → map (tree_at types) j.types.items ≡ map Some us → tree_at types j.joined ≡ Some (types_joined bases us)
kept_is bases types j us h e =
    h.at_joined ∙ ap (λ l. Some (types_joined bases l)) (same_items h.trees us (sym h.at_types ∙ e))

-- the join of two types as of several
pub two_joined : (bases : Bases) (s t : Tree) → nodes s ≤ node_limit
    → types_joined bases (s ∷ t ∷ []) ≡ unwrap_or (join bases s t) Object
two_joined bases s t l = ap (λ o. unwrap_or (join bases (unwrap_or o Object) t) Object) (never_join bases s l)

-- a join, replaced by object if there is none, exists if the result is not object
pub some_joined : (o : Option Tree) (u : Tree) → u ≡ unwrap_or o Object → (u ≡ Object → ⊥) → o ≡ Some u
some_joined None u e n = absurd (n e)
some_joined (Some v) u e n = ap Some (sym e)

-- a join in boxes is that of equal trees
pub joined_as : (o : Option BoxType) (x y : Option Tree) → x ≡ y
    → MatchOption o (x ≡ None) (λ u. IsGiven u × (x ≡ Some (tree_of u)))
    → MatchOption o (y ≡ None) (λ u. IsGiven u × (y ≡ Some (tree_of u)))
joined_as o x y e h = subst (λ z. MatchOption o (z ≡ None) (λ u. IsGiven u × (z ≡ Some (tree_of u)))) e h

-- a join of held types may be kept
pub many_kept : (bases : Bases) (types : List BoxType) (tys : List TypeId) (j : Joined) (u : TypeId)
    → j.types.items ≡ map number_of tys → All (IsInterned types) tys → j.joined ≡ u.number → IsInterned types u
    → tree_of_type u ≡ types_joined bases (map tree_of_type tys) → IsJoined bases types j
many_kept bases types tys j u e h f g m =
    record {
      trees = map tree_of_type tys;
      at_types = ap (map (tree_at types)) e ∙ numbered types tys h;
      at_joined = ap (tree_at types) f ∙ g.at ∙ ap Some m;
    }

-- the join of two held types may be kept
pub two_kept : (bases : Bases) (types : List BoxType) (s t : TypeId) (j : Joined) (u : TypeId)
    → j.types.items ≡ s.number ∷ t.number ∷ [] → IsInterned types s → IsInterned types t → j.joined ≡ u.number
    → IsInterned types u → join bases (tree_of_type s) (tree_of_type t) ≡ Some (tree_of_type u) → IsJoined bases types j
two_kept bases types s t j u e h k f g m =
    record {
      trees = tree_of_type s ∷ tree_of_type t ∷ [];
      at_types = two_numbers types j.types.items s t e h k;
      at_joined = ap (tree_at types) f ∙ g.at ∙ ap Some (sym (two_joined bases (tree_of_type s) (tree_of_type t) h.small
          ∙ ap (λ o. unwrap_or o Object) m));
    }

-- the kept join of two types is their join, if it is not object
pub two_kept_is : (bases : Bases) (s t u : Tree) → nodes s ≤ node_limit → u ≡ types_joined bases (s ∷ t ∷ [])
    → (u ≡ Object → ⊥) → join bases s t ≡ Some u
two_kept_is bases s t u l e n = some_joined (join bases s t) u (e ∙ two_joined bases s t l) n
