-- The join of several types that a store holds.
use Rattle.std.proofs.Common.{◌≡◌, ◌≤◌, ◌<◌, ◌+◌, ℕ, List, [], ◌∷◌, All, Some, unwrap_or, length, drop, map, get_or}
use Rattle.std.proofs.Common.{slice_get, sym, ap, subst, ◌∙◌}
use Rattle.std.proofs.lemmas.List.Elements.{All-weaker, All-get_or}
use Rattle.pc_types.specs.Tree.{Tree, Object, TupleOf}
use Rattle.pc_types.specs.Below.{Bases}
use Rattle.pc_types.specs.Shape.{nodes, node_limit, parts, trees}
use Rattle.pc_types.specs.Store.{KeepsTypes}
use Rattle.pc_types.specs.Boxed.{tree_of}
use Rattle.pc_types.specs.Join.{join}
use Rattle.pc_types.specs.JoinedTypes.{joined_onto, types_joined}
use Rattle.pc_types.specs.declared.boxed.BoxType.{BoxType}
use Rattle.pc_types.proofs.Nodes.{listed_trees}
use Rattle.pc_types.proofs.Rest.{mapped_rest}
use Rattle.pc_intern.specs.declared.store.TypeId.{TypeId}
use Rattle.pc_intern.specs.Store.{tree_of_type, IsInterned}
use Rattle.pc_intern.proofs.AtOnce.{never_join}
use Rattle.pc_intern.proofs.Held.{held_within, means_now}

-- a type of those that are held
pub one_held : (now : List BoxType) (tys : List TypeId) (k : ℕ) (x : TypeId) → All (IsInterned now) tys → k < length tys
    → x ≡ get_or tys k x → IsInterned now x
one_held now tys k x all l read = subst (IsInterned now) (sym read) (All-get_or (IsInterned now) tys k x l all)

pub one_within : (types now : List BoxType) (tys : List TypeId) (k : ℕ) (x : TypeId) → types ≡ now
    → All (IsInterned now) tys → k < length tys → x ≡ get_or tys k x → x.number < length types
one_within types now tys k x e all l read = held_within types now x e (one_held now tys k x all l read)

-- one more type is joined to those before it
pub joined_more : (bases : Bases) (types now : List BoxType) (tys : List TypeId) (k : ℕ) (x : TypeId) (b : BoxType)
    (s u : Tree) → types ≡ now → All (IsInterned now) tys → k < length tys → x ≡ get_or tys k x
    → slice_get types x.number ≡ Some b → u ≡ unwrap_or (join bases s (tree_of b)) Object
    → joined_onto bases s (drop k (map tree_of_type tys)) ≡ types_joined bases (map tree_of_type tys)
    → joined_onto bases u (drop (k + 1) (map tree_of_type tys)) ≡ types_joined bases (map tree_of_type tys)
joined_more bases types now tys k x b s u e all l read at j h =
    let q : tree_of b ≡ tree_of_type x = means_now types now x b e (one_held now tys k x all l read) at in
    let r : drop k (map tree_of_type tys) ≡ tree_of_type x ∷ drop (k + 1) (map tree_of_type tys) = mapped_rest tree_of_type tys k x l
    read in
    let g : u ≡ unwrap_or (join bases s (tree_of_type x)) Object = j ∙ ap (λ t. unwrap_or (join bases s t) Object) q in
    ap (λ t. joined_onto bases t (drop (k + 1) (map tree_of_type tys))) g ∙ ap (joined_onto bases s) (sym r) ∙ h

-- the join of one type is that type
pub only_joined : (bases : Bases) (r t : Tree) → nodes t ≤ node_limit → r ≡ t → r ≡ types_joined bases (t ∷ [])
only_joined bases r t l e = e ∙ ap (λ o. unwrap_or o Object) (sym (never_join bases t l))

-- the parts of a tuple of types
pub tuple_parts : (t : Tree) (us : List Tree) → t ≡ TupleOf (trees us) → parts t ≡ us
tuple_parts t us e = ap parts e ∙ listed_trees us

pub all_held : (old new : List BoxType) (tys : List TypeId) → KeepsTypes IsInterned old new → All (IsInterned old) tys
    → All (IsInterned new) tys
all_held old new tys k h = All-weaker (IsInterned old) (IsInterned new) k tys h
