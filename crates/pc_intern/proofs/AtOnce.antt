-- The joins that two types tell at once.
use Rattle.std.proofs.Common.{◌≡◌, ◌≤◌, Some, sym, ap, subst, ◌∙◌}
use Rattle.pc_types.specs.Tree.{Tree, Never, Object}
use Rattle.pc_types.specs.Below.{Bases}
use Rattle.pc_types.specs.Shape.{nodes, node_limit}
use Rattle.pc_types.specs.Join.{join}
use Rattle.pc_types.specs.Boxed.{tree_of}
use Rattle.pc_types.specs.declared.boxed.BoxType.{BoxType, out-BoxType, roll-BoxType, roll-out-BoxType}
use Rattle.pc_types.specs.declared.boxed.BoxType.TheOpen.{BoxType-F}
use Rattle.pc_types.specs.declared.boxed.BoxType.TheOpen as open-ty
use Rattle.pc_types.specs.declared.boxed.BoxType.TheVariants as ty
use Rattle.pc_types.proofs.JoinNormal.{within_is}

-- a type in boxes that means Never is Never
pub never_box : (t : BoxType) → tree_of t ≡ Never → t ≡ ty.Never
unfolding roll-BoxType denote.Hole.Carrier.roll
never_box t h = go (out-BoxType t) (roll-out-BoxType t) h
  where
    go : (o : BoxType-F BoxType) → roll-BoxType o ≡ t → tree_of t ≡ Never → t ≡ ty.Never
    go open-ty.Never e h = sym e
    go o e h = let q : tree_of (roll-BoxType o) ≡ Never = ap tree_of e ∙ h in cc

-- a type in boxes that means object is object
pub object_box : (t : BoxType) → tree_of t ≡ Object → t ≡ ty.Object
unfolding roll-BoxType denote.Hole.Carrier.roll
object_box t h = go (out-BoxType t) (roll-out-BoxType t) h
  where
    go : (o : BoxType-F BoxType) → roll-BoxType o ≡ t → tree_of t ≡ Object → t ≡ ty.Object
    go open-ty.Object e h = sym e
    go o e h = let q : tree_of (roll-BoxType o) ≡ Object = ap tree_of e ∙ h in cc

-- Never joined with a type is that type, and the other way
pub never_join : (bases : Bases) (t : Tree) → nodes t ≤ node_limit → join bases Never t ≡ Some t
never_join bases Never l = within_is Never l
never_join bases t l = within_is t l

pub join_never : (bases : Bases) (t : Tree) → nodes t ≤ node_limit → join bases t Never ≡ Some t
join_never bases Never l = within_is Never l
join_never bases t l = within_is t l

-- the join of two types, one of which is Never
pub join_first : (bases : Bases) (s t : Tree) → t ≡ Never → nodes s ≤ node_limit → join bases s t ≡ Some s
join_first bases s t e l = subst (λ u. join bases s u ≡ Some s) (sym e) (join_never bases s l)

pub join_second : (bases : Bases) (s t : Tree) → s ≡ Never → nodes t ≤ node_limit → join bases s t ≡ Some t
join_second bases s t e l = subst (λ u. join bases u t ≡ Some t) (sym e) (never_join bases t l)
