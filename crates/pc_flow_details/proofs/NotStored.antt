-- Types that have no field or no item to store to.
use Rattle.std.proofs.Common.{◌≡◌, [], ℕ, List, Box, Global, refl, subst, sym}
use Rattle.pc_source.specs.declared.place.Place.{Place}
use Rattle.pc_tree.specs.Tree.{Module}
use Rattle.pc_types.specs.Boxed.{tree_of}
use Rattle.pc_types.specs.declared.boxed.BoxType.{BoxType, out-BoxType, roll-BoxType, roll-out-BoxType}
use Rattle.pc_types.specs.declared.boxed.BoxType.TheOpen.{BoxType-F}
use Rattle.pc_types.specs.declared.boxed.BoxType.TheOpen as open-ty
use Rattle.pc_types.specs.declared.boxed.BoxType.TheVariants as boxed
use Rattle.pc_detail_rules.specs.Sinks.{field_store, item_store}

-- a type other than a class has no fields
pub no_field : (m : Module) (p : Place) (word : List ℕ) (t : BoxType) → ((c : ℕ) → t ≡ boxed.Class c → ⊥)
    → field_store m p word (tree_of t) ≡ []
no_field m p word boxed.Any h = refl
no_field m p word boxed.Object h = refl
no_field m p word boxed.Never h = refl
no_field m p word boxed.Int h = refl
no_field m p word boxed.Bool h = refl
no_field m p word boxed.Str h = refl
no_field m p word boxed.NoneType h = refl
no_field m p word (boxed.Class c) h = absurd (h c refl)
no_field m p word (boxed.List' q t) h = refl
no_field m p word (boxed.Dict' q k r v) h = refl
no_field m p word (boxed.Tuple' shape parts) h = refl
no_field m p word (boxed.Union' q a r b) h = refl

-- a type other than a list and a dict has no items
pub no_item : (p q : Place) (t : BoxType) → ((x : Box BoxType Global) → t ≡ boxed.List x → ⊥)
    → ((x y : Box BoxType Global) → t ≡ boxed.Dict x y → ⊥) → item_store p q (tree_of t) ≡ []
unfolding roll-BoxType denote.Hole.Carrier.roll
no_item p q t n m = go (out-BoxType t) (roll-out-BoxType t) n m
  where
    go : (o : BoxType-F BoxType) → roll-BoxType o ≡ t → ((x : Box BoxType Global) → t ≡ boxed.List x → ⊥)
        → ((x y : Box BoxType Global) → t ≡ boxed.Dict x y → ⊥) → item_store p q (tree_of t) ≡ []
    go (open-ty.List x) e n m = absurd (n x (sym e))
    go (open-ty.Dict x y) e n m = absurd (m x y (sym e))
    go _ e n m = subst (λ (u : BoxType). item_store p q (tree_of u) ≡ []) e refl
