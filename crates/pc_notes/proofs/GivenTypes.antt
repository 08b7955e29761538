-- The types of labels and of flows by place are such as a store of boxes may give.
use Rattle.std.proofs.Common.{◌≡◌, ◌≤◌, List, [], ◌∷◌, Bor, Bool as Test, true, false, Option, Some, None, ap, refl, sym, subst}
use Rattle.std.specs.Prelude.{IfSome, if◌then◌else◌, option_map}
use Rattle.pc_source.specs.declared.place.Place.{Place}
use Rattle.pc_types.specs.Tree.{Tree}
use Rattle.pc_types.specs.Normal.{IsNormal}
use Rattle.pc_types.specs.Shape.{nodes, node_limit}
use Rattle.pc_types.specs.Boxed.{tree_of, IsGiven}
use Rattle.pc_types.specs.declared.boxed.BoxType.{BoxType}
use Rattle.pc_notes.specs.Notes.{AreGiven, IsGivenFlow, IsGivenPair, flow_types, is_same_place, notes_of}
use Rattle.pc_notes.specs.Notes.{pair_shown, shared_tree, type_noted}
use Rattle.pc_notes.specs.declared.notes.NotedFlow.{NotedFlow}
use Rattle.pc_notes.specs.declared.notes.NoteEntry.{NoteEntry}
use Rattle.pc_notes.specs.declared.notes.NoteEntry.TheVariants.{Told, Typed, Bound}

-- a tree is that of a type that a store may give
abbrev IsGivenTree : Tree → Type 0
IsGivenTree t = (nodes t ≤ node_limit) × IsNormal t

-- whether a type is given shows in its tree
given_by_tree : (t : BoxType) (u : Tree) → tree_of t ≡ u → IsGivenTree u → IsGiven t
given_by_tree t u e h = record {
  small = subst (λ x. nodes x ≤ node_limit) (sym e) h.0;
  normal = subst IsNormal (sym e) h.1;
}

-- the first type of a label at a place
type_given : (p : Place) (es : List NoteEntry) → AreGiven es → IfSome (type_noted p (notes_of es)) IsGivenTree
type_given p [] h = tt
type_given p (Told f flow ∷ es) h = type_given p es h.1
type_given p (Bound q t ∷ es) h = type_given p es h.1
type_given p (Typed shown q t ∷ es) h = go (is_same_place p q) (type_given p es h.1)
  where
    go : (b : Test) → IfSome (type_noted p (notes_of es)) IsGivenTree
        → IfSome (if b then Some (shared_tree t) else type_noted p (notes_of es)) IsGivenTree
    go true rest = (h.0.small, h.0.normal)
    go false rest = rest

lent_given : (o : Option (Bor BoxType)) (x : Option Tree) → option_map (λ t. tree_of t.now) o ≡ x → IfSome x IsGivenTree
    → IfSome o (λ t. IsGiven t.now)
lent_given None x e h = tt
lent_given (Some t) x e h = given_by_tree t.now (tree_of t.now) refl (subst (λ y. IfSome y IsGivenTree) (sym e) h)

-- the type of a label that entries have at a place
pub label_given : (es : List NoteEntry) → AreGiven es → (p : Place) (o : Option (Bor BoxType))
    → option_map (λ t. tree_of t.now) o ≡ type_noted p (notes_of es) → IfSome o (λ t. IsGiven t.now)
label_given es h p o e = lent_given o (type_noted p (notes_of es)) e (type_given p es h)

-- the types of a flow
pub pair_given : (o : Option (Bor BoxType × Bor BoxType)) (f : Option (Bor NotedFlow))
    → option_map pair_shown o ≡ option_map (λ (x : Bor NotedFlow). flow_types x.now) f
    → IfSome f (λ (x : Bor NotedFlow). IsGivenFlow x.now) → IfSome o IsGivenPair
pair_given None f e h = tt
pair_given (Some t) None e h = let never : ⊥ = cc in absurd never
pair_given (Some t) (Some x) e h =
    let same : pair_shown t ≡ flow_types x.now = cc in
    let from : tree_of t.0.now ≡ shared_tree x.now.from = ap (λ (y : Tree × Tree). y.0) same in
    let into : tree_of t.1.now ≡ shared_tree x.now.into = ap (λ (y : Tree × Tree). y.1) same in
    (given_by_tree t.0.now _ from (h.from.small, h.from.normal), given_by_tree t.1.now _ into (h.into.small, h.into.normal))
