-- Types put at their places, one after another from the last.
use Rattle.std.proofs.Common.{◌≡◌, ℕ, List, [], ◌∷◌, ◌++◌, map, take, drop, All, refl, sym, ap, ◌∙◌, subst}
use Rattle.std.proofs.lemmas.List.{map-append}
use Rattle.std.proofs.lemmas.List.Elements.{All-append, All-cons, All-take, All-drop}
use Rattle.pc_types.specs.Tree.{Tree}
use Rattle.pc_annotations.specs.Annotations.{insert_member, in_union_order}

-- members put at their places among others, from the last to the first
abbrev pub placed_each : List Tree → List Tree → List Tree
placed_each [] ns = ns
placed_each (m ∷ ms) ns = insert_member m (placed_each ms ns)

pub all_placed : (ms : List Tree) → placed_each ms [] ≡ in_union_order ms
all_placed [] = refl
all_placed (m ∷ ms) = ap (insert_member m) (all_placed ms)

last_placed : (ms : List Tree) (m : Tree) (ns : List Tree) → placed_each (ms ++ m ∷ []) ns ≡ placed_each ms
    (insert_member m ns)
last_placed [] m ns = refl
last_placed (x ∷ ms) m ns = ap (insert_member x) (last_placed ms m ns)

-- one type more, put at its place
module _ {Ty : Type 0} (tree : Ty → Tree) where
  pub one_placed : (xs ys out next : List Ty) (t : Ty) (at : ℕ) → xs ≡ ys ++ t ∷ []
      → next ≡ take at out ++ t ∷ drop at out
      → insert_member (tree t) (map tree out) ≡ map tree (take at out) ++ tree t ∷ map tree (drop at out)
      → placed_each (map tree ys) (map tree next) ≡ placed_each (map tree xs) (map tree out)
  one_placed xs ys out next t at e f h =
      ap (placed_each (map tree ys)) (ap (map tree) f ∙ map-append tree (take at out) (t ∷ drop at out) ∙ sym h)
      ∙ sym (last_placed (map tree ys) (tree t) (map tree out))
      ∙ ap (λ l. placed_each l (map tree out)) (sym (map-append tree ys (t ∷ [])) ∙ ap (map tree) (sym e))

pub all_next : {Ty : Type 0} (P : Ty → Type 0) (out next : List Ty) (t : Ty) (at : ℕ)
    → next ≡ take at out ++ t ∷ drop at out → All P out → P t → All P next
all_next P out next t at f a p =
    subst (All P) (sym f) (All-append P (take at out) (t ∷ drop at out) (All-take P at out a)
    (All-cons P t (drop at out) p (All-drop P at out a)))
