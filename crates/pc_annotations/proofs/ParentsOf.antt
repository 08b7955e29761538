-- The bases of the classes of a module, as a walk over its items lists them.
use Rattle.std.proofs.Common.{◌≡◌, ◌≤◌, ◌++◌, List, length, map, drop, sym, ap, ◌∙◌, append-nil, ℕ}
use Rattle.std.proofs.lemmas.List.{drop_all}
use Rattle.pc_tree.specs.Tree.{Item, Module, item_of}
use Rattle.pc_tree.specs.declared.tree.Item.{Item as RustItem}
use Rattle.pc_scope.specs.Bindings.{classes_in}
use Rattle.pc_types.specs.Below.{Bases}
use Rattle.pc_annotations.specs.Bases.{bases_from}

-- these bases and those of the classes among items
abbrev pub bases_with : Module → Bases → List Item → Bases
bases_with m bases items = bases ++ bases_from m (length bases) (classes_in items)

-- once no item is left, those listed are all
pub all_walked : (m : Module) (items all : List RustItem) (bases : Bases) (k : ℕ) → items ≡ all → length items ≤ k
    → bases_with m bases (map item_of (drop k items)) ≡ bases_from m 0 (classes_in (map item_of items))
    → bases ≡ bases_from m 0 (classes_in (map item_of all))
all_walked m items all bases k e h i =
    sym (append-nil bases)
    ∙ ap (λ l. bases_with m bases (map item_of l)) (sym (drop_all k items h))
    ∙ i
    ∙ ap (λ l. bases_from m 0 (classes_in (map item_of l))) e
