-- A walk over items, one after another: the state so far, and the rest.
use Rattle.std.proofs.Common.{◌≡◌, ◌<◌, ◌+◌, ℕ, List, [], ◌∷◌, ◌++◌, map, drop, length, get_or, sym, ap, ◌∙◌, arith}
use Rattle.std.specs.Prelude.{Bool as Test}
use Rattle.pc_tree.proofs.Stops.{cons_at}
use Rattle.pc_tree.specs.declared.tree.Item.{Item as RustItem}
use Rattle.pc_tree.specs.Tree.{Item, constant_item, class_item, def_item, Module, item_of}
use Rattle.pc_scope.specs.Bindings.{as_class, classes_in}
use Rattle.pc_rules.specs.Computed.Signatures.{ItemsReached, class_methods, signatures_of_methods, behind, behind_all}
use Rattle.pc_rules.specs.Computed.Signatures.{item_findings, items_findings}
use Rattle.pc_callables.proofs.SignatureWalks.{mapped_apart}

module _ (m : Module) where
  -- the methods of the classes among items from one on
  pub classes_apart : (items : List RustItem) (i : ℕ) (x : RustItem) → i < length items → x ≡ get_or items i x
      → signatures_of_methods m (classes_in (map item_of (drop i items))) ≡ signatures_of_methods m
      (classes_in (item_of x ∷ [])) ++ signatures_of_methods m (classes_in (map item_of (drop (i + 1) items)))
  classes_apart items i x less is =
      ap (λ (l : List RustItem). signatures_of_methods m (classes_in (map item_of l))) (cons_at items i x less is)
      ∙ mapped_apart (class_methods m) as_class (item_of x) (map item_of (drop (i + 1) items))

  -- the number of classes after one more item
  pub classes_more : (r : ItemsReached) (x : Item) → (behind m r x).classes ≡ r.classes + length (classes_in (x ∷ []))
  classes_more r (constant_item p c) = omega arith
  classes_more r (class_item p c) = omega arith
  classes_more r (def_item p d) = omega arith

  -- the state reached after the items from one on, and the findings in them
  pub reached_next : (r next : ItemsReached) (items : List RustItem) (i : ℕ) (x : RustItem) → i < length items
      → x ≡ get_or items i x → next ≡ behind m r (item_of x)
      → behind_all m next (map item_of (drop (i + 1) items)) ≡ behind_all m r (map item_of (drop i items))
  reached_next r next items i x less is e =
      ap (λ n. behind_all m n (map item_of (drop (i + 1) items))) e
      ∙ ap (λ (l : List RustItem). behind_all m r (map item_of l)) (sym (cons_at items i x less is))

  pub items_found : (keeps : Test) (r next : ItemsReached) (items : List RustItem) (i : ℕ) (x : RustItem)
      → i < length items
      → x ≡ get_or items i x → next ≡ behind m r (item_of x)
      → items_findings m keeps r (map item_of (drop i items)) ≡ item_findings m keeps r (item_of x)
      ++ items_findings m keeps next
      (map item_of (drop (i + 1) items))
  items_found keeps r next items i x less is e =
      ap (λ (l : List RustItem). items_findings m keeps r (map item_of l)) (cons_at items i x less is)
      ∙ ap (λ n. item_findings m keeps r (item_of x) ++ items_findings m keeps n (map item_of (drop (i + 1) items)))
      (sym e)
