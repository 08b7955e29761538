-- Each class of a module has the fields and the methods of its base after or before its own.
use Rattle.std.proofs.Common.{◌≡◌, ℕ, List, [], ◌++◌, ap, ◌∙◌}
use Rattle.std.specs.Prelude.{Some, bytes_eq}
use Rattle.std.specs.Option.{option_or}
use Rattle.std.proofs.lemmas.List.Folds.{find-append}
use Rattle.pc_tree.specs.Tree.{Module}
use Rattle.pc_class.specs.Bases.{bases_of}
use Rattle.pc_class.specs.Facts.{TypedParameter, field_by_name, class_facts_at, base_facts, own_fields, classes_of}
use Rattle.pc_class.proofs.ClassesBuilt.{HasBase, has_base, class_over, class_is}
use Rattle.pc_sound.proofs.Heap.Fields.{Inherits}

module _ (m : Module) where
  -- a class with a base has what its base has
  pub class_over_base : (c b : ℕ) (h : HasBase m c b) → class_facts_at (classes_of m) c ≡ class_over m c h.class
      (class_facts_at (classes_of m) b)
  class_over_base c b h = class_is m c h.class h.is
      ∙ ap (λ o. class_over m c h.class (base_facts (classes_of m) o)) h.base

  find_front : (xs ys : List TypedParameter) (name : List ℕ) (f : TypedParameter) → field_by_name xs name ≡ Some f
      → field_by_name (xs ++ ys) name ≡ Some f
  find_front xs ys name f e = find-append (λ p. bytes_eq name p.name) xs ys
      ∙ ap (λ o. option_or o (field_by_name ys name)) e

  pub inherits : Inherits (bases_of m) (classes_of m)
  inherits = record {
    fields = λ c b is name f e. let h = has_base m c b is in
        ap (λ x. field_by_name x.fields name) (class_over_base c b h)
        ∙ find_front (class_facts_at (classes_of m) b).fields (own_fields m (class_facts_at (classes_of m) b) []
        h.class.members) name f e;
  }
