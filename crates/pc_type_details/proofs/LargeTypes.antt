-- Whether an annotation was found too large, and and its type accordingly.
use Rattle.std.proofs.Common.{◌≡◌, ◌∙◌, ◌++◌, ◌∷◌, [], List, Bool, true, false, Option, Some, None, refl, sym, ap}
use Rattle.std.proofs.lemmas.List.Folds.{list_any-append}
use Rattle.std.specs.Prelude.{◌||◌, if◌then◌else◌, nat_le, not}
use Rattle.std.specs.List.{list_any}
use Rattle.pc_source.specs.declared.place.Place.{Place}
use Rattle.pc_tree.specs.declared.code.Code.TheVariants.{E09, E10, E26}
use Rattle.pc_tree.specs.declared.code.Finding.{Finding}
use Rattle.pc_tree.specs.Code.{finding}
use Rattle.pc_tree.specs.Depth.{place_of_ann}
use Rattle.pc_tree.specs.Tree.{Ann, Anns, named, none_type, applied, applied_empty, no_anns, more_anns, Module}
use Rattle.pc_tree.specs.Tree as tree
use Rattle.pc_scope.specs.Resolution.{resolve_in_module}
use Rattle.pc_types.specs.Below.{Bases}
use Rattle.pc_types.specs.Shape.{nodes, node_limit}
use Rattle.pc_types.specs.Tree.{Tree, Any}
use Rattle.pc_annotations.specs.Annotations.{applied_type, empty_type, named_type, read_ann, read_anns, reading}
use Rattle.pc_annotations.specs.Annotations.{union_type}
use Rattle.pc_annotations.specs.Bases.{bases_of}
use Rattle.pc_annotations.specs.Listed.{ann_findings, inside_type, part_findings, parts_findings, without_type}
use Rattle.pc_detail_rules.specs.Annotations.{is_large, shown_reading}

-- what is found where there is no type is not that it is too large
none_large : (o : Option Tree) (p : Place) → list_any is_large (without_type o p E09) ≡ false
none_large None p = refl
none_large (Some t) p = refl

no_union_large : (o : Option Tree) (p : Place) → list_any is_large (without_type o p E10) ≡ false
no_union_large None p = refl
no_union_large (Some t) p = refl

inside_large : (o : Option Tree) (p : Place) (fs : List Finding) → list_any is_large fs ≡ false
    → list_any is_large (inside_type o p fs) ≡ false
inside_large None p fs h = refl
inside_large (Some t) p fs h = h

-- neither of two lists has what none has
both_small : (xs ys : List Finding) → list_any is_large xs ≡ false → list_any is_large ys ≡ false
    → list_any is_large (xs ++ ys) ≡ false
both_small xs ys h g = list_any-append is_large xs ys ∙ ap (λ (b : Bool). b || list_any is_large ys) h ∙ g

module _ (m : Module) (bases : Bases) where
  mutual
    -- the findings in a part of an annotation are not that it is too large
    part_small : (a : Ann) → list_any is_large (part_findings m bases a) ≡ false
    part_small (named n) = none_large (named_type m.imports_any (resolve_in_module m n.text)) n.place
    part_small (none_type p) = refl
    part_small (applied p head arguments) =
        inside_large (applied_type (resolve_in_module m head.text) (read_anns m bases arguments)) p
        (parts_findings m bases arguments) (parts_small arguments)
    part_small (applied_empty p head) = none_large (empty_type (resolve_in_module m head.text)) p
    part_small (tree.union p parts) = both_small (parts_findings m bases parts)
        (without_type (union_type bases (read_anns m bases parts)) p E10) (parts_small parts)
        (no_union_large (union_type bases (read_anns m bases parts)) p)

    -- nor are those in several parts
    parts_small : (parts : Anns) → list_any is_large (parts_findings m bases parts) ≡ false
    parts_small no_anns = refl
    parts_small (more_anns a rest) =
        both_small (part_findings m bases a) (parts_findings m bases rest) (part_small a) (parts_small rest)

  large_if : (b : Bool) (p : Place) → list_any is_large (if b then [] else finding p E26 ∷ []) ≡ not b
  large_if true p = refl
  large_if false p = refl

  -- an annotation is found too large exactly if its type has too many nodes
  pub found_large : (a : Ann)
      → list_any is_large (ann_findings m bases a) ≡ not (nat_le (nodes (reading m bases a)) node_limit)
  found_large a =
      let large = if nat_le (nodes (reading m bases a)) node_limit then [] else finding (place_of_ann a) E26 ∷ [] in
      list_any-append is_large (part_findings m bases a) large
      ∙ ap (λ (b : Bool). b || list_any is_large large) (part_small a)
      ∙ large_if (nat_le (nodes (reading m bases a)) node_limit) (place_of_ann a)

not_true : (b : Bool) → true ≡ not b → b ≡ false
not_true true h = let never : ⊥ = cc in absurd never
not_true false h = refl

not_false : (b : Bool) → false ≡ not b → b ≡ true
not_false true h = refl
not_false false h = let never : ⊥ = cc in absurd never

module _ (m : Module) (bases : Bases) (a : Ann) (fs : List Finding) (same : bases ≡ bases_of m)
    (found : fs ≡ ann_findings m bases a) where
  tested : list_any is_large fs ≡ not (nat_le (nodes (reading m bases a)) node_limit)
  tested = ap (list_any is_large) found ∙ found_large m bases a

  -- a type with too many nodes is not written out
  pub read_large : true ≡ list_any is_large fs → None ≡ shown_reading m a
  read_large h =
      let large : nat_le (nodes (reading m bases a)) node_limit ≡ false = not_true _ (h ∙ tested) in
      sym (ap (λ (b : Bool). if b then Some (reading m bases a) else None) large)
      ∙ ap (λ (x : Bases). if nat_le (nodes (reading m x a)) node_limit then Some (reading m x a) else None) same

  -- any other is
  pub read_small : false ≡ list_any is_large fs → Some (read_ann m bases a) ≡ shown_reading m a
  read_small h =
      let small : nat_le (nodes (reading m bases a)) node_limit ≡ true = not_false _ (h ∙ tested) in
      ap (λ (b : Bool). Some (if b then reading m bases a else Any)) small
      ∙ sym (ap (λ (b : Bool). if b then Some (reading m bases a) else None) small)
      ∙ ap (λ (x : Bases). if nat_le (nodes (reading m x a)) node_limit then Some (reading m x a) else None) same
