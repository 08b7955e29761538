use Rattle.std.proofs.Common.{◌∙◌, ◌++◌, ◌∷◌, [], All, List, ap, ap₂, map, subst, sym}
use Rattle.std.proofs.lemmas.List.{map-append}
use Rattle.std.proofs.lemmas.List.Elements.{All-push}
use Rattle.pc_types.specs.Boxed.{tree_of, IsGiven}
use Rattle.pc_types.specs.Tree.{Tree}
use Rattle.pc_types.specs.declared.boxed.BoxType.{BoxType}
use Rattle.pc_detail_facts.specs.Held.{known_held, module_held}
use Rattle.pc_type_details.proofs.DisplayNodes.{values_more}
use Rattle.pc_type_details.proofs.sizes.value_types.Goals as goal

pub loop-entry-preserved : goal.loop-entry-preserved
loop-entry-preserved c =
    let m = module_held c.args.facts.now in
    let k = known_held c.args.facts.now in
    record {
      types = ap (map tree_of) c.in_ok-push.ensures.items
          ∙ map-append tree_of c.loop-entry.types.items _
          ∙ ap₂ (λ (l : List Tree) (t : Tree). l ++ t ∷ []) c.loop-entry.invariant.types
          (c.in_ok-copy.ensures.1 ∙ c.type_of.ensures.tree)
          ∙ sym (values_more m k c.args.entries.now c.loop-entry.entry-index c.entry-item.result c.loop-entry-test.true
          c.entry-item.is);
      given = subst (λ (l : List BoxType). All IsGiven l) (sym c.in_ok-push.ensures.items)
          (All-push IsGiven c.loop-entry.types.items _ c.loop-entry.invariant.given c.in_ok-copy.ensures.0);
    }
