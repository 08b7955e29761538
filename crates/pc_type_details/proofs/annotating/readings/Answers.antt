use Rattle.std.proofs.Common.{◌∙◌, ◌∷◌, [], All, List, Some, ap, map, subst, sym}
use Rattle.std.proofs.lemmas.List.{map-append}
use Rattle.std.proofs.lemmas.List.Elements.{All-push}
use Rattle.pc_types.specs.Boxed.{tree_of, IsGiven}
use Rattle.pc_types.specs.Tree.{Tree}
use Rattle.pc_types.specs.declared.boxed.BoxType.{BoxType}
use Rattle.pc_detail_facts.specs.Held.{module_held}
use Rattle.pc_type_details.proofs.AnnotationFaults.{large_among, shown_more}
use Rattle.pc_type_details.proofs.annotating.readings.Goals as goal

pub loop-ann-preserved : goal.loop-ann-preserved
loop-ann-preserved c =
    let m = module_held c.args.facts.now in
    record {
      types = ap (λ (l : List BoxType). Some (map tree_of l)) c.in_ok-push.ensures.items
          ∙ ap (λ (l : List Tree). Some l) (map-append tree_of c.loop-ann.types.items (c.in-Some.ty ∷ []))
          ∙ shown_more m c.args.anns.now c.loop-ann.ann-index c.ann-item.result c.loop-ann-test.true c.ann-item.is
          (map tree_of c.loop-ann.types.items) (tree_of c.in-Some.ty) c.loop-ann.invariant.types
          (rw c.in-Some.is at c.in_ok-ty.ensures.reading);
      given = subst (λ (l : List BoxType). All IsGiven l) (sym c.in_ok-push.ensures.items)
          (All-push IsGiven c.loop-ann.types.items c.in-Some.ty c.loop-ann.invariant.given
          (rw c.in-Some.is at c.in_ok-ty.ensures.given));
    }

pub returns-in_default-clause-readings : goal.returns-in_default-clause-readings
returns-in_default-clause-readings c =
    let m = module_held c.args.facts.now in
    large_among m c.args.anns.now c.loop-ann.ann-index c.ann-item.result c.loop-ann-test.true c.ann-item.is
    (rw c.in_default.is at c.in_ok-ty.ensures.reading)
