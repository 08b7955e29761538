use Rattle.std.proofs.Common.{◌∷◌, [], ap}
use Rattle.pc_source.specs.declared.place.Place.{Place}
use Rattle.pc_tree.specs.Depth.{place_of}
use Rattle.pc_tree.specs.Tree.{expr_of}
use Rattle.pc_types.specs.Boxed.{tree_of}
use Rattle.pc_detail_texts.specs.Details as detail
use Rattle.pc_flow_details.specs.Kept.{flows_kept}
use Rattle.pc_detail_rules.specs.Sinks.{one_sink}
use Rattle.pc_flow_details.proofs.TakenSinks.{into_same}
use Rattle.pc_flow_details.proofs.taken.add_value.Goals as goal

pub returns : goal.returns
returns c =
    let s = detail.a_value (tree_of c.args.dict.now) in
    let t = tree_of c.args.value.now in
    into_same c.args.facts.now c.add_into.result (flows_kept c.args.sinks.now) (flows_kept c.add_into.new.sinks)
    (one_sink c.place.result s t ∷ []) (one_sink (place_of (expr_of c.args.e.now)) s t ∷ [])
    (ap (λ (p : Place). one_sink p s t ∷ []) c.place.ensures) c.add_into.ensures
