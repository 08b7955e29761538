use Rattle.std.proofs.Common.{◌∙◌, Bor, List, Some, ap, map, arith}
use Rattle.std.proofs.lemmas.List.{take_all}
use Rattle.std.specs.Option.{option_map}
use Rattle.std.specs.Prelude.{filter}
use Rattle.pc_tree.specs.Depth.{place_of_ann}
use Rattle.pc_tree.specs.Tree.{Ann}
use Rattle.pc_tree.specs.declared.tree.Ann.{Ann as RustAnn}
use Rattle.pc_notes.specs.Notes.{is_same_place}
use Rattle.pc_detail_nodes.specs.ByPlaces.{nodes_at}
use Rattle.pc_detail_nodes.specs.NodesHeld.{ann_lent}
use Rattle.pc_detail_nodes.proofs.Placed.{placed_more}
use Rattle.pc_detail_nodes.proofs.nodes.anns_by_place.Goals as goal

pub loop-ann-init : goal.loop-ann-init
loop-ann-init c = λ f listed. ap (option_map (map ann_lent)) (c.in_ok-by_place.ensures f listed)

pub loop-ann-preserved : goal.loop-ann-preserved
loop-ann-preserved c = λ f listed. placed_more ann_lent f.place c.place.result place_of_ann
    (nodes_at c.loop-ann.by_place f.place) (nodes_at c.add.new.self f.place) c.args.anns.now c.loop-ann.ann-index
    c.ann-item.result c.loop-ann-test.true c.ann-item.is c.place.ensures (c.loop-ann.invariant f listed)
    (c.in_ok-add.ensures f.place)

pub returns : goal.returns
returns c = λ f listed. c.loop-ann.invariant f listed
    ∙ ap (λ (l : List (Bor RustAnn)). Some (filter (λ (a : Ann). is_same_place f.place (place_of_ann a))
    (map ann_lent l))) (take_all c.loop-ann.ann-index c.args.anns.now (omega arith))
