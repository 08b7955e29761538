use Rattle.std.proofs.Common.{◌∙◌, Bor, List, Some, ap, map, arith}
use Rattle.std.proofs.lemmas.List.{take_all}
use Rattle.std.specs.Option.{option_map}
use Rattle.std.specs.Prelude.{filter}
use Rattle.pc_tree.specs.Depth.{place_of_target}
use Rattle.pc_tree.specs.Tree.{Target}
use Rattle.pc_tree.specs.declared.tree.Target.{Target as RustTarget}
use Rattle.pc_notes.specs.Notes.{is_same_place}
use Rattle.pc_detail_nodes.specs.ByPlaces.{nodes_at}
use Rattle.pc_detail_nodes.specs.NodesHeld.{target_lent}
use Rattle.pc_detail_nodes.proofs.Placed.{placed_more}
use Rattle.pc_detail_nodes.proofs.nodes.targets_by_place.Goals as goal

pub loop-target-init : goal.loop-target-init
loop-target-init c = λ f listed. ap (option_map (map target_lent)) (c.in_ok-by_place.ensures f listed)

pub loop-target-preserved : goal.loop-target-preserved
loop-target-preserved c = λ f listed. placed_more target_lent f.place c.target_place.result place_of_target
    (nodes_at c.loop-target.by_place f.place) (nodes_at c.add.new.self f.place) c.args.targets.now
    c.loop-target.target-index c.target-item.result c.loop-target-test.true c.target-item.is c.target_place.ensures
    (c.loop-target.invariant f listed) (c.in_ok-add.ensures f.place)

pub returns : goal.returns
returns c = λ f listed. c.loop-target.invariant f listed
    ∙ ap (λ (l : List (Bor RustTarget)). Some (filter (λ (t : Target). is_same_place f.place (place_of_target t))
    (map target_lent l))) (take_all c.loop-target.target-index c.args.targets.now (omega arith))
