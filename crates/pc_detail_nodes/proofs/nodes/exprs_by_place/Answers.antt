use Rattle.std.proofs.Common.{◌∙◌, List, Some, ap, map, arith}
use Rattle.std.proofs.lemmas.List.{take_all}
use Rattle.std.specs.Option.{option_map}
use Rattle.std.specs.Prelude.{filter}
use Rattle.pc_tree.specs.Depth.{place_of}
use Rattle.pc_notes.specs.Notes.{is_same_place}
use Rattle.pc_detail_nodes.specs.ByPlaces.{nodes_at}
use Rattle.pc_detail_facts.specs.Held.{owned_of}
use Rattle.pc_detail_rules.specs.Nodes.{OwnedExpr}
use Rattle.pc_detail_facts.specs.declared.definitions.OwnedExpr.{OwnedExpr as RustOwned}
use Rattle.pc_detail_nodes.proofs.Placed.{placed_more}
use Rattle.pc_detail_nodes.proofs.nodes.exprs_by_place.Goals as goal

pub loop-owned-init : goal.loop-owned-init
loop-owned-init c = λ f listed. ap (option_map (map owned_of)) (c.in_ok-by_place.ensures f listed)

pub loop-owned-preserved : goal.loop-owned-preserved
loop-owned-preserved c = λ f listed. placed_more owned_of f.place c.place.result (λ (o : OwnedExpr). place_of o.expr)
    (nodes_at c.loop-owned.by_place f.place) (nodes_at c.add.new.self f.place) c.args.exprs.now c.loop-owned.owned-index
    c.owned-item.result c.loop-owned-test.true c.owned-item.is c.place.ensures (c.loop-owned.invariant f listed)
    (c.in_ok-add.ensures f.place)

pub returns : goal.returns
returns c = λ f listed. c.loop-owned.invariant f listed
    ∙ ap (λ (l : List RustOwned). Some (filter (λ (o : OwnedExpr). is_same_place f.place (place_of o.expr))
    (map owned_of l))) (take_all c.loop-owned.owned-index c.args.exprs.now (omega arith))
