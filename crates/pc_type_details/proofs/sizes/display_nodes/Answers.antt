use Rattle.std.proofs.Common.{map}
use Rattle.pc_types.specs.Boxed.{tree_of}
use Rattle.pc_detail_facts.specs.Held.{known_held, module_held}
use Rattle.pc_type_details.proofs.DisplayNodes.{dict_nodes, list_nodes, tuple_nodes}
use Rattle.pc_type_details.proofs.sizes.display_nodes.Goals as goal

pub returns-in-Tuple : goal.returns-in-Tuple
returns-in-Tuple c = tuple_nodes (module_held c.args.facts.now) (known_held c.args.facts.now) c.args.expr.now
    c.in-Tuple.field-0 c.item_nodes.result c.in-Tuple.items c.in-Tuple.is
    (rw c.deref.ensures.value at c.item_nodes.ensures) c.saturating_add.result c.saturating_add.ensures

pub returns-in_ok-nodes-in-List : goal.returns-in_ok-nodes-in-List
returns-in_ok-nodes-in-List c = list_nodes (module_held c.args.facts.now) (known_held c.args.facts.now) c.args.expr.now
    c.in-List.field-0 c.in_ok-nodes-in-List.nodes c.in-List.items
    (map tree_of c.in_ok-item_types-in-List.field-0.items) c.in-List.is
    (rw c.deref-in-List.ensures.value at c.in_ok-item_types-in-List.ensures.types)
    (rw c.deref-in-List-2.ensures.value at c.in_ok-nodes-in-List.ensures)
    c.saturating_add-in-List.result c.saturating_add-in-List.ensures

pub returns-in_ok-nodes-in-Dict : goal.returns-in_ok-nodes-in-Dict
returns-in_ok-nodes-in-Dict c = dict_nodes (module_held c.args.facts.now) (known_held c.args.facts.now) c.args.expr.now
    c.in-Dict.field-0 c.in_ok-nodes-in-Dict.nodes c.in-Dict.entries
    (map tree_of c.in_ok-value_types-in-Dict.field-0.items) c.in-Dict.is
    (rw c.deref-in-Dict.ensures.value at c.in_ok-value_types-in-Dict.ensures.types)
    (rw c.deref-in-Dict-2.ensures.value at c.in_ok-nodes-in-Dict.ensures)
    c.saturating_add-in-Dict.result c.saturating_add-in-Dict.ensures
