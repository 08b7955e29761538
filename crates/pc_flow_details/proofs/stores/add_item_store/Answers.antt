use Rattle.std.proofs.Common.{ap, ◌∷◌, []}
use Rattle.pc_types.specs.Tree.{Int}
use Rattle.pc_types.specs.Boxed.{tree_of}
use Rattle.pc_detail_texts.specs.Details as detail
use Rattle.pc_flow_details.specs.Kept.{flows_kept}
use Rattle.pc_detail_rules.specs.Sinks.{item_store, one_sink}
use Rattle.pc_flow_details.proofs.Arguments.{nothing_into}
use Rattle.pc_flow_details.proofs.Kept.{on_whole}
use Rattle.pc_flow_details.proofs.NotStored.{no_item}
use Rattle.pc_flow_details.proofs.Stored.{dict_stored, list_stored}
use Rattle.pc_flow_details.proofs.stores.add_item_store.Goals as goal

pub returns-in_ok-add_into-in-List : goal.returns-in_ok-add_into-in-List
returns-in_ok-add_into-in-List c =
    let f = c.args.facts.now in
    let t = tree_of c.args.member.now in
    let u = tree_of c.in-List.item.value in
    on_whole f _ _ _ _ (one_sink c.args.index (detail.an_index t) Int ∷ [])
    (one_sink c.args.value (detail.an_item t) u ∷ []) (item_store c.args.index c.args.value t)
    (list_stored c.args.index c.args.value t u (ap tree_of c.in-List.is))
    c.in_ok-add_into-in-List.ensures (rw c.as_ref.ensures at c.add_into-in-List.ensures)

pub returns-in_ok-add_into-in-Dict : goal.returns-in_ok-add_into-in-Dict
returns-in_ok-add_into-in-Dict c =
    let f = c.args.facts.now in
    let t = tree_of c.args.member.now in
    let k = tree_of c.in-Dict.key.value in
    let v = tree_of c.in-Dict.held.value in
    on_whole f _ _ _ _ (one_sink c.args.index (detail.a_key t) k ∷ [])
    (one_sink c.args.value (detail.a_value t) v ∷ []) (item_store c.args.index c.args.value t)
    (dict_stored c.args.index c.args.value t k v (ap tree_of c.in-Dict.is))
    (rw c.as_ref-in-Dict.ensures at c.in_ok-add_into-in-Dict.ensures)
    (rw c.as_ref-in-Dict-2.ensures at c.add_into-in-Dict-2.ensures)

pub returns-in_default : goal.returns-in_default
returns-in_default c = nothing_into c.args.facts.now (flows_kept c.args.sinks.now) _
    (no_item c.args.index c.args.value c.args.member.now c.in_default.not-List c.in_default.not-Dict)
