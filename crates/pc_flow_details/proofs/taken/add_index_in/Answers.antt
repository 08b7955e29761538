use Rattle.std.proofs.Common.{◌∙◌, ◌∷◌, [], ap}
use Rattle.pc_tree.specs.Tree.{expr_of}
use Rattle.pc_types.specs.Boxed.{tree_of}
use Rattle.pc_types.specs.Tree.{Int}
use Rattle.pc_types.specs.declared.boxed.BoxType.{BoxType}
use Rattle.pc_detail_texts.specs.Details as detail
use Rattle.pc_detail_facts.specs.Held.{module_held}
use Rattle.pc_flow_details.specs.Kept.{flows_kept}
use Rattle.pc_detail_rules.specs.Sinks.{index_in, one_sink}
use Rattle.pc_flow_details.proofs.Arguments.{nothing_into}
use Rattle.pc_flow_details.proofs.TakenSinks.{dict_indexed, into_same, list_indexed, not_indexed, text_indexed}
use Rattle.pc_flow_details.proofs.TakenSinks.{tuple_indexed}
use Rattle.pc_flow_details.proofs.taken.add_index_in.Goals as goal

pub returns-in-List : goal.returns-in-List
returns-in-List c =
    let m = module_held c.args.facts.now in
    let i = expr_of c.args.index.now in
    let p = c.place-place.result in
    let t = tree_of c.args.member.now in
    into_same c.args.facts.now c.add_into.result (flows_kept c.args.sinks.now) (flows_kept c.add_into.new.sinks)
    (one_sink p (detail.an_index t) Int ∷ []) (index_in m i t)
    (list_indexed m i p c.place-place.ensures t (tree_of c.in-List.field-0.value) (ap tree_of c.in-List.is))
    c.add_into.ensures

pub returns-in-Str : goal.returns-in-Str
returns-in-Str c =
    let m = module_held c.args.facts.now in
    let i = expr_of c.args.index.now in
    let p = c.place-place.result in
    let t = tree_of c.args.member.now in
    into_same c.args.facts.now c.add_into-in-Str.result (flows_kept c.args.sinks.now)
    (flows_kept c.add_into-in-Str.new.sinks) (one_sink p (detail.an_index t) Int ∷ []) (index_in m i t)
    (text_indexed m i p c.place-place.ensures t (ap tree_of c.in-Str.is)) c.add_into-in-Str.ensures

pub returns-in-Tuple : goal.returns-in-Tuple
returns-in-Tuple c =
    let m = module_held c.args.facts.now in
    let i = expr_of c.args.index.now in
    let p = c.place-place.result in
    let t = tree_of c.args.member.now in
    into_same c.args.facts.now c.add_into-in-Tuple.result (flows_kept c.args.sinks.now)
    (flows_kept c.add_into-in-Tuple.new.sinks) (one_sink p (detail.an_index t) Int ∷ []) (index_in m i t)
    (tuple_indexed m i p c.place-place.ensures t _ (ap tree_of c.in-Tuple.is)) c.add_into-in-Tuple.ensures

pub returns-in-Dict : goal.returns-in-Dict
returns-in-Dict c =
    let m = module_held c.args.facts.now in
    let i = expr_of c.args.index.now in
    let p = c.place-place.result in
    let t = tree_of c.args.member.now in
    let k = tree_of c.in-Dict.key.value in
    into_same c.args.facts.now c.add_into-in-Dict.result (flows_kept c.args.sinks.now)
    (flows_kept c.add_into-in-Dict.new.sinks) (one_sink p (detail.a_key t) (tree_of c.as_ref.result.now) ∷ [])
    (index_in m i t)
    (ap (λ (x : BoxType). one_sink p (detail.a_key t) (tree_of x) ∷ []) c.as_ref.ensures
    ∙ dict_indexed m i p c.place-place.ensures t k (tree_of c.in-Dict.field-1.value) (ap tree_of c.in-Dict.is))
    c.add_into-in-Dict.ensures

pub returns-in_default : goal.returns-in_default
returns-in_default c =
    let m = module_held c.args.facts.now in
    let i = expr_of c.args.index.now in
    nothing_into c.args.facts.now (flows_kept c.args.sinks.now) (index_in m i (tree_of c.args.member.now))
    (not_indexed m i c.args.member.now c.in_default.not-List c.in_default.not-Str c.in_default.not-Tuple
    c.in_default.not-Dict)
