use Rattle.std.proofs.Common.{◌∷◌, [], ap}
use Rattle.pc_types.specs.Boxed.{tree_of}
use Rattle.pc_types.specs.Tree.{Str}
use Rattle.pc_detail_texts.specs.Details as detail
use Rattle.pc_flow_details.specs.Kept.{flows_kept}
use Rattle.pc_detail_rules.specs.Sinks.{one_sink, sought_in}
use Rattle.pc_flow_details.proofs.Arguments.{nothing_into}
use Rattle.pc_flow_details.proofs.TakenSinks.{into_same, key_sought, not_sought, text_sought}
use Rattle.pc_flow_details.proofs.taken.add_sought_in.Goals as goal

pub returns-in-Str : goal.returns-in-Str
returns-in-Str c =
    let t = tree_of c.args.member.now in
    into_same c.args.facts.now c.add_into.result (flows_kept c.args.sinks.now) (flows_kept c.add_into.new.sinks)
    (one_sink c.args.place (detail.a_sought t) Str ∷ []) (sought_in c.args.place t)
    (text_sought c.args.place t (ap tree_of c.in-Str.is)) c.add_into.ensures

pub returns-in_ok-key-in-Dict : goal.returns-in_ok-key-in-Dict
returns-in_ok-key-in-Dict c =
    let t = tree_of c.args.member.now in
    let u = tree_of c.in_ok-key-in-Dict.key in
    into_same c.args.facts.now c.add_into-in-Dict.result (flows_kept c.args.sinks.now)
    (flows_kept c.add_into-in-Dict.new.sinks) (one_sink c.args.place (detail.a_sought t) u ∷ [])
    (sought_in c.args.place t)
    (key_sought c.args.place t (tree_of c.in-Dict.field-0.value) (tree_of c.in-Dict.field-1.value) u
    (ap tree_of c.in-Dict.is) c.in_ok-key-in-Dict.ensures) c.add_into-in-Dict.ensures

pub returns-in_default : goal.returns-in_default
returns-in_default c =
    nothing_into c.args.facts.now (flows_kept c.args.sinks.now) (sought_in c.args.place (tree_of c.args.member.now))
    (not_sought c.args.place c.args.member.now c.in_default.not-Str c.in_default.not-Dict)
