use Rattle.std.proofs.Common.{◌∙◌, ap, ap₂, sym}
use Rattle.std.specs.Option.{option_map}
use Rattle.pc_types.specs.Boxed.{tree_of}
use Rattle.pc_types.specs.declared.boxed.BoxType.{BoxType}
use Rattle.pc_annotations.specs.Text.{class_text}
use Rattle.pc_class.specs.Tables.{parameter_lent}
use Rattle.pc_detail_facts.specs.Held.{module_held}
use Rattle.pc_flow_details.specs.Kept.{flows_kept}
use Rattle.pc_detail_rules.specs.Sinks.{field_sink, field_store}
use Rattle.pc_detail_rules.specs.Written.{field_annotation}
use Rattle.pc_flow_details.proofs.Arguments.{nothing_into}
use Rattle.pc_flow_details.proofs.EachSink.{on_same}
use Rattle.pc_flow_details.proofs.NotStored.{no_field}
use Rattle.pc_flow_details.proofs.stores.add_field_store.Goals as goal

pub returns-in_default : goal.returns-in_default
returns-in_default c =
    let f = c.args.facts.now in
    nothing_into f (flows_kept c.args.sinks.now) _
    (no_field (module_held f) c.args.place c.args.name.now c.args.member.now c.in_default.not-Class)

pub returns-in-None : goal.returns-in-None
returns-in-None c =
    let f = c.args.facts.now in
    let m = module_held f in
    let place = c.args.place in
    let word = c.args.name.now in
    nothing_into f (flows_kept c.args.sinks.now) (field_store m place word (tree_of c.args.member.now))
    (ap (λ (t : BoxType). field_store m place word (tree_of t)) c.in-Class.is
    ∙ sym (ap (field_sink place (class_text m c.in-Class.class) word (field_annotation m c.in-Class.class word))
    (ap (option_map (parameter_lent tree_of)) (sym c.in-None.is) ∙ c.field_named.ensures.field)))

pub returns-in-Some : goal.returns-in-Some
returns-in-Some c =
    let f = c.args.facts.now in
    let m = module_held f in
    let place = c.args.place in
    let word = c.args.name.now in
    on_same f _ _ _ _ (field_store m place word (tree_of c.args.member.now))
    (ap₂ (field_sink place (class_text m c.in-Class.class) word) c.field_annotation.ensures
    (ap (option_map (parameter_lent tree_of)) (sym c.in-Some.is) ∙ c.field_named.ensures.field)
    ∙ sym (ap (λ (t : BoxType). field_store m place word (tree_of t)) c.in-Class.is)) c.add_sink.ensures
