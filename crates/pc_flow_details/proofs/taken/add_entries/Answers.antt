use Rattle.std.proofs.Common.{◌∙◌, ap, ap₂, sym}
use Rattle.pc_tree.specs.Lists.{entries_of_list}
use Rattle.pc_types.specs.Boxed.{tree_of}
use Rattle.pc_types.specs.Tree.{Tree, DictOf}
use Rattle.pc_types.specs.declared.boxed.BoxType.{BoxType}
use Rattle.pc_flow_details.specs.Kept.{flows_kept}
use Rattle.pc_detail_rules.specs.Sinks.{entry_sinks}
use Rattle.pc_flow_details.proofs.Arguments.{nothing_into}
use Rattle.pc_flow_details.proofs.TakenSinks.{into_same, not_keyed}
use Rattle.pc_flow_details.proofs.taken.add_entries.Goals as goal

pub returns-in-Dict : goal.returns-in-Dict
returns-in-Dict c =
    let es = entries_of_list c.args.entries.now in
    into_same c.args.facts.now c.add_each_entry.result (flows_kept c.args.sinks.now)
    (flows_kept c.add_each_entry.new.sinks)
    (entry_sinks (DictOf (tree_of c.as_ref.result.now) (tree_of c.as_ref-in-Dict.result.now)) es)
    (entry_sinks (tree_of c.args.ty.now) es)
    (ap (λ (t : Tree). entry_sinks t es) (ap₂ (λ (x y : BoxType). DictOf (tree_of x) (tree_of y)) c.as_ref.ensures
    c.as_ref-in-Dict.ensures ∙ sym (ap tree_of c.in-Dict.is))) c.add_each_entry.ensures

pub returns-in_default : goal.returns-in_default
returns-in_default c =
    let es = entries_of_list c.args.entries.now in
    nothing_into c.args.facts.now (flows_kept c.args.sinks.now) (entry_sinks (tree_of c.args.ty.now) es)
    (not_keyed es c.args.ty.now c.in_default.not-Dict)
