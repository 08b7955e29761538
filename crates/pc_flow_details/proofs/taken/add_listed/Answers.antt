use Rattle.std.proofs.Common.{◌∙◌, ap, sym}
use Rattle.pc_tree.specs.Lists.{exprs_of_list}
use Rattle.pc_types.specs.Boxed.{tree_of}
use Rattle.pc_types.specs.Tree.{Tree, ListOf}
use Rattle.pc_types.specs.declared.boxed.BoxType.{BoxType}
use Rattle.pc_flow_details.specs.Kept.{flows_kept}
use Rattle.pc_detail_rules.specs.Sinks.{item_sinks}
use Rattle.pc_flow_details.proofs.Arguments.{nothing_into}
use Rattle.pc_flow_details.proofs.TakenSinks.{into_same, not_listed}
use Rattle.pc_flow_details.proofs.taken.add_listed.Goals as goal

pub returns-in-List : goal.returns-in-List
returns-in-List c =
    let es = exprs_of_list c.args.items.now in
    into_same c.args.facts.now c.add_each_item.result (flows_kept c.args.sinks.now)
    (flows_kept c.add_each_item.new.sinks) (item_sinks (ListOf (tree_of c.as_ref.result.now)) es)
    (item_sinks (tree_of c.args.ty.now) es)
    (ap (λ (t : Tree). item_sinks t es) (ap (λ (x : BoxType). ListOf (tree_of x)) c.as_ref.ensures
    ∙ sym (ap tree_of c.in-List.is))) c.add_each_item.ensures

pub returns-in_default : goal.returns-in_default
returns-in_default c =
    let es = exprs_of_list c.args.items.now in
    nothing_into c.args.facts.now (flows_kept c.args.sinks.now) (item_sinks (tree_of c.args.ty.now) es)
    (not_listed es c.args.ty.now c.in_default.not-List)
