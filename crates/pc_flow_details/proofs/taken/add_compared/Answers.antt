use Rattle.std.proofs.Common.{◌≡◌, [], List, ap, inl, inr, sym}
use Rattle.std.specs.Prelude.{flat_map}
use Rattle.pc_tree.specs.declared.tree.ComparisonOperator.{ComparisonOperator}
use Rattle.pc_types.specs.Boxed.{tree_of}
use Rattle.pc_types.specs.Shape.{members}
use Rattle.pc_flow_details.specs.Kept.{flows_kept}
use Rattle.pc_detail_rules.specs.Sinks.{SinkAt, compared_sinks, sought_in}
use Rattle.pc_flow_details.proofs.Arguments.{nothing_into}
use Rattle.pc_flow_details.proofs.TakenSinks.{into_same}
use Rattle.pc_flow_details.proofs.taken.add_compared.Goals as goal

pub returns-in-In : goal.returns-in-In
returns-in-In c =
    let t = tree_of c.args.ty.now in
    let all = flat_map (sought_in c.args.place) (members t) in
    let whole = compared_sinks c.args.operator c.args.place t in
    let same : all ≡ whole = elim c.in-In.is [
      | inl e ↦ sym (ap (λ (o : ComparisonOperator). compared_sinks o c.args.place t) e)
      | inr e ↦ sym (ap (λ (o : ComparisonOperator). compared_sinks o c.args.place t) e)
    ] in
    into_same c.args.facts.now c.add_sought.result (flows_kept c.args.sinks.now) (flows_kept c.add_sought.new.sinks)
    all whole same c.add_sought.ensures

pub returns-in-Equal : goal.returns-in-Equal
returns-in-Equal c =
    let t = tree_of c.args.ty.now in
    let whole = compared_sinks c.args.operator c.args.place t in
    let none : ◌≡◌ {A = List SinkAt} whole [] = elim c.in-Equal.is [
      | inl e ↦ ap (λ (o : ComparisonOperator). compared_sinks o c.args.place t) e
      | inr e ↦ ap (λ (o : ComparisonOperator). compared_sinks o c.args.place t) e
    ] in
    nothing_into c.args.facts.now (flows_kept c.args.sinks.now) whole none

pub returns-in-Less : goal.returns-in-Less
returns-in-Less c =
    let t = tree_of c.args.ty.now in
    let whole = compared_sinks c.args.operator c.args.place t in
    let none : ◌≡◌ {A = List SinkAt} whole [] = elim c.in-Less.is [
      | inl e ↦ ap (λ (o : ComparisonOperator). compared_sinks o c.args.place t) e
      | inr e ↦ ap (λ (o : ComparisonOperator). compared_sinks o c.args.place t) e
    ] in
    nothing_into c.args.facts.now (flows_kept c.args.sinks.now) whole none

pub returns-in-Greater : goal.returns-in-Greater
returns-in-Greater c =
    let t = tree_of c.args.ty.now in
    let whole = compared_sinks c.args.operator c.args.place t in
    let none : ◌≡◌ {A = List SinkAt} whole [] = elim c.in-Greater.is [
      | inl e ↦ ap (λ (o : ComparisonOperator). compared_sinks o c.args.place t) e
      | inr e ↦ ap (λ (o : ComparisonOperator). compared_sinks o c.args.place t) e
    ] in
    nothing_into c.args.facts.now (flows_kept c.args.sinks.now) whole none
