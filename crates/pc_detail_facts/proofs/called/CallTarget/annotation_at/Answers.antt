use Rattle.std.proofs.Common.{◌∙◌, ap, sym}
use Rattle.std.specs.Option.{option_and_then, option_map}
use Rattle.pc_types.specs.Boxed.{tree_of}
use Rattle.pc_class.specs.Facts.{TypedParameter, class_facts_at, classes_of}
use Rattle.pc_class.specs.Tables.{parameter_lent}
use Rattle.pc_detail_facts.specs.Held.{module_held}
use Rattle.pc_detail_facts.proofs.CalledParameters.{none_written, written_field}
use Rattle.pc_detail_rules.specs.Written.{field_annotation}
use Rattle.pc_detail_facts.proofs.called.CallTarget.annotation_at.Goals as goal

pub returns-in-Builtin : goal.returns-in-Builtin
returns-in-Builtin c = rw c.in-Builtin.is (none_written c.args.position)

pub returns-in-Member : goal.returns-in-Member
returns-in-Member c = rw c.in-Member.is (none_written c.args.position)

pub returns-in-Value : goal.returns-in-Value
returns-in-Value c = rw c.in-Value.is (none_written c.args.position)

pub returns-in-Some : goal.returns-in-Some
returns-in-Some c =
    let m = module_held c.args.facts.now in
    let class = c.in-Class.class in
    rw c.in-Class.is (c.field_annotation.ensures ∙ ap (field_annotation m class) c.as_str.ensures.value
    ∙ ap (option_and_then (λ (q : TypedParameter). field_annotation m class q.name))
    (ap (option_map (parameter_lent tree_of)) (sym c.in-Some.is) ∙ c.field_at.ensures.field)
    ∙ written_field m class (class_facts_at (classes_of m) class).fields c.args.position)

pub returns-in-None : goal.returns-in-None
returns-in-None c =
    let m = module_held c.args.facts.now in
    let class = c.in-Class.class in
    rw c.in-Class.is (ap (option_and_then (λ (q : TypedParameter). field_annotation m class q.name))
    (ap (option_map (parameter_lent tree_of)) (sym c.in-None.is) ∙ c.field_at.ensures.field)
    ∙ written_field m class (class_facts_at (classes_of m) class).fields c.args.position)

pub returns-in-Method : goal.returns-in-Method
returns-in-Method c = rw c.in-Method.is c.method_annotation.ensures
