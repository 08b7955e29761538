use Rattle.std.proofs.Common.{◌∙◌, ◌++◌, List, ap, append-nil, subst, sym}
use Rattle.std.specs.Prelude.{IfOk}
use Rattle.pc_tree.specs.Tree.{member_of}
use Rattle.pc_tree.specs.declared.tree.Member.{Member as RustMember}
use Rattle.pc_detail_facts.specs.Annotated.{IsFieldMap}
use Rattle.pc_detail_rules.specs.Written.{Annotated, annotated_field}
use Rattle.pc_detail_facts.proofs.FieldMaps.{fields_same}
use Rattle.pc_detail_facts.proofs.annotations.FieldAnnotations.add_member.Goals as goal

pub returns-in-Field-clause-held : goal.returns-in-Field-clause-held
returns-in-Field-clause-held c = λ those h. subst (λ (l : List Annotated). IfOk c.add_field.result
    (IsFieldMap c.add_field.new.self (those ++ l)))
    (sym (ap (λ (x : RustMember). annotated_field (member_of x)) c.in-Field.is)) (c.add_field.ensures.held those h)

pub returns-in-Method-clause-kept : goal.returns-in-Method-clause-kept
returns-in-Method-clause-kept c = fields_same c.args.self.now

pub returns-in-Method-clause-held : goal.returns-in-Method-clause-held
returns-in-Method-clause-held c = λ those h. subst (λ (l : List Annotated). IsFieldMap c.args.self.now l c.args.map)
    (sym (ap (λ (x : RustMember). those ++ annotated_field (member_of x)) c.in-Method.is ∙ append-nil those)) h
