use Rattle.std.proofs.Common.{◌∙◌, ◌++◌, List, ℕ, Option, Some, ap, append-nil, subst, sym}
use Rattle.std.specs.Prelude.{OnOk}
use Rattle.pc_tree.specs.Tree.{ann_of, name_of, option_ann_of}
use Rattle.pc_tree.specs.declared.tree.Ann.{Ann as RustAnn}
use Rattle.pc_flow_details.specs.Locals.{AreLocals}
use Rattle.pc_detail_rules.specs.Written.{Annotated, annotated_name}
use Rattle.pc_flow_details.proofs.locals.LocalAnnotations.add_param.Goals as goal

pub returns-in-Some : goal.returns-in-Some
returns-in-Some c = λ before h.
    subst (λ (l : List Annotated). OnOk c.add.result (AreLocals c.add.new.self (before ++ l)))
    (ap (λ (word : List ℕ). annotated_name word (Some (ann_of c.in-Some.annotation))) c.as_str.ensures.value
    ∙ sym (ap (λ (a : Option RustAnn). annotated_name (name_of c.args.param.now.name).text (option_ann_of a)) c.in-Some.is))
    (c.add.ensures before h)

pub returns-in-None : goal.returns-in-None
returns-in-None c = λ before h. subst (λ (l : List Annotated). AreLocals c.args.self.now l)
    (sym (ap (λ (a : Option RustAnn). before ++ annotated_name (name_of c.args.param.now.name).text (option_ann_of a))
    c.in-None.is ∙ append-nil before)) h
