use Rattle.std.proofs.Common.{◌∙◌, ◌++◌, List, ℕ, Some, ap, ap₂, append-nil, subst, sym}
use Rattle.std.specs.Prelude.{OnOk}
use Rattle.pc_tree.specs.Tree.{ann_of, stmt_of_kind}
use Rattle.pc_tree.specs.declared.tree.Ann.{Ann as RustAnn}
use Rattle.pc_tree.specs.declared.tree.StmtKind.{StmtKind}
use Rattle.pc_flow_details.specs.Locals.{AreLocals}
use Rattle.pc_detail_rules.specs.Written.{Annotated, annotated_name, annotated_stmt}
use Rattle.pc_flow_details.proofs.LocalsHeld.{not_annotated}
use Rattle.pc_flow_details.proofs.locals.LocalAnnotations.add_here.Goals as goal

pub returns-in-Annotated : goal.returns-in-Annotated
returns-in-Annotated c = λ before h.
    let s = c.args.statement.now in
    subst (λ (l : List Annotated). OnOk c.add.result (AreLocals c.add.new.self (before ++ l)))
    (ap₂ (λ (word : List ℕ) (a : RustAnn). annotated_name word (Some (ann_of a))) c.as_str.ensures.value c.deref.ensures
    ∙ sym (ap (λ (k : StmtKind). annotated_stmt (stmt_of_kind s.first k)) c.in-Annotated.is)) (c.add.ensures before h)

pub returns-in_default : goal.returns-in_default
returns-in_default c = λ before h.
    let s = c.args.statement.now in
    subst (λ (l : List Annotated). AreLocals c.args.self.now l)
    (sym (ap (λ (l : List Annotated). before ++ l) (not_annotated s.first s.kind c.in_default.not-Annotated)
    ∙ append-nil before)) h
