use Rattle.std.proofs.Common.{◌≤◌, length, subst, List, ℕ, Contains}
use Rattle.pc_tree.specs.declared.code.Finding.{Finding}
use Rattle.pc_tree.specs.Tree.{module_of}
use Rattle.pc_front.specs.Bytes.{IsModuleOf, IsRefusalOf}
use Rattle.pc_report.specs.Flows.{FlowEntry}
use Rattle.pc_report.specs.Report.{Lists, ExplainsRows}
use Rattle.pc_top.proofs.ExplainedRows.{rows_explained}
use Rattle.pc_top.proofs.Main.{headline_from, no_refusal}
use Rattle.pc_top.proofs.top.report_of.Goals as goal

pub returns-clause-headline : goal.returns-clause-headline
returns-clause-headline c =
    let m = module_of c.in_ok-module.module in
    let found : List Finding = c.in_ok-found.found.findings.items in
    let flows = c.in_ok-found.found.flows.items in
    let told = c.in_ok-found.ensures.flows in
    let rows = c.in_ok-report.report in
    let lists : Lists c.args.bytes.now (Contains found) rows = subst (λ (l : List ℕ). Lists l (Contains found) rows)
    c.in_ok-source.ensures.text (subst (λ (l : List Finding). Lists c.in_ok-source.source (Contains l) rows)
    c.deref.ensures.value c.in_ok-report.ensures.lists) in
    let explains : ExplainsRows flows rows = subst (λ (l : List FlowEntry). ExplainsRows l rows)
    c.deref-2.ensures.value c.in_ok-report.ensures.explains in
    headline_from c.args.bytes.now m (subst (λ (l : List ℕ). IsModuleOf l m) c.in_ok-source.ensures.text
    c.in_ok-module.ensures.read) found rows c.in_ok-found.ensures.found lists
    (λ given. rows_explained m told.0 flows told.2 told.1 rows given explains)

pub returns-in_err-found-clause-refused : goal.returns-in_err-found-clause-refused
returns-in_err-found-clause-refused c = no_refusal (IsRefusalOf c.args.bytes.now)
    c.from_residual-in_err-found.result c.from_residual-in_err-found.ensures.1

pub returns-in_err-found-clause-within : goal.returns-in_err-found-clause-within
returns-in_err-found-clause-within c = no_refusal (λ refusal. refusal.byte ≤ length c.args.bytes.now)
    c.from_residual-in_err-found.result c.from_residual-in_err-found.ensures.1

pub returns-in_err-report-clause-refused : goal.returns-in_err-report-clause-refused
returns-in_err-report-clause-refused c = no_refusal (IsRefusalOf c.args.bytes.now)
    c.from_residual-in_err-report.result c.from_residual-in_err-report.ensures.1

pub returns-in_err-report-clause-within : goal.returns-in_err-report-clause-within
returns-in_err-report-clause-within c = no_refusal (λ refusal. refusal.byte ≤ length c.args.bytes.now)
    c.from_residual-in_err-report.result c.from_residual-in_err-report.ensures.1
