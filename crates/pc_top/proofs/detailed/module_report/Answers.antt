use Rattle.std.proofs.Common.{◌↔◌, subst, sym, List, Contains}
use Rattle.pc_tree.specs.declared.code.Finding.{Finding}
use Rattle.pc_tree.specs.Tree.{module_of}
use Rattle.pc_notes.specs.Notes.{notes_of}
use Rattle.pc_module_rules.specs.Modules.{IsFinding}
use Rattle.pc_report.specs.Flows.{FlowEntry}
use Rattle.pc_report.specs.Report.{Lists, ExplainsRows}
use Rattle.pc_top.proofs.ExplainedRows.{rows_explained}
use Rattle.pc_top.proofs.Main.{headline_from}
use Rattle.pc_top.proofs.detailed.module_report.Goals as goal

pub returns : goal.returns
returns c =
    let m = module_of c.args.module.now in
    let found : List Finding = c.in_ok-found.found.findings.items in
    let flows = c.in_ok-found.found.flows.items in
    let rows = c.in_ok-report.report in
    let exactly : (f : Finding) → Contains found f ↔ IsFinding m f =
    λ f. subst (λ (l : List Finding). Contains l f ↔ IsFinding m f) (sym c.in_ok-found.ensures.findings)
    (c.in_ok-checked.ensures.found f) in
    let lists : Lists c.args.source.now (Contains found) rows =
    subst (λ (l : List Finding). Lists c.args.source.now (Contains l) rows) c.deref.ensures.value
    c.in_ok-report.ensures.lists in
    let explains : ExplainsRows flows rows = subst (λ (l : List FlowEntry). ExplainsRows l rows)
    c.deref-2.ensures.value c.in_ok-report.ensures.explains in
    headline_from c.args.source.now m c.requires found rows exactly lists
    (λ given. rows_explained m (notes_of c.in_ok-checked.checked.notes) flows c.in_ok-found.ensures.flows
    c.in_ok-checked.ensures.flows rows given explains)
