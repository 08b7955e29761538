use Rattle.std.proofs.Common.{◌≡◌, ◌∙◌, List, ap, map, subst}
use Rattle.std.specs.List.{AllByRecursion}
use Rattle.std.specs.Prelude.{IfOk}
use Rattle.pc_tree.specs.declared.code.Finding.{Finding}
use Rattle.pc_tree.specs.Tree.{module_of}
use Rattle.pc_report.specs.Report.{row_findings}
use Rattle.pc_details.specs.Listed.{FindingsDiffer, listed_of}
use Rattle.pc_top.specs.declared.detailed.PlacedDetail.{PlacedDetail}
use Rattle.pc_top.specs.DetailedBytes.{ExplainsFinding, details_in}
use Rattle.pc_top.specs.DetailsWithin.{told_rows}
use Rattle.pc_top.proofs.ToldRows.{told_in_order}
use Rattle.pc_top.proofs.within.details_within.Goals as goal

pub returns-clause-right : goal.returns-clause-right
returns-clause-right c =
    let m = module_of c.args.module.now in
    let listed = c.deref.ensures.value ∙ c.in_ok-found.ensures ∙ ap row_findings (c.told_rows.ensures
    ∙ ap (told_rows c.args.limit) c.rows.ensures) in
    subst (λ (fs : List Finding). IfOk c.placed_details.result (λ v. AllByRecursion (ExplainsFinding m fs)
    (map (λ (p : PlacedDetail). p.detailed) v.items))) listed c.placed_details.ensures.right

pub returns-clause-whole : goal.returns-clause-whole
returns-clause-whole c = λ in_order.
    let m = module_of c.args.module.now in
    let rows = c.args.report.now in
    let listed = c.deref.ensures.value ∙ c.in_ok-found.ensures ∙ ap row_findings (c.told_rows.ensures
    ∙ ap (told_rows c.args.limit) c.rows.ensures) in
    subst (λ (fs : List Finding). FindingsDiffer fs → IfOk c.placed_details.result (λ v. map listed_of
    (map (λ (p : PlacedDetail). p.detailed) v.items) ≡ details_in m fs)) listed
    c.placed_details.ensures.whole (told_in_order c.args.limit rows in_order)
