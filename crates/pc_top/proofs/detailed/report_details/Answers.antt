use Rattle.std.proofs.Common.{◌≡◌, ◌∙◌, List, ap, map, subst, sym}
use Rattle.std.proofs.lemmas.Result.{IfOk-weaker}
use Rattle.std.specs.List.{AllByRecursion}
use Rattle.std.specs.Prelude.{Vec}
use Rattle.std.specs.declared.alloc.Global.{Global}
use Rattle.pc_tree.specs.declared.code.Finding.{Finding}
use Rattle.pc_tree.specs.Tree.{module_of}
use Rattle.pc_report.specs.Report.{row_findings}
use Rattle.pc_details.specs.declared.explained.DetailedFinding.{DetailedFinding}
use Rattle.pc_details.specs.Listed.{FindingsDiffer, listed_of}
use Rattle.pc_top.specs.declared.detailed.PlacedDetail.{PlacedDetail}
use Rattle.pc_top.specs.DetailedBytes.{ExplainsFinding, details_in}
use Rattle.pc_top.proofs.ExplainedFindings.{distinct_in_order}
use Rattle.pc_top.proofs.detailed.report_details.Goals as goal

abbrev detail_of : PlacedDetail → DetailedFinding
detail_of p = p.detailed

pub returns-clause-right : goal.returns-clause-right
returns-clause-right c =
    let m = module_of c.args.module.now in
    let rows = c.args.report.now in
    let details : List DetailedFinding = c.in_ok-details.details.items in
    let listed = c.deref.ensures.value ∙ c.in_ok-found.ensures ∙ ap row_findings c.rows.ensures in
    let all : AllByRecursion (ExplainsFinding m (row_findings rows)) details =
    subst (λ (fs : List Finding). AllByRecursion (ExplainsFinding m fs) details) listed c.in_ok-details.ensures.right in
    IfOk-weaker c.placed.result _ _ (λ v same. subst (λ (ds : List DetailedFinding).
    AllByRecursion (ExplainsFinding m (row_findings rows)) ds) (sym same) all) c.placed.ensures.details

pub returns-clause-whole : goal.returns-clause-whole
returns-clause-whole c = λ in_order.
    let m = module_of c.args.module.now in
    let rows = c.args.report.now in
    let details : List DetailedFinding = c.in_ok-details.details.items in
    let listed = c.deref.ensures.value ∙ c.in_ok-found.ensures ∙ ap row_findings c.rows.ensures in
    let all : map listed_of details ≡ details_in m (row_findings rows) =
    subst (λ (fs : List Finding). FindingsDiffer fs → map listed_of details ≡ details_in m fs) listed
    c.in_ok-details.ensures.whole (distinct_in_order (row_findings rows) in_order) in
    let were = λ (v : Vec PlacedDetail Global). map detail_of v.items ≡ details in
    let are = λ (v : Vec PlacedDetail Global). map listed_of (map detail_of v.items) ≡ details_in m (row_findings rows) in
    IfOk-weaker c.placed.result were are (λ v same. ap (map listed_of) same ∙ all) c.placed.ensures.details
