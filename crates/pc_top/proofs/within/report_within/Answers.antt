use Rattle.std.proofs.Common.{◌≡◌, map, subst}
use Rattle.std.specs.List.{AllByRecursion}
use Rattle.pc_tree.specs.Tree.{Module, module_of}
use Rattle.pc_report.specs.Report.{row_findings}
use Rattle.pc_top.specs.declared.detailed.PlacedDetail.{PlacedDetail}
use Rattle.pc_details.specs.Listed.{listed_of}
use Rattle.pc_top.specs.DetailedBytes.{ExplainsFinding, details_in}
use Rattle.pc_top.specs.DetailsWithin.{told_rows}
use Rattle.pc_top.specs.Headline.{Headline}
use Rattle.pc_top.proofs.within.report_within.Goals as goal

pub returns : goal.returns
returns c =
    let rows = c.in_ok-report.report in
    let headline : Headline c.args.source.now rows = c.in_ok-report.ensures in
    record {
      headline = headline;
      exact = subst (λ (m : Module). map listed_of (map (λ (p : PlacedDetail). p.detailed) c.in_ok-details.details.items)
          ≡ details_in m (row_findings (told_rows c.args.limit rows))) (headline.only (module_of c.args.module.now) c.requires)
          (c.in_ok-details.ensures.whole headline.listed.sorted);
      placed = c.in_ok-details.ensures.placed;
      explained = subst (λ (m : Module). AllByRecursion (ExplainsFinding m (row_findings (told_rows c.args.limit rows)))
          (map (λ (p : PlacedDetail). p.detailed) c.in_ok-details.details.items))
          (headline.only (module_of c.args.module.now) c.requires) c.in_ok-details.ensures.right;
    }
