use Rattle.std.proofs.Common.{◌≡◌, ◌↔◌, Contains, rules, subst, sym, List}
use Rattle.pc_tree.specs.declared.code.Finding.{Finding}
use Rattle.pc_report.specs.Report.{IsInOrder, row_findings}
use Rattle.pc_report.proofs.report.Report.of.Goals as goal

pub returns-clause-lists : goal.returns-clause-lists
returns-clause-lists c =
    let same : row_findings c.in_ok-rows.rows.items ≡ c.in_ok-findings.findings.items = search rules in
    record {
      sorted = subst IsInOrder (sym same) c.in_ok-findings.ensures.in_order;
      exact = λ f. subst (λ (l : List Finding). Contains l f ↔ Contains c.args.findings.now f) (sym same)
          (c.in_ok-findings.ensures.exact f);
      placed = c.in_ok-rows.ensures.placed;
    }
