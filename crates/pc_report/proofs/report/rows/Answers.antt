use Rattle.std.proofs.Common.{◌≡◌, ◌+◌, ◌++◌, ◌∷◌, [], ℕ, List, take, get_or, arith, rules, subst, sym, ap, ◌∙◌}
use Rattle.std.proofs.lemmas.List.{map-append, take_more}
use Rattle.std.specs.List.{AllByRecursion}
use Rattle.pc_source.specs.Lines.{line_of, column_of}
use Rattle.pc_tree.specs.declared.code.Code.TheVariants.{A1}
use Rattle.pc_tree.specs.declared.code.Finding.{Finding}
use Rattle.pc_report.specs.declared.report.Row.{Row}
use Rattle.pc_report.specs.Flows.{IsExplained}
use Rattle.pc_report.specs.Report.{row_findings, row_flow, IsPlaced}
use Rattle.pc_report.proofs.Listed.{all_more}
use Rattle.pc_report.proofs.report.rows.Goals as goal

pub loop-finding-preserved : goal.loop-finding-preserved
loop-finding-preserved c =
    let before = c.loop-finding.rows.items in
    let xs : List Finding = c.args.findings.now in
    let i = c.loop-finding.finding-index in
    let none : Finding = record { place = record { start = 0; end = 0 }; code = A1 } in
    let finding : Finding = get_or xs i none in
    let position = c.row_position-position.result in
    let row : Row = record {
      finding = finding;
      line = position.line;
      column = position.column;
      flow =
          c.in_ok-texts_of.field-0;
    } in
    let after : c.push.new.self.items ≡ before ++ row ∷ [] = c.in_ok-push.ensures.items in
    let more : take (i + 1) xs ≡ take i xs ++ finding ∷ [] = take_more xs i none (omega arith) in
    let line = subst (λ (t : List ℕ). position.line ≡ line_of t finding.place.start) c.loop-finding.invariant.text
    c.row_position-position.ensures.line in
    let column = subst (λ (t : List ℕ). position.column ≡ column_of t finding.place.start) c.loop-finding.invariant.text
    c.row_position-position.ensures.column in
    record {
      findings = ap row_findings after ∙ (map-append (λ (r : Row). r.finding) before (row ∷ [])
          ∙ (ap (λ (l : List Finding). l ++ finding ∷ []) c.loop-finding.invariant.findings ∙ sym more));
      placed = subst (λ (l : List Row). AllByRecursion (IsPlaced c.args.source.now) l) (sym after)
          (all_more (IsPlaced c.args.source.now) before row c.loop-finding.invariant.placed (line, column));
      explained = λ listed has. subst
          (λ (l : List Row). AllByRecursion (λ r. IsExplained listed r.finding (row_flow r)) l)
          (sym after) (all_more (λ r. IsExplained listed r.finding (row_flow r)) before row
          (c.loop-finding.invariant.explained listed has) (c.in_ok-texts_of.ensures listed has));
      text = search rules;
      line = search rules;
      column = search rules;
    }
