use Rattle.std.proofs.Common.{◌≡◌, ◌++◌, ◌∷◌, take, string_bytes}
use Rattle.std.specs.List.{AllByRecursion, flat_map}
use Rattle.pc_report.specs.Json.{finding_json, FitsWords}
use Rattle.pc_report.specs.Report.{shown_flow}
use Rattle.pc_report.proofs.object.write_findings.Given as goal

abbrev pub invariant-loop-row : goal.invariant-loop-row
invariant-loop-row l = record {
  text : string_bytes l.text ≡ string_bytes l.initial.text ++ flat_map
      (λ row. 44 ∷ finding_json (shown_flow l.fn.format row) row) (take l.row-index l.others);
  words : AllByRecursion FitsWords (take l.row-index l.others);
}
