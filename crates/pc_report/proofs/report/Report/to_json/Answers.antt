use Rattle.std.proofs.Common.{◌≡◌, ◌++◌, ◌∷◌, [], List, ◌<◌, ◌^◌, codes, decimal, string_bytes, subst, rules, arith}
use Rattle.std.specs.List.{AllByRecursion}
use Rattle.pc_report.specs.declared.report.Row.{Row}
use Rattle.pc_report.specs.Format.{format_number}
use Rattle.pc_report.specs.Json.{findings_json, report_object, FitsWords}
use Rattle.pc_report.specs.Report.{dynamic_count, errors_of}
use Rattle.pc_report.proofs.Json.{report_written, report_found}
use Rattle.pc_report.proofs.report.Report.to_json.Goals as goal

pub returns-clause-text : goal.returns-clause-text
returns-clause-text c =
    let format = c.args.format in
    let rows = c.args.self.now in
    let before : string_bytes c.write.new.self ≡ codes "{\"dynamic\":"
    ++ (decimal (dynamic_count rows) ++ (codes ",\"errors\":"
    ++ (decimal (errors_of rows) ++ codes ",\"findings\":["))) = search rules in
    let between : string_bytes c.write_findings.new.text ≡ string_bytes c.write.new.self ++ findings_json format rows =
    search rules in
    let after : string_bytes c.writeln.new.self ≡ string_bytes c.write_findings.new.text
    ++ (codes "],\"format\":" ++ (decimal (format_number format) ++ (codes "}" ++ 10 ∷ []))) = search rules in
    report_written format rows _ _ _ before between after

pub returns-clause-read_back : goal.returns-clause-read_back
returns-clause-read_back c =
    let format = c.args.format in
    let rows = c.args.self.now in
    let words : AllByRecursion FitsWords rows = subst (λ (l : List Row). AllByRecursion FitsWords l) c.rows.ensures
    c.in_ok-write_findings.ensures.words in
    let dynamic : dynamic_count rows < 2 ^ 64 = omega (arith, c.dynamic-dynamic.ensures) in
    let errors : errors_of rows < 2 ^ 64 = omega (arith, c.errors-errors.ensures) in
    (report_object format rows, returns-clause-text c, report_found format rows words dynamic errors)
