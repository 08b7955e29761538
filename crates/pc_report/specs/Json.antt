-- The report as JSON: compact, with the keys in order. Own rule of the profile; RFC 8259.
use Rattle.std.specs.Prelude.{◌<◌, ◌^◌, ℕ, List, [], ◌∷◌, ◌++◌, Option, None, Some, codes, decimal, map}
use Rattle.std.specs.Rc.{rc_str_bytes}
use Rattle.json.specs.Print.{quoted}
use Rattle.serde_json.specs.Data.{Data, number, string, array, object, unsigned, Items, Members, no_members, member}
use Rattle.serde_json.specs.View.{items_of}
use Rattle.pc_tree.specs.Code.{text_of}
use Rattle.pc_report.specs.declared.flow.FlowTexts.{FlowTexts}
use Rattle.pc_report.specs.declared.format.Format.{Format}
use Rattle.pc_report.specs.declared.report.Row.{Row}
use Rattle.pc_report.specs.Format.{format_number}
use Rattle.pc_report.specs.Report.{errors_of, dynamic_count, shown_flow}

-- ---- the bytes

-- the first type of a flow, if it is shown
abbrev pub from_json : Option FlowTexts → List ℕ
from_json None = []
from_json (Some flow) = codes ",\"from\":" ++ quoted (rc_str_bytes flow.from)

-- the second type of a flow, if it is shown
abbrev pub to_json : Option FlowTexts → List ℕ
to_json None = []
to_json (Some flow) = codes ",\"to\":" ++ quoted (rc_str_bytes flow.to)

-- a finding, with its flow if it is shown
abbrev pub finding_json : Option FlowTexts → Row → List ℕ
finding_json flow row = codes "{\"code\":\""
    ++ (text_of row.finding.code
    ++ (codes "\",\"column\":" ++ (decimal row.column ++ (codes ",\"end\":" ++ (decimal row.finding.place.end
    ++ (from_json flow ++ (codes ",\"line\":"
    ++ (decimal row.line ++ (codes ",\"start\":"
    ++ (decimal row.finding.place.start ++ (to_json flow ++ codes "}")))))))))))

-- the findings, separated by commas
abbrev pub findings_json : Format → List Row → List ℕ
findings_json format [] = []
findings_json format (row ∷ []) = finding_json (shown_flow format row) row
findings_json format (row ∷ next ∷ rows) = finding_json (shown_flow format row) row
    ++ (44 ∷ findings_json format (next ∷ rows))

-- the report in braces
abbrev pub report_object : Format → List Row → List ℕ
report_object format rows = codes "{\"dynamic\":"
    ++ (decimal (dynamic_count rows)
    ++ (codes ",\"errors\":" ++ (decimal (errors_of rows) ++ (codes ",\"findings\":[" ++ (findings_json format rows
    ++ (codes "],\"format\":" ++ (decimal (format_number format) ++ codes "}")))))))

-- the report, and a line feed
abbrev pub report_json : Format → List Row → List ℕ
report_json format rows = report_object format rows ++ 10 ∷ []

-- ---- the report as a value

-- the members of a finding, with its flow if it is shown
abbrev pub finding_members : Option FlowTexts → Row → Members
finding_members None row =
    member (codes "code") (string (text_of row.finding.code))
    (member (codes "column") (number (unsigned row.column))
    (member (codes "end") (number (unsigned row.finding.place.end))
    (member (codes "line") (number (unsigned row.line))
    (member (codes "start") (number (unsigned row.finding.place.start)) no_members))))
finding_members (Some flow) row =
    member (codes "code") (string (text_of row.finding.code))
    (member (codes "column") (number (unsigned row.column))
    (member (codes "end") (number (unsigned row.finding.place.end))
    (member (codes "from") (string (rc_str_bytes flow.from))
    (member (codes "line") (number (unsigned row.line))
    (member (codes "start") (number (unsigned row.finding.place.start))
    (member (codes "to") (string (rc_str_bytes flow.to)) no_members))))))

-- a finding as an object
abbrev pub finding_data : Format → Row → Data
finding_data format row = object (finding_members (shown_flow format row) row)

-- the findings as array items
abbrev pub findings_data : Format → List Row → Items
findings_data format rows = items_of (map (finding_data format) rows)

-- the report as an object
abbrev pub report_data : Format → List Row → Data
report_data format rows =
    object (member (codes "dynamic") (number (unsigned (dynamic_count rows)))
    (member (codes "errors") (number (unsigned (errors_of rows)))
    (member (codes "findings") (array (findings_data format rows))
    (member (codes "format") (number (unsigned (format_number format))) no_members))))

-- ---- for private clauses: each number of a row fits 64 bits, like the numbers of a value

abbrev pub FitsWords : Row → Type 0
FitsWords row = (row.line < 2 ^ 64) × (row.column < 2 ^ 64) × (row.finding.place.start < 2 ^ 64)
    × (row.finding.place.end < 2 ^ 64)
