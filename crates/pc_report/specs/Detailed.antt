-- The report as JSON with details: sentences, and the other places that they name. Own rule of the profile; RFC 8259.
use Rattle.std.specs.Prelude.{ℕ, suc, List, [], ◌∷◌, ◌++◌, Option, None, Some, codes, decimal, option_map, slice_get}
use Rattle.std.specs.Rc.{rc_str_bytes}
use Rattle.std.specs.List.{flat_map}
use Rattle.json.specs.Print.{quoted}
use Rattle.pc_tree.specs.Code.{text_of}
use Rattle.pc_report.specs.declared.detailed_pieces.ShownDetail.{ShownDetail}
use Rattle.pc_report.specs.declared.flow.FlowTexts.{FlowTexts}
use Rattle.pc_report.specs.declared.format.Format.{Format}
use Rattle.pc_report.specs.declared.report.Row.{Row}
use Rattle.pc_report.specs.Format.{format_number}
use Rattle.pc_report.specs.Json.{from_json, to_json}
use Rattle.pc_report.specs.Report.{errors_of, dynamic_count, shown_flow}

-- the content of a detail: its sentence, and the lines and columns of the other places that it names
pub record DetailContent : Type 0 where
  pub sentence : List ℕ
  pub places : List (ℕ × ℕ)

-- the content of this detail
abbrev pub detail_content : ShownDetail → DetailContent
detail_content detail = record { sentence = rc_str_bytes detail.sentence; places = detail.places.items }

-- a place as an object: its column and its line
abbrev pub place_json : ℕ × ℕ → List ℕ
place_json place = codes "{\"column\":" ++ (decimal place.1 ++ (codes ",\"line\":" ++ (decimal place.0 ++ codes "}")))

-- places as objects, separated by commas
abbrev pub places_json : List (ℕ × ℕ) → List ℕ
places_json [] = []
places_json (place ∷ others) = place_json place ++ flat_map (λ other. 44 ∷ place_json other) others

-- a detail, if there is one: the other places that it names, and its sentence
abbrev pub detail_json : Option DetailContent → List ℕ
detail_json None = []
detail_json (Some detail) = codes ",\"detail\":{\"places\":["
    ++ (places_json detail.places ++ (codes "],\"text\":" ++ (quoted detail.sentence ++ codes "}")))

-- a finding, with its flow if it is shown, and its detail if there is one
abbrev pub finding_with_detail : Option FlowTexts → Option DetailContent → Row → List ℕ
finding_with_detail flow detail row = codes "{\"code\":\""
    ++ (text_of row.finding.code
    ++ (codes "\",\"column\":" ++ (decimal row.column ++ (detail_json detail
    ++ (codes ",\"end\":" ++ (decimal row.finding.place.end
    ++ (from_json flow ++ (codes ",\"line\":"
    ++ (decimal row.line ++ (codes ",\"start\":"
    ++ (decimal row.finding.place.start ++ (to_json flow ++ codes "}"))))))))))))

-- the content of a detail that there may be, if there is one
abbrev pub known_detail : Option (Option ShownDetail) → Option DetailContent
known_detail None = None
known_detail (Some detail) = option_map detail_content detail

-- the content of the detail with this number, if there is one
abbrev pub detail_at : List (Option ShownDetail) → ℕ → Option DetailContent
detail_at details number = known_detail (slice_get details number)

-- the findings from this number on, each after a comma
abbrev pub further_findings : Format → List (Option ShownDetail) → ℕ → List Row → List ℕ
further_findings format details number [] = []
further_findings format details number (row ∷ rows) =
    (44 ∷ finding_with_detail (shown_flow format row) (detail_at details number) row)
    ++ further_findings format details (suc number) rows

-- the findings, separated by commas, each with the detail of its number
abbrev pub detailed_findings : Format → List (Option ShownDetail) → List Row → List ℕ
detailed_findings format details [] = []
detailed_findings format details (row ∷ rows) =
    finding_with_detail (shown_flow format row) (detail_at details 0) row
    ++ further_findings format details 1 rows

-- the report in braces
abbrev pub detailed_object : Format → List (Option ShownDetail) → List Row → List ℕ
detailed_object format details rows = codes "{\"dynamic\":"
    ++ (decimal (dynamic_count rows)
    ++ (codes ",\"errors\":" ++ (decimal (errors_of rows) ++ (codes ",\"findings\":["
    ++ (detailed_findings format details rows
    ++ (codes "],\"format\":" ++ (decimal (format_number format) ++ codes "}")))))))

-- the report with details, and a line feed
abbrev pub detailed_json : Format → List (Option ShownDetail) → List Row → List ℕ
detailed_json format details rows = detailed_object format details rows ++ 10 ∷ []
