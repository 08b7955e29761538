-- The details that a report holds, as its rows go by; and for private clauses what is printed of each. Own rule of the
-- profile.
use Rattle.std.specs.Prelude.{◌≡◌, ℕ, List, [], ◌∷◌, ◌++◌, Option, Some, None, map, option_map, string_bytes, MatchOption, filter_map}
use Rattle.std.specs.List.{AllByRecursion}
use Rattle.pc_tree.specs.declared.code.Code.{Code}
use Rattle.pc_tree.specs.declared.code.Finding.{Finding}
use Rattle.pc_detail_texts.specs.Details.{Detail}
use Rattle.pc_detail_texts.specs.Sentences.{Words, sentence_of}
use Rattle.pc_detail_texts.specs.Shown.{detail_of_value}
use Rattle.pc_report.specs.declared.format.Format.TheVariants.{One, Two}
use Rattle.pc_report.specs.declared.report.Row.{Row}
use Rattle.pc_report.specs.Detailed.{DetailContent, detailed_json}
use Rattle.pc_report.specs.Report.{row_text}
use Rattle.pc_details.specs.Listed.{FindingsDiffer, ListedDetail, listed_of}
use Rattle.pc_top.specs.declared.detailed.PlacedDetail.{PlacedDetail}
use Rattle.pc_top.specs.declared.printed.Form.{Form}
use Rattle.pc_top.specs.declared.printed.Form.TheVariants as form
use Rattle.pc_top.specs.DetailedBytes.{HasOtherPositions}
use Rattle.pc_top.specs.DetailedTexts.{sentence_text}

-- a finding with its detail, if it has one
abbrev pub listed_by : (Finding → Option (Detail Words)) → Finding → Option ListedDetail
listed_by told f = option_map (λ words. record { finding = f; words = words }) (told f)

-- the text of a detail that is held, if there is one
abbrev pub held_detail_text : Code → Option PlacedDetail → List ℕ
held_detail_text code None = []
held_detail_text code (Some p) = sentence_text code (detail_of_value p.detailed.detail) p.others.items

-- the line of a row with a detail that is held
abbrev pub held_line : Row → Option PlacedDetail → List ℕ
held_line row held = row_text One row ++ (held_detail_text row.finding.code held ++ 10 ∷ [])

-- the content of a detail that is held: its sentence, and the positions of the other places that it names
abbrev pub held_content : Code → PlacedDetail → DetailContent
held_content code p = record {
  sentence = sentence_of code (detail_of_value p.detailed.detail);
  places = p.others.items;
}

-- the detail that is told is held, with the positions of the other places that it names; none is held if none is told
abbrev pub IsDetailHeld : List ℕ → Option (Detail Words) → Option PlacedDetail → Type 0
IsDetailHeld source told held = (option_map (λ p. detail_of_value p.detailed.detail) held ≡ told)
    × MatchOption held (Unit {0}) (HasOtherPositions source)

-- the details that are left are those of findings that differ, in their order, with their positions
pub record AreLeft (source : List ℕ) (told : Finding → Option (Detail Words)) (findings : List Finding)
    (left : List PlacedDetail) : Type 0 where
  pub apart : FindingsDiffer findings
  pub exact : map listed_of (map (λ p. p.detailed) left) ≡ filter_map (listed_by told) findings
  pub placed : AllByRecursion (HasOtherPositions source) left

-- the bytes of a form of a report
abbrev pub form_bytes : List Row → Form → List ℕ
form_bytes rows (form.Text text) = string_bytes text
form_bytes rows (form.Json details) = detailed_json Two details.items rows
