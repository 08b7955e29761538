-- The report of a module with the details of its findings, as text and as JSON, and its stream. Own rule of the profile.
use Rattle.std.specs.Prelude.{◌≡◌, ℕ, List, [], ◌∷◌, ◌++◌, Bool, true, false, Option, Some, None, codes, decimal, map}
use Rattle.std.specs.Prelude.{option_map, ◌↔◌}
use Rattle.std.specs.List.{flat_map}
use Rattle.pc_source.specs.declared.counted.Counted.{Counted}
use Rattle.pc_source.specs.Taken.{TakesAll, TakesBeginning}
use Rattle.pc_tree.specs.declared.code.Code.{Code}
use Rattle.pc_tree.specs.declared.code.Finding.{Finding}
use Rattle.pc_tree.specs.Tree.{Module}
use Rattle.pc_detail_texts.specs.Details.{Detail}
use Rattle.pc_detail_texts.specs.Places.{other_places}
use Rattle.pc_detail_texts.specs.Sentences.{Words, sentence_of}
use Rattle.pc_report.specs.declared.detailed_pieces.ShownDetail.{ShownDetail}
use Rattle.pc_report.specs.declared.format.Format.TheVariants.{One, Two}
use Rattle.pc_report.specs.declared.report.Row.{Row}
use Rattle.pc_report.specs.Detailed.{DetailContent, detail_content, detailed_json}
use Rattle.pc_report.specs.Report.{row_text, errors_of, dynamic_count}
use Rattle.pc_module_rules.specs.Computed.Modules.{module_notes}
use Rattle.pc_detail_rules.specs.Explains.{AreWords}
use Rattle.pc_details.specs.Listed.{detail_told}
use Rattle.pc_top.specs.DetailedBytes.{start_position}
use Rattle.pc_top.specs.Headline.{Headline}
use Rattle.pc_top.specs.Streaming.{AreBytesOf}

-- the detail of a finding of a module, if it has one, with types as texts
abbrev pub detail_in : Module → Finding → Option (Detail Words)
detail_in m f = option_map (λ d. d.words) (detail_told m (module_notes true m []) f)

-- a finding is told a detail exactly if one explains it, under every lawful labelling of the module, and has that text
abbrev pub TellsDetails : Module → (Finding → Option (Detail Words)) → Type 0
TellsDetails m told = (f : Finding) (words : Detail Words) → (told f ≡ Some words) ↔ AreWords m f words

-- a position: its line, a colon, and its column
abbrev pub position_text : ℕ × ℕ → List ℕ
position_text p = decimal p.0 ++ (58 ∷ decimal p.1)

-- the positions of other places: `, see LINE:COLUMN, LINE:COLUMN`, or nothing
abbrev pub positions_text : List (ℕ × ℕ) → List ℕ
positions_text [] = []
positions_text (p ∷ others) = codes ", see "
    ++ (position_text p ++ flat_map (λ other. codes ", " ++ position_text other) others)

-- a sentence after a label, and the positions of other places
abbrev pub sentence_text : Code → Detail Words → List (ℕ × ℕ) → List ℕ
sentence_text code detail positions = codes ": " ++ (sentence_of code detail ++ positions_text positions)

-- the text of a detail, if there is one: its sentence, and the positions of the other places that it names
abbrev pub detail_text : List ℕ → Code → Option (Detail Words) → List ℕ
detail_text source code None = []
detail_text source code (Some detail) = sentence_text code detail (map (start_position source) (other_places detail))

-- the content of a detail: its sentence, and the positions of the other places that it names
abbrev pub content_in : List ℕ → Code → Detail Words → DetailContent
content_in source code detail = record {
  sentence = sentence_of code detail;
  places = map (start_position source) (other_places detail);
}

-- the content of the detail of a finding, if it has one
abbrev pub content_told : List ℕ → (Finding → Option (Detail Words)) → Finding → Option DetailContent
content_told source told f = option_map (content_in source f.code) (told f)

-- the details of rows, in their order, with none for a finding without a detail
abbrev pub AreDetailsOfRows : List ℕ → (Finding → Option (Detail Words)) → List Row → List (Option ShownDetail) → Type 0
AreDetailsOfRows source told rows details =
    map (option_map detail_content) details ≡ map (λ row. content_told source told row.finding) rows

module _ (source : List ℕ) (told : Finding → Option (Detail Words)) where
  -- the line of a row: its line and column, its code and its label, and the detail of its finding
  abbrev pub detailed_line : Row → List ℕ
  detailed_line row = row_text One row ++ (detail_text source row.finding.code (told row.finding) ++ 10 ∷ [])

  -- a line for each row, and a last line with the numbers of errors and of dynamic places
  abbrev pub detailed_text : List Row → List ℕ
  detailed_text rows = flat_map detailed_line rows
      ++ (codes "errors " ++ (decimal (errors_of rows)
      ++ (codes ", dynamic " ++ (decimal (dynamic_count rows) ++ 10 ∷ []))))

  -- bytes are the report with details: its text, or its JSON in format two with the details of its rows
  abbrev pub IsDetailedReport : (json : Bool) → List Row → List ℕ → Type 0
  IsDetailedReport false rows printed = printed ≡ detailed_text rows
  IsDetailedReport true rows printed =
      (details : List (Option ShownDetail)) × AreDetailsOfRows source told rows details
      × (printed ≡ detailed_json Two details rows)

-- bytes are the report of the module that other bytes spell, with the details of its findings
pub record PrintsDetails (json : Bool) (bytes : List ℕ) (rows : List Row) (printed : List ℕ) : Type 0 where
  pub headline : Headline bytes rows
  pub told : TellsDetails headline.whole (detail_in headline.whole)
  pub detailed : IsDetailedReport bytes (detail_in headline.whole) json rows printed

module _ {W : Type 0} (contents : W → Option (List ℕ)) where
  -- the report of the reader's bytes is written whole with its details, and these are its numbers of errors and of
  -- dynamic places
  pub record IsPrinted (told : Option (List ℕ)) (json : Bool) (old new : Counted W) (errors dynamic : ℕ) : Type 0 where
    pub bytes : List ℕ
    pub given : AreBytesOf told bytes
    pub rows : List Row
    pub printed : List ℕ
    pub prints : PrintsDetails json bytes rows printed
    pub errors_are : errors ≡ errors_of rows
    pub dynamic_are : dynamic ≡ dynamic_count rows
    pub written : TakesAll contents printed old new

  -- a beginning of the report of the reader's bytes with its details is written, and then the writer failed
  pub record IsPrintingBegun (told : Option (List ℕ)) (json : Bool) (old new : Counted W) : Type 0 where
    pub bytes : List ℕ
    pub given : AreBytesOf told bytes
    pub rows : List Row
    pub printed : List ℕ
    pub prints : PrintsDetails json bytes rows printed
    pub written : TakesBeginning contents printed old new
