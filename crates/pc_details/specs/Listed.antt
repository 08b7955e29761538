-- The details that the call lists: each by the rule of its finding's code. Own rule of the profile.
use Rattle.std.specs.Prelude.{◌≡◌, List, Option, Some, Contains, filter_map}
use Rattle.std.specs.List.{IsDistinct}
use Rattle.std.specs.Option.{option_map}
use Rattle.std.specs.Ordering.{eq_by_cmp}
use Rattle.pc_tree.specs.contracts.code.FindingOrd.TheImpl.{cmp-value}
use Rattle.pc_tree.specs.declared.code.Finding.{Finding}
use Rattle.pc_tree.specs.Tree.{Module}
use Rattle.pc_types.specs.Tree.{Tree}
use Rattle.pc_notes.specs.Notes.{Note}
use Rattle.pc_detail_texts.specs.Details.{Detail}
use Rattle.pc_detail_texts.specs.Sentences.{Words}
use Rattle.pc_detail_texts.specs.Shown.{detail_of_value}
use Rattle.pc_details.specs.declared.explained.DetailedFinding.{DetailedFinding as Made}
use Rattle.pc_detail_rules.specs.Explains.{annotation_for, detail_for}
use Rattle.pc_detail_rules.specs.Noted.{known_by}
use Rattle.pc_detail_rules.specs.ToldTypes.{told_detail}

-- a detail of a finding as it is told, by what notes tell
abbrev pub finding_words : Module → List Note → Finding → Detail Tree → Detail Words
finding_words m notes f d = told_detail m (annotation_for m (known_by notes) f.place f.code) d

-- a detail that was made of a finding of a list: by the rule of its code, over what notes tell, with the texts of types
pub record IsMade (m : Module) (notes : List Note) (findings : List Finding) (d : Made) : Type 0 where
  pub listed : Contains findings d.finding
  pub detail : Detail Tree
  pub by_rule : detail_for m (known_by notes) d.finding.place d.finding.code ≡ Some detail
  pub shown : detail_of_value d.detail ≡ finding_words m notes d.finding detail

-- a finding with its detail, whose types are texts
pub record ListedDetail : Type 0 where
  pub finding : Finding
  pub words : Detail Words

-- the detail of a finding, if it has one, by what notes tell
abbrev pub detail_told : Module → List Note → Finding → Option ListedDetail
detail_told m notes f = option_map (λ d. record { finding = f; words = finding_words m notes f d })
    (detail_for m (known_by notes) f.place f.code)

-- the details of findings in their order, of each that has one, by what notes tell
abbrev pub details_told : Module → List Note → List Finding → List ListedDetail
details_told m notes findings = filter_map (detail_told m notes) findings

-- a detail that was made, as a listed one
abbrev pub listed_of : Made → ListedDetail
listed_of d = record { finding = d.finding; words = detail_of_value d.detail }

-- no two of these findings are the same
abbrev pub FindingsDiffer : List Finding → Type 0
FindingsDiffer findings = IsDistinct (eq_by_cmp cmp-value.it) findings
