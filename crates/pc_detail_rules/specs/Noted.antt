-- The facts in the notes of a check: the first type and the first flow that were noted at a place; and the list of
-- details of a module. Own rule of the profile.
use Rattle.std.specs.Prelude.{◌≡◌, ◌↔◌, List, [], Option, Some, unwrap_or, Contains, All, true}
use Rattle.pc_source.specs.declared.place.Place.{Place}
use Rattle.pc_tree.specs.declared.code.Finding.{Finding}
use Rattle.pc_tree.specs.Tree.{Ann, Module}
use Rattle.pc_types.specs.Tree.{Tree, Any}
use Rattle.pc_notes.specs.Notes.{Note, type_noted, flow_noted}
use Rattle.pc_module_rules.specs.Modules.{Labelling, IsLawful}
use Rattle.pc_module_rules.specs.Computed.Modules.{module_notes}
use Rattle.pc_detail_texts.specs.Details.{Detail}
use Rattle.pc_detail_rules.specs.Facts.{Known, TellTheSame, known_under}
use Rattle.pc_detail_rules.specs.Explains.{Explains, IsAnnotated, annotation_for, detail_for}

-- the type of the first label noted at a place, Any if there is none
abbrev pub type_noted_at : List Note → Place → Tree
type_noted_at notes p = unwrap_or (type_noted p notes) Any

-- the types and flows in notes, by place
abbrev pub known_by : List Note → Known
known_by notes = record { types = type_noted_at notes; flows = λ c p. flow_noted c p notes }

-- the law that the notes of a check that keeps types tell what is known under the lawful labelling
abbrev pub NotesTellWhatIsKnown : Type 0
NotesTellWhatIsKnown = (m : Module) (labels : Labelling m) → IsLawful m labels
    → TellTheSame (known_by (module_notes true m [])) (known_under m labels)

-- the law that a detail explains a finding exactly if the rule of its code gives it over what these notes tell
abbrev pub DetailsAreReadOffNotes : Type 0
DetailsAreReadOffNotes = (m : Module) (f : Finding) (d : Detail Tree)
    → detail_for m (known_by (module_notes true m [])) f.place f.code ≡ Some d ↔ Explains m f d

-- the law that an annotation is that of the target of a finding exactly if it is by what these notes tell
abbrev pub AnnotationsAreReadOffNotes : Type 0
AnnotationsAreReadOffNotes = (m : Module) (f : Finding) (a : Option Ann)
    → annotation_for m (known_by (module_notes true m [])) f.place f.code ≡ a ↔ IsAnnotated m f a

-- a finding with its detail
pub record DetailedFinding : Type 0 where
  pub finding : Finding
  pub detail : Detail Tree

-- a finding of a list with the detail that explains it
pub record IsDetailed (m : Module) (findings : List Finding) (d : DetailedFinding) : Type 0 where
  pub listed : Contains findings d.finding
  pub explains : Explains m d.finding d.detail

-- details of findings: each explains its finding, and each finding that has a detail has one here
pub record AreDetails (m : Module) (notes : List Note) (findings : List Finding) (details : List DetailedFinding)
    : Type 0 where
  pub right : All (IsDetailed m findings) details
  pub whole : (f : Finding) (d : Detail Tree) → Contains findings f
      → detail_for m (known_by notes) f.place f.code ≡ Some d → Contains details (record { finding = f; detail = d })
