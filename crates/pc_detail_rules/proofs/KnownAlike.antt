-- The notes of a check that keeps types tell what is known under the lawful labelling, so details are read off them.
use Rattle.std.proofs.Common.{◌≡◌, Option, refl, sym, ap, ◌∙◌}
use Rattle.std.specs.Prelude.{[], true, unwrap_or}
use Rattle.pc_source.specs.declared.place.Place.{Place}
use Rattle.pc_tree.specs.declared.code.Code.{Code}
use Rattle.pc_tree.specs.declared.code.Code.TheVariants.{A1, E12}
use Rattle.pc_tree.specs.declared.code.Finding.{Finding}
use Rattle.pc_tree.specs.Tree.{Ann, Module}
use Rattle.pc_types.specs.Tree.{Tree, Any}
use Rattle.pc_module_rules.specs.Modules.{Labelling, IsLawful}
use Rattle.pc_module_rules.specs.Computed.Modules.{module_notes}
use Rattle.pc_module_rules.proofs.LabelledModule.{every_module_has_a_labelling}
use Rattle.pc_module_rules.proofs.StandingFlows.{first_flows_noted}
use Rattle.pc_module_rules.proofs.TypedModules.{first_types_noted}
use Rattle.pc_detail_rules.specs.Explains.{IsAnnotated, annotation_for, detail_for}
use Rattle.pc_detail_rules.specs.Facts.{Known, TellTheSame, known_under}
use Rattle.pc_detail_rules.specs.Noted.{known_by, NotesTellWhatIsKnown, AnnotationsAreReadOffNotes}
use Rattle.pc_detail_rules.specs.Noted.{DetailsAreReadOffNotes}
use Rattle.pc_detail_rules.specs.Sinks.{annotation_among, flow_among, sinks_of}

-- ---- details by accounts that are alike

module _ (m : Module) (known other : Known) (h : TellTheSame known other) (p : Place) where
  -- the types of one with the flows of the other
  abbrev between : Known
  between = record { types = known.types; flows = other.flows }

  -- of flows, details ask only for those of A1 and E12
  asked : (c : Code) → detail_for m known p c ≡ detail_for m between p c
  asked A1 = ap (flow_among (sinks_of m known) p) (h.dynamic p)
  asked E12 = ap (flow_among (sinks_of m known) p) (h.wrong p)
  asked c = refl

  asked_annotation : (c : Code) → annotation_for m known p c ≡ annotation_for m between p c
  asked_annotation A1 = ap (annotation_among (sinks_of m known) p) (h.dynamic p)
  asked_annotation E12 = ap (annotation_among (sinks_of m known) p) (h.wrong p)
  asked_annotation c = refl

  -- the annotations of targets are the same
  pub same_annotation : (c : Code) → annotation_for m known p c ≡ annotation_for m other p c
  same_annotation c = asked_annotation c
      ∙ (λ i. annotation_for m (record { types = λ q. h.types q i; flows = other.flows }) p c)

  -- the details of each code are the same
  pub same_details : (c : Code) → detail_for m known p c ≡ detail_for m other p c
  same_details c = asked c ∙ (λ i. detail_for m (record { types = λ q. h.types q i; flows = other.flows }) p c)

-- ---- what notes tell

pub notes_tell : NotesTellWhatIsKnown
notes_tell m labels l = record {
  types = λ p. ap (λ (o : Option Tree). unwrap_or o Any) (first_types_noted m labels l p);
  wrong = λ p. first_flows_noted E12 refl m labels l p;
  dynamic = λ p. first_flows_noted A1 refl m labels l p;
}

pub read_off : DetailsAreReadOffNotes
read_off m f d = (
  λ e labels l. sym (by_labels labels l) ∙ e,
  λ h. let k = every_module_has_a_labelling m in by_labels k.labels k.lawful ∙ h k.labels k.lawful,
)
  where
    by_labels : (labels : Labelling m) → IsLawful m labels
        → detail_for m (known_by (module_notes true m [])) f.place f.code
        ≡ detail_for m (known_under m labels) f.place f.code
    by_labels labels l = same_details m (known_by (module_notes true m [])) (known_under m labels)
        (notes_tell m labels l) f.place f.code

-- an annotation is that of the target of a finding exactly if it is by what these notes tell
pub annotation_read_off : AnnotationsAreReadOffNotes
annotation_read_off m f a = (
  λ e labels l. sym (by_labels labels l) ∙ e,
  λ h. let k = every_module_has_a_labelling m in by_labels k.labels k.lawful ∙ h k.labels k.lawful,
)
  where
    by_labels : (labels : Labelling m) → IsLawful m labels
        → annotation_for m (known_by (module_notes true m [])) f.place f.code
        ≡ annotation_for m (known_under m labels) f.place f.code
    by_labels labels l = same_annotation m (known_by (module_notes true m [])) (known_under m labels)
        (notes_tell m labels l) f.place f.code
