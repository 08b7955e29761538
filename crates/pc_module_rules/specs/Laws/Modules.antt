-- The law that everything computed of a module agrees with its lawful labelling: the types of its constants, the
-- findings of its signatures and constants, and the findings under all its labels, except those of scope analysis. Own
-- rule of the profile.
use Rattle.std.specs.Prelude.{◌≡◌, ◌⊎◌, ◌↔◌, List, [], ◌++◌, map, Contains, false}
use Rattle.pc_tree.specs.declared.code.Finding.{Finding}
use Rattle.pc_tree.specs.Tree.{Module}
use Rattle.pc_scope_findings.specs.Findings.{ScopeFinds}
use Rattle.pc_class.specs.Annotated.{member_annotations}
use Rattle.pc_class.specs.Findings.{ClassFinds}
use Rattle.pc_notes.specs.Notes.{Note, plain_note, findings_of}
use Rattle.pc_rules.specs.Computed.Signatures.{constants_of, signatures_find}
use Rattle.pc_module_rules.specs.Modules.{Labelling, IsLawful, LabelsSay, LabelsFind, IsFinding, constant_types}
use Rattle.pc_module_rules.specs.Computed.Modules.{module_finds}
use Rattle.pc_module_rules.specs.SignaturesSaid.{SignaturesSay}
use Rattle.pc_module_rules.specs.Laws.Walks.{Adds, Lists}

-- the law that the types of the constants are those under any lawful labelling
abbrev pub ConstantsHaveTheTypesOfLabels : Type 0
ConstantsHaveTheTypesOfLabels = (m : Module) (labels : Labelling m) → IsLawful m labels
    → constants_of m ≡ constant_types m m.items labels

-- the law that the findings of signatures and constants, with those of the class table in annotations, are exactly
-- those under any lawful labelling, except those of scope analysis
abbrev pub SignaturesFindWhatLabelsSay : Type 0
SignaturesFindWhatLabelsSay = (m : Module) (labels : Labelling m) → IsLawful m labels
    → Lists (signatures_find m false ++ map plain_note (member_annotations m)) (SignaturesSay m labels)

-- the law that a walk over a module, with the findings of the class table in annotations, adds exactly the findings
-- under any lawful labelling, except those of scope analysis
abbrev pub ModulesFindWhatLabelsSay : Type 0
ModulesFindWhatLabelsSay = (m : Module) (labels : Labelling m) → IsLawful m labels → (found : List Note)
    → Adds found (module_finds m found ++ map plain_note (member_annotations m)) (LabelsSay m labels)

-- the law that a walk from no findings, with those of the class table in annotations, finds exactly what is found under
-- any lawful labelling
abbrev pub ModulesFindWhatLabelsFind : Type 0
ModulesFindWhatLabelsFind = (m : Module) (labels : Labelling m) → IsLawful m labels → (f : Finding)
    → Contains (findings_of (module_finds m [] ++ map plain_note (member_annotations m))) f ↔ LabelsFind m labels f

-- the law that the findings of a module are exactly those of scope analysis, of classes, of the class table in
-- annotations, and of this list
abbrev pub FindingsOfModulesAreComputed : Type 0
FindingsOfModulesAreComputed = (m : Module) (f : Finding)
    → IsFinding m f ↔ (ScopeFinds m f ⊎ (ClassFinds m f ⊎ (Contains (member_annotations m) f
    ⊎ Contains (findings_of (module_finds m [])) f)))
