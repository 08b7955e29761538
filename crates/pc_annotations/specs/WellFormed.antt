-- The laws that the types of annotations are well-formed. Own rule of the profile.
use Rattle.std.specs.Prelude.{Option}
use Rattle.pc_tree.specs.Tree.{Ann, Module}
use Rattle.pc_types.specs.Below.{Bases, AreSmaller}
use Rattle.pc_types.specs.WellFormed.{IsWellFormed}
use Rattle.pc_annotations.specs.Annotations.{read_ann, read_option}

-- the type of an annotation is well-formed
abbrev pub AnnotationsAreWellFormed : Type 0
AnnotationsAreWellFormed = (m : Module) (bases : Bases) → AreSmaller bases → (a : Ann)
    → IsWellFormed bases (read_ann m bases a)

-- the type of an annotation that may be missing is well-formed
abbrev pub OptionalAnnotationsAreWellFormed : Type 0
OptionalAnnotationsAreWellFormed = (m : Module) (bases : Bases) → AreSmaller bases → (a : Option Ann)
    → IsWellFormed bases (read_option m bases a)
