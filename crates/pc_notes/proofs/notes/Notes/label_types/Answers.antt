use Rattle.std.proofs.Common.{◌∙◌, List, ap}
use Rattle.pc_notes.specs.Notes.{notes_of, type_noted}
use Rattle.pc_notes.specs.declared.notes.NoteEntry.{NoteEntry}
use Rattle.pc_notes.proofs.GivenTypes.{label_given}
use Rattle.pc_notes.proofs.notes.Notes.label_types.Goals as goal

pub returns-clause-given : goal.returns-clause-given
returns-clause-given c = λ p. label_given c.self.inside.entries.items c.self.invariant p _
    (c.in_ok-first_types.ensures p ∙ ap (λ (es : List NoteEntry). type_noted p (notes_of es)) c.deref.ensures.value)
