use Rattle.std.proofs.Common.{◌≡◌, map, take}
use Rattle.pc_annotations.specs.Named.{named_module}
use Rattle.pc_notes.specs.Notes.{notes_of, names_of_notes}
use Rattle.pc_notes.specs.Texts.{HaveTexts, name_texts_at, texts_shown}
use Rattle.pc_notes.proofs.notes.Notes.name_texts.Given as goal

abbrev pub invariant-loop-entry : goal.invariant-loop-entry
invariant-loop-entry l = record {
  same : map texts_shown l.texts.items
      ≡ map (name_texts_at (named_module l.names)) (names_of_notes (notes_of (take l.entry-index l.entry-items)));
  named : HaveTexts (named_module l.names) l.known;
}
