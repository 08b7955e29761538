use Rattle.std.proofs.Common.{◌≡◌, map, take}
use Rattle.pc_annotations.specs.Named.{named_module}
use Rattle.pc_notes.specs.Notes.{notes_of, types_of}
use Rattle.pc_notes.specs.Texts.{HaveTexts, text_shown, type_text_at}
use Rattle.pc_notes.proofs.notes.Notes.type_texts.Given as goal

abbrev pub invariant-loop-entry : goal.invariant-loop-entry
invariant-loop-entry l = record {
  same : map text_shown l.texts.items
      ≡ map (type_text_at (named_module l.names)) (types_of (notes_of (take l.entry-index l.entry-items)));
  named : HaveTexts (named_module l.names) l.known;
}
