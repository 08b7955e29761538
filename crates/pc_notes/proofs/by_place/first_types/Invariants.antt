use Rattle.std.proofs.Common.{take}
use Rattle.pc_notes.specs.Notes.{notes_of}
use Rattle.pc_notes.specs.Texts.{HasFirstTypes}
use Rattle.pc_notes.proofs.by_place.first_types.Given as goal

abbrev pub invariant-loop-entry : goal.invariant-loop-entry
invariant-loop-entry l = HasFirstTypes (notes_of (take l.entry-index l.entries)) l.types
