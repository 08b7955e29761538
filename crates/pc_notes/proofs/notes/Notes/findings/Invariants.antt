use Rattle.std.proofs.Common.{◌≡◌, take}
use Rattle.pc_notes.specs.Notes.{notes_of, findings_of}
use Rattle.pc_notes.proofs.notes.Notes.findings.Given as goal

abbrev pub invariant-loop-entry : goal.invariant-loop-entry
invariant-loop-entry l = l.findings.items ≡ findings_of (notes_of (take l.entry-index l.entry-items))
