use Rattle.std.proofs.Common.{◌≡◌, ◌++◌, map, take}
use Rattle.pc_notes.specs.Notes.{notes_of, plain_note}
use Rattle.pc_notes.proofs.notes.Notes.put_all.Given as goal

abbrev pub invariant-loop-finding : goal.invariant-loop-finding
invariant-loop-finding l = notes_of l.self ≡ notes_of l.fn.self ++ map plain_note (take l.finding-index l.findings)
