use Rattle.std.proofs.Common.{take}
use Rattle.pc_notes.specs.Notes.{notes_of}
use Rattle.pc_notes.specs.Texts.{HasFirstFlows}
use Rattle.pc_notes.proofs.notes.Notes.first_flows.Given as goal

abbrev pub invariant-loop-entry : goal.invariant-loop-entry
invariant-loop-entry l = HasFirstFlows l.code (notes_of (take l.entry-index l.entry-items)) l.flows
