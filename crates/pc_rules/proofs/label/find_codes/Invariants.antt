use Rattle.std.proofs.Common.{◌≡◌, ◌++◌, flat_map, drop}
use Rattle.pc_notes.specs.Notes.{notes_of}
use Rattle.pc_rules.specs.Computed.Findings.{own_at}
use Rattle.pc_rules.proofs.label.find_codes.Given as goal

abbrev pub invariant-loop-code : goal.invariant-loop-code
invariant-loop-code l = notes_of l.found ++ flat_map (own_at l.place) (drop l.code-index l.codes) ≡ notes_of l.fn.found
    ++ flat_map (own_at l.place) l.codes
