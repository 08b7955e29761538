use Rattle.std.proofs.Common.{take}
use Rattle.pc_class.specs.Listed.{names_listed, ArePlaces}
use Rattle.pc_class.proofs.listed.places_of.Given as goal

abbrev pub invariant-loop-i : goal.invariant-loop-i
invariant-loop-i g l = ArePlaces l.places (names_listed (take l.i l.params))
