use Rattle.std.proofs.Common.{◌≡◌, take}
use Rattle.std.specs.Prelude.{None}
use Rattle.pc_scope.specs.Resolution.{index_of}
use Rattle.pc_class.specs.Listed.{names_listed}
use Rattle.pc_class.proofs.listed.place_among.Given as goal

abbrev pub invariant-loop-i : goal.invariant-loop-i
invariant-loop-i g l = index_of l.name (names_listed (take l.i l.params)) ≡ None
