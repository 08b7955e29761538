use Rattle.std.proofs.Common.{◌≡◌, map, take}
use Rattle.pc_types.specs.Boxed.{tree_of}
use Rattle.pc_types.proofs.shape.+copy.Given as goal

abbrev pub invariant-copies-loop-t : goal.invariant-copies-loop-t
invariant-copies-loop-t l = map tree_of l.out.items ≡ map tree_of (take l.t-index l.ts)
