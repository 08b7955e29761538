use Rattle.std.proofs.Common.{◌≡◌, take, min}
use Rattle.pc_types.specs.Shape.{nodes_of}
use Rattle.pc_types.specs.Boxed.{trees_in}
use Rattle.pc_types.proofs.shape.+nodes.Given as goal

abbrev pub invariant-count_each-loop-t : goal.invariant-count_each-loop-t
invariant-count_each-loop-t l = l.sum ≡ min (nodes_of (trees_in (take l.t-index l.ts))) 257
