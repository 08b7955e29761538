use Rattle.std.proofs.Common.{◌<◌, ◌≤◌, ◌+◌, arith}
use Rattle.pc_types.specs.Shape.{nodes_of}
use Rattle.pc_types.specs.Boxed.{trees_in}
use Rattle.pc_types.proofs.Nodes.{tuple_given}
use Rattle.pc_types.proofs.boxed.BoxStoreTypeStore.tuple.Goals as goal

pub returns-clause-value : goal.returns-clause-value
returns-clause-value c =
    let l : nodes_of (trees_in c.args.parts.now) < 256 = omega arith in
    let n : 1 + nodes_of (trees_in c.args.parts.now) ≤ 256 = omega arith in
    let g = tuple_given _ _ c.in_ok-copies.ensures c.requires l in
    (g.0, g.1, n)
