use Rattle.std.proofs.Common.{◌≡◌, ◌+◌, ap, arith}
use Rattle.pc_types.specs.Shape.{nodes, nodes_of}
use Rattle.pc_types.specs.Boxed.{tree_of, trees_in}
use Rattle.pc_types.proofs.Tuples.{tuple_is}
use Rattle.pc_types.proofs.Nodes.{nodes_more}
use Rattle.pc_types.proofs.shape.+nodes.Goals as goal

pub count_each-loop-t-preserved : goal.count_each-loop-t-preserved
count_each-loop-t-preserved t c =
    let m = nodes_more c.args.ts.now c.loop-t.t-index c.t-item.result c.loop-t-test.true c.t-item.is in
    omega (arith, m, c.loop-t.invariant, c.capped-sum.ensures, c.count_nodes.ensures)

pub count_nodes-returns-in-Tuple : goal.count_nodes-returns-in-Tuple
count_nodes-returns-in-Tuple t c =
    let n : nodes (tree_of c.args.t.now) ≡ 1 + nodes_of (trees_in c.in-Tuple.parts.items) =
    ap nodes (tuple_is _ _ c.in-Tuple.is) in
    let e : nodes_of (trees_in c.deref-in-Tuple.result.now) ≡ nodes_of (trees_in c.in-Tuple.parts.items) =
    ap (λ l. nodes_of (trees_in l)) c.deref-in-Tuple.ensures.value in
    omega (arith, n, e, c.capped-in-Tuple.ensures, c.count_each.ensures)
