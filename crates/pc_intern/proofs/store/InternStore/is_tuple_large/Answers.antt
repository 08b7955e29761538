use Rattle.std.proofs.Common.{arith}
use Rattle.pc_intern.proofs.NodeCounts.{nodes_more, too_many}
use Rattle.pc_intern.proofs.store.InternStore.is_tuple_large.Goals as goal

pub returns-then-more-nodes : goal.returns-then-more-nodes
returns-then-more-nodes c = λ _. too_many c.args.types.now c.loop-ty.ty-index c.loop-ty.nodes c.nodes-more.result
    c.ty-item.result c.loop-ty-test.true c.ty-item.is c.nodes-more.ensures c.loop-ty.invariant.counted
    c.loop-ty.invariant.small c.if-more-nodes.true

pub loop-ty-preserved : goal.loop-ty-preserved
loop-ty-preserved c =
    record {
      counted = nodes_more c.args.types.now c.loop-ty.ty-index c.loop-ty.nodes c.nodes-more.result c.ty-item.result
          c.loop-ty-test.true c.ty-item.is c.nodes-more.ensures c.loop-ty.invariant.counted;
      small = omega (arith, c.if-more-nodes.false, c.loop-ty.invariant.small);
    }
