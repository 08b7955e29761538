use Rattle.std.proofs.Common.{arith}
use Rattle.pc_types.specs.Boxed.{tree_of}
use Rattle.pc_types.proofs.Rest.{mapped_rest}
use Rattle.pc_types.proofs.join.join_all.Goals as goal

pub loop-ty-preserved : goal.loop-ty-preserved
loop-ty-preserved c =
    let v = c.loop-ty.invariant in
    record {
      given = c.in_ok-joined.ensures.given;
      type = rw c.in_ok-joined.ensures.value (rw (mapped_rest tree_of c.args.types.now c.loop-ty.ty-index
          c.ty-item.result c.loop-ty-test.true c.ty-item.is) at v.type);
    }
