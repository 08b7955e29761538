use Rattle.pc_types.specs.Boxed.{tree_of}
use Rattle.pc_intern.proofs.AddingNothing.{gathered_more}
use Rattle.pc_intern.proofs.store.InternStore.boxes_joined.Goals as goal

pub loop-ty-preserved : goal.loop-ty-preserved
loop-ty-preserved c =
    record {
      gathered = c.in_ok-gathered.ensures.gathered;
      type = gathered_more c.args.parents.now c.args.types.now c.loop-ty.ty-index c.ty-item.result
          (tree_of c.loop-ty.gathered.joined) (tree_of c.in_ok-gathered.gathered.joined) c.loop-ty-test.true
          c.ty-item.is c.in_ok-gathered.ensures.value c.loop-ty.invariant.type;
    }
