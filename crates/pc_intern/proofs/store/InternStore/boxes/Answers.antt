use Rattle.std.proofs.Common.{All, sym, subst}
use Rattle.std.proofs.lemmas.List.Elements.{All-push}
use Rattle.pc_types.specs.Boxed.{IsGiven}
use Rattle.pc_intern.proofs.Held.{boxed_more}
use Rattle.pc_intern.proofs.store.InternStore.boxes.Goals as goal

pub loop-ty-preserved : goal.loop-ty-preserved
loop-ty-preserved c =
    record {
      given = subst (All IsGiven) (sym c.in_ok-push.ensures.items)
          (All-push IsGiven c.loop-ty.boxes.items c.in_ok-copy.field-0 c.loop-ty.invariant.given
          c.in_ok-copy.ensures.0);
      same = rw c.in_ok-push.ensures.items (boxed_more c.self.inside.table c.args.self.now c.args.types.now
          c.loop-ty.boxes.items c.loop-ty.ty-index c.ty-item.result c.ty.result.now c.in_ok-copy.field-0 c.self.view_is
          c.requires c.loop-ty-test.true c.ty-item.is c.ty.ensures.value c.in_ok-copy.ensures.1
          c.loop-ty.invariant.same);
    }
