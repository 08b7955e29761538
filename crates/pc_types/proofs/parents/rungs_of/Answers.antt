use Rattle.std.proofs.Common.{◌∷◌, [], length, length-append, ap, sym, subst, arith}
use Rattle.pc_types.specs.Internal.Leaps.{AreLeaps, IsLeap}
use Rattle.pc_types.proofs.Appended.{each_more}
use Rattle.pc_types.proofs.parents.rungs_of.Goals as goal

pub loop-class-preserved : goal.loop-class-preserved
loop-class-preserved c =
    let rungs = c.loop-class.rungs.items in
    let leap : IsLeap c.args.bases.now (length rungs) c.rung_of.result = rw c.loop-class.invariant.count
    c.rung_of.ensures in
    record {
      count = omega (
        arith,
        ap length c.in_ok-push.ensures.items,
        length-append rungs (c.rung_of.result ∷ []),
        c.loop-class.invariant.count,
      );
      leaps = subst (AreLeaps c.args.bases.now) (sym c.in_ok-push.ensures.items)
          (each_more (IsLeap c.args.bases.now) rungs c.rung_of.result c.loop-class.invariant.leaps leap);
    }
